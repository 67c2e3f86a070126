use Rattle.std.proofs.Common.{◌≡◌, ap, subst, ◌∙◌, ℕ, ◌*◌, ◌^◌, ◌%◌, ◌<◌, ◌≤◌, ◌↔◌, Bool, true, List, length, arith}
use Rattle.std.proofs.lemmas.Nat.{one_shl}
use Rattle.field_core.specs.declared.ratio.Ratio.{Ratio}
use Rattle.case_model.specs.CaseView.{content}
use Rattle.case_model.specs.SetTableView.{answer_of}
use Rattle.closed_test.specs.WeightsView.{weight_at}
use Rattle.closed_test.specs.Passing.{HasPassing}
use Rattle.closed_test.proofs.SetAnswers.{local_answers_are}
use Rattle.closed_test.proofs.table.local_answers.Goals as goal

each_of : (table : ℕ → Bool) (ps : List Ratio) (weight : ℕ → ℕ → Ratio) (size m : ℕ) (alpha level : Ratio) (done : ℕ) → size ≡ m
    → alpha ≡ level → 2 ^ m ≤ done
    → ((n : ℕ) → n < done → (table n ≡ true) ↔ HasPassing size ps weight alpha n) → (n : ℕ) → n < 2 ^ m → (table n ≡ true)
    ↔ HasPassing m ps weight level n
each_of table ps weight size m alpha level done e f all each n b =
    subst (λ k. (table n ≡ true) ↔ HasPassing k ps weight level n) e
    (subst (λ a. (table n ≡ true) ↔ HasPassing size ps weight a n) f (each n (omega (arith, b, all))))

pub returns-clause-answers : goal.returns-clause-answers
returns-clause-answers c =
    let k = content c.args.case.now in
    let m = length k.names in
    let size = c.size-2.ensures.size ∙ c.requires.size in
    let sets : (1 * 2 ^ c.size-2.result) % 2 ^ 32 ≡ 2 ^ c.size-2.result = one_shl c.size-2.result 32 (omega (arith, c.size-2.ensures.few)) in
    let powers : 2 ^ c.size-2.result ≡ 2 ^ m = ap (λ n. 2 ^ n) size in
    local_answers_are k c.single_p_values-p_values.result.now (weight_at c.args.weights.now) c.requires.weights
    (answer_of c.loop-set.local) c.single_p_values-p_values.ensures.inputs
    (each_of (answer_of c.loop-set.local) c.single_p_values-p_values.result.now
    (weight_at c.args.weights.now) _ m c.alpha-alpha.result k.alpha c.loop-set.set c.requires.size c.alpha-alpha.ensures.alpha
    (omega (arith, sets, powers, c.loop-set-test.false)) c.loop-set.invariant.each)
