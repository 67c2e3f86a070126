use Rattle.std.proofs.Common.{◌≡◌, sym, ap, ◌∙◌, subst, ℕ, List, length, map}
use Rattle.std.specs.List.Sorted.{IsPermutation}
use Rattle.case_model.specs.Sums.{number_at}
use Rattle.case_model.specs.Content.{ForSingle}
use Rattle.case_model.specs.CaseView.{content}
use Rattle.closed_test.proofs.SetAnswers.{of_single}
use Rattle.simes_test.specs.Leaders.{AreLeaders}
use Rattle.simes_test.specs.Ranking.{position_of, by_position}
use Rattle.simes_test.proofs.Rankings.{leaders_are}
use Rattle.simes_test.proofs.ranking.leaders.Goals as goal

pub returns : goal.returns
returns c =
    let k = content c.args.case.now in
    let ps = c.single_p_values.result.now in
    let sorted = c.sort.new.self.items in
    let perm : IsPermutation (by_position ps) sorted = subst (λ xs. IsPermutation xs sorted) c.in_ok-ranked.ensures c.in_ok-sort.ensures.permutation in
    let js : c.of.result ≡ map position_of sorted = c.of.ensures ∙ c.in_ok-positions.ensures ∙ ap (map position_of) c.deref.ensures.value in
    subst (λ (xs : List ℕ). ForSingle k.inputs (λ qs. AreLeaders (length k.names) (number_at qs) xs)) (sym js)
    (of_single (λ qs. AreLeaders (length k.names) (number_at qs) (map position_of sorted)) k.inputs ps c.single_p_values.ensures.inputs
    (leaders_are ps sorted perm c.in_ok-sort.ensures.sorted (length k.names) c.single_p_values.ensures.count))
