use Rattle.std.proofs.Common.{◌≡◌, ◌≢◌, ◌⊎◌, inl, inr, ◌∙◌, sym, ap, ℕ, ◌+◌, ◌-◌, ◌*◌, ◌^◌, ◌%◌, ◌≤◌}
use Rattle.std.proofs.Common.{◌↔◌, Bool, true, arith}
use Rattle.field_core.specs.NumberedSets.{members}
use Rattle.case_model.specs.SetTableView.{answer_of}
use Rattle.case_model.specs.SetAnswers.{IsYesAbove, AreClosedFrom}
use Rattle.closed_test.proofs.closed.closed_answers.Goals as goal

module _ (m : ℕ) (local old new : ℕ → Bool) (answer : Bool) where
  same_or_after : (a n : ℕ) → a ≤ n → (n ≡ a) ⊎ (a + 1 ≤ n)
  same_or_after a n h = grind arith

  one_more : (first set next : ℕ) → first ≡ set → next ≡ set + 1 → AreClosedFrom m local old next → (answer ≡ true) ↔ IsYesAbove m local set
      → new set ≡ answer → ((n : ℕ) → n ≢ set → new n ≡ old n) → AreClosedFrom m local new first
  one_more first set next d e after decided put others n h b = elim (same_or_after set n (omega arith)) [
    | inl same ↦ (
      λ t o q g. decided.0 (sym (ap new same ∙ put) ∙ t) o q (λ i r x. g i r (ap (λ k. members k i) same ∙ x)),
      λ above. ap new same
          ∙ put ∙ decided.1 (λ o q g. above o q (λ i r x. g i r (sym (ap (λ k. members k i) same) ∙ x))),
    )
    | inr later ↦
        let other : new n ≡ old n = others n (omega arith) in
        let f = after n (omega arith) b in
        (λ t. f.0 (sym other ∙ t), λ above. other ∙ f.1 above)
  ]

pub loop-done-preserved : goal.loop-done-preserved
loop-done-preserved c =
    record {
      size = c.put.ensures.size ∙ c.loop-done.invariant.size;
      each = one_more c.args.local.now.size (answer_of c.args.local.now) (answer_of c.loop-done.closed) (answer_of c.put.new.self) c.answer-answer.result _
          (1 * 2 ^ c.size-2.result % 4294967296 - 1 - c.loop-done.done) _ (omega arith)
          (omega (arith, c.loop-done-test.true)) c.loop-done.invariant.each c.answer-answer.ensures c.put.ensures.put c.put.ensures.others;
    }
