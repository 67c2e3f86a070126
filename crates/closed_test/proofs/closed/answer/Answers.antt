use Rattle.std.proofs.Common.{◌≡◌, ◌∙◌, sym, ℕ, ◌+◌, ◌^◌, ◌<◌, ◌↔◌, Bool, true, false, arith}
use Rattle.field_core.specs.NumberedSets.{members}
use Rattle.case_model.specs.SetTableView.{answer_of}
use Rattle.field_core.proofs.Members.{added_below}
use Rattle.case_model.specs.SetAnswers.{IsYesAbove, AreClosedFrom}
use Rattle.closed_test.proofs.LargerSets.{yes_next, yes_by_larger}
use Rattle.closed_test.proofs.closed.answer.Goals as goal
use Rattle.std.proofs.lemmas.Nat.{pow_pos}

module _ (m : ℕ) (local closed : ℕ → Bool) (set : ℕ) (b : set < 2 ^ m) (after : AreClosedFrom m local closed (set + 1)) where
  later : (k : ℕ) → k < m → members set k ≡ false → (closed (set + 2 ^ k) ≡ true) ↔ IsYesAbove m local (set + 2 ^ k)
  later k q f = after (set + 2 ^ k) (omega (arith, pow_pos k)) (added_below m set k b q f)

  decided : (r : Bool) (size : ℕ) → size ≡ m → local set ≡ true → (r ≡ true)
      ↔ ((k : ℕ) → k < size → members set k ≡ false → closed (set + 2 ^ k) ≡ true) → (r ≡ true) ↔ IsYesAbove m local set
  decided r size same l each = (to, from)
    where
      to : r ≡ true → IsYesAbove m local set
      to t = yes_by_larger m local set b l (λ k q f. (later k q f).0 (each.0 t k (omega arith) f))

      from : IsYesAbove m local set → r ≡ true
      from above = each.1 (λ k q f. (later k (omega arith) f).1 (yes_next m local set k b (omega arith) f above))

  refused : (r : Bool) → r ≡ false → local set ≡ false → (r ≡ true) ↔ IsYesAbove m local set
  refused r f l = (to, from)
    where
      to : r ≡ true → IsYesAbove m local set
      to t = absurd (cc)

      from : IsYesAbove m local set → r ≡ true
      from above = f ∙ sym l ∙ above set b (λ i q e. e)

pub returns-then-get : goal.returns-then-get
returns-then-get c = decided c.args.local.now.size (answer_of c.args.local.now)
    (answer_of c.args.closed.now) c.args.set c.requires.set c.requires.closed c.all_larger.result c.args.closed.now.size c.requires.size
    (sym c.get.ensures ∙ c.if-get.true) c.all_larger.ensures

pub returns-else-get : goal.returns-else-get
returns-else-get c = refused c.args.local.now.size (answer_of c.args.local.now)
    (answer_of c.args.closed.now) c.args.set c.requires.set c.requires.closed c.get.result c.if-get.false (sym c.get.ensures ∙ c.if-get.false)
