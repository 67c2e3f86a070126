-- Checks at all places, one after the other.
use Rattle.std.proofs.Common.{◌≡◌, ◌⊎◌, inl, inr, refl, ap, ◌∙◌, ℕ, zero, suc, ◌+◌, ◌≤◌, Result, Ok, Err, add-one, arith}
use Rattle.field_core.specs.Steps.{◌>>=◌}
use Rattle.evidence_check.specs.declared.event.CheckEvent.{CheckEvent}
use Rattle.evidence_check.specs.CheckSteps.{all_below}

at_or_past : (n m : ℕ) → n ≤ suc m → (n ≡ suc m) ⊎ (n ≤ m)
at_or_past n m h = grind arith

module _ (f : ℕ → Result (Unit {0}) CheckEvent) where
  pub all_none : all_below 0 f ≡ Ok tt
  unfolding all_below
  all_none = refl

  all_suc : (n : ℕ) → all_below (suc n) f ≡ (all_below n f >>= λ _. f n)
  unfolding all_below
  all_suc n = refl

  pub all_next : (n : ℕ) → all_below n f ≡ Ok tt → all_below (n + 1) f ≡ f n
  all_next n e = rw (add-one, all_suc n, e) refl

  -- what is refused on the way is refused in the end
  pub all_refused : (m n : ℕ) (e : CheckEvent) → n ≤ m → all_below n f ≡ Err e → all_below m f ≡ Err e
  all_refused zero n e h k = let z : n ≡ 0 = omega arith in rw z at k
  all_refused (suc m) n e h k = elim (at_or_past n m h) [
    | inl same ↦ rw same at k
    | inr below ↦ all_suc m ∙ ap (λ r. r >>= (λ _. f m)) (all_refused m n e below k)
  ]
