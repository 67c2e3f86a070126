-- A table that says yes of all sets that hold a set, and the sets with one member more.
use Rattle.std.proofs.Common.{◌≡◌, inl, inr, sym, ap, ◌∙◌, ℕ, ◌+◌, ◌^◌, ◌<◌, Bool, true, false}
use Rattle.field_core.specs.Sets.{IsSubset}
use Rattle.field_core.specs.NumberedSets.{members}
use Rattle.field_core.proofs.Members.{same_number, members_added}
use Rattle.field_core.proofs.Sizes.{missing, added_subset, within_adding}
use Rattle.case_model.specs.SetAnswers.{IsYesAbove}

module _ (m : ℕ) (local : ℕ → Bool) where
  pub yes_up : (n o : ℕ) → IsSubset m (members n) (members o) → IsYesAbove m local n → IsYesAbove m local o
  yes_up n o h above q b g = above q b (λ i r e. g i r (h i r e))

  pub yes_next : (n k : ℕ) → n < 2 ^ m → k < m → members n k ≡ false → IsYesAbove m local n → IsYesAbove m local (n + 2 ^ k)
  yes_next n k b q f above = yes_up n (n + 2 ^ k) (λ i r e. members_added m n k b q f i r ∙ within_adding m k (members n) i r e) above

  pub yes_by_larger : (n : ℕ) → n < 2 ^ m → local n ≡ true → ((k : ℕ) → k < m → members n k ≡ false → IsYesAbove m local (n + 2 ^ k))
      → IsYesAbove m local n
  yes_by_larger n b l more o there h = elim (missing m (members n) (members o) h) [
    | inl same ↦ ap local (sym (same_number m n o b there same)) ∙ l
    | inr x ↦ more x.0 x.1.below x.2 o there
        (λ i r e. added_subset m x.0 (members n) (members o) h x.1.member i r (sym (members_added m n x.0 b x.1.below x.2 i r) ∙ e))
  ]
