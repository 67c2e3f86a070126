-- Bounds of the number of true discoveries in a set (Goeman and Solari 2011).
use Rattle.std.specs.Prelude.{◌≡◌, ◌≤◌, ◌+◌, ◌⊎◌, ℕ, Bool}
use Rattle.field_core.specs.Sets.{IsIn, IsSubset, size_of}

-- (`Rejected` are the sets of `m` hypotheses whose intersections are rejected.)
module _ (m : ℕ) (Rejected : (ℕ → Bool) → Type 0) where
  -- the set isn't rejected; the empty set counts as not rejected
  abbrev pub IsUnrejected : (ℕ → Bool) → Type 0
  IsUnrejected K = ((k : ℕ) → ¬ IsIn m K k) ⊎ ¬ Rejected K

  -- `b` is the size of `S` minus the greatest size of a subset that isn't rejected
  pub record IsBound (S : ℕ → Bool) (b : ℕ) : Type 0 where
    pub greatest : ℕ → Bool
    pub inside : IsSubset m greatest S
    pub unrejected : IsUnrejected greatest
    pub is_greatest : (K : ℕ → Bool) → IsSubset m K S → IsUnrejected K → size_of m K ≤ size_of m greatest
    pub bound : b + size_of m greatest ≡ size_of m S
