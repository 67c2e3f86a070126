-- How two positions stand to each other.
use Rattle.std.proofs.Common.{◌≡◌, ◌≢◌, ◌⊎◌, inl, inr, ℕ, suc, ◌<◌, ◌≤◌, ◌==◌, arith, true, false}
use Rattle.std.proofs.lemmas.Bool.Decides.{nat_tests}

pub compared : (j k : ℕ) → (j ≡ k) ⊎ ((j < k) ⊎ (k < j))
compared j k = grind arith

pub below_or_above : (k m : ℕ) → (k < m) ⊎ (m ≤ k)
below_or_above k m = grind arith

pub below_or_not : (k m : ℕ) → (k < m) ⊎ ¬ (k < m)
below_or_not k m = elim (below_or_above k m) [ inl h ↦ inl h | inr h ↦ inr (λ b. absurd (omega arith)) ]

pub at_or_below : (k n : ℕ) → k < suc n → (k ≡ n) ⊎ (k < n)
at_or_below k n h = grind arith

-- ---- tests of positions

pub test_same : (k l : ℕ) → k ≡ l → (k == l) ≡ true
test_same k l e = grind (arith, nat_tests)

pub test_other : (k l : ℕ) → k ≢ l → (k == l) ≡ false
test_other k l n = grind (arith, nat_tests)
