-- A fact of each set by its number is one of each set by its members.
use Rattle.std.proofs.Common.{◌≡◌, refl, ℕ, zero, suc, ◌+◌, ◌<◌, ◌≤◌, ◌^◌, ◌&&◌, not, inr, Bool, true, false, cond, arith}
use Rattle.field_core.specs.NumberedSets.{members, set_number}
use Rattle.field_core.specs.Sets.{size_of}
use Rattle.field_core.proofs.Members.{members_number, number_below}
use Rattle.case_model.specs.ClosedTest.{IsClosedRejectedBy}
use Rattle.case_model.specs.DiscoveryBound.{IsUnrejected, IsBound}
use Rattle.case_model.proofs.Bounds.{bound_same}
use Rattle.case_model.proofs.ClosedTests.{closed_larger_by, closed_same_by}
use Rattle.case_model.proofs.Holding.{both}
use Rattle.printed.specs.Sets.{false_members, CountFalseMembers}

-- the members of a set that are in another one, too
abbrev common : (ℕ → Bool) → (ℕ → Bool) → ℕ → Bool
common S T i = S i && T i

one_size : (s t : Bool) (a b c : ℕ) → a ≡ b + c
    → a + cond s 1 0 ≡ (b + cond (s && t) 1 0) + (c + cond (s && not t) 1 0)
one_size true true a b c e = omega (arith, e)
one_size true false a b c e = omega (arith, e)
one_size false t a b c e = omega (arith, e)

size_split : (m : ℕ) (S T : ℕ → Bool) → size_of m S ≡ size_of m (common S T) + size_of m (false_members T S)
unfolding size_of
size_split zero S T = refl
size_split (suc m) S T = one_size (S m) (T m) (size_of m S) (size_of m (common S T)) (size_of m (false_members T S)) (size_split m S T)

module _ (m : ℕ) (Local : (ℕ → Bool) → Type 0) where
  -- what is in a set that isn't rejected isn't rejected
  common_unrejected : (S T : ℕ → Bool) → ¬ IsClosedRejectedBy m Local T → IsUnrejected m (IsClosedRejectedBy m Local) (common S T)
  common_unrejected S T h = inr (λ r. h (closed_larger_by m Local (common S T) T (λ i p e. (both (S i) (T i) e).right) r))

  -- a bound isn't above the number of members outside a set that isn't rejected
  bound_counts : (S T : ℕ → Bool) (b : ℕ) → ¬ IsClosedRejectedBy m Local T → IsBound m (IsClosedRejectedBy m Local) S b
      → b ≤ size_of m (false_members T S)
  bound_counts S T b h B =
      let most = B.is_greatest (common S T) (λ i p e. (both (S i) (T i) e).left) (common_unrejected S T h) in
      let split = size_split m S T in
      omega (arith, most, split, B.bound)

  pub bounds_count : (bound : ℕ → ℕ) → ((n : ℕ) → n < 2 ^ m → IsBound m (IsClosedRejectedBy m Local) (members n) (bound n))
      → CountFalseMembers m (IsClosedRejectedBy m Local) bound
  bounds_count bound h T kept n p = bound_counts (members n) T (bound n) kept (h n p)

  -- the bound of the number of a set is that of the set
  pub bound_of_set : (bound : ℕ → ℕ) → ((n : ℕ) → n < 2 ^ m → IsBound m (IsClosedRejectedBy m Local) (members n) (bound n))
      → (S : ℕ → Bool) → IsBound m (IsClosedRejectedBy m Local) S (bound (set_number m S))
  bound_of_set bound h S =
      bound_same m (IsClosedRejectedBy m Local) (closed_same_by m Local) (members (set_number m S)) S (bound (set_number m S)) (members_number m S)
      (h (set_number m S) (number_below m S))
