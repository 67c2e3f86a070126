-- Lists of all sets of a case, and bounds of the number of false hypotheses in sets.
use Rattle.std.specs.Prelude.{◌≡◌, ◌<◌, ◌≤◌, ◌^◌, ◌==◌, ◌&&◌, not, ℕ, Bool, List, count_by}
use Rattle.field_core.specs.NumberedSets.{members}
use Rattle.field_core.specs.Sets.{size_of}
use Rattle.closed_test.specs.SetLists.{AreSetsInOrder}

-- the numbers of all sets of `m` hypotheses, in the order of sets, each set exactly once
pub record AreAllSetsOnce (m : ℕ) (sets : List ℕ) : Type 0 where
  pub in_order : AreSetsInOrder m sets
  pub once : (n : ℕ) → n < 2 ^ m → count_by (λ x. x == n) sets ≡ 1

-- the members of a set that aren't in the set of the true hypotheses
abbrev pub false_members : (ℕ → Bool) → (ℕ → Bool) → ℕ → Bool
false_members T S i = S i && not (T i)

-- If the set of the true hypotheses isn't rejected, no bound of a set is above the number of false hypotheses in the set.
abbrev pub CountFalseMembers : ℕ → ((ℕ → Bool) → Type 0) → (ℕ → ℕ) → Type 0
CountFalseMembers m Rejected bound = (T : ℕ → Bool) → ¬ Rejected T → (n : ℕ) → n < 2 ^ m → bound n ≤ size_of m (false_members T (members n))
