-- What is known of the sets that were tested. (No public contract cites this.)
use Rattle.std.specs.Prelude.{◌≡◌, ◌↔◌, ℕ, Bool, List, Some, IsTrue}
use Rattle.field_core.specs.Terms.{Terms}
use Rattle.field_core.specs.declared.ratio.Ratio.{Ratio}
use Rattle.field_core.specs.Sets.{IsIn}
use Rattle.field_core.specs.NumberedSets.{members}
use Rattle.field_core.specs.OrderOfSets.{ComesBefore, IsAscending}
use Rattle.fraction.specs.View.{number_of}
use Rattle.case_model.specs.Sums.{number, number_at}
use Rattle.case_model.specs.ClosedTest.{Passes}
use Rattle.closed_test.specs.Paths.{number_without}
use Rattle.simes_test.specs.SimesSums.{sum_up_to, AreSumsDefined}

module _ (m : ℕ) (ps : List Ratio) (weight : ℕ → ℕ → Ratio) (alpha : Ratio) where
  -- the p-value of `j` passes at its sum in the set of `n`
  pub record PassesAtSum (n j : ℕ) : Type 0 where
    pub sum : Terms
    pub is_sum : sum_up_to m ps weight n j ≡ Some sum
    pub passes : Passes (number_at ps j) (number sum) (number_of alpha)

  -- the p-value of some member of the set of `n` passes at its sum there
  pub record HasPassing (n : ℕ) : Type 0 where
    pub hypothesis : ℕ
    pub member : IsIn m (members n) hypothesis
    pub passes : PassesAtSum n hypothesis

  -- the sum of `j` is defined, and `told` is whether its p-value passes at this sum
  pub record IsMemberTested (n j : ℕ) (told : Bool) : Type 0 where
    pub sum : Terms
    pub is_sum : sum_up_to m ps weight n j ≡ Some sum
    pub answer : IsTrue told ↔ Passes (number_at ps j) (number sum) (number_of alpha)

  -- the sums of a set are defined, and `told` is whether some p-value passes at its sum
  pub record IsTested (n : ℕ) (told : Bool) : Type 0 where
    pub defined : AreSumsDefined m ps weight n
    pub answer : IsTrue told ↔ HasPassing n

  -- a table has the answers of all sets before the one that leaves out `left`
  abbrev pub AreTestedBefore : (ℕ → Bool) → List ℕ → Type 0
  AreTestedBefore table left = (xs : List ℕ) → IsAscending m 0 xs → ComesBefore xs left → IsTested (number_without m xs) (table (number_without m xs))
