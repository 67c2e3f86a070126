-- The sums of Simes' test as they are written, for all sets of some hypotheses by the number of the set.
use Rattle.std.specs.Prelude.{◌≡◌, ◌<◌, ◌^◌, ℕ, List, Option, Some, None, if◌then◌else◌}
use Rattle.field_core.specs.Terms.{Terms}
use Rattle.field_core.specs.declared.ratio.Ratio.{Ratio}
use Rattle.field_core.specs.declared.place.Op.TheVariants.{Add}
use Rattle.field_core.specs.declared.place.Place.TheVariants.{Level}
use Rattle.field_core.specs.declared.place.WideAt.{WideAt}
use Rattle.field_core.specs.Sets.{IsIn}
use Rattle.field_core.specs.NumberedSets.{members}
use Rattle.case_model.specs.Sums.{zero_ratio, number_at, written_sum}
use Rattle.closed_test.specs.SetRuns.{IsEarlierSet}
use Rattle.simes_test.specs.SimesTest.{is_up_to}

-- (The hypotheses have the p-values `ps`, and `weight n i` is the weight of the member `i` in the set of `n`.)
module _ (ps : List Ratio) (weight : ℕ → ℕ → Ratio) where
  -- the weight of `i` in the set of `n`, if `i` is a member whose p-value is at most that of `j`, and else 0
  unfoldable pub weight_up_to : ℕ → ℕ → ℕ → Ratio
  weight_up_to n j i = if is_up_to (number_at ps) (members n) j i then weight n i else zero_ratio

-- (There are `m` hypotheses.)
module _ (m : ℕ) (ps : List Ratio) (weight : ℕ → ℕ → Ratio) where
  -- the sum of `j` in the set of `n`, written one weight after the other by ascending position
  abbrev pub sum_up_to : ℕ → ℕ → Option Terms
  sum_up_to n j = written_sum m (weight_up_to ps weight n j)

  -- the sum of `j` in the set of `n` is defined
  abbrev pub IsSumDefined : ℕ → ℕ → Type 0
  IsSumDefined n j = (t : Terms) × (sum_up_to n j ≡ Some t)

  -- the sums of all members of the set of `n` are defined
  abbrev pub AreSumsDefined : ℕ → Type 0
  AreSumsDefined n = (j : ℕ) → IsIn m (members n) j → IsSumDefined n j

  -- the sum of `j` in the set of `n` isn't defined, and `w` is where
  pub record IsWideSum (n j : ℕ) (w : WideAt) : Type 0 where
    pub undefined : sum_up_to n j ≡ None
    pub fault : w ≡ record { component = 0; place = Level j; op = Add }

  -- the sum of some member of the set of `n` isn't defined, and `w` is where, for the first such member by ascending position
  pub record IsWideMember (n : ℕ) (w : WideAt) : Type 0 where
    pub hypothesis : ℕ
    pub member : IsIn m (members n) hypothesis
    pub wide : IsWideSum n hypothesis w
    pub before : (i : ℕ) → i < hypothesis → IsIn m (members n) i → IsSumDefined n i

  -- the set of `n` is the first, in the order of sets, with a sum that isn't defined, and `w` is its first such sum
  pub record IsFirstWideSum (n : ℕ) (w : WideAt) : Type 0 where
    pub below : n < 2 ^ m
    pub wide : IsWideMember n w
    pub before : (o : ℕ) → o < 2 ^ m → IsEarlierSet m o n → AreSumsDefined o
