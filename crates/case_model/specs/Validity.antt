-- What a valid case is, by what must hold of its names, numbers, edges and inputs; and what must hold of a draft beside its content.
use Rattle.std.specs.Prelude.{◌≡◌, ◌≢◌, ◌⊎◌, ◌+◌, ◌*◌, ◌<◌, ◌≤◌, ℕ, List, Some, None, length, map, slice_get, true}
use Rattle.std.proofs.Props.{props}
use Rattle.field_core.specs.Arithmetic.{number_zero, number_one, ◌*ε◌}
use Rattle.field_core.specs.Number.{Number}
use Rattle.field_core.specs.NumberField.{number_field}
use Rattle.field_core.specs.Order.{◌≤ε◌}
use Rattle.field_core.specs.Sums.{sum_below}
use Rattle.field_core.specs.View.{terms}
use Rattle.field_core.specs.declared.ratio.Ratio.{Ratio}
use Rattle.fraction.specs.View.{number_of}
use Rattle.fraction.specs.Written.{written_mul}
use Rattle.case_model.specs.declared.component.Component.{Component}
use Rattle.case_model.specs.declared.draft.Draft.{Draft}
use Rattle.case_model.specs.declared.draft_stages.DraftStages.{DraftStages}
use Rattle.case_model.specs.declared.inputs.Stages.{Stages}
use Rattle.case_model.specs.declared.inputs.Inputs.{Inputs}
use Rattle.case_model.specs.declared.inputs.Inputs.TheVariants.{Bare, Single, Staged}
use Rattle.case_model.specs.declared.spend.Spend.{Spend}
use Rattle.case_model.specs.declared.spend.Spend.TheVariants.{Shares, Table}
use Rattle.case_model.specs.declared.spend_step.SpendStep.{SpendStep}
use Rattle.case_model.specs.Sums.{ratio_at, number_at, written_sum}
use Rattle.case_model.specs.Entries.{entry_value, entry_at, is_zero_entry}
use Rattle.case_model.specs.Draft.{is_name, is_short, is_short_level, is_short_p_value, ArePValues}
use Rattle.case_model.specs.Content.{Content}
use Rattle.case_model.specs.CaseFaults.{written_row}

-- each item of a list satisfies `P`
abbrev pub Each : {A : Type 0} → List A → (A → Type 0) → Type 0
Each xs P = (i : ℕ) (x : _) → slice_get xs i ≡ Some x → P x

-- each two items at different places, the earlier one first, satisfy `P`
abbrev pub EachTwo : {A : Type 0} → List A → (A → A → Type 0) → Type 0
EachTwo xs P = (i j : ℕ) (x y : _) → i < j → slice_get xs i ≡ Some x → slice_get xs j ≡ Some y → P x y

-- each two items next to each other satisfy `P`
abbrev pub EachNext : {A : Type 0} → List A → (A → A → Type 0) → Type 0
EachNext xs P = (i : ℕ) (x y : _) → slice_get xs i ≡ Some x → slice_get xs (i + 1) ≡ Some y → P x y

-- ---- numbers

-- at least 0
abbrev pub IsNonneg : Ratio → Type 0
IsNonneg x = number_zero ≤ε number_of x

-- from 0 to 1
abbrev pub IsUnit : Ratio → Type 0
IsUnit x = IsNonneg x × (number_of x ≤ε number_one)

-- above 0 and at most 1
abbrev pub IsAboveZero : Ratio → Type 0
IsAboveZero x = ¬ (number_of x ≤ε number_zero) × (number_of x ≤ε number_one)

-- the values of a list of fractions sum to at most a bound
abbrev pub SumsTo : List Ratio → Number → Type 0
SumsTo xs bound = sum_below number_field (length xs) (number_at xs) ≤ε bound

-- the sum of a list of fractions can be written
abbrev pub CanSum : List Ratio → Type 0
CanSum xs = written_sum (length xs) (ratio_at xs) ≢ None

-- ---- names and components

-- 1 to 64 names of the right form, no two of them the same
pub record AreValidNames (names : List (List ℕ)) : Type 0 where
  pub some : 0 < length names
  pub few : length names ≤ 64
  pub form : Each names (λ name. is_name name ≡ true)
  pub distinct : EachTwo names (λ a b. ¬ (a ≡ b))

-- the edge from `i` to `j` has short parts and is from 0 to 1, in the order of epsilon; from a hypothesis to itself it is 0
pub record IsValidEdge (i j : ℕ) (entry : List Ratio) : Type 0 where
  pub short : Each entry (λ x. is_short x ≡ true)
  pub unit : (number_zero ≤ε entry_value entry) × (entry_value entry ≤ε number_one)
  pub no_loop : i ≡ j → is_zero_entry entry ≡ true

-- a component of `m` hypotheses: the share and the weights have short parts and aren't below 0. The weights, and each row of edges, sum to at most 1,
-- and these sums can be written.
pub record IsValidComponent (m : ℕ) (k : Component) : Type 0 where
  pub short_share : is_short k.share ≡ true
  pub share : IsNonneg k.share
  pub weights : length k.weights ≡ m
  pub short_weights : Each k.weights (λ w. is_short w ≡ true)
  pub nonneg : Each k.weights IsNonneg
  pub total : SumsTo k.weights number_one
  pub size : length k.edges ≡ m * m
  pub edges : (i j : ℕ) → i < m → j < m → IsValidEdge i j (entry_at m k.edges i j)
  pub rows : (i : ℕ) → i < m → sum_below number_field m (λ j. entry_value (entry_at m k.edges i j)) ≤ε number_one
  pub written : CanSum k.weights
  pub written_rows : (i : ℕ) → i < m → written_row m (entry_at m k.edges i) ≢ None

-- ---- stages

-- fractions of the level, one for each of a number of stages; they sum to at most 1, and the sum can be written
pub record AreValidShares (count : ℕ) (fs : List Ratio) : Type 0 where
  pub as_many : length fs ≡ count
  pub short : Each fs (λ f. is_short_level f ≡ true)
  pub nonneg : Each fs IsNonneg
  pub total : SumsTo fs number_one
  pub written : CanSum fs

-- a table of levels: 1 to 32 steps by ascending weight. Levels don't fall from step to step, and sum to at most the weight of the step times the
-- level `alpha`. The sum and the product can be written.
pub record IsValidTable (count : ℕ) (alpha : Ratio) (ss : List SpendStep) : Type 0 where
  pub some : 0 < length ss
  pub few : length ss ≤ 32
  pub as_many : Each ss (λ s. length s.levels ≡ count)
  pub short_from : Each ss (λ s. is_short s.from ≡ true)
  pub short_levels : Each ss (λ s. Each s.levels (λ x. is_short x ≡ true))
  pub from : Each ss (λ s. IsAboveZero s.from)
  pub later : EachNext ss (λ a b. ¬ (number_of b.from ≤ε number_of a.from))
  pub nonneg : Each ss (λ s. Each s.levels IsNonneg)
  pub rising : EachNext ss (λ a b. (t : ℕ) (x y : Ratio) → slice_get a.levels t ≡ Some x → slice_get b.levels t ≡ Some y
      → number_of x ≤ε number_of y)
  pub bound : Each ss (λ s. SumsTo s.levels (number_of s.from *ε number_of alpha))
  pub written : Each ss (λ s. CanSum s.levels × (written_mul (terms s.from) (terms alpha) ≢ None))

-- a hypothesis's spend is valid for `count` stages at the level `alpha`
abbrev pub IsValidSpend : ℕ → Ratio → Spend → Type 0
IsValidSpend count alpha (Shares fs) = AreValidShares count fs
IsValidSpend count alpha (Table ss) = IsValidTable count alpha ss

-- 1 to 12 stages, what each of `m` hypotheses spends at them, and p-values that arrived, each of a hypothesis at a stage, no two for the same ones
pub record AreValidStages (m : ℕ) (alpha : Ratio) (s : Stages) : Type 0 where
  pub some : 0 < s.count
  pub few : s.count ≤ 12
  pub as_many : length s.spend ≡ m
  pub spends : Each s.spend (IsValidSpend s.count alpha)
  pub known : Each s.arrivals (λ a. a.hypothesis < m)
  pub stage : Each s.arrivals (λ a. (1 ≤ a.stage) × (a.stage ≤ s.count))
  pub once : EachTwo s.arrivals (λ a b. ¬ ((a.hypothesis ≡ b.hypothesis) × (a.stage ≡ b.stage)))
  pub short : Each s.arrivals (λ a. is_short_p_value a.p ≡ true)
  pub unit : Each s.arrivals (λ a. IsUnit a.p)

-- no p-values, one for each of `m` hypotheses, or stages
abbrev pub AreValidInputs : ℕ → Ratio → Inputs → Type 0
AreValidInputs m alpha Bare = Unit {0}
AreValidInputs m alpha (Single ps) = ArePValues m ps
AreValidInputs m alpha (Staged s) = AreValidStages m alpha s

-- ---- contents and drafts

-- the content of a case
pub record IsValidContent (c : Content) : Type 0 where
  pub names : AreValidNames c.names
  pub some : 0 < length c.components
  pub few : length c.components ≤ 8
  pub short_level : is_short_level c.alpha ≡ true
  pub level : IsAboveZero c.alpha
  pub components : Each c.components (IsValidComponent (length c.names))
  pub shares : SumsTo (map (λ k. k.share) c.components) number_one
  pub written : CanSum (map (λ k. k.share) c.components)
  pub inputs : AreValidInputs (length c.names) c.alpha c.inputs

-- What must hold of a draft beside its content: no edge is there twice, p-values are given for all hypotheses or for none, and there are none beside
-- stages.
pub record IsOneCase (d : Draft) : Type 0 where
  pub once : Each d.components (λ k. EachTwo k.edges (λ e f. ¬ ((e.from ≡ f.from) × (e.to ≡ f.to))))
  pub count : (length d.p ≡ 0) ⊎ (length d.p ≡ length d.names)
  pub all : (i j : ℕ) (p : Ratio) → slice_get d.p i ≡ Some (Some p) → slice_get d.p j ≢ Some None
  pub unmixed : (s : DraftStages) → d.stages ≡ Some s → length d.p ≡ 0

-- (There is one proof at most that a content is valid.)
IsValidSpend-prop : (count : ℕ) (alpha : Ratio) (s : Spend) → IsProp (IsValidSpend count alpha s)
IsValidSpend-prop count alpha (Shares fs) = hlevel props
IsValidSpend-prop count alpha (Table ss) = hlevel props

AreValidInputs-prop : (m : ℕ) (alpha : Ratio) (i : Inputs) → IsProp (AreValidInputs m alpha i)
AreValidInputs-prop m alpha Bare = hlevel
AreValidInputs-prop m alpha (Single ps) = hlevel props
AreValidInputs-prop m alpha (Staged s) = hlevel (props, IsValidSpend-prop)

pub valid_is_fact : (c : Content) → IsProp (IsValidContent c)
valid_is_fact c = let p = AreValidInputs-prop (length c.names) c.alpha c.inputs in hlevel (props, p)
