-- The error in a draft: what the first test that finds something reports. The tests are in a table; each is made of all components,
-- hypotheses or places of a list, in ascending order, before the next. (A row is here a row of edges, or what a test of one item
-- reports.) Components, hypotheses, stages, steps and arrivals are counted from 0; but an arrival has its stage counted from 1.
use Rattle.std.specs.Prelude.{ℕ, zero, suc, ◌+◌, ◌-◌, ◌==◌, ◌&&◌, ◌||◌, not, Bool, true, false, List, [], ◌∷◌, Option, Some, None}
use Rattle.std.specs.Prelude.{Result, Ok, Err, length, map, take, slice_get, nat_lt, nat_le, is_some, is_none, if◌then◌else◌}
use Rattle.std.specs.Bool.{then_some}
use Rattle.std.specs.List.{list_all, list_any}
use Rattle.std.specs.Option.{option_or, option_map, option_and_then}
use Rattle.std.specs.Str.{bytes_eq}
use Rattle.field_core.specs.Terms.{Terms}
use Rattle.field_core.specs.declared.ratio.Ratio.{Ratio}
use Rattle.field_core.specs.Number.{Number}
use Rattle.field_core.specs.Arithmetic.{number_zero, number_one, ◌*ε◌}
use Rattle.field_core.specs.View.{terms}
use Rattle.field_core.specs.NumberField.{number_field}
use Rattle.field_core.specs.Sized.{◌>>=◌}
use Rattle.field_core.specs.Sums.{sum_below}
use Rattle.field_core.specs.Steps.{at, in_component}
use Rattle.field_core.specs.declared.place.Op.TheVariants.{Add, Mul}
use Rattle.field_core.specs.declared.place.WideAt.{WideAt}
use Rattle.field_core.specs.declared.place.Place.{Place}
use Rattle.field_core.specs.declared.place.Place.TheVariants.{WeightSum as AtWeightSum, RowSum as AtRowSum, ShareSum as AtShareSum, SpendSum as AtSpendSum}
use Rattle.case_model.specs.declared.fault.PartPlace.TheVariants.{Alpha, Share, Weight, Edge, P, Spend as SpendPart, Step, Arrival as ArrivalPart}
use Rattle.case_model.specs.declared.fault.CaseFault.{CaseFault}
use Rattle.case_model.specs.declared.fault.CaseFault.TheVariants.{NoHypothesis, TooMany, NameForm, DuplicateName, NoComponent, TooManyComponents, PartTooLong}
use Rattle.case_model.specs.declared.fault.CaseFault.TheVariants.{AlphaRange, ShareRange, ShareSum, WeightCount, WeightRange, WeightSum, SelfEdge, RepeatedEdge}
use Rattle.case_model.specs.declared.fault.CaseFault.TheVariants.{EdgeRange, RowSum, Mixed, PCount, PMissing, PRange, NoStage, TooManyStages, SpendCount}
use Rattle.case_model.specs.declared.fault.CaseFault.TheVariants.{TooManySteps, StepOrder, SpendRange, SpendSum, ArrivalStage, ArrivalRepeated, ArrivalRange}
use Rattle.case_model.specs.declared.fault.CaseFault.TheVariants.{Wide}
use Rattle.fraction.specs.View.{number_of}
use Rattle.fraction.specs.Written.{written_mul}
use Rattle.case_model.specs.declared.draft.Draft.{Draft}
use Rattle.case_model.specs.declared.draft_stages.DraftStages.{DraftStages}
use Rattle.case_model.specs.declared.draft_stages.Arrival.{Arrival}
use Rattle.case_model.specs.declared.spend.Spend.{Spend}
use Rattle.case_model.specs.declared.spend.Spend.TheVariants.{Shares, Table}
use Rattle.case_model.specs.declared.spend_step.SpendStep.{SpendStep}
use Rattle.case_model.specs.declared.draft_component.DraftComponent.{DraftComponent}
use Rattle.case_model.specs.declared.draft_edge.DraftEdge.{DraftEdge}
use Rattle.case_model.specs.declared.component.Component.{Component}
use Rattle.case_model.specs.Sums.{ratio_at, number_at, written_sum}
use Rattle.case_model.specs.Entries.{entry_value, entry_at, is_zero_entry}
use Rattle.case_model.specs.Draft.{at_most, is_unit, is_name, is_short_level, is_short, is_short_p_value, is_level_range, has_ends, is_of, is_stage}
use Rattle.case_model.specs.Content.{content_of}

-- ---- first faults

-- the first fault, or else the second
infixr 20 ◌or◌
abbrev pub ◌or◌ : Option CaseFault → Option CaseFault → Option CaseFault
first or second = option_or first second

-- the fault, if the test holds
infix 30 ◌when◌
abbrev pub ◌when◌ : CaseFault → Bool → Option CaseFault
fault when test = then_some test fault

-- the first fault that a test of items at their places finds in a list, with the places counted from `i`
unfoldable pub first_from : {A : Type 0} → (ℕ → A → Option CaseFault) → ℕ → List A → Option CaseFault
first_from row i [] = None
first_from row i (x ∷ xs) = row i x or first_from row (i + 1) xs

-- the first fault that a test of items at their places finds in a list, with the places counted from 0
abbrev pub first_of : {A : Type 0} → (ℕ → A → Option CaseFault) → List A → Option CaseFault
first_of row xs = first_from row 0 xs

-- the first fault that a test finds at the positions below a number
unfoldable pub first_below : (ℕ → Option CaseFault) → ℕ → Option CaseFault
first_below row zero = None
first_below row (suc n) = first_below row n or row n

-- ---- the names

-- there is no hypothesis
unfoldable pub no_hypothesis : List (List ℕ) → Option CaseFault
no_hypothesis names = NoHypothesis when length names == 0

-- there are more than 64 hypotheses
unfoldable pub too_many : List (List ℕ) → Option CaseFault
too_many names = TooMany (length names) when nat_lt 64 (length names)

-- the first name that isn't well formed
unfoldable pub name_form : List (List ℕ) → Option CaseFault
name_form names = first_of (λ i name. NameForm i when not (is_name name)) names

-- the name at a place is equal to an earlier one
abbrev pub repeated_name : List (List ℕ) → ℕ → List ℕ → Option CaseFault
repeated_name names i name = DuplicateName i when list_any (bytes_eq name) (take i names)

-- the first such name
unfoldable pub duplicate_name : List (List ℕ) → Option CaseFault
duplicate_name names = first_of (repeated_name names) names

-- the first fault of the names
unfoldable pub names_fault : List (List ℕ) → Option CaseFault
names_fault names = no_hypothesis names or too_many names or name_form names or duplicate_name names

-- ---- the number of components

-- there is no component
unfoldable pub no_component : List DraftComponent → Option CaseFault
no_component ks = NoComponent when length ks == 0

-- there are more than 8 components
unfoldable pub too_many_components : List DraftComponent → Option CaseFault
too_many_components ks = TooManyComponents (length ks) when nat_lt 8 (length ks)

-- the fault of the number of components
unfoldable pub components_fault : List DraftComponent → Option CaseFault
components_fault ks = no_component ks or too_many_components ks

-- ---- numbers with long parts

-- the level has a part above its limit
unfoldable pub long_alpha : Ratio → Option CaseFault
long_alpha alpha = PartTooLong Alpha when not (is_short_level alpha)

-- the first share with a part above its limit
unfoldable pub long_share : List DraftComponent → Option CaseFault
long_share ks = first_of (λ c k. PartTooLong (Share c) when not (is_short k.share)) ks

-- the first weight of a component with a part above its limit
unfoldable pub long_weight : ℕ → DraftComponent → Option CaseFault
long_weight c k = first_of (λ i w. PartTooLong (Weight c i) when not (is_short w)) k.weights

-- the first edge of a component that has a coefficient with a part above its limit
unfoldable pub long_edge : ℕ → DraftComponent → Option CaseFault
long_edge c k = first_of (λ _ e. PartTooLong (Edge c e.from e.to) when not (list_all is_short e.entry)) k.edges

-- whether a p-value is given and its denominator is above its limit
abbrev pub is_long_p_value : Option Ratio → Bool
is_long_p_value None = false
is_long_p_value (Some p) = not (is_short_p_value p)

-- the first p-value with a denominator above its limit
unfoldable pub long_p_value : List (Option Ratio) → Option CaseFault
long_p_value ps = first_of (λ i p. PartTooLong (P i) when is_long_p_value p) ps

-- the first fraction that a hypothesis spends with a part above its limit
unfoldable pub long_fraction : ℕ → Spend → Option CaseFault
long_fraction i (Shares fs) = first_of (λ t f. PartTooLong (SpendPart i t) when not (is_short_level f)) fs
long_fraction i (Table ss) = None

-- the first step of a hypothesis that has a weight or a level with a part above its limit
unfoldable pub long_step : ℕ → Spend → Option CaseFault
long_step i (Shares fs) = None
long_step i (Table ss) = first_of (λ n s. PartTooLong (Step i n) when not (is_short s.from && list_all is_short s.levels)) ss

-- the first p-value that arrived with a denominator above its limit
unfoldable pub long_arrival : List Arrival → Option CaseFault
long_arrival values = first_of (λ n a. PartTooLong (ArrivalPart n) when not (is_short_p_value a.p)) values

-- the first number of stages with a part above its limit: fractions, steps, p-values
unfoldable pub long_stage_part : DraftStages → Option CaseFault
long_stage_part s = first_of long_fraction s.spend or first_of long_step s.spend or long_arrival s.arrivals

-- the first number with a part above its limit: the level, shares, weights, edges, p-values, and those of stages
unfoldable pub part_too_long : Draft → Option CaseFault
part_too_long d =
    long_alpha d.alpha or long_share d.components or first_of long_weight d.components or first_of long_edge d.components or long_p_value d.p
    or option_and_then long_stage_part d.stages

-- ---- the level and the shares

-- the level isn't above 0 and at most 1
unfoldable pub alpha_range : Ratio → Option CaseFault
alpha_range alpha = AlphaRange when not (is_level_range alpha)

-- whether a fraction is below 0
abbrev pub is_below_zero : Ratio → Bool
is_below_zero x = not (at_most number_zero (number_of x))

-- the first share below 0
unfoldable pub share_range : List DraftComponent → Option CaseFault
share_range ks = first_of (λ c k. ShareRange c when is_below_zero k.share) ks

-- the fault of a written number: that the operation is undefined, or else that a value is above a bound
abbrev pub bound_fault : {A : Type 0} → Result A WideAt → Number → Number → CaseFault → Option CaseFault
bound_fault (Err wide) value bound above = Some (Wide wide)
bound_fault (Ok s) value bound above = above when not (at_most value bound)

-- the fault of a written sum: that it is undefined, or else that its value is above 1
abbrev pub sum_fault : {A : Type 0} → Result A WideAt → Number → CaseFault → Option CaseFault
sum_fault r value above = bound_fault r value number_one above

-- the fault of the sum of a list of fractions in a component
unfoldable pub total_fault : List Ratio → ℕ → Place → CaseFault → Option CaseFault
total_fault xs c place above = sum_fault (in_component c (at place Add (written_sum (length xs) (ratio_at xs))))
    (sum_below number_field (length xs) (number_at xs)) above

-- the shares sum above 1
unfoldable pub share_sum : List DraftComponent → Option CaseFault
share_sum ks = total_fault (map (λ k. k.share) ks) 0 AtShareSum ShareSum

-- the first fault of the shares
unfoldable pub shares_fault : List DraftComponent → Option CaseFault
shares_fault ks = share_range ks or share_sum ks

-- ---- the weights

-- the first component without exactly one weight for each of `m` hypotheses
unfoldable pub weight_count : ℕ → List DraftComponent → Option CaseFault
weight_count m ks = first_of (λ c k. WeightCount c when not (length k.weights == m)) ks

-- the first weight of a component below 0
unfoldable pub weight_range : ℕ → DraftComponent → Option CaseFault
weight_range c k = first_of (λ i w. WeightRange c i when is_below_zero w) k.weights

-- the weights of a component sum above 1
unfoldable pub weight_sum : ℕ → DraftComponent → Option CaseFault
weight_sum c k = total_fault k.weights c AtWeightSum (WeightSum c)

-- the first fault of the weights of `m` hypotheses
unfoldable pub weights_fault : ℕ → List DraftComponent → Option CaseFault
weights_fault m ks = weight_count m ks or first_of weight_range ks or first_of weight_sum ks

-- ---- the edges

-- whether the edge goes from a hypothesis to itself and isn't 0
abbrev pub is_self_edge : DraftEdge → Bool
is_self_edge e = e.from == e.to && not (is_zero_entry e.entry)

-- the first such edge of a component
unfoldable pub self_edge : ℕ → DraftComponent → Option CaseFault
self_edge c k = first_of (λ _ e. SelfEdge c e.from when is_self_edge e) k.edges

-- the edge at a place has the ends of an earlier one
abbrev pub edge_again : ℕ → List DraftEdge → ℕ → DraftEdge → Option CaseFault
edge_again c es n e = RepeatedEdge c e.from e.to when list_any (has_ends e.from e.to) (take n es)

-- the first such edge of a component
unfoldable pub repeated_edge : ℕ → DraftComponent → Option CaseFault
repeated_edge c k = first_of (edge_again c k.edges) k.edges

-- the first edge of a component that isn't from 0 to 1, in the order of epsilon
unfoldable pub edge_range : ℕ → DraftComponent → Option CaseFault
edge_range c k = first_of (λ _ e. EdgeRange c e.from e.to when not (is_unit (entry_value e.entry))) k.edges

-- the first fault of the edges, one by one
unfoldable pub edges_fault : List DraftComponent → Option CaseFault
edges_fault ks = first_of self_edge ks or first_of repeated_edge ks or first_of edge_range ks

-- ---- the rows of edges

-- the sum of the coefficients of a power in a row of `m` entries, by ascending column
abbrev pub power_sum : ℕ → (ℕ → List Ratio) → ℕ → Option Terms
power_sum m row k = written_sum m (λ j. ratio_at (row j) k)

-- the sum of a row of `m` entries, power by power
unfoldable pub written_row : ℕ → (ℕ → List Ratio) → Option (List Terms)
written_row m row = do
  a ← power_sum m row 0
  b ← power_sum m row 1
  c ← power_sum m row 2
  d ← power_sum m row 3
  e ← power_sum m row 4
  Some (a ∷ b ∷ c ∷ d ∷ e ∷ [])

-- the sum of the row of `i` in a table of `m` rows and columns is above 1, in the order of epsilon
unfoldable pub row_sum : ℕ → ℕ → List (List Ratio) → ℕ → Option CaseFault
row_sum m c table i = sum_fault (in_component c (at (AtRowSum i) Add (written_row m (entry_at m table i))))
    (sum_below number_field m (λ j. entry_value (entry_at m table i j))) (RowSum c i)

-- the first such row of a component
unfoldable pub component_rows : ℕ → ℕ → Component → Option CaseFault
component_rows m c k = first_below (row_sum m c k.edges) m

-- the first fault of the rows of edges
unfoldable pub rows_fault : ℕ → List Component → Option CaseFault
rows_fault m ks = first_of (component_rows m) ks

-- ---- the p-values

-- there are stages and single p-values
unfoldable pub mixed : Option DraftStages → List (Option Ratio) → Option CaseFault
mixed stages ps = Mixed when (is_some stages && not (length ps == 0))

-- there are p-values, and not exactly one place for each of `m` hypotheses
unfoldable pub p_count : ℕ → List (Option Ratio) → Option CaseFault
p_count m ps = PCount (length ps) when (not (length ps == 0) && not (length ps == m))

-- the first p-value that isn't given, if some p-value is
unfoldable pub p_missing : List (Option Ratio) → Option CaseFault
p_missing ps = if list_any is_some ps then first_of (λ i p. PMissing i when is_none p) ps else None

-- whether a p-value is given and isn't from 0 to 1
abbrev pub is_outside : Option Ratio → Bool
is_outside None = false
is_outside (Some p) = not (is_unit (number_of p))

-- the first such p-value
unfoldable pub p_range : List (Option Ratio) → Option CaseFault
p_range ps = first_of (λ i p. PRange i when is_outside p) ps

-- the first fault of the p-values of `m` hypotheses
unfoldable pub p_values_fault : ℕ → List (Option Ratio) → Option CaseFault
p_values_fault m ps = p_count m ps or p_missing ps or p_range ps

-- ---- the stages

-- there is no stage
unfoldable pub no_stage : ℕ → Option CaseFault
no_stage count = NoStage when count == 0

-- there are more than 12 stages
unfoldable pub too_many_stages : ℕ → Option CaseFault
too_many_stages count = TooManyStages count when nat_lt 12 count

-- whether a list has a fraction for each stage; or a table has a step, and each of its steps a level for each stage
abbrev pub has_all_stages : ℕ → Spend → Bool
has_all_stages count (Shares fs) = length fs == count
has_all_stages count (Table ss) = not (length ss == 0) && list_all (λ s. length s.levels == count) ss

-- the first of `m` hypotheses that doesn't spend at each stage, or the first place past them where something is spent
unfoldable pub spend_count : ℕ → ℕ → List Spend → Option CaseFault
spend_count m count spends = first_of (λ i s. SpendCount i when (nat_le m i || not (has_all_stages count s))) spends
    or (SpendCount (length spends) when nat_lt (length spends) m)

-- a table has more than 32 steps
unfoldable pub too_many_steps : ℕ → Spend → Option CaseFault
too_many_steps i (Shares fs) = None
too_many_steps i (Table ss) = TooManySteps i (length ss) when nat_lt 32 (length ss)

-- the step before that at a place, if there is one
unfoldable pub step_before : List SpendStep → ℕ → Option SpendStep
step_before ss n = if n == 0 then None else slice_get ss (n - 1)

-- whether the weight from which a step counts is above that of the step before, if there is one
abbrev pub is_later : Option Ratio → Ratio → Bool
is_later None from = true
is_later (Some before) from = not (at_most (number_of from) (number_of before))

-- the first step of a table whose weight isn't above 0, at most 1 and above that of the step before
unfoldable pub step_order : ℕ → Spend → Option CaseFault
step_order i (Shares fs) = None
step_order i (Table ss) = first_of (λ n s. StepOrder i n when not (is_level_range s.from && is_later (option_map (λ x. x.from) (step_before ss n)) s.from)) ss

-- whether a level is below that of the same stage in the step before, if there is one
abbrev pub is_lower : Option Ratio → Ratio → Bool
is_lower None level = false
is_lower (Some before) level = not (at_most (number_of before) (number_of level))

-- the level of a stage in a step, if there is a step and it has one
abbrev pub level_of : Option SpendStep → ℕ → Option Ratio
level_of before t = option_and_then (λ s. slice_get s.levels t) before

-- the first level of a step that is below 0, or below that of the step before
unfoldable pub falling_level : ℕ → Option SpendStep → List Ratio → Option CaseFault
falling_level i before levels = first_of (λ t x. SpendRange i t when (is_below_zero x || is_lower (level_of before t) x)) levels

-- the first fraction below 0; or the first level, step by step, that is below 0 or below that of the step before
unfoldable pub spend_range : ℕ → Spend → Option CaseFault
spend_range i (Shares fs) = first_of (λ t f. SpendRange i t when is_below_zero f) fs
spend_range i (Table ss) = first_of (λ n s. falling_level i (step_before ss n) s.levels) ss

-- the fault of a sum and a bound that are written one after another
abbrev pub sum_and_bound_fault : {A B : Type 0} → Result A WideAt → Result B WideAt → Number → Number → CaseFault → Option CaseFault
sum_and_bound_fault (Err wide) r value bound above = Some (Wide wide)
sum_and_bound_fault (Ok s) r value bound above = bound_fault r value bound above

-- the levels of a step sum above its weight times the level `alpha`
unfoldable pub step_sum : ℕ → Ratio → SpendStep → Option CaseFault
step_sum i alpha s =
    sum_and_bound_fault
    (in_component 0 (at (AtSpendSum i) Add (written_sum (length s.levels) (ratio_at s.levels))))
    (in_component 0 (at (AtSpendSum i) Mul (written_mul (terms s.from) (terms alpha))))
    (sum_below number_field (length s.levels) (number_at s.levels)) (number_of s.from *ε number_of alpha) (SpendSum i)

-- the fractions of a hypothesis sum above 1, or those of a step above its bound
unfoldable pub spend_sum : Ratio → ℕ → Spend → Option CaseFault
spend_sum alpha i (Shares fs) = total_fault fs 0 (AtSpendSum i) (SpendSum i)
spend_sum alpha i (Table ss) = first_of (λ _ s. step_sum i alpha s) ss

-- the first fault of what `m` hypotheses spend
unfoldable pub spends_fault : ℕ → ℕ → Ratio → List Spend → Option CaseFault
spends_fault m count alpha spends = spend_count m count spends or first_of too_many_steps spends
    or first_of step_order spends or first_of spend_range spends or first_of (spend_sum alpha) spends

-- ---- the p-values that arrived

-- the first arrival at what is not a stage
unfoldable pub arrival_stage : ℕ → List Arrival → Option CaseFault
arrival_stage count values = first_of (λ n a. ArrivalStage n when not (is_stage count a.stage)) values

-- the arrival at a place has the hypothesis and the stage of an earlier one
abbrev pub repeated_arrival : List Arrival → ℕ → Arrival → Option CaseFault
repeated_arrival values n a = ArrivalRepeated n when list_any (is_of a.hypothesis a.stage) (take n values)

-- the first such arrival
unfoldable pub arrival_repeated : List Arrival → Option CaseFault
arrival_repeated values = first_of (repeated_arrival values) values

-- the first p-value that arrived and isn't from 0 to 1
unfoldable pub arrival_range : List Arrival → Option CaseFault
arrival_range values = first_of (λ n a. ArrivalRange n when not (is_unit (number_of a.p))) values

-- the first fault of the p-values that arrived
unfoldable pub arrivals_fault : ℕ → List Arrival → Option CaseFault
arrivals_fault count values = arrival_stage count values or arrival_repeated values or arrival_range values

-- the first fault of the stages of `m` hypotheses
unfoldable pub stages_fault : ℕ → Ratio → DraftStages → Option CaseFault
stages_fault m alpha s = no_stage s.count or too_many_stages s.count or spends_fault m s.count alpha s.spend or arrivals_fault s.count s.arrivals

-- ---- all tests

-- the tests before those of the edges
abbrev pub fault_before_edges : Draft → Option CaseFault
fault_before_edges d = names_fault d.names or components_fault d.components or part_too_long d or alpha_range d.alpha
    or shares_fault d.components or weights_fault (length d.names) d.components

-- the tests before those of the rows of edges
unfoldable pub early_fault : Draft → Option CaseFault
early_fault d = fault_before_edges d or edges_fault d.components

-- the later tests of `m` hypotheses, with the components whose edges are in tables
unfoldable pub late_fault : ℕ → Ratio → Option DraftStages → List (Option Ratio) → List Component → Option CaseFault
late_fault m alpha stages ps ks = rows_fault m ks or mixed stages ps or p_values_fault m ps or option_and_then (stages_fault m alpha) stages

-- the first error in a draft
unfoldable pub case_fault : Draft → Option CaseFault
case_fault d = early_fault d or late_fault (length d.names) d.alpha d.stages d.p (content_of d).components
