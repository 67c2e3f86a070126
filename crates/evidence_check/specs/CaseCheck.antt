-- The written check of evidence for a case: first each edge is loaded, and then the evidence is checked (this project's own).
use Rattle.std.specs.Prelude.{◌≡◌, ◌<◌, ◌↔◌, ℕ, List, [], map, length, Result, Ok, Err}
use Rattle.field_core.specs.Kind.{Parts, Kind, ok_map}
use Rattle.field_core.specs.View.{terms}
use Rattle.field_core.specs.Steps.{◌>>=◌}
use Rattle.field_core.specs.declared.place.Place.TheVariants.{Edge}
use Rattle.field_core.specs.declared.place.TooWide.{TooWide}
use Rattle.field_core.specs.declared.ratio.Ratio.{Ratio}
use Rattle.fraction.specs.Plain.{single}
use Rattle.fraction.specs.View.{number_of}
use Rattle.case_model.specs.declared.inputs.Inputs.{Inputs}
use Rattle.case_model.specs.declared.inputs.Inputs.TheVariants.{Bare, Single, Staged}
use Rattle.case_model.specs.Sums.{ratio_at, number_at}
use Rattle.case_model.specs.Entries.{entry_at}
use Rattle.case_model.specs.Content.{Content, component_at, entangled, ForSingle, IsRejectedIn}
use Rattle.case_model.specs.Validity.{IsValidContent}
use Rattle.case_model.specs.LegalOrder.{IsListed}
use Rattle.case_numbers.specs.Numbers.{Numbers, numbers_of, kind_of, IsStoredIn, loaded_weight, loaded_edge}
use Rattle.evidence_check.specs.Evidence.{EvidenceValues, MeetsConditions, KeepsOthers}
use Rattle.evidence_check.specs.BrokenConditions.{IsBrokenBy}
use Rattle.evidence_check.specs.EvidenceParts.{StepParts, KeepParts}
use Rattle.evidence_check.specs.declared.event.CheckEvent.{CheckEvent}
use Rattle.evidence_check.specs.declared.event.CheckEventAt.{CheckEventAt}
use Rattle.evidence_check.specs.declared.event.CheckEvent.TheVariants.{Broken, Undefined}
use Rattle.evidence_check.specs.declared.verdict.Reason.{Reason}
use Rattle.evidence_check.specs.declared.verdict.Verdict.{Verdict}
use Rattle.evidence_check.specs.declared.verdict.Verdict.TheVariants.{Yes, No}
use Rattle.evidence_check.specs.declared.verdict.CheckWide.{CheckWide}
use Rattle.evidence_check.specs.CheckSteps.{written_at, numbered, all_below}
use Rattle.evidence_check.specs.WrittenCheck.{Loaded, written_check}
use Rattle.evidence_check.specs.CheckStatements.{AreStoredSteps, evidence_values}

-- the result of an operation, or 0 if it was refused
abbrev pub given_or : Parts → Result Parts TooWide → Parts
given_or none (Ok x) = x
given_or none (Err e) = none

-- the p-values, if there are single ones
abbrev pub p_values_of : Inputs → List Ratio
p_values_of (Single ps) = ps
p_values_of Bare = []
p_values_of (Staged s) = []

-- there are single p-values
abbrev pub IsSingle : Inputs → Type 0
IsSingle inputs = ForSingle inputs (λ ps. Unit {0})

-- (a case, in these numbers)
module _ (n : Numbers) (c : Content) where
  -- the written edge from `l` to `j` in the component `k`
  unfoldable pub written_edge : ℕ → ℕ → ℕ → Result Parts TooWide
  written_edge k l j = loaded_edge n (entry_at (length c.names) (component_at c.components k).edges l j)

  -- each edge can be loaded
  abbrev pub AllLoad : Type 0
  AllLoad = (k l j : ℕ) → k < length c.components → l < length c.names → j < length c.names → (x : Parts) × (written_edge k l j ≡ Ok x)

  -- an edge is loaded
  unfoldable pub edge_load : ℕ → ℕ → ℕ → Result (Unit {0}) CheckEvent
  edge_load k l j = ok_map (λ _. tt) (written_at k (Edge l j) (written_edge k l j))

  -- the edges from `l` in a component are loaded
  unfoldable pub row_load : ℕ → ℕ → Result (Unit {0}) CheckEvent
  row_load k l = all_below (length c.names) (edge_load k l)

  -- the edges of a component are loaded, row by row
  unfoldable pub component_load : ℕ → Result (Unit {0}) CheckEvent
  component_load k = all_below (length c.names) (row_load k)

  -- all edges are loaded, component by component
  unfoldable pub all_loads : Result (Unit {0}) CheckEvent
  all_loads = all_below (length c.components) component_load

-- the share of a component
abbrev pub share_in : Content → ℕ → Parts
share_in c k = single (terms (component_at c.components k).share)

-- (the numbers are of this kind)
module _ (K : Kind) (n : Numbers) (c : Content) where
  -- the case as it is loaded; what can't be loaded is 0
  unfoldable pub loaded_case : Loaded
  loaded_case = record {
    components = length c.components;
    share = share_in c;
    weight = λ k i. loaded_weight n (ratio_at (component_at c.components k).weights i);
    edge = λ k l j. given_or K.zero (written_edge n c k l j);
    p = number_at (p_values_of c.inputs);
    alpha = number_of c.alpha;
  }

  -- the check: the loading is step 0
  unfoldable pub check_in : List StepParts → List KeepParts → Result (Unit {0}) CheckEventAt
  check_in steps keeps = do
    _ ← numbered 0 (all_loads n c)
    written_check K loaded_case steps keeps

-- the check of a case
unfoldable pub case_check : Content → List StepParts → List KeepParts → Result (Unit {0}) CheckEventAt
case_check c = check_in (kind_of (numbers_of c)) (numbers_of c) c

-- the answer of a check that an event ended at this step or keep
abbrev pub verdict_by : ℕ → CheckEvent → Result Verdict CheckWide
verdict_by n (Broken reason) = Ok (No n reason)
verdict_by n (Undefined w) = Err (record { step = n; at = w })

-- the answer of a check that ended so: yes if nothing was found
unfoldable pub verdict_of : Result (Unit {0}) CheckEventAt → Result Verdict CheckWide
verdict_of (Ok u) = Ok Yes
verdict_of (Err e) = verdict_by e.number e.event

-- steps and keeps of hypotheses of a case, with numbers as the case stores them
abbrev pub AreStepsOf : Content → List StepParts → List KeepParts → Type 0
AreStepsOf c = AreStoredSteps (kind_of (numbers_of c)) (IsStoredIn (numbers_of c)) (length c.names)

-- steps and keeps by the values of their numbers, which are those of a case
abbrev pub values_in : Content → List StepParts → List KeepParts → EvidenceValues
values_in c = evidence_values (kind_of (numbers_of c))

-- the steps and keeps meet the conditions of evidence for a case
abbrev pub MeetsIn : Content → List StepParts → List KeepParts → Type 0
MeetsIn c steps keeps = MeetsConditions (entangled c) (number_at (p_values_of c.inputs)) (number_of c.alpha) (values_in c steps keeps)

-- If the check of a case finds nothing, the evidence meets its conditions.
abbrev pub CaseChecksAreSound : Type 0
CaseChecksAreSound =
    (c : Content) (steps : List StepParts) (keeps : List KeepParts) → IsValidContent c → AreStepsOf c steps keeps
    → case_check c steps keeps ≡ Ok tt → MeetsIn c steps keeps

-- If the check of a case finds a broken condition, the evidence doesn't meet its conditions.
abbrev pub CaseChecksAreFair : Type 0
CaseChecksAreFair =
    (c : Content) (steps : List StepParts) (keeps : List KeepParts) (n : ℕ) (reason : Reason) → IsValidContent c → AreStepsOf c steps keeps
    → case_check c steps keeps ≡ Err (record { number = n; event = Broken reason }) → ¬ MeetsIn c steps keeps

-- The condition that the check of a case names, by its number and its reason, is broken, and the steps and keeps before it are good.
abbrev pub CaseChecksNameBroken : Type 0
CaseChecksNameBroken =
    (c : Content) (steps : List StepParts) (keeps : List KeepParts) (n : ℕ) (reason : Reason) → IsValidContent c → AreStepsOf c steps keeps
    → case_check c steps keeps ≡ Err (record { number = n; event = Broken reason })
    → IsBrokenBy (entangled c) (number_at (p_values_of c.inputs)) (number_of c.alpha) (values_in c steps keeps) n reason

-- If the check of a case finds nothing, the closed test of the case rejects each hypothesis of a step.
abbrev pub CheckedAreRejected : Type 0
CheckedAreRejected =
    (c : Content) (steps : List StepParts) (keeps : List KeepParts) (j : ℕ) → IsValidContent c → IsSingle c.inputs → AreStepsOf c steps keeps
    → case_check c steps keeps ≡ Ok tt → IsListed (map (λ s. s.hypothesis) steps) j → IsRejectedIn c j

-- If the check of a case finds nothing and all other hypotheses have keeps, the closed test rejects no other.
abbrev pub CheckedAreAllRejected : Type 0
CheckedAreAllRejected =
    (c : Content) (steps : List StepParts) (keeps : List KeepParts) (j : ℕ) → IsValidContent c → IsSingle c.inputs → AreStepsOf c steps keeps
    → KeepsOthers (length c.names) (values_in c steps keeps) → case_check c steps keeps ≡ Ok tt
    → IsListed (map (λ s. s.hypothesis) steps) j ↔ IsRejectedIn c j
