-- The check of a case.
use Rattle.std.proofs.Common.{◌≡◌, refl, sym, ap, subst, ◌↔◌, ℕ, ◌+◌, ◌*◌, ◌<◌, List, [], ◌∷◌, length, map, Result, Ok, Err}
use Rattle.field_core.specs.Arithmetic.{number_zero}
use Rattle.field_core.specs.Order.{◌≤ε◌}
use Rattle.field_core.specs.Kind.{Parts, Kind, ok_map}
use Rattle.field_core.specs.Exact.{Gives}
use Rattle.field_core.specs.View.{terms}
use Rattle.field_core.specs.Laws.NumberFieldLaws.{field_zero}
use Rattle.field_core.specs.declared.place.Place.{Place}
use Rattle.field_core.specs.declared.place.Place.TheVariants.{Edge}
use Rattle.field_core.specs.declared.place.TooWide.{TooWide}
use Rattle.field_core.specs.declared.ratio.Ratio.{Ratio}
use Rattle.fraction.specs.View.{number_of}
use Rattle.case_model.specs.declared.inputs.Inputs.{Inputs}
use Rattle.case_model.specs.declared.inputs.Inputs.TheVariants.{Bare, Single, Staged}
use Rattle.case_model.specs.Sums.{ratio_at, number_at}
use Rattle.case_model.specs.Entries.{entry_at, entry_value}
use Rattle.case_model.specs.Content.{Content, component_at, entangled, ForSingle, IsRejectedIn}
use Rattle.case_model.specs.Validity.{IsValidContent}
use Rattle.case_model.specs.ClosedTest.{IsRejected}
use Rattle.case_model.specs.LegalOrder.{IsListed}
use Rattle.case_model.proofs.ExactSums.{stored_single, value_single}
use Rattle.case_model.proofs.Thresholds.{good_level}
use Rattle.case_model.proofs.ValidContents.{shape, valid_content}
use Rattle.case_numbers.specs.Numbers.{Numbers, numbers_of, CanRunIn, kind_of, IsStoredIn}
use Rattle.case_numbers.proofs.Components.{is_component, place, can_run, can_load}
use Rattle.case_numbers.proofs.LoadedNumbers.{exact_in, weight_loaded, edge_loaded}
use Rattle.evidence_check.specs.Evidence.{KeepsOthers, listed}
use Rattle.evidence_check.specs.EvidenceParts.{StepParts, KeepParts, step_values}
use Rattle.evidence_check.specs.CheckSteps.{written_at}
use Rattle.evidence_check.specs.BrokenConditions.{IsBrokenBy}
use Rattle.evidence_check.specs.declared.event.CheckEvent.TheVariants.{Broken}
use Rattle.evidence_check.specs.declared.verdict.Reason.{Reason}
use Rattle.evidence_check.specs.WrittenCheck.{written_check}
use Rattle.evidence_check.specs.CheckStatements.{IsLoaded, AreStoredSteps}
use Rattle.evidence_check.specs.CaseCheck.{p_values_of, IsSingle, given_or, written_edge, AllLoad, loaded_case, edge_load, row_load, component_load, all_loads}
use Rattle.evidence_check.specs.CaseCheck.{check_in, case_check, AreStepsOf, values_in, MeetsIn}
use Rattle.evidence_check.proofs.GoodSteps.{listed_rejected, kept_decides}
use Rattle.evidence_check.proofs.Tells.{Tells, TellsAt, tells_bind_at, numbered_tells, all_tells}
use Rattle.evidence_check.proofs.WholeCheck.{check_tells}
use Rattle.evidence_check.proofs.BrokenNotMet.{broken_not_met}

read_tells : (k : ℕ) (place : Place) (r : Result Parts TooWide) (Bad : Reason → Type 0)
    → Tells (ok_map {B = Unit {0}} (λ _. tt) (written_at k place r)) (λ _. (x : Parts) × (r ≡ Ok x)) Bad
unfolding written_at
read_tells k place (Ok x) Bad = record { ok = λ u h. (x, refl); bad = λ reason h. absurd (cc) }
read_tells k place (Err e) Bad = record { ok = λ u h. absurd (cc); bad = λ reason h. absurd (cc) }

-- ---- loading

module _ (n : Numbers) (c : Content) where
  IsLoadedEdge : ℕ → ℕ → ℕ → Type 0
  IsLoadedEdge k l j = (x : Parts) × (written_edge n c k l j ≡ Ok x)

  load_tells : (k l j : ℕ) (Bad : Reason → Type 0) → Tells (edge_load n c k l j) (λ _. IsLoadedEdge k l j) Bad
  unfolding edge_load IsLoadedEdge
  load_tells k l j Bad = read_tells k (Edge l j) (written_edge n c k l j) Bad

  each_load_tells : (Bad : Reason → Type 0) → Tells (all_loads n c)
      (λ _. (k : ℕ) → k < length c.components → (l : ℕ) → l < length c.names → (j : ℕ) → j < length c.names → IsLoadedEdge k l j) Bad
  unfolding all_loads component_load row_load
  each_load_tells Bad =
      all_tells (length c.components) _ (λ k. (l : ℕ) → l < length c.names → (j : ℕ) → j < length c.names → IsLoadedEdge k l j) Bad
      (λ k p. all_tells (length c.names) _ (λ l. (j : ℕ) → j < length c.names → IsLoadedEdge k l j) Bad
      (λ l q. all_tells (length c.names) (edge_load n c k l) (IsLoadedEdge k l) Bad (λ j r. load_tells k l j Bad)))

  -- where all edges are loaded, each can be
  pub loads_done : all_loads n c ≡ Ok tt → AllLoad n c
  unfolding IsLoadedEdge
  loads_done h k l j p q r = (each_load_tells (λ _. Unit {0})).ok tt h k p l q j r

-- a case that is loaded has the values of its graph
module _ (c : Content) (V : IsValidContent c) (n : Numbers) (P : CanRunIn n c) (A : AllLoad n c) where
  edge_holds : (k l j : ℕ) → k < length c.components → l < length c.names → j < length c.names
      → Gives (IsStoredIn n) (given_or (kind_of n).zero (written_edge n c k l j))
      (entry_value (entry_at (length c.names) (component_at c.components k).edges l j))
  unfolding written_edge entry_at
  edge_holds k l j p q r =
      let a = A k l j p q r in
      let C = is_component c V k p in
      let H = edge_loaded n (entry_at (length c.names) (component_at c.components k).edges l j) a.0
      (can_load n c P k p (l * length c.names + j) (place (length c.names) (component_at c.components k) C l j q r)) a.1 in
      subst (λ x. Gives (IsStoredIn n) x (entry_value (entry_at (length c.names) (component_at c.components k).edges l j)))
      (sym (ap (given_or (kind_of n).zero) a.1)) (record { stored = H.stored; value = H.value })

  pub is_loaded : IsLoaded (IsStoredIn n) (loaded_case (kind_of n) n c) (entangled c)
  unfolding entangled loaded_case
  is_loaded = record {
    components = refl;
    share = λ k p. let s = (component_at c.components k).share in record { stored = stored_single (terms s) s.valid; value = value_single (terms s) };
    weight = λ k i p q. let H = weight_loaded n (ratio_at (component_at c.components k).weights i) in record { stored = H.stored; value = H.value };
    edge = edge_holds;
  }

module _ (c : Content) (V : IsValidContent c) where
  same_m : (m : ℕ) → m ≡ length c.names → m ≡ (entangled c).hypotheses
  unfolding entangled
  same_m m e = e

  abbrev IsBrokenIn : List StepParts → List KeepParts → ℕ → Reason → Type 0
  IsBrokenIn steps keeps = IsBrokenBy (entangled c) (number_at (p_values_of c.inputs)) (number_of c.alpha) (values_in c steps keeps)

  rest_tells : (steps : List StepParts) (keeps : List KeepParts) → AreStepsOf c steps keeps → AllLoad (numbers_of c) c
      → TellsAt (written_check (kind_of (numbers_of c)) (loaded_case (kind_of (numbers_of c)) (numbers_of c) c) steps keeps) (λ _. MeetsIn c steps keeps)
      (IsBrokenIn steps keeps)
  unfolding loaded_case
  rest_tells steps keeps S loaded =
      check_tells (kind_of (numbers_of c)) (IsStoredIn (numbers_of c)) (exact_in (numbers_of c)) (loaded_case (kind_of (numbers_of c)) (numbers_of c) c)
      (entangled c) (valid_content c V) (is_loaded c V (numbers_of c) (can_run c) loaded) steps keeps
      (subst (λ m. AreStoredSteps (kind_of (numbers_of c)) (IsStoredIn (numbers_of c)) m steps keeps) (same_m (length c.names) refl) S)

  pub case_tells : (steps : List StepParts) (keeps : List KeepParts) → AreStepsOf c steps keeps
      → TellsAt (case_check c steps keeps) (λ _. MeetsIn c steps keeps) (IsBrokenIn steps keeps)
  unfolding case_check check_in
  case_tells steps keeps S =
      tells_bind_at _ (λ _. written_check (kind_of (numbers_of c)) (loaded_case (kind_of (numbers_of c)) (numbers_of c) c) steps keeps)
      (λ _. AllLoad (numbers_of c) c) _ (IsBrokenIn steps keeps)
      (numbered_tells 0 (all_loads (numbers_of c) c) (λ _. AllLoad (numbers_of c) c) (IsBrokenIn steps keeps)
      (record {
        ok = λ u h. loads_done (numbers_of c) c h;
        bad = λ reason h. absurd ((each_load_tells (numbers_of c) c (λ _. ⊥)).bad reason h);
      }))
      (λ _ loaded. rest_tells steps keeps S loaded)

  -- a check that finds a broken condition
  pub case_fair : (steps : List StepParts) (keeps : List KeepParts) → AreStepsOf c steps keeps → (n : ℕ) (reason : Reason)
      → case_check c steps keeps ≡ Err (record { number = n; event = Broken reason }) → ¬ MeetsIn c steps keeps
  case_fair steps keeps S n reason h = broken_not_met _ _ _ _ n reason ((case_tells steps keeps S).bad n reason h)

in_inputs : (P : List Ratio → Type 0) (i : Inputs) → IsSingle i → P (p_values_of i) → ForSingle i P
in_inputs P (Single ps) s h = h
in_inputs P Bare s h = absurd s
in_inputs P (Staged t) s h = absurd s

out_of_inputs : (P : List Ratio → Type 0) (i : Inputs) → ForSingle i P → P (p_values_of i)
out_of_inputs P (Single ps) h = h
out_of_inputs P Bare h = absurd h
out_of_inputs P (Staged t) h = absurd h

same_size : (c : Content) → length c.names ≡ (entangled c).hypotheses
unfolding entangled
same_size c = refl

pub listed_names : (K : Kind) (steps : List StepParts) → listed (map (step_values K) steps) ≡ map (λ s. s.hypothesis) steps
listed_names K [] = refl
listed_names K (s ∷ steps) = ap (λ js. s.hypothesis ∷ js) (listed_names K steps)

module _ (c : Content) (V : IsValidContent c) (inputs : IsSingle c.inputs) (steps : List StepParts) (keeps : List KeepParts) (S : AreStepsOf c steps keeps)
    (ok : case_check c steps keeps ≡ Ok tt) where
  meets : MeetsIn c steps keeps
  meets = (case_tells c V steps keeps S).ok tt ok

  low : number_zero ≤ε number_of c.alpha
  low = subst (λ z. z ≤ε number_of c.alpha) field_zero (good_level c.alpha (shape c V).level).nonneg

  in_case : (j : ℕ) → IsRejected (entangled c) (number_at (p_values_of c.inputs)) (number_of c.alpha) j → IsRejectedIn c j
  in_case j r = in_inputs (λ ps. IsRejected (entangled c) (number_at ps) (number_of c.alpha) j) c.inputs inputs r

  out_of_case : (j : ℕ) → IsRejectedIn c j → IsRejected (entangled c) (number_at (p_values_of c.inputs)) (number_of c.alpha) j
  out_of_case j r = out_of_inputs (λ ps. IsRejected (entangled c) (number_at ps) (number_of c.alpha) j) c.inputs r

  names : listed (map (step_values (kind_of (numbers_of c))) steps) ≡ map (λ s. s.hypothesis) steps
  names = listed_names (kind_of (numbers_of c)) steps

  pub case_rejected : (j : ℕ) → IsListed (map (λ s. s.hypothesis) steps) j → IsRejectedIn c j
  case_rejected j l = in_case j
      (listed_rejected (entangled c) (valid_content c V) (number_at (p_values_of c.inputs)) (number_of c.alpha) low _ meets j
      (subst (λ js. IsListed js j) (sym names) l))

  pub case_decides : KeepsOthers (length c.names) (values_in c steps keeps) → (j : ℕ) → IsListed (map (λ s. s.hypothesis) steps) j ↔ IsRejectedIn c j
  case_decides all j =
      let d = kept_decides (entangled c) (valid_content c V) (number_at (p_values_of c.inputs)) (number_of c.alpha) low _ meets (others_there all) j in
      (λ l. in_case j (d.0 (subst (λ js. IsListed js j) (sym names) l)), λ r. subst (λ js. IsListed js j) names (d.1 (out_of_case j r)))
    where
      others_there : KeepsOthers (length c.names) (values_in c steps keeps) → KeepsOthers (entangled c).hypotheses (values_in c steps keeps)
      others_there all = subst (λ m. KeepsOthers m (values_in c steps keeps)) (same_size c) all
