-- The arrivals of a case may come one after another.
use Rattle.std.proofs.Common.{◌≡◌, refl, sym, ap, ◌∙◌, ℕ, zero, suc, ◌<◌, arith, List, [], ◌∷◌, ◌++◌, length, slice_get}
use Rattle.std.proofs.Common.{true, ◌&&◌, nat_le, Some}
use Rattle.std.proofs.lemmas.Bool.Decides.{nat_tests}
use Rattle.std.specs.List.{Contains, list_all}
use Rattle.case_model.specs.declared.draft_stages.Arrival.{Arrival}
use Rattle.case_model.specs.declared.inputs.Inputs.{Inputs}
use Rattle.case_model.specs.declared.inputs.Inputs.TheVariants.{Bare, Single, Staged}
use Rattle.case_model.specs.Draft.{arrives_among, is_stage, is_p_value}
use Rattle.case_model.specs.Content.{Content, is_arrival, AreStages, IfStaged}
use Rattle.case_model.specs.Validity.{EachTwo, AreValidInputs, IsValidContent}
use Rattle.case_model.specs.StagedCase.{stages_in}
use Rattle.case_model.proofs.DraftTests.{all_each}
use Rattle.case_model.proofs.Holding.{both}
use Rattle.case_model.proofs.StageShapes.{stage_shape}
use Rattle.staged_levels.specs.Studies.{IsStage, MayArrive}
use Rattle.staged_levels.specs.Looks.{arrivals_of}

-- ---- no two of the same hypothesis at the same stage

abbrev AreDistinct : List Arrival → Type 0
AreDistinct arrivals = EachTwo arrivals (λ a b. ¬ ((a.hypothesis ≡ b.hypothesis) × (a.stage ≡ b.stage)))

distinct_arrivals : (c : Content) → IsValidContent c → AreDistinct (arrivals_of c.inputs)
distinct_arrivals c v = by c.inputs v.inputs
  where
    by : (i : Inputs) → AreValidInputs (length c.names) c.alpha i → AreDistinct (arrivals_of i)
    by Bare w i j x y l e f = absurd (cc e)
    by (Single ps) w i j x y l e f = absurd (cc e)
    by (Staged s) w i j x y l e f = w.once i j x y l e f

-- ---- each of a hypothesis at a stage, with a p-value

record IsGood (c : Content) (a : Arrival) : Type 0 where
  below : a.hypothesis < length c.names
  stage : IsStage c a.stage
  p : is_p_value a.p ≡ true

good_one : (c : Content) (a : Arrival) → is_arrival (length c.names) (stages_in c.inputs) a ≡ true → IsGood c a
good_one c a h =
    let first = both (arrives_among (length c.names) a && is_stage (stages_in c.inputs) a.stage) (is_p_value a.p) h in
    let second = both (arrives_among (length c.names) a) (is_stage (stages_in c.inputs) a.stage) first.left in
    let below = second.left in
    let stage = both (nat_le 1 a.stage) (nat_le a.stage (stages_in c.inputs)) second.right in
    let low = stage.left in
    let high = stage.right in
    record {
      below = grind (arith, nat_tests, below);
      stage = record { first = grind (arith, nat_tests, low); last = grind (arith, nat_tests, high) };
      p = first.right;
    }

good_all : (c : Content) → IsValidContent c → list_all (is_arrival (length c.names) (stages_in c.inputs)) (arrivals_of c.inputs) ≡ true
good_all c v = by_inputs c.inputs (stage_shape c v)
  where
    by_inputs : (i : Inputs) → IfStaged i (AreStages (length c.names)) → list_all (is_arrival (length c.names) (stages_in i)) (arrivals_of i) ≡ true
    by_inputs (Staged s) h = h.arrivals
    by_inputs Bare h = refl
    by_inputs (Single ps) h = refl

-- ---- one after another

get_here : (values more : List Arrival) (a : Arrival) → slice_get (values ++ (a ∷ more)) (length values) ≡ Some a
get_here [] more a = refl
get_here (v ∷ values) more a = get_here values more a

get_before : (values more : List Arrival) (a : Arrival) → Contains values a → (i : ℕ) × (i < length values) × (slice_get (values ++ more) i ≡ Some a)
get_before [] more a (k, q, e) = absurd (omega (arith, q))
get_before (v ∷ values) more a (zero, q, e) = (0, omega arith, ap Some e)
get_before (v ∷ values) more a (suc k, q, e) = let r = get_before values more a (k, omega (arith, q), e) in (suc r.0, (let s = r.1 in omega (arith, s)), r.2)

module _ (c : Content) (all : List Arrival) (good : list_all (is_arrival (length c.names) (stages_in c.inputs)) all ≡ true) (distinct : AreDistinct all) where
  may_next : (values more : List Arrival) (a : Arrival) → values ++ (a ∷ more) ≡ all → MayArrive c values a
  may_next values more a e =
      let here : slice_get all (length values) ≡ Some a = ap (λ xs. slice_get xs (length values)) (sym e) ∙ get_here values more a in
      let g = good_one c a (all_each (is_arrival (length c.names) (stages_in c.inputs)) all good (length values) a here) in
      record {
        below = g.below;
        stage = g.stage;
        unknown = λ n.
            let r = get_before values (a ∷ more) n.arrival n.arrived in
            distinct r.0 (length values) n.arrival a r.1 (ap (λ xs. slice_get xs r.0) (sym e) ∙ r.2) here (n.hypothesis, n.stage);
        p = g.p;
      }

-- at its place each arrival of a case may come
pub arrival_may : (c : Content) → IsValidContent c → (values more : List Arrival) (a : Arrival) → values ++ (a ∷ more) ≡ arrivals_of c.inputs
    → MayArrive c values a
arrival_may c v = may_next c (arrivals_of c.inputs) (good_all c v) (distinct_arrivals c v)
