-- What flows bring and what exits allow, in the numbers of a case, is from 0 to 1.
use Rattle.std.proofs.Common.{◌≡◌, refl, sym, ap, subst, ◌∙◌, ℕ, zero, suc, ◌<◌, true, false, List, [], ◌∷◌, map, length, Result, Ok}
use Rattle.std.specs.Ordering.{is_le}
use Rattle.std.specs.declared.cmp.Ordering.{Ordering}
use Rattle.field_core.specs.declared.place.Place.TheVariants.{Level}
use Rattle.field_core.specs.Arithmetic.{number_zero}
use Rattle.field_core.specs.Order.{◌≤ε◌}
use Rattle.field_core.specs.Kind.{Parts, Kind}
use Rattle.field_core.specs.Exact.{IsExact, Gives, value_of}
use Rattle.field_core.specs.LimitParts.{IsUnit}
use Rattle.field_core.specs.Sets.{whole, set_of}
use Rattle.field_core.specs.Runs.{IsOrder}
use Rattle.case_model.specs.Content.{Content, entangled}
use Rattle.case_model.specs.Validity.{IsValidContent}
use Rattle.case_model.proofs.ValidContents.{valid_content}
use Rattle.case_numbers.specs.Numbers.{Numbers}
use Rattle.evidence_check.specs.Evidence.{AreFlows}
use Rattle.evidence_check.specs.EvidenceParts.{numbers_at, part_at}
use Rattle.evidence_check.specs.CheckSteps.{written_at, all_below}
use Rattle.evidence_check.specs.declared.event.CheckEvent.{CheckEvent}
use Rattle.evidence_check.specs.WrittenCheck.{brought_sum, allowed_sum, flow_check, exit_check}
use Rattle.evidence_check.specs.CheckStatements.{IsLoaded}
use Rattle.evidence_check.specs.CaseCheck.{loaded_case}
use Rattle.evidence_check.proofs.CheckedSums.{bring_tells}
use Rattle.evidence_check.proofs.CheckedSteps.{level_unit, back, all_flows_tell}
use Rattle.evidence_check.proofs.CheckedKeeps.{allowed_unit, all_exits_tell}

-- what is at a place of stored numbers is stored
pub stored_at : {F : Type 0} (K : Kind) (IsStored : Parts → Type 0) → IsStored K.zero → (parts : F → Parts) → ((x : F) → IsStored (parts x))
    → (xs : List F) (e : ℕ) → IsStored (numbers_at K (map parts xs) e)
unfolding numbers_at
stored_at K IsStored h parts each [] zero = h
stored_at K IsStored h parts each [] (suc e) = h
stored_at K IsStored h parts each (x ∷ xs) zero = each x
stored_at K IsStored h parts each (x ∷ xs) (suc e) = stored_at K IsStored h parts each xs e

module _ {F : Type 0} (K : Kind) (IsStored : Parts → Type 0) (X : IsExact K IsStored) (parts : F → Parts) (each : (x : F) → IsStored (parts x))
    (n : Numbers) (c : Content) (V : IsValidContent c) (D : IsLoaded IsStored (loaded_case K n c) (entangled c)) (js : List ℕ)
    (o : IsOrder (length c.names) whole js) (i k : ℕ) (p : i < length c.components) (q : k < length c.names) (xs : List F) (ys : List Parts)
    (same : map parts xs ≡ ys) where
  gives : (e : ℕ) → Gives IsStored (numbers_at K (map parts xs) e) (value_of (numbers_at K (map parts xs) e))
  gives e = record { stored = stored_at K IsStored X.zero_stored parts each xs e; value = refl }

  pub brought_unit_at : set_of js k ≡ false → AreFlows ((entangled c).graph i) js (λ e. value_of (numbers_at K ys e)) → (sum : Parts)
      → brought_sum K (loaded_case K n c) js (Level k) (numbers_at K (map parts xs)) k i ≡ Ok sum → IsUnit (value_of sum)
  unfolding entangled
  brought_unit_at new A sum s =
      let G = (bring_tells K IsStored X (loaded_case K n c) (entangled c) (valid_content c V) D js o i p (numbers_at K (map parts xs))
      (λ e. value_of (numbers_at K (map parts xs) e)) gives (Level k) k (λ _. Unit {0}) q).ok sum s in
      subst IsUnit (sym G.value)
      (level_unit K IsStored X (loaded_case K n c) (entangled c) (valid_content c V) D js o i p (numbers_at K (map parts xs))
      (λ e. value_of (numbers_at K (map parts xs) e)) gives k q new
      (subst (λ zs. AreFlows ((entangled c).graph i) js (λ e. value_of (numbers_at K zs e))) (sym same) A))

  pub allowed_unit_at : ((r : ℕ) → r < length js → number_zero ≤ε value_of (numbers_at K ys r)) → (sum : Parts) (order : Ordering)
      → allowed_sum K (loaded_case K n c) js (numbers_at K (map parts xs)) k i ≡ Ok sum
      → written_at i (Level k) (K.compare sum K.one) ≡ Ok order → is_le order ≡ true → IsUnit (value_of sum)
  unfolding entangled
  allowed_unit_at low sum order s w le =
      allowed_unit K IsStored X (loaded_case K n c) (entangled c) (valid_content c V) D js o i p k q (numbers_at K (map parts xs))
      (λ e. value_of (numbers_at K (map parts xs) e)) gives
      (subst (λ zs. (r : ℕ) → r < length js → number_zero ≤ε value_of (numbers_at K zs r)) (sym same) low) sum order s w le

-- so is what is at a place of a component
pub part_stored : {F : Type 0} (K : Kind) (IsStored : Parts → Type 0) → IsStored K.zero → (parts : F → Parts) → ((x : F) → IsStored (parts x))
    → (lists : List (List F)) (c e : ℕ) → IsStored (part_at K (map (map parts) lists) c e)
unfolding numbers_at
part_stored K IsStored h parts each [] zero zero = h
part_stored K IsStored h parts each [] zero (suc e) = h
part_stored K IsStored h parts each [] (suc c) zero = h
part_stored K IsStored h parts each [] (suc c) (suc e) = h
part_stored K IsStored h parts each (xs ∷ lists) zero e = stored_at K IsStored h parts each xs e
part_stored K IsStored h parts each (xs ∷ lists) (suc c) e = part_stored K IsStored h parts each lists c e

-- a component for each of the case
pub case_all : (K : Kind) (n : Numbers) (c : Content) (f : ℕ → Result (Unit {0}) CheckEvent) (m : ℕ) (r : Result (Unit {0}) CheckEvent)
    → m ≡ length c.components → r ≡ all_below m f → all_below (loaded_case K n c).components f ≡ r
unfolding loaded_case
case_all K n c f m r e h = sym (h ∙ ap (λ m. all_below m f) e)

module _ {F : Type 0} (K : Kind) (IsStored : Parts → Type 0) (X : IsExact K IsStored) (parts : F → Parts) (each : (x : F) → IsStored (parts x))
    (n : Numbers) (c : Content) (V : IsValidContent c) (D : IsLoaded IsStored (loaded_case K n c) (entangled c)) (js : List ℕ)
    (o : IsOrder (length c.names) whole js) (lists : List (List F)) (k : ℕ) (q : k < length c.names) (u : Unit {0}) where
  pub flows_met : all_below (loaded_case K n c).components
      (λ i. all_below (length js) (flow_check K (loaded_case K n c) js (part_at K (map (map parts) lists) i) i)) ≡ Ok u
      → (i : ℕ) → i < length c.components → AreFlows ((entangled c).graph i) js (λ e. value_of (part_at K (map (map parts) lists) i e))
  unfolding entangled
  flows_met h i p =
      (all_flows_tell K IsStored X (loaded_case K n c) (entangled c) (valid_content c V) D js o (record { hypothesis = k; flows = map (map parts) lists }) q
      (part_stored K IsStored X.zero_stored parts each lists)).ok u h i
      (back K IsStored X (loaded_case K n c) (entangled c) (valid_content c V) D i p)

  pub exits_met : all_below (loaded_case K n c).components
      (λ i. all_below (length js) (exit_check K (loaded_case K n c) js (part_at K (map (map parts) lists) i) k i)) ≡ Ok u
      → (i : ℕ) → i < length c.components → (r : ℕ) → r < length js → number_zero ≤ε value_of (part_at K (map (map parts) lists) i r)
  unfolding entangled
  exits_met h i p r b =
      ((all_exits_tell K IsStored X (loaded_case K n c) (entangled c) (valid_content c V) D js o (record { hypothesis = k; exits = map (map parts) lists }) q
      (part_stored K IsStored X.zero_stored parts each lists)).ok u h i
      (back K IsStored X (loaded_case K n c) (entangled c) (valid_content c V) D i p) r b).0
