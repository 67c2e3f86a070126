-- The check of a flow, and that of an exit, step by step.
use Rattle.std.proofs.Common.{◌≡◌, refl, sym, ap, ◌∙◌, ℕ, Bool, List, length, Result, Ok, Err}
use Rattle.std.specs.Ordering.{is_le}
use Rattle.std.specs.declared.cmp.Ordering.{Ordering}
use Rattle.field_core.specs.Field.{not_less}
use Rattle.field_core.specs.declared.place.Place.TheVariants.{Bound}
use Rattle.field_core.specs.Kind.{Parts, Kind, sign_of}
use Rattle.field_core.specs.Steps.{◌>>=◌}
use Rattle.evidence_check.specs.Evidence.{at_place}
use Rattle.evidence_check.specs.EvidenceParts.{numbers_at}
use Rattle.evidence_check.specs.declared.event.CheckEvent.{CheckEvent}
use Rattle.evidence_check.specs.declared.verdict.Reason.TheVariants.{Negative, Exceeds}
use Rattle.evidence_check.specs.CheckSteps.{require, written_at, all_below}
use Rattle.evidence_check.specs.WrittenCheck.{Loaded, brought_sum, flow_check}

module _ (K : Kind) (L : Loaded) (js : List ℕ) (y : ℕ → Parts) (c r : ℕ) where
  abbrev sum_at : ℕ → Result Parts CheckEvent
  sum_at at = brought_sum K L js (Bound at) y at c

  flow_check_is : flow_check K L js y c
      r ≡ (require (not_less (sign_of (y r))) (Negative c r) >>= λ _. sum_at (at_place js r) >>= λ sum. written_at c (Bound (at_place js r))
      (K.compare (y r) sum) >>= λ order. require (is_le order) (Exceeds c r))
  unfolding flow_check
  flow_check_is = refl

  module _ (flow : Parts) (at : ℕ) (test : Bool) (f : flow ≡ y r) (a : at ≡ at_place js r) (t : test ≡ not_less (sign_of flow)) where
    tested : require test (Negative c r) ≡ require (not_less (sign_of (y r))) (Negative c r)
    tested = ap (λ b. require b (Negative c r)) (t ∙ ap (λ x. not_less (sign_of x)) f)

    module _ (u : Unit {0}) (d : require test (Negative c r) ≡ Ok u) where
      module _ (sum : Parts) (s : sum_at at ≡ Ok sum) where
        compared_is : written_at c (Bound at) (K.compare flow sum) ≡ written_at c (Bound (at_place js r)) (K.compare (y r) sum)
        compared_is = ap (λ i. written_at c (Bound i) (K.compare flow sum)) a ∙ ap (λ x. written_at c (Bound (at_place js r)) (K.compare x sum)) f

        summed : sum_at (at_place js r) ≡ Ok sum
        summed = ap sum_at (sym a) ∙ s

        pub order_refused : (e : CheckEvent) → written_at c (Bound at) (K.compare flow sum) ≡ Err e → flow_check K L js y c r ≡ Err e
        order_refused e h = rw (flow_check_is, ← tested, d, summed, ← compared_is, h) refl

        pub flow_done : (order : Ordering) → written_at c (Bound at) (K.compare flow sum) ≡ Ok order
            → flow_check K L js y c r ≡ require (is_le order) (Exceeds c r)
        flow_done order h = rw (flow_check_is, ← tested, d, summed, ← compared_is, h) refl

-- a flow for each earlier step, and those of a component
pub flows_are : (K : Kind) (L : Loaded) (js : List ℕ) (c n : ℕ) (xs ys : List Parts) (r : Result (Unit {0}) CheckEvent) → n ≡ length js → xs ≡ ys
    → r ≡ all_below n (flow_check K L js (numbers_at K xs) c) → r ≡ all_below (length js) (flow_check K L js (numbers_at K ys) c)
flows_are K L js c n xs ys r m e h = h ∙ ap (λ n. all_below n (flow_check K L js (numbers_at K xs) c)) m
    ∙ ap (λ xs. all_below (length js) (flow_check K L js (numbers_at K xs) c)) e
