-- The check of an exit, and the limit of what exits allow, step by step.
use Rattle.std.proofs.Common.{◌≡◌, refl, sym, ap, ◌∙◌, ℕ, Bool, true, false, List, length, Result, Ok, Err}
use Rattle.std.specs.Ordering.{is_le}
use Rattle.std.specs.declared.cmp.Ordering.{Ordering}
use Rattle.field_core.specs.Field.{not_less}
use Rattle.field_core.specs.declared.place.Place.{Place}
use Rattle.field_core.specs.declared.place.TooWide.{TooWide}
use Rattle.field_core.specs.declared.place.Place.TheVariants.{Level, Exit}
use Rattle.field_core.specs.Kind.{Parts, Kind, sign_of}
use Rattle.field_core.specs.LimitParts.{limit_terms}
use Rattle.field_core.specs.Steps.{◌>>=◌}
use Rattle.fraction.specs.Plain.{single}
use Rattle.evidence_check.specs.Evidence.{at_place}
use Rattle.evidence_check.specs.EvidenceParts.{numbers_at}
use Rattle.evidence_check.specs.declared.event.CheckEvent.{CheckEvent}
use Rattle.evidence_check.specs.declared.verdict.Reason.{Reason}
use Rattle.evidence_check.specs.declared.verdict.Reason.TheVariants.{NegativeExit, ShortExit, AboveOne}
use Rattle.evidence_check.specs.CheckSteps.{require, written_at, all_below}
use Rattle.evidence_check.specs.WrittenCheck.{Loaded, leaving_sum, exit_check, allowed_sum, allowed_limit}

-- a condition that isn't broken
pub require_met : (b : Bool) (reason : Reason) (u : Unit {0}) → require b reason ≡ Ok u → b ≡ true
unfolding require
require_met true reason u h = refl
require_met false reason u h = absurd (cc)

-- a comparison with 1
pub order_is : (K : Kind) (s y : Parts) (c : ℕ) (place : Place) (r : Result Ordering TooWide) (q x : Result Ordering CheckEvent) → r ≡ K.compare s y
    → y ≡ K.one → q ≡ written_at c place r → q ≡ x → written_at c place (K.compare s K.one) ≡ x
order_is K s y c place r q x a b d e = ap (written_at c place) (ap (K.compare s) (sym b) ∙ sym a) ∙ sym d ∙ e

module _ (K : Kind) (L : Loaded) (js : List ℕ) (h : ℕ → Parts) (k c r : ℕ) where
  exit_check_is : exit_check K L js h k c
      r ≡ (require (not_less (sign_of (h r))) (NegativeExit c r) >>= λ _. leaving_sum K L js h k c r >>= λ sum. written_at c (Exit (at_place js r) k)
      (K.compare sum (h r)) >>= λ order. require (is_le order) (ShortExit c r))
  unfolding exit_check
  exit_check_is = refl

  module _ (exit : Parts) (test : Bool) (f : exit ≡ h r) (t : test ≡ not_less (sign_of exit)) where
    tested : require test (NegativeExit c r) ≡ require (not_less (sign_of (h r))) (NegativeExit c r)
    tested = ap (λ b. require b (NegativeExit c r)) (t ∙ ap (λ x. not_less (sign_of x)) f)

    pub exit_negative : (e : CheckEvent) → require test (NegativeExit c r) ≡ Err e → exit_check K L js h k c r ≡ Err e
    exit_negative e g = rw (exit_check_is, ← tested, g) refl

    module _ (u : Unit {0}) (d : require test (NegativeExit c r) ≡ Ok u) where
      pub leaving_refused : (e : CheckEvent) → leaving_sum K L js h k c r ≡ Err e → exit_check K L js h k c r ≡ Err e
      leaving_refused e g = rw (exit_check_is, ← tested, d, g) refl

      module _ (sum : Parts) (s : leaving_sum K L js h k c r ≡ Ok sum) (at : ℕ) (a : at ≡ at_place js r) where
        compared_is : written_at c (Exit at k) (K.compare sum exit) ≡ written_at c (Exit (at_place js r) k) (K.compare sum (h r))
        compared_is = ap (λ i. written_at c (Exit i k) (K.compare sum exit)) a ∙ ap (λ x. written_at c (Exit (at_place js r) k) (K.compare sum x)) f

        pub exit_order_refused : (e : CheckEvent) → written_at c (Exit at k) (K.compare sum exit) ≡ Err e → exit_check K L js h k c r ≡ Err e
        exit_order_refused e g = rw (exit_check_is, ← tested, d, s, ← compared_is, g) refl

        pub exit_done : (order : Ordering) → written_at c (Exit at k) (K.compare sum exit) ≡ Ok order
            → exit_check K L js h k c r ≡ require (is_le order) (ShortExit c r)
        exit_done order g = rw (exit_check_is, ← tested, d, s, ← compared_is, g) refl

-- an exit for each step, and those of a component
pub exits_are : (K : Kind) (L : Loaded) (js : List ℕ) (k c n : ℕ) (xs ys : List Parts) (r : Result (Unit {0}) CheckEvent) → n ≡ length js → xs ≡ ys
    → r ≡ all_below n (exit_check K L js (numbers_at K xs) k c) → r ≡ all_below (length js) (exit_check K L js (numbers_at K ys) k c)
exits_are K L js k c n xs ys r m e h = h ∙ ap (λ n. all_below n (exit_check K L js (numbers_at K xs) k c)) m
    ∙ ap (λ xs. all_below (length js) (exit_check K L js (numbers_at K xs) k c)) e

module _ (K : Kind) (L : Loaded) (js : List ℕ) (xs ys : List Parts) (same : xs ≡ ys) (k c : ℕ) where
  limit_is : allowed_limit K L js (numbers_at K ys) k
      c ≡ (allowed_sum K L js (numbers_at K xs) k c >>= λ sum. written_at c (Level k) (K.compare sum K.one) >>= λ order. require (is_le order)
      (AboveOne c) >>= λ _. Ok (single (limit_terms sum)))
  unfolding allowed_limit
  limit_is = ap (λ ys. allowed_limit K L js (numbers_at K ys) k c) (sym same)

  pub allowed_refused : (e : CheckEvent) → allowed_sum K L js (numbers_at K xs) k c ≡ Err e → allowed_limit K L js (numbers_at K ys) k c ≡ Err e
  allowed_refused e g = rw (limit_is, g) refl

  module _ (sum : Parts) (s : allowed_sum K L js (numbers_at K xs) k c ≡ Ok sum) where
    pub one_refused : (e : CheckEvent) → written_at c (Level k) (K.compare sum K.one) ≡ Err e → allowed_limit K L js (numbers_at K ys) k c ≡ Err e
    one_refused e g = rw (limit_is, s, g) refl

    module _ (order : Ordering) (o : written_at c (Level k) (K.compare sum K.one) ≡ Ok order) where
      pub above_one : (e : CheckEvent) → require (is_le order) (AboveOne c) ≡ Err e → allowed_limit K L js (numbers_at K ys) k c ≡ Err e
      above_one e g = rw (limit_is, s, o, g) refl

      pub limit_found : (u : Unit {0}) → require (is_le order) (AboveOne c) ≡ Ok u
          → allowed_limit K L js (numbers_at K ys) k c ≡ Ok (single (limit_terms sum))
      limit_found u g = rw (limit_is, s, o, g) refl
