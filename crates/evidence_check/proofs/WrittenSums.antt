-- Written tests and sums by value.
use Rattle.std.proofs.Common.{◌≡◌, inl, inr, sym, ap, ap₂, ◌∙◌, ℕ, zero, suc, ◌<◌, Bool, true, false, not, Result, Ok, Err, Option, Some}
use Rattle.std.proofs.Common.{None, arith}
use Rattle.std.specs.Prelude.{IfOk}
use Rattle.std.specs.Ordering.{is_le}
use Rattle.std.specs.declared.cmp.Ordering.{Ordering}
use Rattle.field_core.specs.declared.place.Op.{Op}
use Rattle.field_core.specs.declared.place.Op.TheVariants.{Add, Mul}
use Rattle.field_core.specs.declared.place.Place.{Place}
use Rattle.field_core.specs.declared.place.TooWide.{TooWide}
use Rattle.field_core.specs.Number.{Number}
use Rattle.field_core.specs.Arithmetic.{number_zero, ◌+ε◌, ◌*ε◌, number_sign, number_compare}
use Rattle.field_core.specs.Order.{◌≤ε◌, IsPositive}
use Rattle.field_core.specs.Field.{not_less}
use Rattle.field_core.specs.NumberField.{number_field}
use Rattle.field_core.specs.Sums.{sum_below}
use Rattle.field_core.specs.Kind.{Parts, Kind, or_wide, sign_of}
use Rattle.field_core.specs.Exact.{IsExact, Gives, value_of}
use Rattle.field_core.specs.Steps.{◌>>=◌}
use Rattle.field_core.specs.Laws.NumberFieldLaws.{sum_last, sum_nothing}
use Rattle.field_core.specs.Laws.Order.{subtract_zero}
use Rattle.field_core.specs.Laws.NumberLaws.{number_add_zero, number_add_assoc}
use Rattle.field_core.specs.Laws.AtMostLaws.{positive_or_not, positive-not_at_most}
use Rattle.field_core.proofs.Live.{true_or_false}
use Rattle.case_model.specs.Draft.{at_most}
use Rattle.case_model.proofs.Comparisons.{at_most_is}
use Rattle.evidence_check.specs.CheckSteps.{require, written_at}
use Rattle.evidence_check.specs.declared.verdict.Reason.{Reason}
use Rattle.evidence_check.specs.WrittenCheck.{is_above_zero, added, with_product}
use Rattle.evidence_check.proofs.Tells.{Tells, tells_bind, tells_ok, tells_if, require_tells, written_tells}

-- ---- tests by value

sign_low : (x : Number) → not_less (number_sign x) ≡ true → number_zero ≤ε x
unfolding number_field
sign_low x h = ap (λ v. not_less (number_sign v)) (subtract_zero x) ∙ h

low_sign : (x : Number) → number_zero ≤ε x → not_less (number_sign x) ≡ true
unfolding number_field
low_sign x h = sym (ap (λ v. not_less (number_sign v)) (subtract_zero x)) ∙ h

up_to : (x y : Number) (o : Ordering) → o ≡ number_compare x y → is_le o ≡ at_most x y
up_to x y o e = ap is_le e ∙ sym (at_most_is x y)

pub true_false : (b : Bool) → b ≡ true → b ≡ false → ⊥
true_false b h g = absurd (cc)

pub positive_test : (x : Number) → is_above_zero x ≡ true → IsPositive x
unfolding is_above_zero
positive_test x h = elim (positive_or_not x) [ inl p ↦ p | inr q ↦ absurd (true_false _ h (ap not q)) ]

pub test_positive : (x : Number) → is_above_zero x ≡ false → ¬ IsPositive x
unfolding is_above_zero
test_positive x h p = elim (true_or_false (at_most x number_zero)) [
  | inl t ↦ positive-not_at_most x p t
  | inr f ↦ true_false _ (ap not f) h
]

-- an operation that isn't refused
pub some_of_wide : {A : Type 0} (op : Op) (r : Option A) (x : A) → or_wide op r ≡ Ok x → r ≡ Some x
some_of_wide op (Some y) x h = let e : y ≡ x = cc in ap Some e
some_of_wide op None x h = absurd (cc)

module _ (K : Kind) (IsStored : Parts → Type 0) (X : IsExact K IsStored) where
  -- a number that isn't below 0
  pub sign_tells : (x : Parts) (v : Number) (why : Reason) (Bad : Reason → Type 0) → Gives IsStored x v → (¬ (number_zero ≤ε v) → Bad why)
      → Tells (require (not_less (sign_of x)) why) (λ _. number_zero ≤ε v) Bad
  sign_tells x v why Bad G below =
      let e : sign_of x ≡ number_sign v = X.sign x G.stored ∙ ap number_sign G.value in
      require_tells (not_less (sign_of x)) why (number_zero ≤ε v) Bad (λ h. sign_low v (ap not_less (sym e) ∙ h))
      (λ h. below (λ low. true_false _ (ap not_less e ∙ low_sign v low) h))

  -- a comparison that isn't refused
  pub compared : (x y : Parts) (u v : Number) (o : Ordering) → Gives IsStored x u → Gives IsStored y v → K.compare x y ≡ Ok o
      → is_le o ≡ at_most u v
  compared x y u v o G H e = up_to u v o (told (K.compare x y) o e (X.compare x y G.stored H.stored) ∙ ap₂ number_compare G.value H.value)
    where
      told : (r : Result Ordering TooWide) (o : Ordering) → r ≡ Ok o → IfOk r (λ o. o ≡ number_compare (value_of x) (value_of y))
          → o ≡ number_compare (value_of x) (value_of y)
      told (Ok q) o e h = let f : q ≡ o = cc in sym f ∙ h
      told (Err q) o e h = absurd (cc)

  -- sums of products
  pub added_tells : (component : ℕ → ℕ) (place : Place) (start : Parts) (f g : ℕ → Parts) (v : Number) (u w : ℕ → Number) (n : ℕ)
      (Bad : Reason → Type 0)
      → Gives IsStored start v → ((i : ℕ) → i < n → Gives IsStored (f i) (u i)) → ((i : ℕ) → i < n → Gives IsStored (g i) (w i))
      → Tells (added K component place start f g n) (λ x. Gives IsStored x (v +ε sum_below number_field n (λ i. u i *ε w i))) Bad
  unfolding added with_product
  added_tells component place start f g v u w zero Bad S U W =
      tells_ok start _ _ (record { stored = S.stored; value = S.value ∙ sym (nothing v (λ i. u i *ε w i)) })
    where
      nothing : (v : Number) (h : ℕ → Number) → v +ε sum_below number_field 0 h ≡ v
      nothing v h = ap (λ s. v +ε s) (sum_nothing h) ∙ number_add_zero v
  added_tells component place start f g v u w (suc n) Bad S U W =
      let c = component n in
      tells_bind (added K component place start f g n)
      (λ sum. written_at c place (or_wide Mul (K.written Mul (f n) (g n))) >>= λ product. written_at c place (or_wide Add (K.written Add sum product)))
      (λ x. Gives IsStored x (v +ε sum_below number_field n (λ i. u i *ε w i))) _ Bad
      (added_tells component place start f g v u w n Bad S (λ i p. U i (omega arith)) (λ i p. W i (omega arith)))
      (λ sum G. tells_bind (written_at c place (or_wide Mul (K.written Mul (f n) (g n))))
      (λ product. written_at c place (or_wide Add (K.written Add sum product)))
      (λ x. or_wide Mul (K.written Mul (f n) (g n)) ≡ Ok x) _ Bad
      (written_tells c place (or_wide Mul (K.written Mul (f n) (g n))) Bad)
      (λ product d.
      let F = U n (omega arith) in
      let H = W n (omega arith) in
      let e = some_of_wide Mul (K.written Mul (f n) (g n)) product d in
      let s = X.stored Mul _ _ product F.stored H.stored tt e in
      let m : value_of product ≡ u n *ε w n = X.exact Mul _ _ product F.stored H.stored tt e ∙ ap₂ ◌*ε◌ F.value H.value in
      tells_if (written_at c place (or_wide Add (K.written Add sum product))) _ _ _
      (λ x d.
      let a = some_of_wide Add (K.written Add sum product) x d in
      record {
        stored = X.stored Add _ _ x G.stored s tt a;
        value = X.exact Add _ _ x G.stored s tt a ∙ ap₂ ◌+ε◌ G.value m ∙ number_add_assoc v _ _
            ∙ ap (λ t. v +ε t) (sym (sum_last n (λ i. u i *ε w i)));
      })
      (written_tells c place (or_wide Add (K.written Add sum product)) Bad)))
