-- Sums of products, one product after the other.
use Rattle.std.proofs.Common.{◌≡◌, ◌⊎◌, inl, inr, refl, sym, ap, ◌∙◌, ℕ, zero, suc, ◌+◌, ◌<◌, ◌≤◌, Result, Ok, Err, add-one}
use Rattle.std.proofs.Common.{arith}
use Rattle.field_core.specs.declared.place.Place.{Place}
use Rattle.field_core.specs.declared.place.TooWide.{TooWide}
use Rattle.field_core.specs.declared.place.Op.TheVariants.{Add, Mul}
use Rattle.field_core.specs.Kind.{Parts, Kind, ok_map, or_wide}
use Rattle.field_core.specs.Steps.{◌>>=◌}
use Rattle.evidence_check.specs.declared.event.CheckEvent.{CheckEvent}
use Rattle.evidence_check.specs.CheckSteps.{written_at}
use Rattle.evidence_check.specs.WrittenCheck.{added, with_product}

at_or_past : (n m : ℕ) → n ≤ suc m → (n ≡ suc m) ⊎ (n ≤ m)
at_or_past n m h = grind arith

-- an operation at its place, seen through `v`
pub written_map : {A B : Type 0} (v : A → B) (c : ℕ) (place : Place) (r : Result A TooWide)
    → ok_map v (written_at c place r) ≡ written_at c place (ok_map v r)
unfolding written_at
written_map v c place (Ok x) = refl
written_map v c place (Err e) = refl

module _ {F : Type 0} (v : F → Parts) (K : Kind) (c : ℕ) (place : Place) (s x y : Parts) (product : Result F TooWide)
    (m : ok_map v product ≡ or_wide Mul (K.written Mul x y)) where
  with_product_is : with_product K c place s x
      y ≡ (written_at c place (or_wide Mul (K.written Mul x y)) >>= λ product. written_at c place (or_wide Add (K.written Add s product)))
  unfolding with_product
  with_product_is = refl

  product_is : written_at c place (or_wide Mul (K.written Mul x y)) ≡ ok_map v (written_at c place product)
  product_is = ap (written_at c place) (sym m) ∙ sym (written_map v c place product)

  pub product_refused : (e : CheckEvent) → written_at c place product ≡ Err e → with_product K c place s x y ≡ Err e
  product_refused e h = rw (with_product_is, product_is, h) refl

  pub product_done : (p : F) (sum : Result F TooWide) → written_at c place product ≡ Ok p → ok_map v sum ≡ or_wide Add (K.written Add s (v p))
      → ok_map v (written_at c place sum) ≡ with_product K c place s x y
  product_done p sum h a = rw (with_product_is, product_is, h) (written_map v c place sum ∙ ap (written_at c place) a)

module _ (K : Kind) (component : ℕ → ℕ) (place : Place) (start : Parts) (f g : ℕ → Parts) where
  pub added_none : added K component place start f g 0 ≡ Ok start
  unfolding added
  added_none = refl

  added_suc : (n : ℕ) → added K component place start f g
      (suc n) ≡ (added K component place start f g n >>= λ s. with_product K (component n) place s (f n) (g n))
  unfolding added
  added_suc n = refl

  pub added_next : (n : ℕ) (s : Parts) → added K component place start f g n ≡ Ok s
      → added K component place start f g (n + 1) ≡ with_product K (component n) place s (f n) (g n)
  added_next n s e = rw (add-one, added_suc n, e) refl

  -- what is refused on the way is refused in the end
  pub added_refused : (m n : ℕ) (e : CheckEvent) → n ≤ m → added K component place start f g n ≡ Err e
      → added K component place start f g m ≡ Err e
  added_refused zero n e h k = let z : n ≡ 0 = omega arith in rw z at k
  added_refused (suc m) n e h k = elim (at_or_past n m h) [
    | inl same ↦ rw same at k
    | inr below ↦ added_suc m ∙ ap (λ r. r >>= (λ s. with_product K (component m) place s (f m) (g m))) (added_refused m n e below k)
  ]

  module _ {F : Type 0} (v : F → Parts) (n : ℕ) (s x y : Parts) (r : Result F CheckEvent)
      (before : added K component place start f g n ≡ Ok s) (p : x ≡ f n)
      (q : y ≡ g n) (w : ok_map v r ≡ with_product K (component n) place s x y) where
    next_is : added K component place start f g (n + 1) ≡ ok_map v r
    next_is = added_next n s before ∙ ap (λ x. with_product K (component n) place s x (g n)) (sym p) ∙ ap (with_product K (component n) place s x) (sym q)
        ∙ sym w

    pub added_stops : (m : ℕ) (e : CheckEvent) → n < m → r ≡ Err e → ok_map v r ≡ added K component place start f g m
    added_stops m e b h = ap (ok_map v) h ∙ sym (added_refused m (n + 1) e (omega arith) (next_is ∙ ap (ok_map v) h))

    pub added_goes : (z : F) → r ≡ Ok z → added K component place start f g (n + 1) ≡ Ok (v z)
    added_goes z h = next_is ∙ ap (ok_map v) h

  pub added_end : (n m : ℕ) (s : Parts) → n ≡ m → added K component place start f g n ≡ Ok s → Ok s ≡ added K component place start f g m
  added_end n m s e h = sym h ∙ ap (added K component place start f g) e

-- the steps of a sum of products
pub ruleset added_steps = (added_none, added_next, added_refused)
