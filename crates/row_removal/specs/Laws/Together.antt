-- What is done to all items of a list, or to none.
use Rattle.std.proofs.Common.{◌≡◌, ℕ, zero, suc, ◌<◌, List, [], ◌∷◌, length, get_or, refl, ap, subst, arith, Option, Some, None}
use Rattle.field_core.specs.Sized.{◌>>=◌}
use Rattle.row_removal.specs.Clearing.{map_all}
use Rattle.field_core.proofs.Results.{same_some}

module _ {A B : Type 0} (f : A → Option B) where
  -- each item gives the item at its place
  pub record AreGiven (xs : List A) (ys : List B) : Type 0 where
    pub count : length ys ≡ length xs
    pub each : (k : ℕ) (d : A) (e : B) → k < length xs → f (get_or xs k d) ≡ Some (get_or ys k e)

  given_more : (x : A) (xs : List A) (y : B) (ys : List B) → f x ≡ Some y → AreGiven xs ys → AreGiven (x ∷ xs) (y ∷ ys)
  given_more x xs y ys h R = record { count = ap suc R.count; each = each }
    where
      each : (k : ℕ) (d : A) (e : B) → k < suc (length xs) → f (get_or (x ∷ xs) k d) ≡ Some (get_or (y ∷ ys) k e)
      each zero d e i = h
      each (suc k) d e i = R.each k d e (omega arith)

  given_by : (x : A) (xs : List A) (ys : List B) → ((zs : List B) → map_all f xs ≡ Some zs → AreGiven xs zs) → map_all f (x ∷ xs) ≡ Some ys
      → AreGiven (x ∷ xs) ys
  unfolding map_all
  given_by x xs ys rest h = go (f x) refl (map_all f xs) refl h
    where
      go : (a : Option B) → f x ≡ a → (b : Option (List B)) → map_all f xs ≡ b → (a >>= (λ y. b >>= (λ zs. Some (y ∷ zs)))) ≡ Some ys
          → AreGiven (x ∷ xs) ys
      go None e b g h = absurd (cc)
      go (Some y) e None g h = absurd (cc)
      go (Some y) e (Some zs) g h = subst (AreGiven (x ∷ xs)) (same_some (y ∷ zs) ys h) (given_more x xs y zs e (rest zs g))

  pub all_given : (xs : List A) (ys : List B) → map_all f xs ≡ Some ys → AreGiven xs ys
  unfolding map_all
  all_given [] ys h = subst (AreGiven []) (same_some [] ys h) (record { count = refl; each = λ k d e i. absurd (omega arith) })
  all_given (x ∷ xs) ys h = given_by x xs ys (λ zs g. all_given xs zs g) h

  pub from_given : (d : A) (e : B) (xs : List A) (ys : List B) → length ys ≡ length xs
      → ((k : ℕ) → k < length xs → f (get_or xs k d) ≡ Some (get_or ys k e)) → map_all f xs ≡ Some ys
  unfolding map_all
  from_given d e [] [] h each = refl
  from_given d e [] (y ∷ ys) h each = absurd (omega arith)
  from_given d e (x ∷ xs) [] h each = absurd (omega arith)
  from_given d e (x ∷ xs) (y ∷ ys) h each = rw (each 0 (omega arith), from_given d e xs ys (omega arith) (λ k i. each (suc k) (omega arith))) refl

  pub none_given : (d : A) (xs : List A) (k : ℕ) → k < length xs → f (get_or xs k d) ≡ None → map_all f xs ≡ None
  unfolding map_all
  none_given d [] k i h = absurd (omega arith)
  none_given d (x ∷ xs) zero i h = rw h refl
  none_given d (x ∷ xs) (suc k) i h = at (f x) (map_all f xs) (none_given d xs k (omega arith) h)
    where
      at : (a : Option B) (b : Option (List B)) → b ≡ None → (a >>= (λ y. b >>= (λ ys. Some (y ∷ ys)))) ≡ None
      at None b e = refl
      at (Some y) b e = rw e refl
