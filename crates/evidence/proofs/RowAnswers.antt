-- Rows of the code, as they are stored.
use Rattle.std.proofs.Common.{◌≡◌, refl, sym, ap, ap₂, ◌∙◌, ℕ, zero, suc, ◌+◌, List, [], ◌∷◌, ◌++◌, map, get_or, set, replicate}
use Rattle.std.proofs.Common.{length, zero-add}
use Rattle.std.proofs.Math.ListN.{get_or-map}
use Rattle.std.proofs.lemmas.List.{map-set, map_push, replicate_more}
use Rattle.std.proofs.lemmas.List.FromFn.{map-range_with_len_more}
use Rattle.std.specs.List.{range_with_len}
use Rattle.field_core.specs.Kind.{Parts}
use Rattle.evidence.specs.FlowTables.{row}

module _ {F : Type 0} (parts : F → Parts) where
  -- a row of a table, as it is stored
  pub row_is : (table : List (List F)) (l : ℕ) (xs : List F) → xs ≡ get_or table l [] → map parts xs ≡ row (map (map parts) table) l
  row_is table l xs e = ap (map parts) e ∙ sym (get_or-map (map parts) table l [])

  -- this number of copies of one number
  pub all_same : (x : F) (z : Parts) (n : ℕ) → parts x ≡ z → map parts (replicate n x) ≡ replicate n z
  all_same x z zero e = refl
  all_same x z (suc n) e = ap₂ (λ y ys. y ∷ ys) e (all_same x z n e)

  -- a zero for each number
  pub zeros_for : (z : Parts) (xs : List F) → replicate (length xs) z ≡ map (λ x. z) (map parts xs)
  zeros_for z [] = refl
  zeros_for z (x ∷ xs) = ap (λ ys. z ∷ ys) (zeros_for z xs)

-- one position more
pub range_more : {A : Type 0} (f : ℕ → A) (n : ℕ) → map f (range_with_len 0 (n + 1)) ≡ map f (range_with_len 0 n) ++ f n ∷ []
range_more f n = map-range_with_len_more f 0 n n (zero-add n)

-- a number put in a row
pub put_seen : {A B : Type 0} (f : A → B) (xs : List A) (r : ℕ) (x : A) → map f (set xs r x) ≡ set (map f xs) r (f x)
put_seen f xs r x = map-set f xs r x

-- the rows of the tables before the first step
pub ruleset unit_steps = (range_more, put_seen)

pub ruleset zero_steps = (replicate_more, map_push)
