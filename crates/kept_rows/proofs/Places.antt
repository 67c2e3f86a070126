-- Rows at places that count from one.
use Rattle.std.proofs.Common.{◌≡◌, ◌<◌, ◌+◌, ◌+ℤ◌, ℕ, ℤ, suc, pos, List, [], ◌∷◌, ◌++◌, length, fold, map, flat_map, refl, ap, ◌∙◌, arith, Less}
use Rattle.std.proofs.lemmas.Int.{ints}
use Rattle.std.proofs.lemmas.Bool.Decides.{nat_tests}
use Rattle.std.specs.List.{AllByRecursion}
use Rattle.sqlite.specs.declared.types.Value.TheVariants.{Null, Int}
use Rattle.sqlite.specs.Order.{Row, value_cmp}
use Rattle.sqlite.specs.Term.{Env}
use Rattle.sqlite.specs.Query.{output, output_cmp, Output}
use Rattle.sqlite.specs.Edit.{next_rowid, id_in}
use Rattle.sqlite.specs.Tree.{put_row, rowid, IsAscending}
use Rattle.sqlite_value.proofs.OrderLemmas.{value_cmp-Int}
use Rattle.kept_rows.specs.Table.{Kept, shown, stored, all_shown}
use Rattle.kept_rows.proofs.Texts.{query}

below : (m n : ℕ) → m < n → value_cmp (Int (pos m)) (Int (pos n)) ≡ Less
below m n h = value_cmp-Int (pos m) (pos n) ∙ grind (arith, ints, nat_tests)

one_up : (n : ℕ) → pos n +ℤ pos 1 ≡ pos (suc n)
one_up n = grind (arith, ints)

next_from : (n : ℕ) (rows : List Kept) (z : ℤ) → z ≡ pos n → fold (λ _ r. id_in (rowid r) +ℤ pos 1) z (stored n rows) ≡ pos (n + length rows)
next_from n [] z is = is ∙ ap pos (omega arith)
next_from n (r ∷ rows) z is = next_from (suc n) rows (pos n +ℤ pos 1) (one_up n) ∙ ap pos (omega arith)

-- the next place is after all others
pub next_is : (rows : List Kept) → next_rowid (stored 1 rows) ≡ pos (1 + length rows)
next_is rows = next_from 1 rows (pos 1) refl

pub put_after : (n k : ℕ) (rows : List Kept) (row : Kept) → k ≡ n + length rows → put_row (Int (pos k) ∷ Null ∷ shown row) (stored n rows) ≡ stored n (rows ++ row ∷ [])
put_after n k [] row is = let same : k ≡ n = omega (arith, is) in ap (λ m. (Int (pos m) ∷ Null ∷ shown row) ∷ []) same
put_after n k (r ∷ rows) row is = rw (below n k (omega (arith, is))) (ap (λ l. (Int (pos n) ∷ Null ∷ shown r) ∷ l) (put_after (suc n) k rows row (omega (arith, is))))

-- what the query sorts by, and what it shows
abbrev pub outs : ℕ → List Kept → List Output
outs n [] = []
outs n (r ∷ rows) = (Int (pos n) ∷ [], shown r) ∷ outs (suc n) rows

abbrev pub env_of : Row → List Env
env_of r = ([] ∷ r ∷ []) ∷ []

pub outs_are : (n : ℕ) (rows : List Kept) → map (output query) (flat_map env_of (stored n rows)) ≡ outs n rows
outs_are n [] = refl
outs_are n (r ∷ rows) = ap (λ l. (Int (pos n) ∷ [], shown r) ∷ l) (outs_are (suc n) rows)

later : (m n : ℕ) (row : Row) (rows : List Kept) → m < n → AllByRecursion (λ y. output_cmp query (Int (pos m) ∷ [], row) y ≡ Less) (outs n rows)
later m n row [] low = tt
later m n row (r ∷ rows) low = (rw (below m n low) refl, later m (suc n) row rows (omega (arith, low)))

pub outs_rise : (n : ℕ) (rows : List Kept) → IsAscending (λ x y. output_cmp query x y ≡ Less) (outs n rows)
outs_rise n [] = tt
outs_rise n (r ∷ rows) = (later n (suc n) (shown r) rows (omega arith), outs_rise (suc n) rows)

pub outs_show : (n : ℕ) (rows : List Kept) → map (λ (o : Output). o.1) (outs n rows) ≡ all_shown rows
outs_show n [] = refl
outs_show n (r ∷ rows) = ap (λ l. shown r ∷ l) (outs_show (suc n) rows)
