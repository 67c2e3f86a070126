-- Written sums, item by item.
use Rattle.std.proofs.Common.{◌≡◌, sym, ap, ◌∙◌, ℕ, zero, suc, ◌+◌, ◌<◌, ◌≤◌, List, length, get_or, Option, Some, None, Result, Ok}
use Rattle.std.proofs.Common.{Err, arith, inl, inr, ◌⊎◌}
use Rattle.std.proofs.lemmas.List.{get_or_default}
use Rattle.std.specs.Option.{option_map}
use Rattle.field_core.specs.Terms.{Terms}
use Rattle.field_core.specs.View.{terms}
use Rattle.field_core.specs.Sized.{◌>>=◌}
use Rattle.field_core.specs.Kind.{Parts, ok_map, or_wide}
use Rattle.field_core.specs.declared.place.Op.{Op}
use Rattle.field_core.specs.declared.place.Op.TheVariants.{Add}
use Rattle.field_core.specs.declared.place.TooWide.{TooWide}
use Rattle.field_core.specs.declared.ratio.Ratio.{Ratio}
use Rattle.fraction.specs.Plain.{plain, single, fraction_parts}
use Rattle.fraction.specs.Written.{written_add}
use Rattle.case_model.specs.Sums.{zero_terms, zero_ratio, ratio_at, written_sum}
use Rattle.case_model.proofs.Same.{from_single}
use Rattle.case_model.proofs.Wide.{some_from, none_from}

-- the fraction at a place of a list
pub item_is : (xs : List Ratio) (i : ℕ) (x : Ratio) → i < length xs → x ≡ get_or xs i x → ratio_at xs i ≡ x
unfolding ratio_at
item_is xs i x h e = get_or_default xs i zero_ratio x h ∙ sym e

-- a result of fractions by its terms, from its stored parts
pub in_terms : (op : Op) (r : Result Ratio TooWide) (s : Option Terms) → ok_map fraction_parts r ≡ or_wide op (option_map single s)
    → ok_map terms r ≡ or_wide op s
in_terms op (Ok x) (Some t) e = let same : fraction_parts x ≡ single t = cc in ap Ok (from_single (terms x) t same)
in_terms op (Ok x) None e = absurd (cc)
in_terms op (Err f) (Some t) e = absurd (cc)
in_terms op (Err f) None e = cc

-- ---- steps

sum_next : (n : ℕ) (f : ℕ → Ratio) (s : Terms) → written_sum n f ≡ Some s → written_sum (n + 1) f ≡ written_add s (terms (f n))
unfolding written_sum
sum_next n f s e = let next : n + 1 ≡ suc n = omega arith in ap (λ k. written_sum k f) next ∙ ap (λ r. r >>= λ s. written_add s (terms (f n))) e

pub at_or_past : (n m : ℕ) → n ≤ suc m → (n ≡ suc m) ⊎ (n ≤ m)
at_or_past n m h = grind arith

-- what is refused on the way is refused in the end
sum_refused : (n m : ℕ) (f : ℕ → Ratio) → n ≤ m → written_sum n f ≡ None → written_sum m f ≡ None
unfolding written_sum
sum_refused n zero f h k = let z : n ≡ 0 = omega arith in rw z at k
sum_refused n (suc m) f h k = elim (at_or_past n m h) [
  | inl same ↦ rw same at k
  | inr below ↦ ap (λ r. r >>= λ s. written_add s (terms (f m))) (sum_refused n m f below k)
]

-- a fraction stored as 0 is the sum of nothing
pub sum_none : (f : ℕ → Ratio) (z : Ratio) → fraction_parts z ≡ plain.zero → written_sum 0 f ≡ Some (terms z)
unfolding written_sum
sum_none f z e = ap Some (sym (from_single (terms z) zero_terms e))

module _ (f : ℕ → Ratio) (i : ℕ) (sum x : Ratio) (item : x ≡ f i) (before : written_sum i f ≡ Some (terms sum)) where
  sum_on : (r : Result Ratio TooWide) → ok_map fraction_parts r ≡ or_wide Add (plain.written Add (fraction_parts sum) (fraction_parts x))
      → ok_map terms r ≡ or_wide Add (written_sum (i + 1) f)
  sum_on r added = in_terms Add r (written_add (terms sum) (terms x)) added
      ∙ ap (or_wide Add) (ap (λ x. written_add (terms sum) (terms x)) item ∙ sym (sum_next i f (terms sum) before))

  -- one item more
  pub sum_more : (s : Ratio) → Path (Result Parts TooWide) (Ok (fraction_parts s)) (or_wide Add (plain.written Add (fraction_parts sum) (fraction_parts x)))
      → written_sum (i + 1) f ≡ Some (terms s)
  sum_more s added = some_from Add (terms s) (written_sum (i + 1) f) (sum_on (Ok s) added)

  -- a refused item refuses the sum
  pub sum_stops : (e : TooWide) (n : ℕ) → i < n → Path (Result Parts TooWide) (Err e)
      (or_wide Add (plain.written Add (fraction_parts sum) (fraction_parts x))) → Path (Result Terms TooWide) (Err e) (or_wide Add (written_sum n f))
  sum_stops e n below added =
      let stopped = sum_on (Err e) added in
      let none = none_from Add e (written_sum (i + 1) f) stopped in
      stopped ∙ ap (or_wide Add) (none ∙ sym (sum_refused (i + 1) n f (omega arith) none))
