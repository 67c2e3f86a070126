-- Each text has a value or a fault, so that reading a numeral is a function of its text.
use Rattle.std.proofs.Common.{◌≡◌, ℕ, suc, ◌+◌, ◌-◌, ◌*◌, ◌^◌, ◌<◌, ◌≤◌, ◌⊎◌, inl, inr, Bool, true, false, List}
use Rattle.std.proofs.Common.{◌++◌, length, take, ℤ, pos, negsuc, ◌-ℤ◌, ◌<ℤ◌, Result, Ok, Err, refl, arith}
use Rattle.std.specs.Str.Parse.{digits_value}
use Rattle.std.proofs.lemmas.Bool.{cases_lt}
use Rattle.std.proofs.lemmas.Int.{ints}
use Rattle.field_core.specs.Terms.{IsReduced}
use Rattle.field_core.specs.View.{terms}
use Rattle.field_core.specs.declared.ratio.Ratio.{Ratio}
use Rattle.numerals.specs.declared.fault.NumberFault.{NumberFault}
use Rattle.numerals.specs.declared.fault.NumberFault.TheVariants.{Empty, BadByte, ZeroDenominator, TooManyDigits}
use Rattle.numerals.specs.declared.numeral_machine.State.TheVariants.{Start}
use Rattle.numerals.specs.declared.size.Size.{Size}
use Rattle.numerals.specs.Numeral.{AreDigits, exponent_of, Body, Plain, Pointed, Pair, IsBody, is_minus, without_leading_zeros, trailing_zeros, PassesLimit}
use Rattle.numerals.specs.Numeral.{IsTooLong, IsNumeral, IsRatioText, IsParseFault}
use Rattle.numerals.specs.Checking.{IsChecked}
use Rattle.numerals.specs.Lowest.{lowest_of}
use Rattle.numerals.specs.Sizes.{IsScaled, IsDecimalSize, IsBodySize}
use Rattle.numerals.proofs.Accepted.{reads}
use Rattle.numerals.proofs.Bodies.{pair_zero, pair_some, pair_long, pair_ok, plain, pointed}
use Rattle.numerals.proofs.Cut.{digits_append, digits_without, first_below}
use Rattle.numerals.proofs.DigitNumbers.{power_small, power_some, value_below}
use Rattle.numerals.proofs.LowestTerms.{AreDivided, divided, abs_sign}
use Rattle.numerals.proofs.ReadTexts.{checked_fault, size_fault, value_signed, signed_lowest}
use Rattle.numerals.proofs.Scaling.{raised_small, decimal_zero, scaled_ok, scaled_decimal}
use Rattle.numerals.proofs.Scan.{reached, checked_empty, checked_numeral, checked_bad}
use Rattle.numerals.proofs.SameTerms.{same_ratio}
use Rattle.numerals.proofs.Unique.{one_value, value_or_fault}

-- ---- decimals

-- n digits within the limit, divided by ten to the s
record IsWithin (n : ℕ) (s : ℤ) : Type 0 where
  few : n ≤ 38
  low : ¬ (pos 38 <ℤ s)
  high : ¬ ((s <ℤ pos 0) × (pos 38 <ℤ (pos n -ℤ s)))

behind_by : (n k : ℕ) → n ≤ 38 → PassesLimit n (pos k) ⊎ IsWithin n (pos k)
behind_by n k h =
    elim (cases_lt 38 k) [
      | inl far ↦ inl (inr (inl (omega (arith, ints))))
      | inr near ↦ inr (record { few = h; low = λ e. omega (arith, ints); high = λ e. omega (arith, ints, e.0) })
    ]

before_by : (n k : ℕ) → n ≤ 38 → PassesLimit n (negsuc k) ⊎ IsWithin n (negsuc k)
before_by n k h =
    elim (cases_lt 38 (n + suc k)) [
      | inl far ↦ inl (inr (inr (omega (arith, ints), omega (arith, ints))))
      | inr near ↦ inr (record { few = h; low = λ e. omega (arith, ints); high = λ e. omega (arith, ints, e.1) })
    ]

within_by : (n : ℕ) (s : ℤ) → n ≤ 38 → PassesLimit n s ⊎ IsWithin n s
within_by n (pos k) h = behind_by n k h
within_by n (negsuc k) h = before_by n k h

limit_or_not : (n : ℕ) (s : ℤ) → PassesLimit n s ⊎ IsWithin n s
limit_or_not n s = elim (cases_lt 38 n) [ inl many ↦ inl (inl many) | inr few ↦ within_by n s few ]

not_past : (n : ℕ) (s : ℤ) → IsWithin n s → ¬ PassesLimit n s
not_past n s w (inl e) = let f = w.few in omega arith
not_past n s w (inr (inl e)) = w.low e
not_past n s w (inr (inr e)) = w.high e

-- a size that a number of n digits has there
SizeOf : ℕ → ℕ → ℤ → Type 0
SizeOf n m s = (x : Size) × IsScaled n m s (Ok x)

scaled_size : (n m : ℕ) (s : ℤ) → m < 10 ^ n → IsWithin n s → SizeOf n m s
unfolding SizeOf
scaled_size n m (pos k) h w =
    let near : k ≤ 38 = elim (cases_lt 38 k) [ inl far ↦ absurd (w.low (omega (arith, ints))) | inr near ↦ near ] in
    let x : Size = record {
      num = m;
      den = 10 ^ k;
      some = power_some k;
      num_size = omega (arith, power_small n w.few);
      den_size = omega (arith, power_small k near);
    } in
    (x, scaled_ok n m (pos k) x (not_past n (pos k) w) refl)
scaled_size n m (negsuc k) h w =
    let near : n + suc k ≤ 38 = elim (cases_lt 38 (n + suc k))
    [ inl far ↦ absurd (w.high (omega (arith, ints), omega (arith, ints))) | inr near ↦ near ] in
    let x : Size = record {
      num = m * 10 ^ suc k;
      den = 1;
      some = omega arith;
      num_size = omega (arith, raised_small m n (suc k) h near);
      den_size = omega arith;
    } in
    (x, scaled_ok n m (negsuc k) x (not_past n (negsuc k) w) refl)

-- what digits give there
DecimalSize : List ℕ → ℤ → Type 0
DecimalSize ds s = (r : Result Size NumberFault) × IsDecimalSize ds s r

some_long : (ds : List ℕ) (s : ℤ) → 0 < length (without_leading_zeros ds)
    → PassesLimit (length (without_leading_zeros ds) - trailing_zeros (without_leading_zeros ds)) (s -ℤ pos (trailing_zeros (without_leading_zeros ds)))
    → IsDecimalSize ds s (Err TooManyDigits)
unfolding IsDecimalSize IsTooLong
some_long ds s some h = (some, h)

decimal_size : (ds : List ℕ) (s : ℤ) → AreDigits ds → DecimalSize ds s
unfolding DecimalSize SizeOf
decimal_size ds s are =
    let D = without_leading_zeros ds in
    let n = length D - trailing_zeros D in
    let t = s -ℤ pos (trailing_zeros D) in
    let zero_size : Size = record { num = 0; den = 1; some = omega arith; num_size = omega arith; den_size = omega arith } in
    elim (cases_lt 0 (length D)) [
      | inl some ↦ elim (limit_or_not n t) [
        | inl past ↦ (Err TooManyDigits, some_long ds s some past)
        | inr within ↦ let size = scaled_size n (digits_value 10 (take n D)) t (first_below n _ D (digits_without ds are) (omega arith) refl) within in
            (Ok size.0, scaled_decimal ds s (Ok size.0) some size.1)
      ]
      | inr none ↦ (Ok zero_size, decimal_zero ds s zero_size (omega arith) refl)
    ]

-- ---- bodies

-- what a body gives
BodySize : Body → Type 0
BodySize b = (r : Result Size NumberFault) × IsBodySize b r

pair_size : (over under : List ℕ) → AreDigits over → AreDigits under → BodySize (Pair over under)
unfolding BodySize
pair_size over under h k =
    let us = without_leading_zeros over in
    let vs = without_leading_zeros under in
    elim (cases_lt 0 (length vs)) [
      | inr none ↦ (Err ZeroDenominator, pair_zero over under vs refl (omega arith))
      | inl some ↦ elim (cases_lt 38 (length us)) [
        | inl long ↦ (Err TooManyDigits, pair_long over under us vs refl refl k some (inl long))
        | inr short ↦ elim (cases_lt 38 (length vs)) [
          | inl long ↦ (Err TooManyDigits, pair_long over under us vs refl refl k some (inr long))
          | inr few ↦
              let num : digits_value 10 us < (0 + 1) * 10 ^ length us = value_below 0 us (digits_without over h) in
              let den : digits_value 10 vs < (0 + 1) * 10 ^ length vs = value_below 0 vs (digits_without under k) in
              let x : Size = record {
                num = digits_value 10 us;
                den = digits_value 10 vs;
                some = pair_some under vs _ refl k some refl;
                num_size = omega (arith, power_small (length us) short);
                den_size = omega (arith, power_small (length vs) few);
              } in
              (Ok x, pair_ok over under us vs x refl refl k some short few refl refl)
        ]
      ]
    ]

body_size : (b : Body) → IsBody b → BodySize b
unfolding BodySize DecimalSize
body_size (Plain whole e) h = let d = decimal_size whole (pos 0 -ℤ exponent_of e) h.0 in (d.0, plain whole e d.0 d.1)
body_size (Pointed whole fraction e) h = let d = decimal_size (whole ++ fraction) (pos (length fraction) -ℤ exponent_of e)
    (digits_append whole fraction h.0 h.1) in (d.0, pointed whole fraction e d.0 d.1)
body_size (Pair over under) h = pair_size over under h.0 h.2

-- ---- texts

-- a text has a value, or it has a fault
abbrev pub Reading : List ℕ → Type 0
Reading text = ((x : Ratio) × IsRatioText text x) ⊎ ((f : NumberFault) × IsParseFault text f)

lowest_reduced : (negative : Bool) (x : Size) → IsReduced (lowest_of negative x.num x.den)
unfolding lowest_of
lowest_reduced negative x =
    let d : AreDivided x.num x.den _ _ = (divided x.num x.den x.some).1 in
    record {
      positive = let p = d.some in omega (arith, ints);
      num_size = rw abs_sign (omega (arith, d.first, x.num_size));
      den_size = omega (arith, d.second, x.den_size);
      reduced = rw abs_sign d.apart;
    }

lowest_ratio : Bool → Size → Ratio
lowest_ratio negative x = record {
  num = (lowest_of negative x.num x.den).num;
  den = (lowest_of negative x.num x.den).den;
  valid = lowest_reduced negative x;
}

sized_value : (text : List ℕ) (n : IsNumeral text) (x : Size) → IsBodySize n.body (Ok x) → IsRatioText text (lowest_ratio (is_minus n.sign) x)
unfolding IsBodySize lowest_ratio
sized_value text n x h = record {
  numeral = n;
  defined = h.0;
  within = h.1.0;
  lowest = lowest_reduced (is_minus n.sign) x;
  same = signed_lowest (is_minus n.sign) x _ _ (value_signed n.sign n.body) h.1.1;
}

numeral_by : (text : List ℕ) (n : IsNumeral text) (r : Result Size NumberFault) → IsBodySize n.body r → Reading text
numeral_by text n (Ok x) h = inl (lowest_ratio (is_minus n.sign) x, sized_value text n x h)
numeral_by text n (Err f) h = inr (f, size_fault text n f h)

checked_by : (text : List ℕ) (r : Result (Unit {0}) NumberFault) → IsChecked text r → Reading text
unfolding IsChecked BodySize
checked_by text (Ok x) n = let b = body_size n.body n.is_body in numeral_by text n b.0 b.1
checked_by text (Err f) h = inr (f, checked_fault text f h)

scanned_by : (text : List ℕ) (b : Bool) → 0 < length text → reads text Start ≡ b → Reading text
scanned_by text true some e = checked_by text (Ok tt) (checked_numeral text e)
scanned_by text false some e = checked_by text (Err (BadByte (reached text Start))) (checked_bad text (reached text Start) some e refl)

pub reading : (text : List ℕ) → Reading text
reading text =
    elim (cases_lt 0 (length text)) [
      | inl some ↦ scanned_by text (reads text Start) some refl
      | inr none ↦ checked_by text (Err Empty) (checked_empty text (omega arith))
    ]

-- ---- only one

pub one_ratio : (text : List ℕ) (x y : Ratio) → IsRatioText text x → IsRatioText text y → x ≡ y
one_ratio text x y h k = same_ratio x y (one_value text (terms x) (terms y) h k)

pub ratio_not_fault : (text : List ℕ) (x : Ratio) (f : NumberFault) → IsRatioText text x → ¬ IsParseFault text f
ratio_not_fault text x f h = value_or_fault text (terms x) f h
