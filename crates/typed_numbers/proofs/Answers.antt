-- The fraction that is made of the numerator and the denominator of a reading.
use Rattle.std.proofs.Common.{◌≡◌, ◌≢◌, ℕ, ◌%◌, ◌^◌, ◌<◌, ◌≤◌, ◌⊎◌, pos, to_z, FitsSigned, arith, sym, refl, inl, inr, Some, None, Result, Ok, Err}
use Rattle.std.proofs.lemmas.Int.{ints, to_z_pos}
use Rattle.std.specs.Int.{w128}
use Rattle.std.specs.Result.{IfOk, result_ok}
use Rattle.fraction.specs.View.{terms_of}
use Rattle.fraction.specs.declared.fraction.Fraction.{Fraction}
use Rattle.fraction.specs.declared.fault.FractionFault.{FractionFault}
use Rattle.fraction.specs.declared.fault.FractionFault.TheVariants.{ZeroDenominator, TooWide}
use Rattle.numerals.specs.Lowest.{lowest_terms, HasWidePart}
use Rattle.typed_numbers.specs.Rules.{IsReadAs, IsReadable}
use Rattle.typed_numbers.specs.Readings.{reading_of}
use Rattle.typed_numbers.specs.Laws.Total.{small, parts_at_most_one, lowest_reduced}
use Rattle.typed_numbers.proofs.ByTheRules.{by_the_rules}

pub readable : (bits : ℕ) → ((0x3ff0_0000_0000_0000 < bits) × (bits ≡ 0x8000_0000_0000_0000)) ⊎ (bits ≤ 0x3ff0_0000_0000_0000) → IsReadable bits
readable bits (inl h) = inr h.1
readable bits (inr h) = inl h

pub not_readable : (bits : ℕ) → 0x3ff0_0000_0000_0000 < bits → (bits ≡ 0x8000_0000_0000_0000 → ⊥) → None ≡ reading_of bits
not_readable bits above other = sym ((by_the_rules bits None).1 none)
  where
    none : IsReadable bits → ⊥
    none (inl h) = omega arith
    none (inr h) = other h

-- ---- both parts are below 2 ^ 127

record AreParts (n q : ℕ) : Type 0 where
  some : 0 < q
  num : n < 2 ^ 127
  den : q < 2 ^ 127

are_parts : (bits n q : ℕ) → IsReadable bits → IsReadAs (bits % 2 ^ 63) n q → AreParts n q
are_parts bits n q r k =
    let w = parts_at_most_one (bits % 2 ^ 63) n q (small bits r) k in
    let a : n ≤ q = w.1 in
    let b : q ≤ 10 ^ 30 = w.2 in
    record { some = w.0; num = omega arith; den = omega arith }

fits : (n : ℕ) → n < 2 ^ 127 → FitsSigned w128 (pos n)
fits n h = omega (arith, ints)

pub num_fits : (bits n q : ℕ) → IsReadable bits → IsReadAs (bits % 2 ^ 63) n q → FitsSigned w128 (pos n)
num_fits bits n q r k = fits n (are_parts bits n q r k).num

pub den_fits : (bits n q : ℕ) → IsReadable bits → IsReadAs (bits % 2 ^ 63) n q → FitsSigned w128 (pos q)
den_fits bits n q r k = fits q (are_parts bits n q r k).den

-- ---- so the fraction exists

no_zero : (q : ℕ) → 0 < q → pos q ≡ pos 0 → ⊥
no_zero q some e = omega (arith, ints)

not_wide : (n q : ℕ) → AreParts n q → HasWidePart (lowest_terms (pos n) (pos q)) → ⊥
not_wide n q p (inl h) = let r = lowest_reduced n q p.some p.num p.den in let s = r.num_size in omega arith
not_wide n q p (inr h) = let r = lowest_reduced n q p.some p.num p.den in let s = r.den_size in omega arith

by_result : (bits n q : ℕ) (r : Result Fraction FractionFault) → IsReadable bits → IsReadAs (bits % 2 ^ 63) n q → AreParts n q
    → IfOk r (λ x. terms_of x ≡ lowest_terms (pos n) (pos q)) → (r ≡ Err ZeroDenominator → pos q ≡ pos 0)
    → (r ≡ Err TooWide → HasWidePart (lowest_terms (pos n) (pos q))) → result_ok r ≡ reading_of bits
by_result bits n q (Ok x) readable k p lowest zero wide = sym ((by_the_rules bits (Some x)).1 (readable, record { n = n; q = q; read = k; lowest = lowest }))
by_result bits n q (Err ZeroDenominator) readable k p lowest zero wide = absurd (no_zero q p.some (zero refl))
by_result bits n q (Err TooWide) readable k p lowest zero wide = absurd (not_wide n q p (wide refl))

pub fraction_read : (bits n q : ℕ) (r : Result Fraction FractionFault) → IsReadable bits → IsReadAs (bits % 2 ^ 63) n q
    → IfOk r (λ x. terms_of x ≡ lowest_terms (to_z w128 n) (to_z w128 q)) → (r ≡ Err ZeroDenominator → to_z w128 q ≡ pos 0)
    → (r ≡ Err TooWide → (to_z w128 q ≢ pos 0) × HasWidePart (lowest_terms (to_z w128 n) (to_z w128 q))) → result_ok r ≡ reading_of bits
fraction_read bits n q r readable k lowest zero wide =
    let p = are_parts bits n q readable k in
    let a : to_z w128 n ≡ pos n = to_z_pos w128 n p.num in
    let b : to_z w128 q ≡ pos q = to_z_pos w128 q p.den in
    let lowest' = rw (a, b) at lowest in
    let zero' = rw b at zero in
    by_result bits n q r readable k p lowest' zero' (λ e. let w = wide e in rw (a, b) at w.1)
