-- A reading is from 0 to 1, in lowest terms too.
use Rattle.std.proofs.Common.{◌≡◌, ℕ, ◌*◌, ◌/◌, ◌%◌, ◌^◌, ◌<◌, ◌≤◌, pos, arith, refl, ◌∙◌, Some}
use Rattle.std.proofs.Math.Nat.{le_of_mul-le-mul_right, div-mul_cancel, div-le_self}
use Rattle.field_core.specs.Divisor.{gcd}
use Rattle.field_core.proofs.Divisors.{gcd_is}
use Rattle.field_core.proofs.Wholes.{not_negative}
use Rattle.numerals.specs.Lowest.{lowest_terms, lowest_of}
use Rattle.numerals.proofs.LowestTerms.{divided}
use Rattle.fraction.specs.declared.fraction.Fraction.{Fraction}
use Rattle.typed_numbers.specs.Promises.{IsShortUnit}
use Rattle.typed_numbers.specs.Rules.{IsReading, IsReadingOf}
use Rattle.typed_numbers.specs.Laws.Total.{small, parts_at_most_one}

pub lowest_is : (n q : ℕ) → lowest_terms (pos n) (pos q) ≡ record { num = pos (n / gcd n q); den = pos (q / gcd n q) }
unfolding lowest_terms lowest_of
lowest_is n q = rw (not_negative n, not_negative q) refl

divided_at_most : (n q : ℕ) → 0 < q → n ≤ q → n / gcd n q ≤ q / gcd n q
divided_at_most n q some h =
    let some_divisor : 0 < gcd n q = (divided n q some).0 in
    let a : n / gcd n q * gcd n q ≡ n = div-mul_cancel (gcd n q) (gcd_is n q).0 in
    let b : q / gcd n q * gcd n q ≡ q = div-mul_cancel (gcd n q) (gcd_is n q).1 in
    le_of_mul-le-mul_right {m = n / gcd n q} {n = q / gcd n q} {k = gcd n q} (omega (arith, a, b)) some_divisor

reading_is_unit : (bits : ℕ) (f : Fraction) → bits ≤ 0x3ff0_0000_0000_0000 → IsReading bits f → IsShortUnit f
reading_is_unit bits f h k =
    let w = parts_at_most_one bits k.n k.q h k.read in
    let below : k.n ≤ k.q = w.1 in
    let few : k.q ≤ 10 ^ 30 = w.2 in
    let less : k.q / gcd k.n k.q ≤ k.q = div-le_self k.q (gcd k.n k.q) in
    record {
      n = k.n / gcd k.n k.q;
      q = k.q / gcd k.n k.q;
      terms = k.lowest ∙ lowest_is k.n k.q;
      at_most_one = divided_at_most k.n k.q w.0 below;
      short = omega arith;
    }

pub short_units : (bits : ℕ) (f : Fraction) → IsReadingOf bits (Some f) → IsShortUnit f
short_units bits f k = reading_is_unit (bits % 2 ^ 63) f (small bits k.0) k.1
