-- Readings in words of 64 bits.
use Rattle.std.proofs.Common.{◌≡◌, sym, ap, ℕ, ◌/◌, ◌%◌, ◌^◌, pos, unsigned_abs, Some}
use Rattle.std.proofs.Math.Nat.{mod-add-div}
use Rattle.fraction.specs.View.{terms_of}
use Rattle.fraction.specs.declared.fraction.Fraction.{Fraction}
use Rattle.typed_numbers.proofs.ByTheRules.{by_the_rules}
use Rattle.typed_numbers.proofs.Units.{short_units}
use Rattle.typed_numbers.specs.Readings.{reading_of}
use Rattle.welungad_c.specs.Readings.{number_in, AreParts}

-- a number is in its low and its high word
whole : (n : ℕ) → number_in (n % 2 ^ 64) (n / 2 ^ 64) ≡ n
whole n = mod-add-div n (2 ^ 64)

module _ (words : ℕ → ℕ) (x : Fraction) where
  -- the four words of the sizes of both parts
  pub record AreSizes : Type 0 where
    pub num_low : words 0 ≡ unsigned_abs (terms_of x).num % 2 ^ 64
    pub num_high : words 1 ≡ unsigned_abs (terms_of x).num / 2 ^ 64
    pub den_low : words 2 ≡ unsigned_abs (terms_of x).den % 2 ^ 64
    pub den_high : words 3 ≡ unsigned_abs (terms_of x).den / 2 ^ 64

  -- a reading isn't below 0, so its parts are their sizes
  pub parts_of : (bits : ℕ) → reading_of bits ≡ Some x → AreSizes → AreParts (terms_of x) words
  parts_of bits e s =
      let unit = short_units bits x ((by_the_rules bits (Some x)).0 e) in
      let num : (terms_of x).num ≡ pos unit.n = ap (λ t. t.num) unit.terms in
      let den : (terms_of x).den ≡ pos unit.q = ap (λ t. t.den) unit.terms in
      record {
        numerator = rw (s.num_low, s.num_high, num) (ap pos (sym (whole unit.n)));
        denominator = rw (s.den_low, s.den_high, den) (ap pos (sym (whole unit.q)));
      }
