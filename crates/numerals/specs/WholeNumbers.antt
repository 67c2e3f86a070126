-- Whole numbers, as short texts write them.
use Rattle.std.specs.Prelude.{◌≡◌, ◌<◌, ◌≤◌, ℕ, List, length}
use Rattle.std.specs.Str.Parse.{digits_value}
use Rattle.numerals.specs.Numeral.{AreDigits}

-- a text of 1 to `most` digits denotes the number `n`
pub record WritesNumber (most : ℕ) (text : List ℕ) (n : ℕ) : Type 0 where
  pub digits : AreDigits text
  pub some : 0 < length text
  pub few : length text ≤ most
  pub writes : n ≡ digits_value 10 text
