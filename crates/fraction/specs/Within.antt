-- Fractions whose parts are within a limit, and how far written operations can take them.
use Rattle.std.specs.Prelude.{◌≡◌, ◌≤◌, ◌<◌, ◌+◌, ◌*◌, ◌^◌, ℕ, suc, pos, unsigned_abs, Option, Some}
use Rattle.field_core.specs.declared.place.Op.{Op}
use Rattle.field_core.specs.declared.place.Op.TheVariants.{Add, Sub, Mul, Div}
use Rattle.field_core.specs.Terms.{Terms, IsReduced}
use Rattle.field_core.specs.Fractions.{fraction}
use Rattle.fraction.specs.Plain.{written_pair}

-- both parts are at most `n` in size
pub record IsWithin (n : ℕ) (x : Terms) : Type 0 where
  pub num : unsigned_abs x.num ≤ n
  pub den : unsigned_abs x.den ≤ n

-- a result that isn't refused, with parts of at most `n`
abbrev pub GivesWithin : ℕ → Option Terms → Type 0
GivesWithin n r = (z : Terms) × (r ≡ Some z) × IsWithin n z

-- a bound on the parts of a result, if those of the operands are at most `a` and `b`
abbrev pub limit_of : Op → ℕ → ℕ → ℕ
limit_of Add a b = a * b + a * b
limit_of Sub a b = a * b + a * b
limit_of Mul a b = a * b
limit_of Div a b = a * b

-- An operation on fractions within limits isn't refused if what it can reach is below 2^127, and its result is within that.
abbrev pub ShortOperationsAreDefined : Type 0
ShortOperationsAreDefined =
    (op : Op) (x y : Terms) (a b : ℕ) → IsWithin a x → IsWithin b y → limit_of op a b < 2 ^ 127
    → GivesWithin (limit_of op a b) (written_pair op x y)

-- A fraction in lowest terms has the least parts of its value: it is within each limit within which some fraction of this value is.
abbrev pub LowestTermsAreShortest : Type 0
LowestTermsAreShortest =
    (n a d : ℕ) (x : Terms) → IsReduced x → fraction x.num x.den ≡ fraction (pos a) (pos (suc d)) → a ≤ n → suc d ≤ n → IsWithin n x
