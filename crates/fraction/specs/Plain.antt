-- The kind of the fractions: one coefficient above and one below.
use Rattle.std.specs.Prelude.{◌≡◌, refl, pos, [], ◌∷◌, ◌*ℤ◌, Option, Ok}
use Rattle.std.specs.Option.{option_map}
use Rattle.std.specs.Ordering.{int_cmp}
use Rattle.std.proofs.Common.{arith, lit<}
use Rattle.std.proofs.lemmas.Int.{ints}
use Rattle.field_core.specs.Divisor.{gcd}
use Rattle.field_core.specs.declared.place.Op.{Op}
use Rattle.field_core.specs.declared.place.Op.TheVariants.{Add, Sub, Mul, Div}
use Rattle.field_core.specs.declared.ratio.Ratio.{Ratio}
use Rattle.field_core.specs.Terms.{Terms, IsReduced}
use Rattle.fraction.specs.Written.{opposite, inverse}
use Rattle.fraction.specs.Written.{written_add, written_mul}
use Rattle.field_core.specs.LimitParts.{first}
use Rattle.field_core.specs.Kind.{Parts, Kind}

-- the first coefficients above and below
abbrev pub pair_of : Parts → Terms
pair_of x = record { num = first x.numerator; den = first x.denominator }

-- two whole numbers as stored parts
abbrev pub single : Terms → Parts
single x = record { numerator = x.num ∷ []; denominator = x.den ∷ [] }

-- what each written operation gives: a difference adds the opposite, and a quotient multiplies by the inverse
abbrev pub written_pair : Op → Terms → Terms → Option Terms
written_pair Add x y = written_add x y
written_pair Sub x y = written_add x (opposite y)
written_pair Mul x y = written_mul x y
written_pair Div x y = written_mul x (inverse y)

-- the kind of the fractions; two compare as their cross products do, and that is never refused
abbrev pub plain : Kind
plain = record {
  zero = single (record { num = pos 0; den = pos 1 });
  one = single (record { num = pos 1; den = pos 1 });
  written = λ op x y. option_map single (written_pair op (pair_of x) (pair_of y));
  compare = λ x y. Ok (int_cmp ((pair_of x).num *ℤ (pair_of y).den) ((pair_of y).num *ℤ (pair_of x).den));
}

-- one coefficient above and one below, in lowest terms
pub record IsFraction (x : Parts) : Type 0 where
  pub reduced : IsReduced (pair_of x)
  pub shape : x ≡ single (pair_of x)

-- the stored parts of a fraction
abbrev pub fraction_parts : Ratio → Parts
fraction_parts x = single (record { num = x.num; den = x.den })

-- (they are what the kind stores)
pub fraction_stored : (x : Ratio) → IsFraction (fraction_parts x)
fraction_stored x = record { reduced = x.valid; shape = refl }

-- (0/1 is in lowest terms)
pub zero_reduced : IsReduced (record { num = pos 0; den = pos 1 })
unfolding gcd
zero_reduced = record { positive = omega (arith, ints); num_size = lit< tt; den_size = lit< tt; reduced = refl }

-- (so is 1/1)
pub one_reduced : IsReduced (record { num = pos 1; den = pos 1 })
unfolding gcd
one_reduced = record { positive = omega (arith, ints); num_size = lit< tt; den_size = lit< tt; reduced = refl }
