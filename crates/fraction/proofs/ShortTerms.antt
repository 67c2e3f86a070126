-- Written operations on fractions within limits are defined, and don't lead far beyond these limits.
use Rattle.std.proofs.Common.{◌≡◌, sym, ap, ◌∙◌, subst, ℕ, suc, ◌≤◌, ◌<◌, ◌+◌, ◌*◌, ◌/◌, ◌^◌, arith, ℤ}
use Rattle.std.proofs.Common.{pos, negsuc, ◌+ℤ◌, ◌*ℤ◌, int_div, unsigned_abs, Option, Some}
use Rattle.std.specs.Option.{option_map}
use Rattle.std.proofs.lemmas.Int.{ints, unsigned_abs-mul}
use Rattle.std.proofs.Math.Nat.{mul-le-mul, div-le_self}
use Rattle.field_core.specs.Divisor.{gcd}
use Rattle.field_core.specs.Terms.{Terms}
use Rattle.field_core.specs.Sized.{gcd_of, ◌>>=◌}
use Rattle.field_core.specs.Kind.{Parts}
use Rattle.field_core.specs.declared.place.Op.{Op}
use Rattle.field_core.specs.declared.place.Op.TheVariants.{Add, Sub, Mul, Div}
use Rattle.field_core.proofs.Sized.{sized_small}
use Rattle.fraction.specs.Written.{written_add, written_mul, opposite, inverse, inverse_of}
use Rattle.fraction.specs.Plain.{plain, pair_of, single, written_pair}
use Rattle.field_core.proofs.Wholes.{size_negated}
use Rattle.fraction.specs.Within.{IsWithin, GivesWithin, limit_of}

-- ---- sizes

pub abs_quotient : (z : ℤ) (g : ℕ) → unsigned_abs (int_div z (pos g)) ≤ unsigned_abs z
abs_quotient (pos n) g = div-le_self n g
abs_quotient (negsuc n) g = subst (λ a. a ≤ suc n) (sym (size_negated (pos (suc n / g)))) (div-le_self (suc n) g)

abs_sum : (u v : ℤ) → unsigned_abs (u +ℤ v) ≤ unsigned_abs u + unsigned_abs v
abs_sum u v = omega (arith, ints)

through : (a b c : ℕ) → a ≤ b → b ≤ c → a ≤ c
through a b c h k = omega (arith, h, k)

abs_reduced : (t z : ℤ) (n : ℕ) → unsigned_abs t ≤ n → unsigned_abs (int_div t (gcd_of t z)) ≤ n
abs_reduced t z n h = through (unsigned_abs (int_div t (gcd_of t z))) (unsigned_abs t) n (abs_quotient t (gcd (unsigned_abs t) (unsigned_abs z))) h

abs_product : (x y : ℤ) (a b : ℕ) → unsigned_abs x ≤ a → unsigned_abs y ≤ b → unsigned_abs (x *ℤ y) ≤ a * b
abs_product x y a b h g = subst (λ n. n ≤ a * b) (sym (unsigned_abs-mul x y)) (mul-le-mul h g)

-- a quotient times another one
pub abs_quotients : (x y : ℤ) (g h a b : ℕ) → unsigned_abs x ≤ a → unsigned_abs y ≤ b
    → unsigned_abs (int_div x (pos g) *ℤ int_div y (pos h)) ≤ a * b
abs_quotients x y g h a b p q = abs_product (int_div x (pos g)) (int_div y (pos h)) a b (through _ (unsigned_abs x) _ (abs_quotient x g) p)
    (through _ (unsigned_abs y) _ (abs_quotient y h) q)

-- a number times a quotient
abs_part : (x y : ℤ) (g a b : ℕ) → unsigned_abs x ≤ a → unsigned_abs y ≤ b → unsigned_abs (x *ℤ int_div y (pos g)) ≤ a * b
abs_part x y g a b p q = abs_product x (int_div y (pos g)) a b p (through _ (unsigned_abs y) _ (abs_quotient y g) q)

below : (n m l : ℕ) → n ≤ m → m < l → n < l
below n m l h g = omega (arith, h, g)

-- ---- written operations

made : {A B : Type 0} (r : Option A) (f : A → Option B) (x : A) → r ≡ Some x → (r >>= f) ≡ f x
made r f x e = ap (λ q. q >>= f) e

pub mul_within : (x y : Terms) (a b : ℕ) → IsWithin a x → IsWithin b y → a * b < 2 ^ 127 → GivesWithin (a * b) (written_mul x y)
unfolding written_mul
mul_within x y a b p q h =
    let top = abs_quotients x.num y.num _ _ a b p.num q.num in
    let low = abs_quotients x.den y.den _ _ a b p.den q.den in (
      record {
        num = int_div x.num (gcd_of x.num y.den) *ℤ int_div y.num (gcd_of y.num x.den);
        den = int_div x.den (gcd_of y.num x.den) *ℤ int_div y.den (gcd_of x.num y.den);
      },
      made _ _ _ (sized_small _ (below _ (a * b) _ top h)) ∙ made _ _ _ (sized_small _ (below _ (a * b) _ low h)),
      record { num = top; den = low },
    )

sum_within : (u v : ℤ) (n : ℕ) → unsigned_abs u ≤ n → unsigned_abs v ≤ n → unsigned_abs (u +ℤ v) ≤ n + n
sum_within u v n h g = let s = abs_sum u v in omega (arith, h, g, s)

pub add_within : (x y : Terms) (a b : ℕ) → IsWithin a x → IsWithin b y → a * b + a * b < 2 ^ 127 → GivesWithin (a * b + a * b) (written_add x y)
unfolding written_add
add_within x y a b p q h =
    let swap : b * a ≡ a * b = omega arith in
    let half : a * b < 2 ^ 127 = omega (arith, h) in
    let u = abs_part x.num y.den _ a b p.num q.den in
    let v : unsigned_abs (y.num *ℤ int_div x.den (gcd_of x.den y.den)) ≤ a * b =
    subst (λ n. unsigned_abs (y.num *ℤ int_div x.den (gcd_of x.den y.den)) ≤ n) swap (abs_part y.num x.den _ b a q.num p.den) in
    let t = sum_within (x.num *ℤ int_div y.den (gcd_of x.den y.den)) (y.num *ℤ int_div x.den (gcd_of x.den y.den)) (a * b) u v in
    let low = abs_quotients x.den y.den _ _ a b p.den q.den in (
      record {
        num = int_div (x.num *ℤ int_div y.den (gcd_of x.den y.den) +ℤ y.num *ℤ int_div x.den (gcd_of x.den y.den))
            (gcd_of (x.num *ℤ int_div y.den (gcd_of x.den y.den) +ℤ y.num *ℤ int_div x.den (gcd_of x.den y.den)) (gcd_of x.den y.den));
        den = int_div x.den (gcd_of x.den y.den) *ℤ int_div y.den
            (gcd_of (x.num *ℤ int_div y.den (gcd_of x.den y.den) +ℤ y.num *ℤ int_div x.den (gcd_of x.den y.den)) (gcd_of x.den y.den));
      },
      made _ _ _ (sized_small _ (below _ (a * b) _ u half)) ∙ made _ _ _ (sized_small _ (below _ (a * b) _ v half))
          ∙ made _ _ _ (sized_small _ (below _ (a * b + a * b) _ t h)) ∙ made _ _ _ (sized_small _ (below _ (a * b) _ low half)),
      record {
        num = abs_reduced (x.num *ℤ int_div y.den (gcd_of x.den y.den) +ℤ y.num *ℤ int_div x.den (gcd_of x.den y.den)) (gcd_of x.den y.den)
            (a * b + a * b) t;
        den = through _ (a * b) _ low (omega arith);
      },
    )

pub opposite_within : (n : ℕ) (x : Terms) → IsWithin n x → IsWithin n (opposite x)
unfolding opposite
opposite_within n x s = record { num = subst (λ m. m ≤ n) (sym (size_negated x.num)) s.num; den = s.den }

turned_within : (n : ℕ) (num den : ℤ) → unsigned_abs num ≤ n → unsigned_abs den ≤ n → IsWithin n (inverse_of num den)
turned_within n (pos m) den h g = record { num = g; den = h }
turned_within n (negsuc m) den h g = record { num = subst (λ a. a ≤ n) (sym (size_negated den)) g; den = h }

pub inverse_within : (n : ℕ) (x : Terms) → IsWithin n x → IsWithin n (inverse x)
unfolding inverse
inverse_within n x s = turned_within n x.num x.den s.num s.den

pub operation_within : (op : Op) (x y : Terms) (a b : ℕ) → IsWithin a x → IsWithin b y → limit_of op a b < 2 ^ 127
    → GivesWithin (limit_of op a b) (written_pair op x y)
operation_within Add x y a b p q h = add_within x y a b p q h
operation_within Sub x y a b p q h = add_within x (opposite y) a b p (opposite_within b y q) h
operation_within Mul x y a b p q h = mul_within x y a b p q h
operation_within Div x y a b p q h = mul_within x (inverse y) a b p (inverse_within b y q) h

-- ---- as the kind of the fractions writes them

abbrev pub GivesPartsWithin : ℕ → Option Parts → Type 0
GivesPartsWithin n r = (z : Parts) × (r ≡ Some z) × IsWithin n (pair_of z)

pub parts_within : (op : Op) (x y : Parts) (a b : ℕ) → IsWithin a (pair_of x) → IsWithin b (pair_of y) → limit_of op a b < 2 ^ 127
    → GivesPartsWithin (limit_of op a b) (plain.written op x y)
parts_within op x y a b p q h =
    let g = operation_within op (pair_of x) (pair_of y) a b p q h in
    (single g.0, ap (λ r. option_map single r) g.1, g.2)

-- ---- limits that are powers of two
