use Rattle.std.proofs.Common.{◌≡◌, ℕ, suc, ◌+◌, ◌*◌, ◌/◌, ◌<◌, refl, arith, ℤ, pos, negsuc, ◌+ℤ◌, ◌*ℤ◌, unsigned_abs}
use Rattle.std.proofs.Common.{Some, int_div, inl, inr, ◌⊎◌}
use Rattle.std.proofs.lemmas.Bool.{cases_lt}
use Rattle.std.proofs.lemmas.Nat.Gcd.{dvd_refl, dvd_trans}
use Rattle.std.proofs.Math.Nat.{dvd-mul_left_of_dvd, mul-div_assoc, div-mul_cancel, div-le_self, dvd-add_iff_left, dvd-add}
use Rattle.std.proofs.Math.IntN.{+ℤ_comm}
use Rattle.field_core.proofs.Sized.{sized_says}
use Rattle.field_core.proofs.Wholes.{size_quotient, size_positive, quotient_positive}
use Rattle.std.proofs.lemmas.Int.{ints, unsigned_abs-mul}
use Rattle.std.specs.Int.{◌∣◌}
use Rattle.field_core.specs.Divisor.{gcd}
use Rattle.field_core.specs.Terms.{Terms, IsReduced}
use Rattle.field_core.specs.Sized.{sized, gcd_of}
use Rattle.field_core.specs.Laws.Effective.{product_positive}
use Rattle.field_core.proofs.Divisors.{gcd_is}
use Rattle.field_core.proofs.Coprime.{Apart, apart_from_gcd, gcd_from_apart, apart_swap, apart_parts, apart_product, quotients_apart, quotient_divides}
use Rattle.field_core.proofs.Coprime.{gcd_bounds}

pub mul_reduced : (x y : Terms) (num den : ℤ) → IsReduced x → IsReduced y
    → sized (int_div x.num (gcd_of x.num y.den) *ℤ int_div y.num (gcd_of y.num x.den)) ≡ Some num
    → sized (int_div x.den (gcd_of y.num x.den) *ℤ int_div y.den (gcd_of x.num y.den)) ≡ Some den → IsReduced (record { num = num; den = den })
mul_reduced x y num den p q e f =
    let n1 = unsigned_abs x.num in
    let d1 = unsigned_abs x.den in
    let n2 = unsigned_abs y.num in
    let d2 = unsigned_abs y.den in
    let a = gcd n1 d2 in
    let b = gcd n2 d1 in
    let top = sized_says _ _ e in
    let low = sized_says _ _ f in
    let ga = gcd_is n1 d2 in
    let gb = gcd_is n2 d1 in
    let some_a : 0 < a = (gcd_bounds n1 d2 (size_positive y.den q.positive)).0 in
    let some_b : 0 < b = (gcd_bounds n2 d1 (size_positive x.den p.positive)).0 in
    let px : Apart n1 d1 = apart_from_gcd n1 d1 p.reduced in
    let py : Apart n2 d2 = apart_from_gcd n2 d2 q.reduced in
    let first : Apart (n1 / a * (n2 / b)) (d1 / b) = apart_product (n1 / a) (n2 / b) (d1 / b)
    (apart_parts n1 d1 (n1 / a) (d1 / b) (quotient_divides a ga.0) (quotient_divides b gb.1) px) (quotients_apart n2 d1 some_b) in
    let second : Apart (n1 / a * (n2 / b)) (d2 / a) = apart_product (n1 / a) (n2 / b) (d2 / a) (quotients_apart n1 d2 some_a)
    (apart_parts n2 d2 (n2 / b) (d2 / a) (quotient_divides b gb.0) (quotient_divides a ga.1) py) in
    let all : Apart (n1 / a * (n2 / b)) (d1 / b * (d2 / a)) = apart_swap (d1 / b * (d2 / a)) (n1 / a * (n2 / b))
    (apart_product (d1 / b) (d2 / a) (n1 / a * (n2 / b)) (apart_swap (n1 / a * (n2 / b)) (d1 / b) first)
    (apart_swap (n1 / a * (n2 / b)) (d2 / a) second)) in
    let num_is : unsigned_abs num ≡ n1 / a * (n2 / b) =
    rw (top.0, unsigned_abs-mul (int_div x.num (pos a)) (int_div y.num (pos b)), size_quotient x.num a, size_quotient y.num b) refl in
    let den_is : unsigned_abs den ≡ d1 / b * (d2 / a) =
    rw (low.0, unsigned_abs-mul (int_div x.den (pos b)) (int_div y.den (pos a)), size_quotient x.den b, size_quotient y.den a) refl in
    record {
      positive = rw low.0 (product_positive _ _ (quotient_positive x.den b p.positive gb.1) (quotient_positive y.den a q.positive ga.1));
      num_size = top.1;
      den_size = low.1;
      reduced = rw (num_is, den_is) (gcd_from_apart _ _ all);
    }

abs_three : (u v : ℤ) → (unsigned_abs u ≡ unsigned_abs (u +ℤ v) + unsigned_abs v)
    ⊎ ((unsigned_abs (u +ℤ v) ≡ unsigned_abs u + unsigned_abs v) ⊎ (unsigned_abs v ≡ unsigned_abs u + unsigned_abs (u +ℤ v)))
abs_three (pos a) (pos b) = inr (inl refl)
abs_three (pos a) (negsuc b) = elim (cases_lt a (suc b)) [ inl h ↦ inr (inr (omega (arith, ints))) | inr h ↦ inl (omega (arith, ints)) ]
abs_three (negsuc a) (pos b) = elim (cases_lt b (suc a)) [ inl h ↦ inl (omega (arith, ints)) | inr h ↦ inr (inr (omega (arith, ints))) ]
abs_three (negsuc a) (negsuc b) = inr (inl (omega arith))

-- what divides a sum and one part divides the other
dvd_first : (d : ℕ) (u v : ℤ) → d ∣ unsigned_abs (u +ℤ v) → d ∣ unsigned_abs v → d ∣ unsigned_abs u
dvd_first d u v h k =
    elim (abs_three u v) [
      | inl e ↦ rw e (dvd-add d h k)
      | inr r ↦ elim r [
        | inl e ↦ (dvd-add_iff_left d k).1 (rw e at h)
        | inr e ↦ (dvd-add_iff_left d h).1 (rw e at k)
      ]
    ]

dvd_second : (d : ℕ) (u v : ℤ) → d ∣ unsigned_abs (u +ℤ v) → d ∣ unsigned_abs u → d ∣ unsigned_abs v
dvd_second d u v h k = dvd_first d v u (rw (+ℤ_comm v u) h) k

pub add_reduced : (x y : Terms) (u v t den : ℤ) → IsReduced x → IsReduced y → sized (x.num *ℤ int_div y.den (gcd_of x.den y.den)) ≡ Some u
    → sized (y.num *ℤ int_div x.den (gcd_of x.den y.den)) ≡ Some v → sized (u +ℤ v) ≡ Some t
    → sized (int_div x.den (gcd_of x.den y.den) *ℤ int_div y.den (gcd_of t (gcd_of x.den y.den))) ≡ Some den
    → IsReduced (record { num = int_div t (gcd_of t (gcd_of x.den y.den)); den = den })
add_reduced x y u v t den p q eu ev et ed =
    let n1 = unsigned_abs x.num in
    let d1 = unsigned_abs x.den in
    let n2 = unsigned_abs y.num in
    let d2 = unsigned_abs y.den in
    let g = gcd d1 d2 in
    let tt' = unsigned_abs t in
    let h = gcd tt' g in
    let su = sized_says _ _ eu in
    let sv = sized_says _ _ ev in
    let st = sized_says _ _ et in
    let sd = sized_says _ _ ed in
    let gd = gcd_is d1 d2 in
    let gh = gcd_is tt' g in
    let some_g : 0 < g = (gcd_bounds d1 d2 (size_positive y.den q.positive)).0 in
    let some_h : 0 < h = (gcd_bounds tt' g some_g).0 in
    let px : Apart n1 d1 = apart_from_gcd n1 d1 p.reduced in
    let py : Apart n2 d2 = apart_from_gcd n2 d2 q.reduced in
    let both : Apart (d1 / g) (d2 / g) = quotients_apart d1 d2 some_g in
    let u_is : unsigned_abs u ≡ n1 * (d2 / g) = rw (su.0, unsigned_abs-mul x.num (int_div y.den (pos g)), size_quotient y.den g) refl in
    let v_is : unsigned_abs v ≡ n2 * (d1 / g) = rw (sv.0, unsigned_abs-mul y.num (int_div x.den (pos g)), size_quotient x.den g) refl in
    let u_first : Apart (n1 * (d2 / g)) (d1 / g) = apart_product n1 (d2 / g) (d1 / g)
    (apart_parts n1 d1 n1 (d1 / g) (dvd_refl n1) (quotient_divides g gd.0) px) (apart_swap (d1 / g) (d2 / g) both) in
    let v_second : Apart (n2 * (d1 / g)) (d2 / g) = apart_product n2 (d1 / g) (d2 / g)
    (apart_parts n2 d2 n2 (d2 / g) (dvd_refl n2) (quotient_divides g gd.1) py) both in
    let first : Apart tt' (d1 / g) = λ d r s. u_first d (rw u_is at (dvd_first d u v (rw st.0 at r) (rw v_is (dvd-mul_left_of_dvd d s n2)))) s in
    let second : Apart tt' (d2 / g) = λ d r s. v_second d (rw v_is at (dvd_second d u v (rw st.0 at r) (rw u_is (dvd-mul_left_of_dvd d s n1)))) s in
    let third : Apart (tt' / h) (g / h) = quotients_apart tt' g some_h in
    let low : tt' / h ∣ tt' = quotient_divides h gh.0 in
    let one_ : Apart (d1 / g) (tt' / h) = apart_swap (tt' / h) (d1 / g) (apart_parts tt' (d1 / g) (tt' / h) (d1 / g) low (dvd_refl (d1 / g)) first) in
    let two : Apart (d2 / g) (tt' / h) = apart_swap (tt' / h) (d2 / g) (apart_parts tt' (d2 / g) (tt' / h) (d2 / g) low (dvd_refl (d2 / g)) second) in
    let rest : Apart (d2 / g * (g / h)) (tt' / h) = apart_product (d2 / g) (g / h) (tt' / h) two (apart_swap (tt' / h) (g / h) third) in
    let all : Apart (d1 / g * (d2 / g * (g / h))) (tt' / h) = apart_product (d1 / g) (d2 / g * (g / h)) (tt' / h) one_ rest in
    let h_divides : h ∣ d2 = dvd_trans h gh.1 gd.1 in
    let split : d2 / h ≡ d2 / g * (g / h) = rw (← mul-div_assoc h (d2 / g) gh.1, div-mul_cancel g gd.1) refl in
    let num_is : unsigned_abs (int_div t (pos h)) ≡ tt' / h = size_quotient t h in
    let den_is : unsigned_abs den ≡ d1 / g * (d2 / g * (g / h)) =
    rw (sd.0, unsigned_abs-mul (int_div x.den (pos g)) (int_div y.den (pos h)), size_quotient x.den g, size_quotient y.den h, split) refl in
    record {
      positive = rw sd.0 (product_positive _ _ (quotient_positive x.den g p.positive gd.0) (quotient_positive y.den h q.positive h_divides));
      num_size = let w = st.1 in rw num_is (omega (arith, div-le_self tt' h));
      den_size = sd.1;
      reduced = rw (num_is, den_is) (gcd_from_apart _ _ (apart_swap (d1 / g * (d2 / g * (g / h))) (tt' / h) all));
    }
