use Rattle.std.proofs.Common.{◌≡◌, refl, sym, ◌∙◌, ℤ, ◌+ℤ◌, ◌*ℤ◌, unsigned_abs, Some, int_div}
use Rattle.std.proofs.lemmas.Nat.Gcd.{dvd_trans}
use Rattle.field_core.specs.Divisor.{gcd}
use Rattle.field_core.specs.Terms.{Terms}
use Rattle.field_core.specs.Sized.{sized, gcd_of}
use Rattle.numerals.specs.Numeral.{Same}
use Rattle.fraction.specs.Laws.CrossProducts.{sum_of, product_of}
use Rattle.field_core.proofs.Divisors.{gcd_is}
use Rattle.field_core.proofs.IntegerRing.{ring}
use Rattle.field_core.proofs.Sized.{sized_says}
use Rattle.field_core.proofs.Wholes.{quotient_times}

mul_ring : (nx dx ny dy n1 n2 d1 d2 a b : ℤ) → n1 *ℤ a ≡ nx → d2 *ℤ a ≡ dy → n2 *ℤ b ≡ ny → d1 *ℤ b ≡ dx
    → (n1 *ℤ n2) *ℤ (dx *ℤ dy) ≡ (nx *ℤ ny) *ℤ (d1 *ℤ d2)
mul_ring nx dx ny dy n1 n2 d1 d2 a b e f g h = rw (← e, ← f, ← g, ← h) (simp ring)

pub mul_exact : (x y : Terms) (num den : ℤ) → sized (int_div x.num (gcd_of x.num y.den) *ℤ int_div y.num (gcd_of y.num x.den)) ≡ Some num
    → sized (int_div x.den (gcd_of y.num x.den) *ℤ int_div y.den (gcd_of x.num y.den)) ≡ Some den
    → Same (record { num = num; den = den }) (product_of x y)
mul_exact x y num den e f =
    let top = (sized_says _ _ e).0 in
    let low = (sized_says _ _ f).0 in
    let ga = gcd_of x.num y.den in
    let gb = gcd_of y.num x.den in
    let a = gcd_is (unsigned_abs x.num) (unsigned_abs y.den) in
    let b = gcd_is (unsigned_abs y.num) (unsigned_abs x.den) in
    rw (top, low) (mul_ring x.num x.den y.num y.den (int_div x.num ga) (int_div y.num gb) (int_div x.den gb) (int_div y.den ga) ga gb
    (quotient_times x.num _ a.0) (quotient_times y.den _ a.1) (quotient_times y.num _ b.0) (quotient_times x.den _ b.1))

add_ring : (nx dx ny dy p q r n g h : ℤ) → p *ℤ g ≡ dx → q *ℤ g ≡ dy → r *ℤ h ≡ dy → n *ℤ h ≡ nx *ℤ q +ℤ ny *ℤ p
    → n *ℤ (dx *ℤ dy) ≡ (nx *ℤ dy +ℤ ny *ℤ dx) *ℤ (p *ℤ r)
add_ring nx dx ny dy p q r n g h e f k t =
    let left : n *ℤ (dx *ℤ dy) ≡ (n *ℤ h) *ℤ (p *ℤ g *ℤ r) = rw (← e, ← k) (simp ring) in
    let right : (nx *ℤ dy +ℤ ny *ℤ dx) *ℤ (p *ℤ r) ≡ (nx *ℤ q +ℤ ny *ℤ p) *ℤ (p *ℤ g *ℤ r) = rw (← e, ← f) (simp ring) in
    left ∙ rw t refl ∙ sym right

pub add_exact : (x y : Terms) (u v t den : ℤ) → sized (x.num *ℤ int_div y.den (gcd_of x.den y.den)) ≡ Some u
    → sized (y.num *ℤ int_div x.den (gcd_of x.den y.den)) ≡ Some v → sized (u +ℤ v) ≡ Some t
    → sized (int_div x.den (gcd_of x.den y.den) *ℤ int_div y.den (gcd_of t (gcd_of x.den y.den))) ≡ Some den
    → Same (record { num = int_div t (gcd_of t (gcd_of x.den y.den)); den = den }) (sum_of x y)
add_exact x y u v t den eu ev et ed =
    let low = (sized_says _ _ ed).0 in
    let gg = gcd_of x.den y.den in
    let gh = gcd_of t gg in
    let g = gcd_is (unsigned_abs x.den) (unsigned_abs y.den) in
    let k = gcd_is (unsigned_abs t) (gcd (unsigned_abs x.den) (unsigned_abs y.den)) in
    let total : int_div t (gcd_of t (gcd_of x.den y.den)) *ℤ gcd_of t (gcd_of x.den y.den)
    ≡ x.num *ℤ int_div y.den (gcd_of x.den y.den) +ℤ y.num *ℤ int_div x.den (gcd_of x.den y.den) = quotient_times t _ k.0
    ∙ (sized_says _ _ et).0 ∙ rw ((sized_says _ _ eu).0, (sized_says _ _ ev).0) refl in
    rw low (add_ring x.num x.den y.num y.den (int_div x.den gg) (int_div y.den gg) (int_div y.den gh) (int_div t gh) gg gh
    (quotient_times x.den _ g.0) (quotient_times y.den _ g.1) (quotient_times y.den _ (dvd_trans _ k.1 g.1)) total)
