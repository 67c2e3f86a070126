-- What Ok written operations on pairs say, step by step.
use Rattle.std.proofs.Common.{◌≡◌, refl, subst, Option, Some, None}
use Rattle.field_core.specs.Terms.{Terms, IsReduced}
use Rattle.field_core.specs.Sized.{◌>>=◌}
use Rattle.fraction.specs.Written.{written_add, written_mul}
use Rattle.numerals.specs.Numeral.{Same}
use Rattle.fraction.specs.Laws.CrossProducts.{sum_of, product_of}
use Rattle.fraction.specs.Laws.Reduced.{mul_reduced, add_reduced}
use Rattle.fraction.specs.Laws.ExactTerms.{mul_exact, add_exact}

-- a step that was taken
pub bind_some : {A B : Type 0} (r : Option A) (f : A → Option B) (y : B) → (r >>= f) ≡ Some y → (x : A) × ((r ≡ Some x) × (f x ≡ Some y))
bind_some (Some x) f y h = (x, (refl, h))
bind_some None f y h = absurd (cc)

-- A reduced pair of this value.
pub record Makes (z w : Terms) : Type 0 where
  pub reduced : IsReduced z
  pub same : Same z w

makes_of : (z p w : Terms) → Path (Option Terms) (Some p) (Some z) → IsReduced p → Same p w → Makes z w
makes_of z p w h r s = let e : p ≡ z = cc in subst (λ q. Makes q w) e (record { reduced = r; same = s })

pub add_says : (x y z : Terms) → IsReduced x → IsReduced y → written_add x y ≡ Some z → Makes z (sum_of x y)
unfolding written_add
add_says x y z r s h =
    let u = bind_some _ _ z h in
    let v = bind_some _ _ z u.1.1 in
    let t = bind_some _ _ z v.1.1 in
    let d = bind_some _ _ z t.1.1 in
    makes_of z _ _ d.1.1 (add_reduced x y u.0 v.0 t.0 d.0 r s u.1.0 v.1.0 t.1.0 d.1.0) (add_exact x y u.0 v.0 t.0 d.0 u.1.0 v.1.0 t.1.0 d.1.0)

pub mul_says : (x y z : Terms) → IsReduced x → IsReduced y → written_mul x y ≡ Some z → Makes z (product_of x y)
unfolding written_mul
mul_says x y z r s h =
    let n = bind_some _ _ z h in
    let d = bind_some _ _ z n.1.1 in
    makes_of z _ _ d.1.1 (mul_reduced x y n.0 d.0 r s n.1.0 d.1.0) (mul_exact x y n.0 d.0 n.1.0 d.1.0)
