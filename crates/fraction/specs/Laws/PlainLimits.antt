-- The limit terms of a stored fraction are its own terms.
use Rattle.std.proofs.Common.{◌≡◌, ap, ap₂, ◌∙◌, pos, int_div}
use Rattle.field_core.specs.Terms.{Terms, IsReduced}
use Rattle.field_core.specs.Sized.{gcd_of}
use Rattle.field_core.specs.Kind.{Parts}
use Rattle.field_core.specs.LimitParts.{limit_terms}
use Rattle.fraction.specs.Plain.{IsFraction, pair_of, single}
use Rattle.field_core.proofs.Wholes.{over_one}

pub limit_single : (p : Terms) → IsReduced p → limit_terms (single p) ≡ p
unfolding limit_terms
limit_single p r =
    let n : int_div p.num (gcd_of p.num p.den) ≡ p.num = ap (λ g. int_div p.num (pos g)) r.reduced ∙ over_one p.num in
    let d : int_div p.den (gcd_of p.num p.den) ≡ p.den = ap (λ g. int_div p.den (pos g)) r.reduced ∙ over_one p.den in
    ap₂ (λ x y. record { num = x; den = y }) n d

pub limit_pair : (x : Parts) → IsFraction x → limit_terms x ≡ pair_of x
limit_pair x f = ap limit_terms f.shape ∙ limit_single (pair_of x) f.reduced
