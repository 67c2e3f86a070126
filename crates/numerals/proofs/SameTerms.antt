-- Fractions of the same terms are the same.
use Rattle.std.proofs.Common.{◌≡◌, ap}
use Rattle.std.proofs.Props.{props}
use mathlib.Core.HLevel.{Σ_prop_path}
use Rattle.field_core.specs.Terms.{Terms, IsReduced}
use Rattle.field_core.specs.View.{terms}
use Rattle.field_core.specs.declared.ratio.Ratio.{Ratio}

reduced_is_fact : (t : Terms) → IsProp (IsReduced t)
reduced_is_fact t = hlevel props

abbrev with_fact : ((t : Terms) × IsReduced t) → Ratio
with_fact p = record { num = p.0.num; den = p.0.den; valid = p.1 }

pub same_ratio : (x y : Ratio) → terms x ≡ terms y → x ≡ y
same_ratio x y e =
    let both : ◌≡◌ {A = (t : Terms) × IsReduced t} (terms x, x.valid) (terms y, y.valid) = Σ_prop_path reduced_is_fact e in
    ap with_fact both
