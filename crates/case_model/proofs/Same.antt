-- Terms and fractions by their stored parts, alone and in lists.
use Rattle.std.proofs.Common.{◌≡◌, refl, ap, ap₂, ℕ, zero, suc, List, [], ◌∷◌, map}
use Rattle.field_core.specs.Terms.{Terms}
use Rattle.field_core.specs.View.{terms}
use Rattle.field_core.specs.Kind.{Parts}
use Rattle.field_core.specs.LimitParts.{first}
use Rattle.field_core.specs.declared.ratio.Ratio.{Ratio}
use Rattle.fraction.proofs.SameRatios.{same_ratio}
use Rattle.fraction.specs.Plain.{plain, single, fraction_parts}
use Rattle.case_model.specs.Sums.{zero_terms, zero_ratio, terms_at, ratio_at}
use Rattle.field_core.proofs.Heads.{heads}

pub from_single : (s t : Terms) → single s ≡ single t → s ≡ t
from_single s t e = ap₂ (λ n d. record { num = n; den = d }) (ap (λ (p : Parts). first p.numerator) e) (ap (λ (p : Parts). first p.denominator) e)

-- a fraction stored as 0 is 0/1
pub zero_of : (z : Ratio) → fraction_parts z ≡ plain.zero → z ≡ zero_ratio
zero_of z e = same_ratio z zero_ratio (from_single (terms z) zero_terms e)

-- ---- lists

-- fractions of the same terms are the same, one by one
pub same_ratios : (xs ys : List Ratio) → map terms xs ≡ map terms ys → xs ≡ ys
same_ratios [] [] e = refl
same_ratios [] (y ∷ ys) e = absurd (cc)
same_ratios (x ∷ xs) [] e = absurd (cc)
same_ratios (x ∷ xs) (y ∷ ys) e = let same = heads (terms x) (terms y) (map terms xs) (map terms ys) e in ap₂ ◌∷◌ (same_ratio x y same.0)
    (same_ratios xs ys same.1)

-- the terms at a place are those of the fraction there
pub terms_at-map : (xs : List Ratio) (k : ℕ) → terms_at (map terms xs) k ≡ terms (ratio_at xs k)
unfolding terms_at ratio_at
terms_at-map [] k = refl
terms_at-map (x ∷ xs) zero = refl
terms_at-map (x ∷ xs) (suc k) = terms_at-map xs k
