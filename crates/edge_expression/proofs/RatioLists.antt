-- Lists of fractions by their terms.
use Rattle.std.proofs.Common.{◌≡◌, ℕ, zero, suc, List, [], ◌∷◌, map, refl, ap}
use Rattle.field_core.specs.Terms.{Terms, IsReduced}
use Rattle.field_core.specs.View.{terms}
use Rattle.field_core.specs.declared.ratio.Ratio.{Ratio}
use Rattle.case_model.specs.Sums.{terms_at}

-- fractions of these terms
pub record AreOf (ts : List Terms) : Type 0 where
  pub ratios : List Ratio
  pub are : map terms ratios ≡ ts

pub ratios_of : (ts : List Terms) → ((k : ℕ) → IsReduced (terms_at ts k)) → AreOf ts
unfolding terms_at
ratios_of [] h = record { ratios = []; are = refl }
ratios_of (t ∷ ts) h =
    let more = ratios_of ts (λ k. h (suc k)) in
    record { ratios = record { num = t.num; den = t.den; valid = h zero } ∷ more.ratios; are = ap (λ zs. t ∷ zs) more.are }
