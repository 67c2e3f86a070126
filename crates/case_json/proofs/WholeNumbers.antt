-- Whole numbers as ratios.
use Rattle.std.proofs.Common.{◌≡◌, ◌<◌, ◌^◌, ◌∙◌, ℤ, pos, Bool, true, false, Some, refl, sym, ap, arith}
use Rattle.std.specs.Prelude.{unsigned_abs, nat_lt}
use Rattle.std.proofs.lemmas.Bool.{lt-ltb}
use Rattle.field_core.specs.View.{terms}
use Rattle.field_core.specs.declared.ratio.Ratio.{Ratio}
use Rattle.fraction.proofs.SameRatios.{same_ratio}
use Rattle.case_model.specs.Sums.{zero_ratio}
use Rattle.case_json.specs.WholeRatios.{whole_by, whole_ratio}

whole_found : (z : ℤ) (x : Ratio) (b : Bool) (e : nat_lt (unsigned_abs z) (2 ^ 64) ≡ b) → nat_lt (unsigned_abs z) (2 ^ 64) ≡ true
    → terms x ≡ record { num = z; den = pos 1 } → whole_by z b e ≡ Some x
whole_found z x true e h is = ap Some (same_ratio _ x (sym is))
whole_found z x false e h is = absurd (cc (sym h))

-- a ratio of these terms is the whole number
pub whole_is : (z : ℤ) (x : Ratio) → unsigned_abs z < 2 ^ 64 → terms x ≡ record { num = z; den = pos 1 } → whole_ratio z ≡ Some x
unfolding whole_ratio
whole_is z x small is = whole_found z x (nat_lt (unsigned_abs z) (2 ^ 64)) refl (lt-ltb (unsigned_abs z) (2 ^ 64) small) is

pub nought_is : (x : Ratio) → whole_ratio (pos 0) ≡ Some x → x ≡ zero_ratio
nought_is x e = let same : Some zero_ratio ≡ Some x = sym (whole_is (pos 0) zero_ratio (omega arith) refl) ∙ e in cc
