use Rattle.std.proofs.Common.{◌≡◌, ◌<◌, ℕ, Some}
use Rattle.field_core.specs.View.{terms}
use Rattle.field_core.specs.declared.ratio.Ratio.{Ratio}
use Rattle.case_model.specs.Sums.{written_sum}
use Rattle.case_model.proofs.sums.written_sum.Given as goal

abbrev pub invariant-loop-i : goal.invariant-loop-i
invariant-loop-i g l = (f : ℕ → Ratio) → ((i : ℕ) (x : Ratio) → i < l.count → goal.F-post g l.at i x → x ≡ f i)
    → written_sum l.i f ≡ Some (terms l.sum)
