-- Fractions of the same terms are the same, and so are those of the same value.
pub use Rattle.numerals.proofs.SameTerms.{same_ratio}
use Rattle.std.proofs.Common.{◌≡◌}
use Rattle.field_core.specs.View.{terms}
use Rattle.field_core.specs.Laws.Effective.{positive_nonzero, fraction-cross}
use Rattle.field_core.specs.declared.ratio.Ratio.{Ratio}
use Rattle.numerals.specs.Laws.Unique.{reduced_unique}
use Rattle.fraction.specs.View.{number_of}

pub same_number : (x y : Ratio) → number_of x ≡ number_of y → x ≡ y
same_number x y e =
    same_ratio x y (reduced_unique (terms x) (terms y) x.valid y.valid
    (fraction-cross x.num x.den y.num y.den (positive_nonzero x.den x.valid.positive) (positive_nonzero y.den y.valid.positive) e))
