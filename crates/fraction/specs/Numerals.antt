-- Numerals as a function: each text has a value or a fault.
use Rattle.std.specs.Prelude.{ℕ, List, Result}
use Rattle.field_core.specs.declared.ratio.Ratio.{Ratio}
use Rattle.field_core.proofs.Decided.{value_by}
use Rattle.numerals.specs.declared.fault.NumberFault.{NumberFault}
use Rattle.numerals.specs.Numeral.{IsRatioText, IsParseFault}
use Rattle.numerals.proofs.Readings.{one_ratio, ratio_not_fault, reading}
use Rattle.numerals.proofs.Unique.{one_fault}

-- the value of a text that is a numeral, in lowest terms, or the fault of another text
unfoldable pub numeral_of : List ℕ → Result Ratio NumberFault
numeral_of text = value_by IsRatioText IsParseFault one_ratio one_fault ratio_not_fault text (reading text)
