-- Numerals as a function, and the grammar of numerals.
use Rattle.std.proofs.Common.{◌≡◌, ℕ, List, Ok, Err}
use Rattle.field_core.specs.View.{terms}
use Rattle.field_core.specs.declared.ratio.Ratio.{Ratio}
use Rattle.field_core.proofs.Decided.{is_value, is_fault, value_is, fault_is}
use Rattle.numerals.specs.declared.fault.NumberFault.{NumberFault}
use Rattle.numerals.specs.Numeral.{IsNumeralOf, IsRatioText, IsParseFault}
use Rattle.numerals.proofs.Readings.{one_ratio, ratio_not_fault, reading}
use Rattle.numerals.proofs.Unique.{one_fault}
use Rattle.fraction.specs.Numerals.{numeral_of}

-- a numeral has its value
pub numeral_ok : (s : List ℕ) (x : Ratio) → IsNumeralOf s (terms x) → numeral_of s ≡ Ok x
unfolding numeral_of
numeral_ok s x h = is_value IsRatioText IsParseFault one_ratio one_fault ratio_not_fault s x (reading s) h

-- another text has its fault
pub numeral_err : (s : List ℕ) (f : NumberFault) → IsParseFault s f → numeral_of s ≡ Err f
unfolding numeral_of
numeral_err s f h = is_fault IsRatioText IsParseFault one_ratio one_fault ratio_not_fault s f (reading s) h

pub numeral_is : (s : List ℕ) (x : Ratio) → numeral_of s ≡ Ok x → IsNumeralOf s (terms x)
unfolding numeral_of
numeral_is s x e = value_is IsRatioText IsParseFault one_ratio one_fault ratio_not_fault s x (reading s) e

pub numeral_fails : (s : List ℕ) (f : NumberFault) → numeral_of s ≡ Err f → IsParseFault s f
unfolding numeral_of
numeral_fails s f e = fault_is IsRatioText IsParseFault one_ratio one_fault ratio_not_fault s f (reading s) e
