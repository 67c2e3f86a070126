-- Why there is no table of Simes' test.
use Rattle.std.specs.Prelude.{ℕ, length}
use Rattle.field_core.specs.declared.ratio.Ratio.{Ratio}
use Rattle.case_model.specs.Content.{Content, ForSingle}
use Rattle.simes_test.specs.SimesSums.{IsFirstWideSum}
use Rattle.simes_test.specs.declared.fault.SimesFault.{SimesFault}
use Rattle.simes_test.specs.declared.fault.SimesFault.TheVariants.{Wide, NoMemory}

-- by these weights this is the first set with a sum that isn't defined, and the first such sum; nothing is claimed of out-of-memory
abbrev pub IsSimesFault : Content → (ℕ → ℕ → Ratio) → SimesFault → Type 0
IsSimesFault c weight (Wide n w) = ForSingle c.inputs (λ ps. IsFirstWideSum (length c.names) ps weight n w)
IsSimesFault c weight NoMemory = Unit {0}
