-- Why cases aren't opened.
use Rattle.std.specs.Prelude.{◌≡◌, Err}
use Rattle.field_core.specs.declared.fault.Fault.{Fault}
use Rattle.field_core.specs.declared.fault.Fault.TheVariants.{Wide, NoMemory}
use Rattle.field_core.specs.declared.place.WideAt.{WideAt}
use Rattle.case_model.specs.Content.{Content}
use Rattle.entangled.specs.CaseRun.{case_opening}

-- why nothing was opened
abbrev pub OpenFault : Type 0
OpenFault = Fault WideAt

-- the first operation of the written opening that is undefined; nothing is claimed of out-of-memory
abbrev pub IsOpenFaultOf : Content → OpenFault → Type 0
IsOpenFaultOf c (Wide w) = case_opening c ≡ Err w
IsOpenFaultOf c NoMemory = Unit {0}
