-- Registers as contracts see them, and the faults of openings and of keepers as faults of a register.
use Rattle.std.specs.Prelude.{Bool}
use Rattle.graph_io.specs.declared.keeper.KeeperFault.{KeeperFault}
use Rattle.graph_io.specs.declared.keeper.KeeperFault.TheVariants as keepers
use Rattle.entangled.specs.OpenFaults.{OpenFault}
use Rattle.field_core.specs.declared.fault.Fault.TheVariants as openings
use Rattle.staged_levels.specs.Studies.{StudyState}
use Rattle.staged_levels.specs.StudyContents.{StudyContent}
use Rattle.staged_levels.specs.StudyView.{study}
use Rattle.study_register.specs.declared.fault.RegisterFault.{RegisterFault}
use Rattle.study_register.specs.declared.fault.RegisterFault.TheVariants as registers
use Rattle.study_register.specs.declared.fault.AddFault.{AddFault}
use Rattle.study_register.specs.declared.fault.AddFault.TheVariants as additions
use Rattle.study_register.specs.declared.register.Register.{Register}

-- the study of a register
abbrev pub study_in : Register → StudyContent
study_in r = study r.study

-- what has arrived in a register, and its rejections
abbrev pub looks_in : Register → StudyState
looks_in r = (study_in r).looks

-- whether an addition stopped part way
abbrev pub is_spent : Register → Bool
is_spent r = r.spent

-- a fault of the opening of the case, which is at the place 0
abbrev pub of_opening : OpenFault → RegisterFault
of_opening (openings.Wide w) = registers.Wide 0 w
of_opening openings.NoMemory = registers.NoMemory

-- a fault of the keeper when it loads its looks
abbrev pub of_loading : KeeperFault → RegisterFault
of_loading keepers.Fault = registers.Fault
of_loading keepers.NoMemory = registers.NoMemory

-- a fault of the keeper when it appends a look
abbrev pub of_appending : KeeperFault → AddFault
of_appending keepers.Fault = additions.Fault
of_appending keepers.NoMemory = additions.NoMemory
