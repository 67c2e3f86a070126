use Rattle.std.proofs.Common.{◌≡◌, take}
use Rattle.case_model.specs.CaseView.{content}
use Rattle.staged_levels.specs.Studies.{start}
use Rattle.staged_levels.specs.StudyContents.{IsStudy}
use Rattle.staged_levels.specs.StudyView.{study}
use Rattle.staged_levels.specs.Looks.{LooksLead}
use Rattle.staged_levels.proofs.case_looks.looks.Given as goal

-- the arrivals so far have come, each with its look
abbrev pub invariant-loop-i : goal.invariant-loop-i
invariant-loop-i l =
    IsStudy (content l.case) (study l.study) × ((study l.study).looks.values ≡ take l.i l.arrivals)
    × LooksLead (content l.case) start (take l.i l.arrivals) l.looks (study l.study).looks
