use Rattle.std.proofs.Common.{◌≡◌, ℕ, ◌-◌, List, length}
use Rattle.case_model.specs.Content.{Content}
use Rattle.staged_levels.specs.Studies.{positions_of}
use Rattle.staged_levels.specs.StudyCalls.{AreFirstRejections}
use Rattle.staged_levels.specs.StudyContents.{IsStudy, size_of}
use Rattle.staged_levels.specs.StudyView.{study}
use Rattle.staged_levels.proofs.study.Study.settle.Given as goal

abbrev pub invariant-loop-k : goal.invariant-loop-k
invariant-loop-k l =
    (size_of (study l.self) ≡ size_of (study l.fn.self))
    × ((c : Content) → IsStudy c (study l.fn.self) → IsStudy c (study l.self)
    × ((ks : List ℕ) × AreFirstRejections c (study l.fn.self).looks ks (study l.self).looks))

abbrev pub decreases-loop-k : goal.decreases-loop-k
decreases-loop-k l = size_of (study l.self) - length (positions_of (study l.self).looks.rejected)
