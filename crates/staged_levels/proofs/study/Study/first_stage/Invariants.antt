use Rattle.std.proofs.Common.{ℕ, ◌≤◌}
use Rattle.fraction.specs.View.{number_of}
use Rattle.staged_levels.specs.StudyContents.{MeetsAtStage}
use Rattle.staged_levels.specs.StudyView.{study}
use Rattle.staged_levels.proofs.study.Study.first_stage.Given as goal

abbrev pub invariant-loop-t : goal.invariant-loop-t
invariant-loop-t l = (s : ℕ) → 1 ≤ s → s ≤ l.t → ¬ MeetsAtStage (study l.fn.self) l.fn.k s (number_of l.weight)
