use Rattle.std.proofs.Common.{◌≡◌, take}
use Rattle.case_model.specs.Content.{Content}
use Rattle.staged_levels.specs.StudyContents.{IsStudy, size_of}
use Rattle.staged_levels.specs.StudyView.{study}
use Rattle.study_register.specs.Looking.{Follows}
use Rattle.study_register.proofs.taking.follow.Given as goal

-- the looks so far have been taken
abbrev pub invariant-loop-i : goal.invariant-loop-i
invariant-loop-i l = record {
  same_case : (c : Content) → IsStudy c (study l.initial.current) → IsStudy c (study l.current);
  followed : (c : Content) → IsStudy c (study l.initial.current) → Follows c (study l.initial.current).looks (take l.i l.looks) (study l.current).looks;
  size : size_of (study l.current) ≡ size_of (study l.initial.current);
}
