use Rattle.staged_levels.specs.StudyView.{study}
use Rattle.staged_levels.proofs.LookSteps.{never_refused}
use Rattle.staged_levels.proofs.case_looks.arrive.Goals as goal

pub unreachable-requires : goal.unreachable-requires
unfolding study
unreachable-requires c = never_refused (study c.args.current.now) c.args.current.now.whole c.args.arrival.now c.in-Err.field-0 c.requires.may
    (λ k T. c.in-Err.ensures.fault k T)
