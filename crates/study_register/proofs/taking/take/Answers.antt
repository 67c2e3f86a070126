use Rattle.std.proofs.Common.{ap, ◌∙◌, subst, ◌++◌, true}
use Rattle.staged_levels.specs.StudyAnswers.{call_of}
use Rattle.staged_levels.specs.StudyCalls.{IsCall, IsArrival}
use Rattle.staged_levels.specs.StudyView.{study}
use Rattle.staged_levels.proofs.Calls.{settle_appends}
use Rattle.staged_levels.proofs.LookSteps.{study_defined}
use Rattle.study_register.specs.Looking.{arrival_of}
use Rattle.study_register.proofs.taking.take.Goals as goal

pub returns-in-Ok-clause-taken : goal.returns-in-Ok-clause-taken
returns-in-Ok-clause-taken c = λ k T.
    let old = study c.args.current.now in
    let mid = study c.step.new.self in
    let new = study c.settle.new.self in
    let M = c.step.ensures.study k T in
    let arrival : IsArrival k old.looks (arrival_of c.args.look.now) mid.looks =
    subst (λ e. IsCall k old.looks (call_of e) true mid.looks) c.event_of.ensures (c.in_default.ensures.call k T) in
    let settles = c.in-Ok.ensures.call k M in
    let s = settle_appends k mid.looks new.looks settles in (
      s.0,
      record {
        arrived = mid.looks;
        arrival = arrival;
        settles = settles;
        rejected = s.1 ∙ ap (λ rs. rs ++ s.0) arrival.rejected;
        is_defined = study_defined k new (c.settle.ensures.study k M);
      },
    )
