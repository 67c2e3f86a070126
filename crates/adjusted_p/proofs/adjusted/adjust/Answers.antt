use Rattle.std.proofs.Common.{ap, ◌∙◌}
use Rattle.case_model.specs.CaseView.{content}
use Rattle.case_model.specs.Draft.{is_level}
use Rattle.sequential.specs.TrialView.{trial}
use Rattle.adjusted_p.proofs.Done.{values_are, none_wide, faults_are}
use Rattle.adjusted_p.proofs.LevelOne.{one_level}
use Rattle.adjusted_p.proofs.adjusted.adjust.Goals as goal

pub open_at-requires-clause-level : goal.open_at-requires-clause-level
open_at-requires-clause-level c = ap is_level c.level_one.ensures ∙ one_level

pub returns-clause-values : goal.returns-clause-values
returns-clause-values c = values_are (content c.args.case.now) (trial c.in_ok-current.current) (trial c.run.new.current) c.level_one.result c.level_one.ensures
    c.in_ok-current.ensures.trial c.run.result c.run.ensures.run

pub returns-clause-defined : goal.returns-clause-defined
returns-clause-defined c = none_wide (content c.args.case.now) (trial c.in_ok-current.current) (trial c.run.new.current) c.level_one.result c.level_one.ensures
    c.in_ok-current.ensures.trial c.run.result c.run.ensures.run

pub returns-clause-fault : goal.returns-clause-fault
returns-clause-fault c = faults_are (content c.args.case.now) (trial c.in_ok-current.current)
    (trial c.run.new.current) c.level_one.result c.level_one.ensures c.in_ok-current.ensures.trial c.run.result c.run.ensures.fault
