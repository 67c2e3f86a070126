use Rattle.std.proofs.Common.{ap}
use Rattle.fraction.proofs.SameRatios.{same_ratio}
use Rattle.staged_levels.specs.declared.event.Event.TheVariants.{Arrive}
use Rattle.study_register.proofs.taking.event_of.Goals as goal

pub returns : goal.returns
returns c = ap (λ p. Arrive c.args.look.now.hypothesis c.args.look.now.stage p) (same_ratio c.of.result c.args.look.now.p c.of.ensures)
