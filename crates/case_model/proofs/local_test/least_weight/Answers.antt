use Rattle.field_core.specs.declared.place.Op.TheVariants.{Div}
use Rattle.fraction.specs.Plain.{fraction_parts}
use Rattle.case_model.proofs.Thresholds.{level_stored_nonzero, threshold_fits, threshold_times}
use Rattle.case_model.proofs.Wide.{some_from, none_from}
use Rattle.case_model.proofs.local_test.least_weight.Goals as goal

pub div-requires : goal.div-requires
div-requires c = level_stored_nonzero c.args.alpha.now c.requires.alpha

pub unreachable-requires : goal.unreachable-requires
unreachable-requires c = threshold_fits c.args.p.now c.args.alpha.now c.requires.p c.requires.alpha (none_from Div c.in-Err.field-0 _ c.in-Err.ensures)

pub returns : goal.returns
returns c = threshold_times c.args.p.now c.args.alpha.now c.in-Ok.weight c.requires.alpha (some_from Div (fraction_parts c.in-Ok.weight) _ c.in-Ok.ensures)
