use Rattle.std.proofs.Common.{lit<}
use Rattle.field_core.specs.declared.place.Op.TheVariants.{Div}
use Rattle.field_core.specs.View.{terms}
use Rattle.field_core.specs.Laws.AtMostLaws.{positive-nonzero}
use Rattle.fraction.specs.Plain.{fraction_parts}
use Rattle.fraction.specs.View.{number_of}
use Rattle.case_model.proofs.StageLevels.{positive_at}
use Rattle.case_model.proofs.Thresholds.{short_within, stored_nonzero, quotient_fits, quotient_times}
use Rattle.case_model.proofs.Wide.{some_from, none_from}
use Rattle.case_model.proofs.stage_levels.weight_for.Goals as goal

pub div-requires : goal.div-requires
div-requires c = stored_nonzero c.args.level.now (positive-nonzero _ (positive_at (number_of c.args.level.now) c.requires.some))

pub unreachable-requires : goal.unreachable-requires
unreachable-requires c = quotient_fits c.args.p.now c.args.level.now 100000000 c.requires.p (short_within (terms c.args.level.now) 100000000 c.requires.short)
    (lit< tt) (none_from Div c.in-Err.field-0 _ c.in-Err.ensures)

pub returns : goal.returns
returns c = quotient_times c.args.p.now c.args.level.now c.in-Ok.weight (positive-nonzero _ (positive_at (number_of c.args.level.now) c.requires.some))
    (some_from Div (fraction_parts c.in-Ok.weight) _ c.in-Ok.ensures)
