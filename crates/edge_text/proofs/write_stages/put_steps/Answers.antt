use Rattle.std.proofs.Common.{◌<◌, ◌≤◌, length, map, refl, arith}
use Rattle.edge_text.specs.CanonicalText.{table_words}
use Rattle.edge_text.proofs.WrittenLines.{line_next, lines_end}
use Rattle.edge_text.proofs.write_stages.put_steps.Goals as goal

pub loop-step-preserved : goal.loop-step-preserved
loop-step-preserved c =
    let below : c.loop-step.step-index < length c.args.steps.now = omega arith in
    line_next (table_words c.args.name.now) c.args.steps.now c.loop-step.step-index c.step-item.result _ c.loop-step.text c.put_step.new.text below
    c.step-item.is c.loop-step.invariant c.in_ok-put_step.ensures

pub returns : goal.returns
returns c =
    let end : length c.args.steps.now ≤ c.loop-step.step-index = omega arith in
    lines_end (map (table_words c.args.name.now)) refl c.args.steps.now c.loop-step.step-index _ c.loop-step.text end c.loop-step.invariant
