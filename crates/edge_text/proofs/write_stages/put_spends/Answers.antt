use Rattle.std.proofs.Common.{◌<◌, ◌≤◌, ◌∙◌, ◌++◌, ap, length, arith, sym}
use Rattle.text_lines.specs.Spelling.{text_of}
use Rattle.edge_text.specs.CanonicalText.{spend_lines}
use Rattle.std.proofs.lemmas.Option.{get_or_from_slice_get}
use Rattle.edge_text.proofs.WrittenLines.{spend_next, spends_end}
use Rattle.edge_text.proofs.write_stages.put_spends.Goals as goal

pub loop-i-preserved : goal.loop-i-preserved
loop-i-preserved c =
    let below : c.loop-i.i < length c.args.names.now = omega arith in
    let within : c.loop-i.i < length c.args.stages.now.spend = omega arith in
    spend_next c.args.names.now c.args.stages.now.spend c.loop-i.i c.index-names-i.result c.spend.result.now _ c.loop-i.text c.put_spend.new.text
    below within c.index-names-i.is
    (sym (get_or_from_slice_get c.args.stages.now.spend c.loop-i.i c.spend.result.now c.spend.result.now c.spend.ensures)) c.loop-i.invariant
    (c.in_ok-put_spend.ensures ∙ ap (λ n. c.loop-i.text ++ text_of (spend_lines n c.spend.result.now)) c.as_bytes.ensures)

pub returns : goal.returns
returns c =
    let end : length c.args.names.now ≤ c.loop-i.i = omega arith in
    spends_end c.args.names.now c.args.stages.now.spend c.loop-i.i _ c.loop-i.text end c.loop-i.invariant
