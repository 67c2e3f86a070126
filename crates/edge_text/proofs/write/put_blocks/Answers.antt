use Rattle.std.proofs.Common.{◌∙◌, ◌++◌, ◌<◌, ◌≤◌, length, refl, ap, arith}
use Rattle.std.specs.List.{flat_map}
use Rattle.std.proofs.lemmas.List.{get_or_default}
use Rattle.case_model.specs.Content.{component_at, empty_component}
use Rattle.text_lines.specs.Spelling.{text_of}
use Rattle.edge_text.specs.CanonicalText.{block_lines, blocks_lines}
use Rattle.edge_text.proofs.WrittenLines.{lines_next, lines_end}
use Rattle.edge_text.proofs.write.put_blocks.Goals as goal

pub loop-component-preserved : goal.loop-component-preserved
loop-component-preserved c =
    let ks = c.args.case.now.components in
    let k = component_at ks c.loop-component.component in
    let below : c.loop-component.component < length ks = omega arith in
    lines_next (block_lines c.args.case.now.names c.is_alone-alone.result) ks c.loop-component.component k _ c.loop-component.text c.put_block.new.text below
    (get_or_default ks c.loop-component.component empty_component k below) c.loop-component.invariant c.in_ok-put_block.ensures

pub returns : goal.returns
unfolding blocks_lines
returns c =
    let ks = c.args.case.now.components in
    let names = c.args.case.now.names in
    let end : length ks ≤ c.loop-component.component = omega arith in
    lines_end (flat_map (block_lines names c.is_alone-alone.result)) refl ks c.loop-component.component _ c.loop-component.text end c.loop-component.invariant
    ∙ ap (λ b. c.args.text.now ++ text_of (flat_map (block_lines names b) ks)) c.is_alone-alone.ensures
