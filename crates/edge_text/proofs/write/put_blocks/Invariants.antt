use Rattle.std.proofs.Common.{◌≡◌, ◌++◌, drop}
use Rattle.std.specs.List.{flat_map}
use Rattle.case_model.specs.CaseView.{content}
use Rattle.text_lines.specs.Spelling.{text_of}
use Rattle.edge_text.specs.CanonicalText.{block_lines}
use Rattle.edge_text.proofs.write.put_blocks.Given as goal

-- what is put, with the components that are left, is all
abbrev pub invariant-loop-component : goal.invariant-loop-component
invariant-loop-component l =
    let c = content l.case in
    let f = block_lines c.names l.alone in
    l.text ++ text_of (flat_map f (drop l.component c.components)) ≡ l.fn.text ++ text_of (flat_map f c.components)
