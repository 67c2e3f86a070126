use Rattle.std.proofs.Common.{◌≡◌, ◌++◌, drop}
use Rattle.text_lines.specs.Spelling.{text_of}
use Rattle.edge_text.specs.CanonicalText.{spends_lines}
use Rattle.edge_text.proofs.write_stages.put_spends.Given as goal

-- what is put, with the spends that are left, is all
abbrev pub invariant-loop-i : goal.invariant-loop-i
invariant-loop-i l = l.text ++ text_of (spends_lines (drop l.i l.names) (drop l.i l.stages.spend)) ≡ l.fn.text ++ text_of
    (spends_lines l.names l.stages.spend)
