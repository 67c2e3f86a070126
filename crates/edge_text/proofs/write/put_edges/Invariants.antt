use Rattle.std.proofs.Common.{◌≡◌, ◌++◌, drop}
use Rattle.text_lines.specs.Spelling.{text_of}
use Rattle.edge_text.specs.CanonicalText.{table_lines}
use Rattle.edge_text.proofs.write.put_edges.Given as goal

-- what is put, with the entries that are left, is all
abbrev pub invariant-loop-place : goal.invariant-loop-place
invariant-loop-place l = l.text ++ text_of (table_lines l.names l.place (drop l.place l.table)) ≡ l.fn.text ++ text_of (table_lines l.names 0 l.table)
