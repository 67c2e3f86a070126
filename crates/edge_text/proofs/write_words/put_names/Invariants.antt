use Rattle.std.proofs.Common.{◌≡◌, ◌++◌, drop}
use Rattle.std.specs.List.{flat_map}
use Rattle.text_lines.specs.Spelling.{spaced}
use Rattle.edge_text.proofs.write_words.put_names.Given as goal

-- what is put, with the names that are left, is all
abbrev pub invariant-loop-name : goal.invariant-loop-name
invariant-loop-name l = l.text ++ flat_map spaced (drop l.name-index l.names) ≡ l.fn.text ++ flat_map spaced l.names
