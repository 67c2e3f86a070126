use Rattle.std.proofs.Common.{◌≡◌, ◌++◌, drop, map}
use Rattle.text_lines.specs.Spelling.{text_of}
use Rattle.edge_text.specs.CanonicalText.{table_words}
use Rattle.edge_text.proofs.write_stages.put_steps.Given as goal

-- what is put, with the steps that are left, is all
abbrev pub invariant-loop-step : goal.invariant-loop-step
invariant-loop-step l = l.text ++ text_of (map (table_words l.name) (drop l.step-index l.steps)) ≡ l.fn.text ++ text_of (map (table_words l.name) l.steps)
