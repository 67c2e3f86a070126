use Rattle.std.proofs.Common.{◌≡◌}
use Rattle.case_model.specs.CaseView.{content}
use Rattle.text_lines.specs.Forms.{reading, texts_seen}
use Rattle.text_lines.specs.Kinds.{more_lines}
use Rattle.text_lines.specs.Lines.{end_of, rows_left}
use Rattle.edge_text.specs.Document.{kinds}
use Rattle.study_cli.specs.Commands.{command, commands_of}
use Rattle.study_cli.proofs.reading.read.Given as goal

abbrev pub invariant-loop-line : goal.invariant-loop-line
invariant-loop-line l =
    let names = (content l.fn.case).names in
    commands_of names l.fn.bytes ≡ reading kinds (more_lines (command names) l.commands) (texts_seen (rows_left l.line-iterator)) (end_of l.fn.bytes)
