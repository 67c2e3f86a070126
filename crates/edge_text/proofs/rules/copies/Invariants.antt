use Rattle.std.proofs.Common.{◌≡◌, ◌++◌}
use Rattle.text_lines.specs.Words.{words_of}
use Rattle.edge_text.proofs.rules.copies.Given as goal

abbrev pub invariant-loop-word : goal.invariant-loop-word
invariant-loop-word l = l.copies ++ words_of l.word-iterator ≡ words_of l.fn.words
