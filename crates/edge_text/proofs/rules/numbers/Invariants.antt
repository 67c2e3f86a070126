use Rattle.std.proofs.Common.{◌≡◌, Ok, ◌++◌}
use Rattle.text_lines.specs.Words.{words_of}
use Rattle.field_core.specs.Answers.{and_then}
use Rattle.edge_text.specs.WordReading.{numbers}
use Rattle.edge_text.proofs.rules.numbers.Given as goal

abbrev pub invariant-loop-word : goal.invariant-loop-word
invariant-loop-word l = numbers (words_of l.fn.words) ≡ and_then (numbers (words_of l.word-iterator)) (λ xs. Ok (l.values ++ xs))
