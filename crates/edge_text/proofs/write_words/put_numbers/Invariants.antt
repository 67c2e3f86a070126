use Rattle.std.proofs.Common.{◌≡◌, ◌++◌, drop, map}
use Rattle.std.specs.List.{flat_map}
use Rattle.text_lines.specs.Spelling.{spaced}
use Rattle.edge_text.specs.CanonicalText.{number_word}
use Rattle.edge_text.proofs.write_words.put_numbers.Given as goal

-- what is put, with the numbers that are left, is all
abbrev pub invariant-loop-number : goal.invariant-loop-number
invariant-loop-number l = l.text ++ flat_map spaced (map number_word (drop l.number-index l.numbers)) ≡ l.fn.text ++ flat_map spaced
    (map number_word l.numbers)
