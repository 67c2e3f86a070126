-- The words of a call, as contracts see them.
use Rattle.std.specs.Prelude.{ℕ, List, map, String, string_bytes}

-- words, each by its bytes in UTF-8
abbrev pub words_in : {Z : Type 0} → List (String Z) → List (List ℕ)
words_in = map string_bytes
