-- The words of a call from C.
use Rattle.std.specs.Prelude.{◌≡◌, ℕ, ◌<◌, ◌++◌, List, [], ◌∷◌, ⊤}
use Rattle.std.specs.List.{AllByRecursion}
use Rattle.std.specs.Str.{IsUtf8}
use Rattle.welungad_c.specs.declared.words.NoWords.{NoWords}
use Rattle.welungad_c.specs.declared.words.NoWords.TheVariants.{NoMemory, Unreadable}

-- words one after another, each ended by a byte 0
abbrev pub ended : List (List ℕ) → List ℕ
ended [] = []
ended (word ∷ words) = word ++ 0 ∷ ended words

-- no byte is 0
abbrev pub HasNoZero : List ℕ → Type 0
HasNoZero = AllByRecursion (λ byte. 0 < byte)

-- A word is UTF-8 and has no byte 0.
pub record IsWord (word : List ℕ) : Type 0 where
  pub utf8 : IsUtf8 word
  pub whole : HasNoZero word

-- The bytes are those of these words, each ended by a byte 0.
pub record AreWords (bytes : List ℕ) (words : List (List ℕ)) : Type 0 where
  pub same : bytes ≡ ended words
  pub each : AllByRecursion IsWord words

-- out of memory, or the bytes are not UTF-8
abbrev pub LeavesNoText : List ℕ → NoWords → Type 0
LeavesNoText bytes NoMemory = ⊤
LeavesNoText bytes Unreadable = ¬ IsUtf8 bytes

-- out of memory, or the bytes are not those of any words
abbrev pub LeavesNoWords : List ℕ → NoWords → Type 0
LeavesNoWords bytes NoMemory = ⊤
LeavesNoWords bytes Unreadable = (words : List (List ℕ)) → ¬ AreWords bytes words
