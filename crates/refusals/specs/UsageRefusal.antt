-- The refusal of words that aren't accepted.
use Rattle.std.specs.Prelude.{ℕ, ◌++◌, codes}
use Rattle.std.specs.Fmt.{decimal}
use Rattle.answers.specs.declared.refusal.Refusal.{Refusal}
use Rattle.answers.specs.declared.cause.Cause.TheVariants.{Usage}
use Rattle.answers.specs.Lines.{line}

-- the word of this number, from 1, is the first that isn't allowed
unfoldable pub usage : ℕ → Refusal
usage n = record { cause = Usage; line = line (codes "usage: word " ++ decimal n) }
