-- Texts without a slash.
use Rattle.std.specs.Prelude.{◌≢◌, ℕ, List}
use Rattle.std.specs.List.{AllByRecursion}

-- no byte is a slash
abbrev pub HasNoSlash : List ℕ → Type 0
HasNoSlash text = AllByRecursion (λ b. b ≢ 47) text
