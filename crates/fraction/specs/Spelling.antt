-- The texts of fractions.
use Rattle.std.specs.Prelude.{◌≡◌, ℕ, ◌≤◌, ◌⊎◌, List}
use Rattle.field_core.specs.Terms.{Terms}
use Rattle.field_core.specs.Texts.{fraction_text}

-- `n`, or `n/d` if the denominator isn't 1, with a minus in front if n is below 0
unfoldable pub spelling : Terms → List ℕ
spelling x = fraction_text x.num x.den

-- a digit, a minus or a slash
abbrev pub IsSpellingByte : ℕ → Type 0
IsSpellingByte b = ((48 ≤ b) × (b ≤ 57)) ⊎ ((b ≡ 45) ⊎ (b ≡ 47))
