-- What a test answers.
use Rattle.std.specs.Prelude.{◌≡◌, ◌<◌, ℕ, Bool}

-- at the positions below `n` the answer of a test is that of `f`
abbrev pub Decides : ℕ → (ℕ → Bool → Type 0) → (ℕ → Bool) → Type 0
Decides n says f = (j : ℕ) (b : Bool) → j < n → says j b → b ≡ f j
