-- The texts of lists, item by item.
use Rattle.std.specs.Prelude.{ℕ, ◌+◌, List, [], ◌∷◌, ◌++◌}

-- the texts of the items one after another, each by its place; the place of the first one is `n`
abbrev pub each : {A : Type 0} → (ℕ → A → List ℕ) → ℕ → List A → List ℕ
each f n [] = []
each f n (x ∷ xs) = f n x ++ each f (n + 1) xs
