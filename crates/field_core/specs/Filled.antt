-- Places that are filled one after another, up to the first refusal.
use Rattle.std.specs.Prelude.{ℕ, ◌<◌, List, length, get_or, Result, Ok, Err}

-- the first `n` places hold what `step` may give for them
abbrev pub AreFilledBelow : {T E : Type 0} → (ℕ → Result T E → Type 0) → ℕ → List T → Type 0
AreFilledBelow {T} step n xs = (k : ℕ) (d : T) → k < n → step k (Ok (get_or xs k d))

-- all places hold what `step` may give; or, on a refusal, those below some place do, for which `step` may give this refusal
unfoldable pub AreFilled : {T E U : Type 0} → (ℕ → Result T E → Type 0) → List T → Result U E → Type 0
AreFilled step xs (Ok u) = AreFilledBelow step (length xs) xs
AreFilled step xs (Err e) = (n : ℕ) × (n < length xs) × AreFilledBelow step n xs × step n (Err e)
