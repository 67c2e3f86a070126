-- Counts of faults, and how an error of a call changes them.
use Rattle.std.specs.Prelude.{◌≡◌, ℕ, ◌+◌, ◌-◌, ◌^◌, ◌≤◌, min, Result, OnErr, OnOk, MatchResult}

-- one more, of a count that stays at 2^64 - 1
abbrev pub count_up : ℕ → ℕ
count_up n = min (n + 1) (2 ^ 64 - 1)

-- the count of faults rose, or is 2^64 - 1, where it stays
abbrev pub Rose : ℕ → ℕ → Type 0
Rose before now = count_up before ≤ now

-- the count never falls, an error comes only if it rose, and with an answer it stays
pub record HasCause {T E : Type 0} (before now : ℕ) (result : Result T E) : Type 0 where
  pub later : before ≤ now
  pub failed : OnErr result (Rose before now)
  pub stayed : OnOk result (now ≡ before)

-- the count rises by one at an error, and stays at an answer
abbrev pub CountsFault : {T E : Type 0} → ℕ → ℕ → Result T E → Type 0
CountsFault before now result = MatchResult result (λ _. now ≡ before) (λ _. now ≡ count_up before)
