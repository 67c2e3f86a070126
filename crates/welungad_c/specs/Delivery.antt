-- The delivery of a text to the caller.
use Rattle.std.specs.Prelude.{◌≡◌, ℕ, ◌<◌, ◌≤◌, ◌++◌, List, length, take, drop}

-- If a text fits into the caller's bytes, it is put at their front and its status returned, and what is after it stays. If it doesn't fit, its front
-- fills these bytes, and the status is 7. The length of the whole text is reported in both cases.
pub record Delivers (text : List ℕ) (status : ℕ) (old new : List ℕ) (needed result : ℕ) : Type 0 where
  pub reported : needed ≡ length text
  pub fits : length text ≤ length old → (result ≡ status) × (new ≡ text ++ drop (length text) old)
  pub full : length old < length text → (result ≡ 7) × (new ≡ take (length old) text)
