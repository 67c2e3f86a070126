-- Texts of numbers, and texts of which a beginning was written.
use Rattle.std.specs.Prelude.{◌≡◌, ℕ, ℤ, pos, List, ◌∷◌, ◌++◌, if◌then◌else◌}
use Rattle.std.specs.Fmt.{signed_decimal}
use Rattle.std.specs.Ordering.{int_eq}

-- `n`, or `n/d` if the denominator isn't 1
abbrev pub fraction_text : ℤ → ℤ → List ℕ
fraction_text n d = if int_eq d (pos 1) then signed_decimal n else signed_decimal n ++ 47 ∷ signed_decimal d

-- a beginning of the text was appended, and what there was before stays
pub record IsBegun (old new text : List ℕ) : Type 0 where
  pub front : List ℕ
  pub rest : List ℕ
  pub appended : new ≡ old ++ front
  pub text_is : text ≡ front ++ rest
