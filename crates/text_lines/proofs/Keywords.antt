-- What the first words of a line say.
use Rattle.std.proofs.Common.{◌≡◌, inl, inr, ℕ, true, false, List, [], ◌∷◌, Some, None}
use Rattle.std.specs.Str.{bytes_eq}
use Rattle.std.proofs.lemmas.Bool.{cases_Bool}
use Rattle.std.proofs.lemmas.Slice.Eq.{bytes_eq-Decides}
use Rattle.text_lines.specs.Words.{words_after}

same : (w keyword : List ℕ) → bytes_eq w keyword ≡ true → w ≡ keyword
same w keyword e = (bytes_eq-Decides w keyword).0 e

apart : (w keyword : List ℕ) → bytes_eq w keyword ≡ false → ¬ (w ≡ keyword)
apart w keyword e h = let k : bytes_eq w keyword ≡ true = (bytes_eq-Decides w keyword).1 h in cc

-- what stands after the keyword
pub keyword_found : (keyword : List ℕ) (words rest : List (List ℕ)) → Some rest ≡ words_after keyword words → words ≡ keyword ∷ rest
keyword_found keyword [] rest h = absurd (cc)
keyword_found keyword (w ∷ ws) rest h = elim (cases_Bool (bytes_eq w keyword)) [
  | inl e ↦ let g : Some rest ≡ Some ws = rw e at h in let k = same w keyword e in cc
  | inr e ↦ let g : Some rest ≡ None = rw e at h in absurd (cc)
]
