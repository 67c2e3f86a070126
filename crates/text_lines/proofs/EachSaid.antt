-- What a form for each of some says.
use Rattle.std.proofs.Common.{◌≡◌, suc, List, [], ◌∷◌, ◌++◌, map, length, refl, sym, ap, ap₂, subst, ◌∙◌, append_assoc}
use Rattle.std.specs.List.{All}
use Rattle.std.proofs.lemmas.List.Elements.{All-nil, All-cons}
use Rattle.text_lines.specs.Forms.{Form, Seen, Is}
use Rattle.text_lines.specs.Kinds.{each_of, each_after}

-- one of the second for each of the first, and this of each two
abbrev pub Pairs : {X A : Type 0} → (X → A → Type 0) → List X → List A → Type 0
Pairs R [] [] = Unit {0}
Pairs R [] (a ∷ ys) = ⊥
Pairs R (x ∷ xs) [] = ⊥
Pairs R (x ∷ xs) (a ∷ ys) = R x a × Pairs R xs ys

pub pairs_length : {X A : Type 0} (R : X → A → Type 0) (xs : List X) (ys : List A) → Pairs R xs ys → length ys ≡ length xs
pairs_length R [] [] h = refl
pairs_length R [] (a ∷ ys) h = absurd h
pairs_length R (x ∷ xs) [] h = absurd h
pairs_length R (x ∷ xs) (a ∷ ys) h = ap suc (pairs_length R xs ys h.1)

pub pairs_all : {X A : Type 0} (R : X → A → Type 0) (P : A → Type 0) → ((x : X) (a : A) → R x a → P a) → (xs : List X) (ys : List A) → Pairs R xs ys → All P ys
pairs_all R P f [] [] h = All-nil P
pairs_all R P f [] (a ∷ ys) h = absurd h
pairs_all R P f (x ∷ xs) [] h = absurd h
pairs_all R P f (x ∷ xs) (a ∷ ys) h = All-cons P a ys (f x a h.0) (pairs_all R P f xs ys h.1)

pub pairs_map : {X A : Type 0} (R : X → A → Type 0) (g : A → X) → ((x : X) (a : A) → R x a → g a ≡ x) → (xs : List X) (ys : List A) → Pairs R xs ys
    → map g ys ≡ xs
pairs_map R g f [] [] h = refl
pairs_map R g f [] (a ∷ ys) h = absurd h
pairs_map R g f (x ∷ xs) [] h = absurd h
pairs_map R g f (x ∷ xs) (a ∷ ys) h = ap₂ (λ y ys. y ∷ ys) (f x a h.0) (pairs_map R g f xs ys h.1)

module _ {L K X A : Type 0} (f : X → Form L K A) (R : X → A → Type 0) (each : (x : X) (a : A) (rows rest : List (Seen L)) → Is (f x) rows a rest → R x a) where
  after_said : (before : List A) (xs : List X) (rows rest : List (Seen L)) (all : List A) → Is (each_after f before xs) rows all rest
      → (ys : List A) × (all ≡ before ++ ys) × Pairs R xs ys
  after_said before [] rows rest all h = ([], h.0 ∙ nil before, tt)
    where
      nil : (before : List A) → before ≡ before ++ []
      nil [] = refl
      nil (b ∷ before) = ap (λ bs. b ∷ bs) (nil before)
  after_said before (x ∷ xs) rows rest all h =
      let more = after_said (before ++ h.0 ∷ []) xs h.1 rest all h.3 in
      (h.0 ∷ more.0, more.1 ∙ append_assoc before (h.0 ∷ []) more.0, (each x h.0 rows h.1 h.2, more.2))

  -- one of each
  pub each_said : (xs : List X) (rows rest : List (Seen L)) (all : List A) → Is (each_of f xs) rows all rest → Pairs R xs all
  each_said xs rows rest all h =
      let s = after_said [] xs rows rest all h in
      by s.1 s.2
    where
      by : {ys : List A} → all ≡ ys → Pairs R xs ys → Pairs R xs all
      by e p = subst (Pairs R xs) (sym e) p
