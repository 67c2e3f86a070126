-- Rules for ends of forms that are often used.
use Rattle.std.proofs.Common.{◌≡◌, inl, List, [], ◌∷◌, ◌++◌, Some, Ok, refl}
use Rattle.text_lines.specs.Forms.{Leaf, Form, Say, Line, Then, May, Kinds, Seen}
use Rattle.text_lines.specs.Kinds.{more_lines}
use Rattle.text_lines.proofs.FormEnds.{Leads, Can, can_say, can_line, can_then_said, can_may, can_many, Stop}

-- a line of this kind
abbrev pub Example : {L K A : Type 0} → Leaf L K A → Type 0
Example {L} {K} {A} l = (row : Seen L) × (a : A) × (l row.line ≡ Some (Ok a))

module _ {L K : Type 0} (U : Kinds K) where
  -- a line, whose kind says only what has a property, and then others
  pub can_line_then : {A B : Type 0} (l : Leaf L K A) (g : A → Form L K B) (P : A → Type 0) (C : B → List (Seen L) → Type 0) → Example l
      → ((line : L) (a : A) → l line ≡ Some (Ok a) → P a) → ((a : A) → P a → Can U (g a) C) → Can U (Then (Line l) g) C
  can_line_then l g P C e only more =
      let r = more e.1 (only e.0.line e.1 e.2) [] in
      can_then_said U (Line l) g P C (λ rows a rest b. only b.row.line a b.says)
      (can_line U l (λ a. Leads (g a) C) (e.0, e.1, r.0, e.2, r.1) (λ row a k. more a (only row.line a k) [])) more

  -- lines of a kind, any number of them
  pub can_more : {A : Type 0} (l : Leaf L K A) (C : List A → List (Seen L) → Type 0) → ((xs : List A) → (rest : List (Seen L)) × Stop U l C xs rest)
      → (xs : List A) → Can U (more_lines l xs) C
  can_more l C h xs = can_many U l (λ ys a. Say a) C h (λ ys a. can_say U a (λ y. Stop U l C (ys ++ y ∷ [])) (h (ys ++ a ∷ []))) xs

  -- one of two, if there is a line of the first
  pub can_either : {A B : Type 0} (l : Leaf L K A) (body : A → Form L K B) (other : Form L K B) (C : B → List (Seen L) → Type 0) → Example l
      → ((a : A) → Can U (body a) C) → Can U other C → Can U (May l body other) C
  can_either l body other C e some none =
      let r = some e.1 [] in
      can_may U l body other C
      (e.0 ∷ r.0, (r.1.0, r.1.1, inl (e.1, r.0, record { row = e.0; rows_are = refl; says = e.2 }, r.1.2), r.1.3)) some none
