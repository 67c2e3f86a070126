-- Forms that can end before any lines.
use Rattle.std.proofs.Common.{◌≡◌, List, [], ◌∷◌, ◌++◌, Some, Ok}
use Rattle.text_lines.specs.Forms.{Leaf, Form, Say, Line, Then, Kinds, Seen}
use Rattle.text_lines.specs.Kinds.{each_after, each_of}
use Rattle.text_lines.proofs.FormEnds.{Leads, Can, can_say, can_line, can_then}

module _ {L K : Type 0} (U : Kinds K) where
  -- whatever may follow what it says
  abbrev pub Always : {A : Type 0} → Form L K A → Type 1
  Always {A} f = (C : A → List (Seen L) → Type 0) → ((a : A) → (rest : List (Seen L)) × C a rest) → Can U f C

  pub always_say : {A : Type 0} (a : A) → Always (Say a)
  always_say a C h = can_say U a C (h a)

  pub always_line : {A : Type 0} (l : Leaf L K A) → (row : Seen L) × (a : A) × (l row.line ≡ Some (Ok a)) → Always (Line l)
  always_line l e C h = let r = h e.1 in can_line U l C (e.0, e.1, r.0, e.2, r.1) (λ row a k. h a)

  pub always_then : {A B : Type 0} (f : Form L K A) (g : A → Form L K B) → Always f → ((a : A) → Always (g a)) → Always (Then f g)
  always_then f g first more C h = can_then U f g C (first (λ a. Leads (g a) C) (λ a. more a C h [])) (λ a. more a C h)

  after_each : {X A : Type 0} (f : X → Form L K A) → ((x : X) → Always (f x)) → (before : List A) (xs : List X) → Always (each_after f before xs)
  after_each f h before [] = always_say before
  after_each f h before (x ∷ xs) = always_then (f x) _ (h x) (λ a. after_each f h (before ++ a ∷ []) xs)

  pub always_each : {X A : Type 0} (f : X → Form L K A) → ((x : X) → Always (f x)) → (xs : List X) → Always (each_of f xs)
  always_each f h xs = after_each f h [] xs
