-- Lines that are written for what a form says: they are read as that, whatever their numbers.
use Rattle.std.proofs.Common.{◌≡◌, inl, inr, List, [], ◌∷◌, ◌++◌, Some, None, Ok, refl, sym, ap, subst, ◌∙◌, append_assoc}
use Rattle.std.specs.List.{AllZip}
use Rattle.std.proofs.lemmas.List.{append-nil}
use Rattle.text_lines.specs.Forms.{Form, Leaf, Say, Line, Then, May, Many, Seen, Begins, Lacks, Is, IsDocument}
use Rattle.text_lines.specs.Kinds.{more_lines}
use Rattle.text_lines.proofs.Written.{lines_in}

-- the first line, if there is one, is of another kind
abbrev pub Other : {L K A : Type 0} → Leaf L K A → List L → Type 0
Other l [] = Unit {0}
Other l (line ∷ lines) = l line ≡ None

-- rows begin with what a form says, and these lines follow
pub record Front {L K A : Type 0} (f : Form L K A) (rows : List (Seen L)) (a : A) (after : List L) : Type 0 where
  pub rest : List (Seen L)
  pub rest_are : lines_in rest ≡ after
  pub is : Is f rows a rest

-- these lines say this, before those
abbrev pub Spells : {L K A : Type 0} → Form L K A → List L → A → List L → Type 0
Spells {L} f lines a after = (rows : List (Seen L)) → lines_in rows ≡ lines ++ after → Front f rows a after

module _ {L K : Type 0} where
  lacks : {A : Type 0} (l : Leaf L K A) (rows : List (Seen L)) (lines : List L) → lines_in rows ≡ lines → Other l lines → Lacks l rows
  lacks l [] lines e h = tt
  lacks l (row ∷ rows) lines e h = subst (Other l) (sym e) h

  -- the first of these lines
  record Starts {A : Type 0} (l : Leaf L K A) (rows : List (Seen L)) (a : A) (more : List L) : Type 0 where
    rest : List (Seen L)
    rest_are : lines_in rest ≡ more
    begins : Begins l rows a rest

  starts : {A : Type 0} (l : Leaf L K A) (rows : List (Seen L)) (line : L) (more : List L) (a : A) → lines_in rows ≡ line ∷ more → l line ≡ Some (Ok a)
      → Starts l rows a more
  starts l [] line more a e s = absurd (cc)
  starts l (row ∷ rows) line more a e s =
      let first : row.line ≡ line = cc in
      let others : lines_in rows ≡ more = cc in
      record { rest = rows; rest_are = others; begins = record { row = row; rows_are = refl; says = ap l first ∙ s } }

  -- ---- a rule for each way to put forms together

  pub spells_say : {A : Type 0} (a : A) (after : List L) → Spells {K = K} (Say a) [] a after
  spells_say a after rows e = record { rest = rows; rest_are = e; is = (refl, refl) }

  pub spells_line : {A : Type 0} (l : Leaf L K A) (line : L) (a : A) (after : List L) → l line ≡ Some (Ok a) → Spells (Line l) (line ∷ []) a after
  spells_line l line a after h rows e =
      let s = starts l rows line after a e h in record { rest = s.rest; rest_are = s.rest_are; is = s.begins }

  pub spells_then : {A B : Type 0} (f : Form L K A) (g : A → Form L K B) (lines more : List L) (a : A) (b : B) (after : List L)
      → Spells f lines a (more ++ after) → Spells (g a) more b after → Spells (Then f g) (lines ++ more) b after
  spells_then f g lines more a b after h k rows e =
      let s = h rows (e ∙ append_assoc lines more after) in
      let t = k s.rest s.rest_are in
      record { rest = t.rest; rest_are = t.rest_are; is = (a, s.rest, s.is, t.is) }

  -- these lines are the last ones
  pub spells_last : {A B : Type 0} (f : Form L K A) (to : A → B) (lines : List L) (a : A) (after : List L)
      → Spells f lines a after → Spells (Then f (λ x. Say (to x))) lines (to a) after
  spells_last f to lines a after h rows e =
      let s = h rows e in record { rest = s.rest; rest_are = s.rest_are; is = (a, s.rest, s.is, (refl, refl)) }

  pub spells_may : {A B : Type 0} (l : Leaf L K A) (body : A → Form L K B) (other : Form L K B) (line : L) (lines : List L) (a : A) (b : B) (after : List L)
      → l line ≡ Some (Ok a) → Spells (body a) lines b after → Spells (May l body other) (line ∷ lines) b after
  spells_may l body other line lines a b after h k rows e =
      let s = starts l rows line (lines ++ after) a e h in
      let t = k s.rest s.rest_are in
      record { rest = t.rest; rest_are = t.rest_are; is = inl (a, s.rest, s.begins, t.is) }

  pub spells_other : {A B : Type 0} (l : Leaf L K A) (body : A → Form L K B) (other : Form L K B) (lines : List L) (b : B) (after : List L)
      → Other l (lines ++ after) → Spells other lines b after → Spells (May l body other) lines b after
  spells_other l body other lines b after n k rows e =
      let t = k rows e in record { rest = t.rest; rest_are = t.rest_are; is = inr (lacks l rows (lines ++ after) e n, t.is) }

  pub spells_stop : {A B : Type 0} (l : Leaf L K A) (body : List B → A → Form L K B) (xs : List B) (after : List L)
      → Other l after → Spells (Many l body xs) [] xs after
  spells_stop l body xs after n rows e = record { rest = rows; rest_are = e; is = ([], sym (append-nil xs), (refl, lacks l rows after e n)) }

  pub spells_more : {A B : Type 0} (l : Leaf L K A) (body : List B → A → Form L K B) (xs : List B) (line : L) (lines more : List L) (a : A) (x : B)
      (all : List B) (after : List L) → l line ≡ Some (Ok a) → Spells (body xs a) lines x (more ++ after)
      → Spells (Many l body (xs ++ x ∷ [])) more all after → Spells (Many l body xs) (line ∷ lines ++ more) all after
  spells_more l body xs line lines more a x all after h k m rows e =
      let s = starts l rows line (lines ++ (more ++ after)) a (e ∙ ap (λ ls. line ∷ ls) (append_assoc lines more after)) h in
      let t = k s.rest s.rest_are in
      let u = m t.rest t.rest_are in
      record {
        rest = u.rest;
        rest_are = u.rest_are;
        is = (x ∷ u.is.0, u.is.1 ∙ append_assoc xs (x ∷ []) u.is.0, (a, s.rest, t.rest, s.begins, t.is, u.is.2));
      }

  -- lines of one kind
  pub spells_lines : {A : Type 0} (l : Leaf L K A) (before : List A) (lines : List L) (xs : List A) (after : List L)
      → AllZip (λ line x. l line ≡ Some (Ok x)) lines xs → Other l after → Spells (more_lines l before) lines (before ++ xs) after
  spells_lines l before [] [] after z n =
      subst (λ ys. Spells (more_lines l before) [] ys after) (sym (append-nil before)) (spells_stop l (λ ys a. Say a) before after n)
  spells_lines l before [] (x ∷ xs) after z n = absurd z
  spells_lines l before (line ∷ lines) [] after z n = absurd z
  spells_lines l before (line ∷ lines) (x ∷ xs) after z n =
      subst (λ ys. Spells (more_lines l before) (line ∷ lines) ys after) (append_assoc before (x ∷ []) xs)
      (spells_more l (λ ys a. Say a) before line [] lines x x ((before ++ x ∷ []) ++ xs) after z.0 (spells_say x (lines ++ after))
      (spells_lines l (before ++ x ∷ []) lines xs after z.1 n))

  -- all lines of a document
  pub spelt_document : {A : Type 0} (f : Form L K A) (lines : List L) (a : A) (rows : List (Seen L)) → Spells f lines a [] → lines_in rows ≡ lines
      → IsDocument f rows a
  spelt_document f lines a rows h e = let s = h rows (e ∙ sym (append-nil lines)) in subst (λ rest. Is f rows a rest) (none s.rest s.rest_are) s.is
    where
      none : (rest : List (Seen L)) → lines_in rest ≡ [] → rest ≡ []
      none [] k = refl
      none (row ∷ rest) k = absurd (cc)
