-- Lines that say something by a form, whatever their numbers are and whatever follows.
use Rattle.std.proofs.Common.{◌≡◌, List, [], ◌∷◌, ◌++◌, map, Some, Ok, refl, sym, ap, subst, ◌∙◌, append_assoc}
use Rattle.std.proofs.lemmas.List.{append-nil}
use Rattle.text_lines.specs.Forms.{Leaf, Form, Say, Line, Then, Seen, Is, IsDocument}

-- the lines without their numbers
abbrev pub lines_in : {L : Type 0} → List (Seen L) → List L
lines_in rows = map (λ row. row.line) rows

abbrev pub Says : {L K A : Type 0} → Form L K A → List L → A → Type 0
Says {L = L} f lines a = (rows rest : List (Seen L)) → lines_in rows ≡ lines → Is f (rows ++ rest) a rest

first_line : {L : Type 0} (x y : L) (xs ys : List L) → x ∷ xs ≡ y ∷ ys → x ≡ y
first_line x y xs ys e = cc

other_lines : {L : Type 0} (x y : L) (xs ys : List L) → x ∷ xs ≡ y ∷ ys → xs ≡ ys
other_lines x y xs ys e = cc

-- rows of two parts
pub record Cut {L : Type 0} (rows : List (Seen L)) (xs ys : List L) : Type 0 where
  pub front : List (Seen L)
  pub back : List (Seen L)
  pub rows_are : rows ≡ front ++ back
  pub first : lines_in front ≡ xs
  pub second : lines_in back ≡ ys

pub cut : {L : Type 0} (rows : List (Seen L)) (xs ys : List L) → lines_in rows ≡ xs ++ ys → Cut rows xs ys
cut rows [] ys e = record { front = []; back = rows; rows_are = refl; first = refl; second = e }
cut [] (x ∷ xs) ys e = absurd (cc e)
cut (row ∷ rows) (x ∷ xs) ys e =
    let more = cut rows xs ys (other_lines row.line x (lines_in rows) (xs ++ ys) e) in
    record {
      front = row ∷ more.front;
      back = more.back;
      rows_are = ap (λ rs. row ∷ rs) more.rows_are;
      first = ap (λ ls. row.line ∷ ls) more.first ∙ ap (λ l. l ∷ xs) (first_line row.line x (lines_in rows) (xs ++ ys) e);
      second = more.second;
    }

-- the first of rows
pub record First {L : Type 0} (rows : List (Seen L)) (x : L) (xs : List L) : Type 0 where
  pub row : Seen L
  pub rest : List (Seen L)
  pub rows_are : rows ≡ row ∷ rest
  pub line_is : row.line ≡ x
  pub others : lines_in rest ≡ xs

pub first_of_lines : {L : Type 0} (rows : List (Seen L)) (x : L) (xs : List L) → lines_in rows ≡ x ∷ xs → First rows x xs
first_of_lines [] x xs e = absurd (cc e)
first_of_lines (row ∷ rows) x xs e = record {
  row = row;
  rest = rows;
  rows_are = refl;
  line_is = first_line row.line x (lines_in rows) xs e;
  others = other_lines row.line x (lines_in rows) xs e;
}

no_lines : {L : Type 0} (rows : List (Seen L)) → lines_in rows ≡ [] → rows ≡ []
no_lines [] e = refl
no_lines (row ∷ rows) e = absurd (cc e)

-- no line, whatever may be wrong with lines
pub says_say : {L A : Type 0} (a : A) → Says {L = L} {K = Unit {0}} (Say a) [] a
says_say a rows rest e = (refl, ap (λ rs. rs ++ rest) (sym (no_lines rows e)))

module _ {L K : Type 0} where
  pub says_line : {A : Type 0} (l : Leaf L K A) (line : L) (a : A) → l line ≡ Some (Ok a) → Says (Line l) (line ∷ []) a
  says_line l line a h rows rest e =
      let f = first_of_lines rows line [] e in
      record {
        row = f.row;
        rows_are = ap (λ rs. rs ++ rest) (f.rows_are ∙ ap (λ rs. f.row ∷ rs) (no_lines f.rest f.others));
        says = ap l f.line_is ∙ h;
      }

  pub says_then : {A B : Type 0} (f : Form L K A) (g : A → Form L K B) (lines more : List L) (a : A) (b : B) → Says f lines a → Says (g a) more b
      → Says (Then f g) (lines ++ more) b
  says_then f g lines more a b h k rows rest e =
      let c = cut rows lines more e in (
        a,
        c.back ++ rest,
        subst (λ rs. Is f rs a (c.back ++ rest)) (sym (append_assoc c.front c.back rest) ∙ ap (λ rs. rs ++ rest) (sym c.rows_are))
            (h c.front (c.back ++ rest) c.first),
        k c.back rest c.second,
      )

  pub says_all : {A : Type 0} (f : Form L K A) (lines : List L) (a : A) → Says f lines a → (rows : List (Seen L)) → lines_in rows ≡ lines → IsDocument f rows a
  says_all f lines a h rows e = subst (λ rs. Is f rs a []) (append-nil rows) (h rows [] e)
