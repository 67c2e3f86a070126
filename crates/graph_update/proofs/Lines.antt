-- Texts of lines, one place after another.
use Rattle.std.proofs.Common.{◌≡◌, refl, sym, ap, ap₂, ◌∙◌, ℕ, ◌+◌, List, [], ◌∷◌, ◌++◌, map, append-nil, append_assoc, arith}
use Rattle.std.specs.List.{flat_map, range_with_len}
use Rattle.std.proofs.lemmas.List.Folds.{flat_map-map}
use Rattle.std.proofs.lemmas.List.FromFn.{map-range_with_len_more}
use Rattle.std.proofs.lemmas.Grind.{flat_map-append}
use Rattle.text_lines.specs.Spelling.{text_of}
use Rattle.graph_update.specs.UpdateText.{Words, line_text}

pub text_none : text_of [] ≡ []
unfolding text_of
text_none = refl

pub text_cons : (f : Words) (fs : List Words) → text_of (f ∷ fs) ≡ line_text f ++ text_of fs
unfolding text_of
text_cons f fs = refl

-- one line
pub text_one : (f : Words) → text_of (f ∷ []) ≡ line_text f
text_one f = text_cons f [] ∙ ap (λ t. line_text f ++ t) text_none ∙ append-nil (line_text f)

pub text_append : (fs gs : List Words) → text_of (fs ++ gs) ≡ text_of fs ++ text_of gs
text_append [] gs = sym (ap (λ t. t ++ text_of gs) text_none)
text_append (f ∷ fs) gs =
    text_cons f (fs ++ gs) ∙ ap (λ t. line_text f ++ t) (text_append fs gs)
    ∙ sym (append_assoc (line_text f) (text_of fs) (text_of gs))
    ∙ ap (λ t. t ++ text_of gs) (sym (text_cons f fs))

-- nothing is put
pub no_lines : (text : List ℕ) (fs : List Words) → fs ≡ [] → text ≡ text ++ text_of fs
no_lines text fs e = sym (ap (λ gs. text ++ text_of gs) e ∙ ap (λ t. text ++ t) text_none ∙ append-nil text)

-- a line is put
pub a_line : (start new : List ℕ) (fs : List Words) (f : Words) → fs ≡ f ∷ [] → new ≡ start ++ line_text f → new ≡ start ++ text_of fs
a_line start new fs f e put = put ∙ ap (λ t. start ++ t) (sym (text_one f) ∙ ap text_of (sym e))

-- a line is put, and then others
pub line_and : (start mid new : List ℕ) (f : Words) (fs gs : List Words) → gs ≡ f ∷ fs → mid ≡ start ++ line_text f → new ≡ mid ++ text_of fs
    → new ≡ start ++ text_of gs
line_and start mid new f fs gs e put more =
    more ∙ ap (λ t. t ++ text_of fs) put ∙ append_assoc start (line_text f) (text_of fs)
    ∙ ap (λ t. start ++ t) (sym (text_cons f fs) ∙ ap text_of (sym e))

-- one place more
pub flat_map-more : {A : Type 0} (f : ℕ → List A) (n : ℕ) → flat_map f (range_with_len 0 (n + 1)) ≡ flat_map f (range_with_len 0 n) ++ f n
flat_map-more f n =
    sym (flat_map-map f (λ k. k) (range_with_len 0 (n + 1)))
    ∙ ap (flat_map f) (map-range_with_len_more (λ k. k) 0 n n (omega arith))
    ∙ flat_map-append f (map (λ k. k) (range_with_len 0 n)) (n ∷ [])
    ∙ ap₂ (λ xs ys. xs ++ ys) (flat_map-map f (λ k. k) (range_with_len 0 n)) (append-nil (f n))

-- the text after one place more
pub put_more : (f : ℕ → List Words) (start text new : List ℕ) (n : ℕ) → text ≡ start ++ text_of (flat_map f (range_with_len 0 n)) → new ≡ text ++ text_of (f n)
    → new ≡ start ++ text_of (flat_map f (range_with_len 0 (n + 1)))
put_more f start text new n e put =
    put ∙ ap (λ t. t ++ text_of (f n)) e ∙ append_assoc start (text_of (flat_map f (range_with_len 0 n))) (text_of (f n))
    ∙ ap (λ t. start ++ t) (sym (text_append (flat_map f (range_with_len 0 n)) (f n)) ∙ ap text_of (sym (flat_map-more f n)))

-- the text before the first place
pub put_none : (f : ℕ → List Words) (text : List ℕ) → text ≡ text ++ text_of (flat_map f (range_with_len 0 0))
put_none f text = no_lines text (flat_map f (range_with_len 0 0)) refl
