-- The text of an entry, term by term.
use Rattle.std.proofs.Common.{◌≡◌, ℕ, zero, suc, ◌+◌, ◌-◌, ◌<◌, Bool, true, false, cond, List, [], ◌++◌, refl, sym, ap, ◌∙◌, add-one}
use Rattle.std.proofs.Common.{arith, append_assoc, inl, inr}
use Rattle.std.specs.Prelude.{codes, ◌&&◌}
use Rattle.std.proofs.lemmas.List.{append-nil}
use Rattle.std.proofs.lemmas.Bool.{cases_lt}
use Rattle.field_core.specs.Terms.{Terms}
use Rattle.fraction.specs.Tests.{is_zero}
use Rattle.case_model.specs.Sums.{terms_at}
use Rattle.case_model.proofs.Holding.{both}
use Rattle.field_core.specs.Texts.{IsBegun}
use Rattle.edge_expression.specs.EntryTexts.{joined_term, terms_text, are_zero_below, coefficients_text}

-- The terms of the powers below this one are printed; `is_first` says whether there was none.
pub record IsPrinted (old out : List ℕ) (is_first : Bool) (power : ℕ) (e : List Terms) : Type 0 where
  pub done : List ℕ
  pub out_is : out ≡ old ++ done
  pub text_is : done ++ terms_text is_first power (5 - power) e ≡ terms_text true 0 5 e
  pub first : is_first ≡ are_zero_below power e
  pub none : is_first ≡ true → done ≡ []

pub nothing_printed : (old : List ℕ) (e : List Terms) → IsPrinted old old true 0 e
unfolding are_zero_below
nothing_printed old e = record { done = []; out_is = sym (append-nil old); text_is = refl; first = refl; none = λ h. refl }

left : (p : ℕ) → p < 5 → 5 - p ≡ suc (5 - (p + 1))
left p h = omega arith

text_by : (f : Bool) (p : ℕ) (e : List Terms) → p < 5
    → terms_text f p (5 - p) e ≡ cond (is_zero (terms_at e p)) (terms_text f (p + 1) (5 - (p + 1)) e)
    (joined_term f p (terms_at e p) ++ terms_text false (p + 1) (5 - (p + 1)) e)
unfolding terms_text
text_by f p e h = ap (λ n. terms_text f p n e) (left p h) ∙ rw (add-one p) refl

text_zero : (f : Bool) (p : ℕ) (e : List Terms) → p < 5 → is_zero (terms_at e p) ≡ true
    → terms_text f p (5 - p) e ≡ terms_text f (p + 1) (5 - (p + 1)) e
text_zero f p e h z =
    text_by f p e h ∙ ap (λ b. cond b (terms_text f (p + 1) (5 - (p + 1)) e) (joined_term f p (terms_at e p) ++ terms_text false (p + 1) (5 - (p + 1)) e)) z

text_some : (f : Bool) (p : ℕ) (e : List Terms) → p < 5 → is_zero (terms_at e p) ≡ false
    → terms_text f p (5 - p) e ≡ joined_term f p (terms_at e p) ++ terms_text false (p + 1) (5 - (p + 1)) e
text_some f p e h z =
    text_by f p e h ∙ ap (λ b. cond b (terms_text f (p + 1) (5 - (p + 1)) e) (joined_term f p (terms_at e p) ++ terms_text false (p + 1) (5 - (p + 1)) e)) z

zero_more : (e : List Terms) (p : ℕ) (b : Bool) → is_zero (terms_at e p) ≡ b → are_zero_below (p + 1) e ≡ (are_zero_below p e && b)
unfolding are_zero_below
zero_more e p b z = ap (λ n. are_zero_below n e) (add-one p) ∙ ap (λ c. are_zero_below p e && c) z

and_true : (b : Bool) → b && true ≡ b
and_true true = refl
and_true false = refl

and_false : (b : Bool) → b && false ≡ false
and_false true = refl
and_false false = refl

pub next_zero : (old out : List ℕ) (f : Bool) (p : ℕ) (e : List Terms) → IsPrinted old out f p e → p < 5 → is_zero (terms_at e p) ≡ true
    → IsPrinted old out f (p + 1) e
next_zero old out f p e i h z = record {
  done = i.done;
  out_is = i.out_is;
  text_is = sym (ap (λ (x : List ℕ). i.done ++ x) (text_zero f p e h z)) ∙ i.text_is;
  first = i.first ∙ sym (zero_more e p true z ∙ and_true (are_zero_below p e));
  none = i.none;
}

no_true : false ≡ true → ⊥
no_true e = cc

pub next_some : (old out new : List ℕ) (f : Bool) (p : ℕ) (t : Terms) (e : List Terms) → IsPrinted old out f p e → p < 5
    → t ≡ terms_at e p → is_zero t ≡ false → new ≡ out ++ joined_term f p t → IsPrinted old new false (p + 1) e
next_some old out new f p t e i h same z put =
    let zero : is_zero (terms_at e p) ≡ false = ap is_zero (sym same) ∙ z in
    let piece : joined_term f p t ≡ joined_term f p (terms_at e p) = ap (joined_term f p) same in
    let rest : List ℕ = terms_text false (p + 1) (5 - (p + 1)) e in
    record {
      done = i.done ++ joined_term f p t;
      out_is = put ∙ ap (λ (x : List ℕ). x ++ joined_term f p t) i.out_is ∙ append_assoc old i.done (joined_term f p t);
      text_is =
          append_assoc i.done (joined_term f p t) rest ∙ ap (λ (x : List ℕ). i.done ++ (x ++ rest)) piece
          ∙ sym (ap (λ (x : List ℕ). i.done ++ x) (text_some f p e h zero)) ∙ i.text_is;
      first = sym (zero_more e p false zero ∙ and_false (are_zero_below p e));
      none = λ x. absurd (no_true x);
    }

-- ---- an entry with a coefficient that isn't 0

pub zero_at : (n p : ℕ) (e : List Terms) → p < n → are_zero_below n e ≡ true → is_zero (terms_at e p) ≡ true
unfolding are_zero_below
zero_at zero p e h a = absurd (omega arith)
zero_at (suc n) p e h a = elim (cases_lt p n) [
  | inl lt ↦ zero_at n p e lt (both (are_zero_below n e) (is_zero (terms_at e n)) a).left
  | inr ge ↦ let same : p ≡ n = omega (arith, h, ge) in ap (λ k. is_zero (terms_at e k)) same
      ∙ (both (are_zero_below n e) (is_zero (terms_at e n)) a).right
]

some_entry : (e : List Terms) (p : ℕ) (b : Bool) → are_zero_below 5 e ≡ b → p < 5 → is_zero (terms_at e p) ≡ false
    → coefficients_text e ≡ terms_text true 0 5 e
unfolding coefficients_text
some_entry e p true a h z = absurd (no_true (sym z ∙ zero_at 5 p e h a))
some_entry e p false a h z = ap (λ b. cond b (codes "0") (terms_text true 0 5 e)) a

pub begun_some : (old out new : List ℕ) (f : Bool) (p : ℕ) (t : Terms) (e : List Terms) → IsPrinted old out f p e → p < 5
    → t ≡ terms_at e p → is_zero t ≡ false → IsBegun out new (joined_term f p t) → IsBegun old new (coefficients_text e)
begun_some old out new f p t e i h same z b =
    let zero : is_zero (terms_at e p) ≡ false = ap is_zero (sym same) ∙ z in
    let piece : joined_term f p (terms_at e p) ≡ b.front ++ b.rest = ap (joined_term f p) (sym same) ∙ b.text_is in
    let rest : List ℕ = terms_text false (p + 1) (5 - (p + 1)) e in
    record {
      front = i.done ++ b.front;
      rest = b.rest ++ rest;
      appended = b.appended ∙ ap (λ (x : List ℕ). x ++ b.front) i.out_is ∙ append_assoc old i.done b.front;
      text_is =
          some_entry e p (are_zero_below 5 e) refl h zero ∙ sym i.text_is
          ∙ ap (λ (x : List ℕ). i.done ++ x) (text_some f p e h zero ∙ ap (λ (x : List ℕ). x ++ rest) piece ∙ append_assoc b.front b.rest rest)
          ∙ sym (append_assoc i.done b.front (b.rest ++ rest));
    }

-- ---- the end

none_left : (f : Bool) (e : List Terms) → terms_text f 5 (5 - 5) e ≡ []
unfolding terms_text
none_left f e = refl

pub end_none : (old out : List ℕ) (e : List Terms) → IsPrinted old out true 5 e → (out ≡ old) × (coefficients_text e ≡ codes "0")
unfolding coefficients_text
end_none old out e i =
    (i.out_is ∙ ap (λ (x : List ℕ). old ++ x) (i.none refl) ∙ append-nil old, ap (λ b. cond b (codes "0") (terms_text true 0 5 e)) (sym i.first))

pub end_some : (old out : List ℕ) (e : List Terms) → IsPrinted old out false 5 e → out ≡ old ++ coefficients_text e
unfolding coefficients_text
end_some old out e i =
    let whole : terms_text true 0 5 e ≡ i.done = sym i.text_is ∙ ap (λ (x : List ℕ). i.done ++ x) (none_left false e) ∙ append-nil i.done in
    let text : coefficients_text e ≡ i.done = ap (λ b. cond b (codes "0") (terms_text true 0 5 e)) (sym i.first) ∙ whole in
    i.out_is ∙ ap (λ (x : List ℕ). old ++ x) (sym text)
