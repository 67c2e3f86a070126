-- Stages by functions are decided and end, and stages that follow one another are decided where each is.
use Rattle.std.proofs.Common.{◌≡◌, ◌∙◌, ◌⊎◌, refl, sym, ap, subst, ℕ, List, Option, Some, None, Result, Ok, Err, inl, inr, arith}
use Rattle.field_core.proofs.Results.{same_value, same_fault, same_some, one_some}
use Rattle.answers.specs.declared.answer.Answer.{Answer}
use Rattle.answers.specs.declared.refusal.Refusal.{Refusal}
use Rattle.answers.specs.Lines.{refused}
use Rattle.answers.specs.Stages.{Stage, IsDecided, Ends, stage_of, by, given_unless, given_if, and_then, told_as, told_if, only, within, IsAnswerOf}

-- ---- stages by functions

-- a result is of one kind, and holds one thing
pub stage_decided : {R A : Type 0} (r : Result A R) → IsDecided (stage_of r)
stage_decided r = record {
  one = λ x y h k. same_value x y (sym h ∙ k);
  one_refusal = λ e f h k. same_fault e f (sym h ∙ k);
  not_both = λ x e h k. let w : Ok x ≡ Err e = sym h ∙ k in cc;
}

pub stage_ends : {R A : Type 0} (r : Result A R) → Ends (stage_of r)
stage_ends (Ok x) = inl (x, refl)
stage_ends (Err e) = inr (e, refl)

module _ {R A B : Type 0} (view : A → B) (r : Result B R) (Means : A → Type 0) where
  -- one value with the meaning has the view that the function returns
  pub by_decided : ((x y : A) → Means x → Means y → view x ≡ view y → x ≡ y) → IsDecided (by view r Means)
  by_decided same = record {
    one = λ x y h k. same x y h.1 k.1 ((stage_decided r).one (view x) (view y) h.0 k.0);
    one_refusal = (stage_decided r).one_refusal;
    not_both = λ x e h k. (stage_decided r).not_both (view x) e h.0 k;
  }

  -- it ends, if what the function returns is the view of a value with the meaning
  pub by_ends : ((y : B) → r ≡ Ok y → (x : A) × (view x ≡ y) × Means x) → Ends (by view r Means)
  by_ends sound = elim (stage_ends r) [ inl y ↦ (let x = sound y.0 y.1 in inl (x.0, (y.1 ∙ ap Ok (sym x.1), x.2))) | inr e ↦ inr e ]

pub given_unless_decided : {R A : Type 0} (o : Option R) (x : A) → IsDecided (given_unless o x)
given_unless_decided o x = record {
  one = λ y z h k. h.1 ∙ sym k.1;
  one_refusal = one_some o;
  not_both = λ y r h k. let w : None ≡ Some r = sym h.0 ∙ k in cc;
}

pub given_unless_ends : {R A : Type 0} (o : Option R) (x : A) → Ends (given_unless o x)
given_unless_ends None x = inl (x, (refl, refl))
given_unless_ends (Some r) x = inr (r, refl)

module _ {R A : Type 0} (P : Type 0) (x : A) (r : R) where
  pub given_if_decided : IsDecided (given_if P x r)
  given_if_decided = record { one = λ y z h k. h.1 ∙ sym k.1; one_refusal = λ p q h k. h.1 ∙ sym k.1; not_both = λ y q h k. k.0 h.0 }

  pub given_if_ends : P ⊎ ¬ P → Ends (given_if P x r)
  given_if_ends e = elim e [ inl h ↦ inl (x, (h, refl)) | inr n ↦ inr (r, (n, refl)) ]

-- ---- one stage after another

pub then_decided : {R A B : Type 0} (s : Stage R A) (t : A → Stage R B) → IsDecided s → ((x : A) → IsDecided (t x)) → IsDecided (and_then s t)
then_decided s t f g = record {
  one = λ x y h k. (g k.0).one x y (subst (λ z. (t z).Gives x) (f.one h.0 k.0 h.1 k.1) h.2) k.2;
  one_refusal = λ r q h k. elim h [
    | inl a ↦ elim k [
      | inl b ↦ f.one_refusal r q a b
      | inr b ↦ absurd (f.not_both b.0 r b.1 a)
    ]
    | inr a ↦ elim k [
      | inl b ↦ absurd (f.not_both a.0 q a.1 b)
      | inr b ↦ (g b.0).one_refusal r q (subst (λ z. (t z).Refuses r) (f.one a.0 b.0 a.1 b.1) a.2) b.2
    ]
  ];
  not_both = λ x r h k. elim k [
    | inl b ↦ f.not_both h.0 r h.1 b
    | inr b ↦ (g b.0).not_both x r (subst (λ z. (t z).Gives x) (f.one h.0 b.0 h.1 b.1) h.2) b.2
  ];
}

pub told_as_decided : {Q R A : Type 0} (tell : Q → R) (s : Stage Q A) → IsDecided s → IsDecided (told_as tell s)
told_as_decided tell s f = record {
  one = f.one;
  one_refusal = λ r q h k. h.2 ∙ ap tell (f.one_refusal h.0 k.0 h.1 k.1) ∙ sym k.2;
  not_both = λ x r h k. f.not_both x k.0 h k.1;
}

pub told_if_decided : {Q R A : Type 0} (tell : Q → Option R) (s : Stage Q A) → IsDecided s → IsDecided (told_if tell s)
told_if_decided tell s f = record {
  one = f.one;
  one_refusal = λ r q h k. same_some r q (sym h.2 ∙ ap tell (f.one_refusal h.0 k.0 h.1 k.1) ∙ k.2);
  not_both = λ x r h k. f.not_both x k.0 h k.1;
}

pub only_decided : {R A : Type 0} (x : A) → IsDecided (only {R = R} x)
only_decided x = record {
  one = λ y z h k. h ∙ sym k;
  one_refusal = λ r q h k. absurd h;
  not_both = λ y r h k. k;
}

pub within_decided : (name bytes : List ℕ) → IsDecided (within name bytes)
within_decided name bytes = record {
  one = λ x y h k. h.0 ∙ sym k.0;
  one_refusal = λ r q h k. h.1 ∙ sym k.1;
  not_both = λ x r h k. absurd (omega (arith, h.1, k.0));
}

-- a stage that is decided has at most one answer
pub one_answer : (s : Stage Refusal Answer) → IsDecided s → (a b : Answer) → IsAnswerOf s a → IsAnswerOf s b → a ≡ b
one_answer s f a b h k = elim h [
  | inl x ↦ elim k [
    | inl y ↦ f.one a b x y
    | inr y ↦ absurd (f.not_both a y.0 x y.1)
  ]
  | inr x ↦ elim k [
    | inl y ↦ absurd (f.not_both b x.0 y x.1)
    | inr y ↦ x.2 ∙ ap refused (f.one_refusal x.0 y.0 x.1 y.1) ∙ sym y.2
  ]
]
