-- Stages that follow one another end if each does.
use Rattle.std.proofs.Common.{inl, inr, refl, ℕ, ◌+◌, List, [], length, Option, Some, None}
use Rattle.answers.specs.declared.answer.Answer.{Answer}
use Rattle.answers.specs.declared.refusal.Refusal.{Refusal}
use Rattle.answers.specs.Lines.{refused, bytes_refusal}
use Rattle.answers.specs.Stages.{Stage, Ends, and_then, told_as, on_bytes, only, within, most_bytes, IsAnswerOf}
use Rattle.field_core.proofs.Positions.{below_or_above}

module _ {R A B : Type 0} (s : Stage R A) (t : A → Stage R B) where
  pub then_ends : Ends s → ((x : A) → s.Gives x → Ends (t x)) → Ends (and_then s t)
  then_ends e rest = elim e [
    | inr r ↦ inr (r.0, inl r.1)
    | inl x ↦ elim (rest x.0 x.1) [ inl y ↦ inl (y.0, (x.0, x.1, y.1)) | inr r ↦ inr (r.0, inr (x.0, x.1, r.1)) ]
  ]

pub told_ends : {Q R A : Type 0} (tell : Q → R) (s : Stage Q A) → Ends s → Ends (told_as tell s)
told_ends tell s e = elim e [ inl x ↦ inl x | inr q ↦ inr (tell q.0, (q.0, q.1, refl)) ]

pub only_ends : {R A : Type 0} (x : A) → Ends (only {R = R} x)
only_ends x = inl (x, refl)

-- an input has at most 4,194,304 bytes, or more
pub within_ends : (name bytes : List ℕ) → Ends (within name bytes)
within_ends name bytes = elim (below_or_above most_bytes (length bytes)) [
  | inl more ↦ inr (bytes_refusal name (most_bytes + 1), (more, refl))
  | inr few ↦ inl (bytes, (refl, few))
]

-- a source that doesn't expose its bytes may have had none
pub bytes_end : {R A : Type 0} (o : Option (List ℕ)) (s : List ℕ → Stage R A) → ((bytes : List ℕ) → Ends (s bytes)) → Ends (on_bytes o s)
bytes_end (Some bytes) s each = each bytes
bytes_end None s each = elim (each []) [ inl x ↦ inl (x.0, ([], x.1)) | inr r ↦ inr (r.0, ([], r.1)) ]

-- a stage that ends has an answer
pub has_answer : (s : Stage Refusal Answer) → Ends s → (a : Answer) × IsAnswerOf s a
has_answer s e = elim e [ inl a ↦ (a.0, inl a.1) | inr r ↦ (refused r.0, inr (r.0, r.1, refl)) ]
