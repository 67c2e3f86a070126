-- What a top call leaves in a sink that held nothing.
use Rattle.std.proofs.Common.{◌≡◌, ◌≤◌, ◌⊎◌, ◌∙◌, ◌++◌, ℕ, List, inl, inr, ap, arith}
use Rattle.std.specs.Prelude.{[], Some}
use Rattle.std.proofs.Math.Nat.{eq-or-lt_of_le}
use Rattle.std.proofs.lemmas.Bool.Decides.{leb_tells}
use Rattle.answers.specs.declared.answer.Answer.{Answer}
use Rattle.answers.specs.declared.refusal.Refusal.{Refusal}
use Rattle.answers.specs.Lines.{no_memory}
use Rattle.answers.specs.Runs.{Runs, MayAnswer}
use Rattle.answers.specs.Stages.{Stage, IsAnswerOf}
use Rattle.answers.specs.Ways.{over_source}
use Rattle.graph_cli.specs.Outcome.{ReadRose}
use Rattle.graph_io.specs.Causes.{Rose}
use Rattle.welungad_c.specs.Calls.{IsAnswered, IsOutOfMemory}

-- sources that never fail had no fault
pub no_fault : (words : List (List ℕ)) (case : List ℕ) → ReadRose words (Some case) (Rose 0 0) (Rose 0 0) → ⊥
no_fault words case (inl rose) = let more : Rose 0 0 = rose.1 in absurd (omega (arith, more))
no_fault words case (inr rose) = let more : Rose 0 0 = rose.1 in absurd (omega (arith, more))

-- an answer that a call over sources may give is one of its stage
answer_of : (s : Stage Refusal Answer) (rose clean : Type 0) (a : Answer) → MayAnswer (over_source s rose clean) a → IsAnswerOf s a
answer_of s rose clean a (inl given) = inl given.0
answer_of s rose clean a (inr (r, refuses, same)) = inr (r, refuses.0, same)

module _ (s : Stage Refusal Answer) {read_rose read_clean : Type 0} {old text : List ℕ} {before after faults faults_now status : ℕ} (empty : old ≡ [])
    (runs : Runs (over_source s read_rose read_clean) (record { held = Some old; faults = faults; calls = before })
    (record { held = Some text; faults = faults_now; calls = after }) status) where
  -- a status up to 5 comes with an answer
  answered : status ≤ 5 → IsAnswered (IsAnswerOf s) text status
  answered low = let put = runs.done low in
      record {
        answer = put.answer;
        expected = answer_of s read_rose read_clean put.answer put.may;
        text_is = put.put ∙ ap (λ held. held ++ put.answer.text) empty;
        status_is = put.status_is;
      }

  -- without a fault of a source and without status 7 there is an answer, or the call is out of memory
  pub reply_of : (read_rose → ⊥) → (status ≡ 7 → ⊥) → IsAnswered (IsAnswerOf s) text status ⊎ IsOutOfMemory text status
  reply_of clean fits = elim (leb_tells status 5) [
    | inl low ↦ inl (answered low.1)
    | inr high ↦ elim (eq-or-lt_of_le runs.known) [
      | inl nine ↦ absurd (runs.keeper nine).0
      | inr below ↦ elim (eq-or-lt_of_le {n = status} {m = 8} (omega (arith, below))) [
        | inl eight ↦ inr ((runs.memory eight).1 ∙ ap (λ held. held ++ no_memory) empty, eight)
        | inr fewer ↦ elim (eq-or-lt_of_le {n = status} {m = 7} (omega (arith, fewer))) [
          | inl seven ↦ absurd (fits seven)
          | inr six ↦ absurd (clean (runs.read (omega (arith, high.1, six))).0)
        ]
      ]
    ]
  ]
