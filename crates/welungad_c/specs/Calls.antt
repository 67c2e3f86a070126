-- The answers of calls from C.
use Rattle.std.specs.Prelude.{◌≡◌, ◌⊎◌, ℕ, List, Some}
use Rattle.answers.specs.declared.answer.Answer.{Answer}
use Rattle.answers.specs.Codes.{status_code}
use Rattle.answers.specs.Lines.{no_memory}
use Rattle.answers.specs.Stages.{IsAnswerOf}
use Rattle.graph_cli.specs.Outcome.{outcome}
use Rattle.welungad_c.specs.Delivery.{Delivers}

-- The text and the status are those of some expected answer.
pub record IsAnswered (Expected : Answer → Type 0) (text : List ℕ) (status : ℕ) : Type 0 where
  pub answer : Answer
  pub expected : Expected answer
  pub text_is : text ≡ answer.text
  pub status_is : status ≡ status_code answer.status

-- the call is out of memory
abbrev pub IsOutOfMemory : List ℕ → ℕ → Type 0
IsOutOfMemory text status = (text ≡ no_memory) × (status ≡ 8)

-- The text and the status are those of the answer to these words, this case and this proof, or the call is out of memory.
abbrev pub Replies : List (List ℕ) → List ℕ → List ℕ → List ℕ → ℕ → Type 0
Replies words case proof text status = IsAnswered (IsAnswerOf (outcome words (Some case) (Some proof))) text status ⊎ IsOutOfMemory text status

-- A reply was delivered to the caller.
pub record Answers (words : List (List ℕ)) (case proof old new : List ℕ) (needed result : ℕ) : Type 0 where
  pub text : List ℕ
  pub status : ℕ
  pub replies : Replies words case proof text status
  pub delivered : Delivers text status old new needed result

-- Nothing was put, with status 10; or the call is out of memory.
abbrev pub HasNoWords : List ℕ → List ℕ → ℕ → ℕ → Type 0
HasNoWords old new needed result = ((result ≡ 10) × (needed ≡ 0) × (new ≡ old)) ⊎ Delivers no_memory 8 old new needed result
