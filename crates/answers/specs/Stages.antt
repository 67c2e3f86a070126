-- The stages of a call in their order: each gives a value or refuses, and the first refusal decides.
use Rattle.std.specs.Prelude.{◌≡◌, ◌<◌, ◌≤◌, ◌⊎◌, ◌+◌, ℕ, List, Option, Some, None, Result, Ok, Err, length}
use Rattle.answers.specs.declared.answer.Answer.{Answer}
use Rattle.answers.specs.declared.refusal.Refusal.{Refusal}
use Rattle.answers.specs.Lines.{refused, bytes_refusal}

-- What a stage may give, and how it may refuse.
pub record Stage (R A : Type 0) : Type 1 where
  pub Gives : A → Type 0
  pub Refuses : R → Type 0

-- A stage gives at most one value, or refuses in at most one way, and not both.
pub record IsDecided {R A : Type 0} (s : Stage R A) : Type 0 where
  pub one : (x y : A) → s.Gives x → s.Gives y → x ≡ y
  pub one_refusal : (r q : R) → s.Refuses r → s.Refuses q → r ≡ q
  pub not_both : (x : A) (r : R) → s.Gives x → s.Refuses r → ⊥

-- a stage gives a value, or refuses in some way
abbrev pub Ends : {R A : Type 0} → Stage R A → Type 0
Ends {R} {A} s = ((x : A) × s.Gives x) ⊎ ((r : R) × s.Refuses r)

-- the stage of what a function returns: it gives the value, or refuses with the error
abbrev pub stage_of : {R A : Type 0} → Result A R → Stage R A
stage_of result = record { Gives = λ x. result ≡ Ok x; Refuses = λ r. result ≡ Err r }

-- A stage by a function: it gives a value with this meaning, whose view the function returns, and refuses with the function's error.
abbrev pub by : {R A B : Type 0} → (A → B) → Result B R → (A → Type 0) → Stage R A
by view result Means = record { Gives = λ x. (result ≡ Ok (view x)) × Means x; Refuses = λ r. result ≡ Err r }

-- the stage of a value that is given unless there is a refusal
abbrev pub given_unless : {R A : Type 0} → Option R → A → Stage R A
given_unless refusal x = record { Gives = λ y. (refusal ≡ None) × (y ≡ x); Refuses = λ r. refusal ≡ Some r }

-- the stage of a value that is given if a fact holds, and of the refusal if it doesn't
abbrev pub given_if : {R A : Type 0} → Type 0 → A → R → Stage R A
given_if P x refusal = record { Gives = λ y. P × (y ≡ x); Refuses = λ r. ¬ P × (r ≡ refusal) }

-- one stage, and then another on the value that the first one gives
abbrev pub and_then : {R A B : Type 0} → Stage R A → (A → Stage R B) → Stage R B
and_then {R} {A} {B} s t = record {
  Gives = λ y. (x : A) × s.Gives x × (t x).Gives y;
  Refuses = λ r. s.Refuses r ⊎ ((x : A) × s.Gives x × (t x).Refuses r);
}

-- a stage whose refusals are reported in another way
abbrev pub told_as : {Q R A : Type 0} → (Q → R) → Stage Q A → Stage R A
told_as {Q} tell s = record { Gives = s.Gives; Refuses = λ r. (q : Q) × s.Refuses q × (r ≡ tell q) }

-- a stage whose refusals are reported in another way, if at all
abbrev pub told_if : {Q R A : Type 0} → (Q → Option R) → Stage Q A → Stage R A
told_if {Q} tell s = record { Gives = s.Gives; Refuses = λ r. (q : Q) × s.Refuses q × (tell q ≡ Some r) }

-- the stage of the values whose views the given stage gives
abbrev pub seen_by : {R A B : Type 0} → (A → B) → Stage R B → Stage R A
seen_by view s = record { Gives = λ x. s.Gives (view x); Refuses = s.Refuses }

-- a stage on the bytes that a source had left; on some bytes, if it doesn't expose which
abbrev pub on_bytes : {R A : Type 0} → Option (List ℕ) → (List ℕ → Stage R A) → Stage R A
on_bytes (Some bytes) s = s bytes
on_bytes None s = record { Gives = λ x. (bytes : List ℕ) × (s bytes).Gives x; Refuses = λ r. (bytes : List ℕ) × (s bytes).Refuses r }

-- a stage that gives this and never refuses
abbrev pub only : {R A : Type 0} → A → Stage R A
only x = record { Gives = λ y. y ≡ x; Refuses = λ r. ⊥ }

-- the most bytes that an input may have
abbrev pub most_bytes : ℕ
most_bytes = 4194304

-- the bytes of an input, named by these words, if they aren't too many
abbrev pub within : List ℕ → List ℕ → Stage Refusal (List ℕ)
within name bytes = record {
  Gives = λ x. (x ≡ bytes) × (length bytes ≤ most_bytes);
  Refuses = λ r. (most_bytes < length bytes) × (r ≡ bytes_refusal name (most_bytes + 1));
}

-- what a stage gives, or its refusal as an answer
abbrev pub IsAnswerOf : Stage Refusal Answer → Answer → Type 0
IsAnswerOf s a = s.Gives a ⊎ ((r : Refusal) × s.Refuses r × (a ≡ refused r))
