-- Answers of readers, one after another, up to the first fault.
use Rattle.std.specs.Prelude.{◌≡◌, ◌⊎◌, Result, Ok, Err}

-- ---- results

-- The result is this answer, or the error for no memory. It is defined by cases on the result, so that it is a plain equation if
-- a value was returned.
abbrev pub IsUnless : {A E : Type 0} → E → Result A E → Result A E → Type 0
IsUnless no_memory (Ok x) answer = answer ≡ Ok x
IsUnless no_memory (Err e) answer = (e ≡ no_memory) ⊎ (answer ≡ Err e)

-- the answer of a call that changes a value: the new value in place of nothing
abbrev pub leaving : {A E : Type 0} → A → Result (Unit {0}) E → Result A E
leaving new (Ok done) = Ok new
leaving new (Err e) = Err e

-- ---- answers

-- What comes next, unless there was a fault. Steps one after another are written with an operator.
abbrev pub and_then : {A B E : Type 0} → Result A E → (A → Result B E) → Result B E
and_then (Ok a) next = next a
and_then (Err e) next = Err e

infixl 10 ◌>>=◌
abbrev pub ◌>>=◌ : {A B E : Type 0} → Result A E → (A → Result B E) → Result B E
r >>= next = and_then r next

-- what is made of an answer
abbrev pub mapped : {A B E : Type 0} → (A → B) → Result A E → Result B E
mapped f r = and_then r (λ a. Ok (f a))

-- the same answer with its fault as another kind
abbrev pub told_as : {A E F : Type 0} → (E → F) → Result A E → Result A F
told_as tell (Ok a) = Ok a
told_as tell (Err e) = Err (tell e)
