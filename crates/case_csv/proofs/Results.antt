-- Answers of readers of records.
use Rattle.std.proofs.Common.{◌≡◌, ◌⊎◌, inl, inr, Bool, true, false, ℕ, Result, Ok, Err, refl, sym, ap, ◌∙◌}
use Rattle.std.specs.Result.{IsErrAnd}
use Rattle.field_core.specs.Answers.{and_then, mapped}
use Rattle.field_core.proofs.Results.{same_value, same_fault}
use Rattle.case_csv.specs.declared.fault.CsvFault.{CsvFault}
use Rattle.case_csv.specs.declared.fault.CsvFault.TheVariants as faults
use Rattle.case_csv.specs.declared.fault.RowKind.{RowKind}
use Rattle.case_csv.specs.Answers.{RowFault, told, IsAnswer, at, holds_or}

-- an answer that is reported as a value has that value
pub answered : {A : Type 0} (r : Result A RowFault) (a : A) → told r ≡ Ok a → r ≡ Ok a
answered (Ok b) a e = ap Ok (same_value b a e)
answered (Err f) a e = absurd (cc e)

pub made_of : {A B : Type 0} (f : A → B) (r : Result A RowFault) (b : B) → told (mapped f r) ≡ Ok b → (a : A) × (r ≡ Ok a) × (b ≡ f a)
made_of f (Ok a) b e = (a, refl, cc)
made_of f (Err g) b e = absurd (cc e)

-- a fault is handed on
pub handed : {A B : Type 0} (r : Result A RowFault) (next : A → Result B RowFault) (e : CsvFault) → told r ≡ Err e → told (and_then r next) ≡ Err e
handed (Ok a) next e h = absurd (cc h)
handed (Err f) next e h = ap Err (same_fault _ e h)

pub unmade : {A B : Type 0} (f : A → B) (r : Result A RowFault) (e : CsvFault) → told (mapped f r) ≡ Err e → told r ≡ Err e
unmade f (Ok a) e h = absurd (cc h)
unmade f (Err g) e h = ap Err (same_fault _ e h)

pub passed : {A B : Type 0} (e : CsvFault) (r : Result A RowFault) (next : A → Result B RowFault) → (e ≡ faults.NoMemory) ⊎ (told r ≡ Err e)
    → (e ≡ faults.NoMemory) ⊎ (told (and_then r next) ≡ Err e)
passed e r next (inl memory) = inl memory
passed e r next (inr h) = inr (handed r next e h)

-- so it is through a `?`
pub handed_on : {B : Type 0} (result : Result B CsvFault) (e : CsvFault) (r answer : Result B RowFault) → IsErrAnd result (λ y. y ≡ e) → answer ≡ r
    → (e ≡ faults.NoMemory) ⊎ (told r ≡ Err e) → IsAnswer result answer
handed_on (Ok b) e r answer is same h = absurd is
handed_on (Err y) e r answer is same (inl memory) = inl (is ∙ memory)
handed_on (Err y) e r answer is same (inr h) = inr (ap told same ∙ h ∙ ap Err (sym is))

-- a test that held
pub held : (row column : ℕ) (kind : RowKind) (b : Bool) → {u : Unit {0}} → at row column (holds_or kind b) ≡ Ok u → b ≡ true
held row column kind true e = refl
held row column kind false e = absurd (cc e)
