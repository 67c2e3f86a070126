-- Errors of statements as they are reported.
use Rattle.std.proofs.Common.{◌≡◌, Result, Ok, Err, IfOk, IfErr, OnOk}
use Rattle.std.specs.Result.{IsErrAnd}
use Rattle.sqlite.specs.declared.error.Error.{Error}
use Rattle.study_sqlite.specs.declared.fault.FileFault.{FileFault}
use Rattle.study_sqlite.specs.FileFaults.{fault_of_error}

-- what holds of the fault that an error is reported as holds where that error was reported
pub told : {T : Type 0} (r : Result T FileFault) (error : Error) (P : FileFault → Type 0) → IsErrAnd r (λ f. f ≡ fault_of_error error)
    → ((f : FileFault) → f ≡ fault_of_error error → P f) → IfErr r P
told (Ok x) error P h k = tt
told (Err f) error P h k = k f h

-- the same of what holds under a condition
pub goes_well_under : {T E : Type 0} (r : Result T E) (H A B : Type 0) → (H → OnOk r A) → ((H → A) → B) → OnOk r B
goes_well_under (Ok x) H A B h k = k h
goes_well_under (Err error) H A B h k = tt

-- the same of what a call gave
pub gives_under : {T E : Type 0} (r : Result T E) (H : Type 0) (A B : T → Type 0) → (H → IfOk r A) → ((x : T) → (H → A x) → B x) → IfOk r B
gives_under (Ok x) H A B h k = k x h
gives_under (Err error) H A B h k = tt
