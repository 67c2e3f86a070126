-- Errors that are handed on.
use Rattle.std.proofs.Common.{◌≡◌, sym, subst, Result, Ok, Err}
use Rattle.std.specs.Prelude.{IfErr}
use Rattle.std.specs.Result.{IsErrAnd}

pub handed_on : {B E : Type 0} (result : Result B E) (x : E) (P : E → Type 0) → IsErrAnd result (λ y. y ≡ x) → P x → IfErr result P
handed_on (Ok b) x P h p = tt
handed_on (Err y) x P h p = subst P (sym h) p
