-- What follows from a fact of single p-values.
use Rattle.field_core.specs.declared.ratio.Ratio.{Ratio}
use Rattle.std.proofs.Common.{List}
use Rattle.case_model.specs.Content.{ForSingle}
use Rattle.case_model.specs.declared.inputs.Inputs.{Inputs}
use Rattle.case_model.specs.declared.inputs.Inputs.TheVariants.{Bare, Single, Staged}

pub for_single : (P : List Ratio → Type 0) (R : Inputs → Type 0) → ((ps : List Ratio) → P ps → R (Single ps)) → (i : Inputs) → ForSingle i P
    → R i
for_single P R step (Single ps) h = step ps h
for_single P R step Bare h = absurd h
for_single P R step (Staged stages) h = absurd h

-- two facts of single p-values are of the same ones
pub for_both : (P Q : List Ratio → Type 0) (R : Type 0) → ((ps : List Ratio) → P ps → Q ps → R) → (i : Inputs) → ForSingle i P → ForSingle i Q
    → R
for_both P Q R = for_single P (λ i. ForSingle i Q → R)
