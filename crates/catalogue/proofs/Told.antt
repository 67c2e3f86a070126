-- The error in a draft, as the catalogue reports it.
use Rattle.std.proofs.Common.{◌≡◌, sym, ap, ◌∙◌, inl, inr, ◌⊎◌, Some, Err}
use Rattle.case_model.specs.declared.draft.Draft.{Draft}
use Rattle.case_model.specs.declared.fault.CaseFault.{CaseFault}
use Rattle.case_model.specs.declared.fault.CaseFault.TheVariants.{NoMemory as NoRoom}
use Rattle.case_model.specs.CaseFaults.{case_fault}
use Rattle.catalogue.specs.declared.fault.CatalogueFault.{CatalogueFault}
use Rattle.catalogue.specs.declared.fault.CatalogueFault.TheVariants.{Case as OfCase, NoMemory as OutOfMemory}
use Rattle.catalogue.specs.Makings.{made, made_unless}

-- a draft that is refused for this fault makes it
told_fault : (d : Draft) (f : CaseFault) (r : CatalogueFault) → r ≡ OfCase f → case_fault d ≡ Some f → made d ≡ Err r
unfolding made
told_fault d f r e h = ap (made_unless d) h ∙ ap Err (sym e)

pub told : (d e : Draft) (f : CaseFault) (r : CatalogueFault) → d ≡ e → (f ≡ NoRoom → r ≡ OutOfMemory) → (f ≡ NoRoom) ⊎ (r ≡ OfCase f)
    → (f ≡ NoRoom) ⊎ (case_fault d ≡ Some f) → (r ≡ OutOfMemory) ⊎ (made e ≡ Err r)
told d e f r same memory case fault = elim case [
  | inl a ↦ inl (memory a)
  | inr a ↦ elim fault [ inl b ↦ inl (memory b) | inr b ↦ inr (told_fault e f r a (sym (ap case_fault same) ∙ b)) ]
]
