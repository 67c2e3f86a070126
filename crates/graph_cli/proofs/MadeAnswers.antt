-- A fault that is reported for sizes and seeds is one that is made.
use Rattle.std.proofs.Common.{◌≡◌, ◌⊎◌, inl, inr, sym, ap, ◌∙◌, ℕ, Some, Result, Err}
use Rattle.answers.specs.declared.refusal.Refusal.{Refusal}
use Rattle.case_model.specs.Content.{Content}
use Rattle.catalogue.specs.declared.fault.CatalogueFault.{CatalogueFault}
use Rattle.catalogue.specs.declared.fault.CatalogueFault.TheVariants.{NoMemory as OutOfMemory}
use Rattle.graph_cli.specs.Catalogue.{refusal_of}

pub fault_reported : (n : ℕ) (made : Result Content CatalogueFault) (fault : CatalogueFault) (r : Refusal) → (fault ≡ OutOfMemory) ⊎ (made ≡ Err fault)
    → refusal_of n fault ≡ Some r → (f : CatalogueFault) × (made ≡ Err f) × (refusal_of n f ≡ Some r)
fault_reported n made fault r (inl e) h = absurd (cc (sym (ap (refusal_of n) e) ∙ h))
fault_reported n made fault r (inr e) h = (fault, e, h)
