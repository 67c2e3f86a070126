-- The stage of a case that is made from sizes and a seed.
use Rattle.std.specs.Prelude.{ℕ, Option, Some, None, Result}
use Rattle.answers.specs.declared.refusal.Refusal.{Refusal}
use Rattle.answers.specs.Stages.{Stage, stage_of, told_if}
use Rattle.case_model.specs.Content.{Content}
use Rattle.catalogue.specs.declared.fault.CatalogueFault.{CatalogueFault}
use Rattle.catalogue.specs.declared.fault.CatalogueFault.TheVariants.{Size, Seed, Case as OfCase, NoMemory as OutOfMemory}
use Rattle.catalogue.specs.WeightedGraphs.{names_of}
use Rattle.refusals.specs.CaseRefusal.{case_refusal}
use Rattle.refusals.specs.CatalogueRefusal.{size_refusal, seed_refusal}

-- The refusal that reports why no case of `n` hypotheses was made. No refusal reports out-of-memory.
abbrev pub refusal_of : ℕ → CatalogueFault → Option Refusal
refusal_of n (Size k) = Some (size_refusal k)
refusal_of n (Seed k) = Some (seed_refusal k)
refusal_of n (OfCase fault) = Some (case_refusal (names_of n) fault)
refusal_of n OutOfMemory = None

-- the content of the case of `n` hypotheses that was made, or the refusal that reports why none was
abbrev pub made_of : ℕ → Result Content CatalogueFault → Stage Refusal Content
made_of n made = told_if (refusal_of n) (stage_of made)
