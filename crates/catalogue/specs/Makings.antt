-- What each call makes: the content of a case, or the fault.
use Rattle.std.specs.Prelude.{ℕ, ◌^◌, List, Option, Some, None, Result, Ok, Err, length, pos, nat_lt, if◌then◌else◌}
use Rattle.field_core.specs.declared.ratio.Ratio.{Ratio}
use Rattle.case_model.specs.declared.draft.Draft.{Draft}
use Rattle.case_model.specs.declared.fault.CaseFault.{CaseFault}
use Rattle.case_model.specs.CaseFaults.{case_fault}
use Rattle.case_model.specs.Content.{Content, content_of}
use Rattle.catalogue.specs.declared.fault.CatalogueFault.{CatalogueFault}
use Rattle.catalogue.specs.declared.fault.CatalogueFault.TheVariants.{Seed, Case as OfCase}
use Rattle.catalogue.specs.Quotients.{quotient}
use Rattle.catalogue.specs.Sizes.{size_fault, sizes_fault}
use Rattle.catalogue.specs.WeightedGraphs.{draft_of}
use Rattle.catalogue.specs.NamedGraphs.{holm_graph, sequence_graph, fallback_graph, parallel_graph, improved_graph}
use Rattle.catalogue.specs.Samples.{sample_graph, sample_p_values}

-- the content of a draft, or its fault
abbrev pub made_unless : Draft → Option CaseFault → Result Content CatalogueFault
made_unless d None = Ok (content_of d)
made_unless d (Some fault) = Err (OfCase fault)

unfoldable pub made : Draft → Result Content CatalogueFault
made d = made_unless d (case_fault d)

-- the given fault, of a size or of the seed, or else what is made
abbrev pub unless : Option CatalogueFault → Result Content CatalogueFault → Result Content CatalogueFault
unless (Some fault) r = Err fault
unless None r = r

unfoldable pub holm_case : ℕ → Ratio → List Ratio → Result Content CatalogueFault
holm_case n alpha ps = unless (size_fault n) (made (draft_of (holm_graph n) alpha ps))

unfoldable pub sequence_case : ℕ → Ratio → List Ratio → Result Content CatalogueFault
sequence_case n alpha ps = unless (size_fault n) (made (draft_of (sequence_graph n) alpha ps))

unfoldable pub fallback_case : List Ratio → Ratio → List Ratio → Result Content CatalogueFault
fallback_case ws alpha ps = unless (size_fault (length ws)) (made (draft_of (fallback_graph ws) alpha ps))

unfoldable pub parallel_case : ℕ → ℕ → Ratio → List Ratio → Result Content CatalogueFault
parallel_case a b alpha ps = unless (sizes_fault a b) (made (draft_of (parallel_graph a b) alpha ps))

unfoldable pub improved_case : ℕ → ℕ → Ratio → List Ratio → Result Content CatalogueFault
improved_case a b alpha ps = unless (sizes_fault a b) (made (draft_of (improved_graph a b) alpha ps))

-- a seed is 2^48 or more
unfoldable pub seed_fault : ℕ → Option CatalogueFault
seed_fault seed = if nat_lt seed (2 ^ 48) then None else Some (Seed seed)

-- the sample of a size and a seed, at level 1/20
unfoldable pub sample_case : ℕ → ℕ → Result Content CatalogueFault
sample_case n seed = unless (size_fault n) (unless (seed_fault seed) (made (draft_of (sample_graph n seed) (quotient (pos 1) 20) (sample_p_values n seed))))
