-- Named graphs and samples are made, or refused for their sizes, their seed or a fault of their case.
use Rattle.std.proofs.Common.{◌≡◌, refl, ℕ, zero, suc, ◌≤◌, arith, Bool, true, false, List, [], Option, Some, None}
use Rattle.std.proofs.Common.{Result, Ok, Err}
use Rattle.std.specs.Prelude.{if◌then◌else◌, pos}
use Rattle.field_core.specs.declared.ratio.Ratio.{Ratio}
use Rattle.case_model.specs.CaseFaults.{case_fault}
use Rattle.case_model.specs.Content.{Content}
use Rattle.case_model.specs.Validity.{IsValidContent}
use Rattle.case_model.specs.declared.draft.Draft.{Draft}
use Rattle.case_model.specs.declared.fault.CaseFault.{CaseFault}
use Rattle.case_model.specs.declared.inputs.Inputs.TheVariants.{Single}
use Rattle.catalogue.specs.declared.fault.CatalogueFault.{CatalogueFault}
use Rattle.catalogue.specs.declared.fault.CatalogueFault.TheVariants.{Size, Seed, NoMemory}
use Rattle.catalogue.specs.Makings.{made_unless, made, unless, seed_fault, holm_case, sequence_case, fallback_case, parallel_case, improved_case, sample_case}
use Rattle.catalogue.specs.Quotients.{quotient}
use Rattle.catalogue.specs.Samples.{sample_graph, sample_p_values}
use Rattle.catalogue.specs.Sizes.{size_fault, sizes_fault}
use Rattle.catalogue.proofs.SampleInputs.{sample_inputs}
use Rattle.graph_cli.proofs.SampledReports.{sample_valid}

-- ---- what is made is never out of memory

-- what is made isn't refused as out of memory
abbrev pub IsPlain : Result Content CatalogueFault → Type 0
IsPlain r = ¬ (r ≡ Err NoMemory)

-- nor is it by this fault
abbrev IsPlainFault : Option CatalogueFault → Type 0
IsPlainFault o = ¬ (o ≡ Some NoMemory)

behind_plain : (o : Option CatalogueFault) (r : Result Content CatalogueFault) → IsPlainFault o → IsPlain r → IsPlain (unless o r)
behind_plain None r f h = h
behind_plain (Some fault) r f h = λ e. f (cc)

unless_plain : (d : Draft) (o : Option CaseFault) → IsPlain (made_unless d o)
unless_plain d None = λ e. cc
unless_plain d (Some fault) = λ e. cc

made_plain : (d : Draft) → IsPlain (made d)
unfolding made
made_plain d = unless_plain d (case_fault d)

if_plain : (b : Bool) (f : CatalogueFault) → ¬ (f ≡ NoMemory) → IsPlainFault (if b then Some f else None)
if_plain true f n = λ e. n (cc)
if_plain false f n = λ e. cc

size_plain : (n : ℕ) → IsPlainFault (size_fault n)
unfolding size_fault
size_plain n = if_plain _ (Size n) (λ e. cc)

if_size : (b : Bool) (o : Option CatalogueFault) → IsPlainFault o → IsPlainFault (if b then Some (Size 0) else o)
if_size true o f = λ e. cc
if_size false o f = f

sizes_plain : (a b : ℕ) → IsPlainFault (sizes_fault a b)
unfolding sizes_fault
sizes_plain a b = if_size _ (size_fault _) (size_plain _)

seed_plain : (seed : ℕ) → IsPlainFault (seed_fault seed)
unfolding seed_fault
seed_plain seed = by _
  where
    by : (b : Bool) → IsPlainFault (if b then None else Some (Seed seed))
    by true = λ e. cc
    by false = λ e. cc

pub holm_plain : (n : ℕ) (alpha : Ratio) → IsPlain (holm_case n alpha [])
unfolding holm_case
holm_plain n alpha = behind_plain (size_fault n) _ (size_plain n) (made_plain _)

pub sequence_plain : (n : ℕ) (alpha : Ratio) → IsPlain (sequence_case n alpha [])
unfolding sequence_case
sequence_plain n alpha = behind_plain (size_fault n) _ (size_plain n) (made_plain _)

pub fallback_plain : (ws : List Ratio) (alpha : Ratio) → IsPlain (fallback_case ws alpha [])
unfolding fallback_case
fallback_plain ws alpha = behind_plain (size_fault _) _ (size_plain _) (made_plain _)

pub parallel_plain : (a b : ℕ) (alpha : Ratio) → IsPlain (parallel_case a b alpha [])
unfolding parallel_case
parallel_plain a b alpha = behind_plain (sizes_fault a b) _ (sizes_plain a b) (made_plain _)

pub improved_plain : (a b : ℕ) (alpha : Ratio) → IsPlain (improved_case a b alpha [])
unfolding improved_case
improved_plain a b alpha = behind_plain (sizes_fault a b) _ (sizes_plain a b) (made_plain _)

pub sample_plain : (n seed : ℕ) → IsPlain (sample_case n seed)
unfolding sample_case
sample_plain n seed = behind_plain (size_fault n) _ (size_plain n) (behind_plain (seed_fault seed) _ (seed_plain seed) (made_plain _))

-- ---- samples

behind_ok : (o : Option CatalogueFault) (r : Result Content CatalogueFault) (c : Content) → unless o r ≡ Ok c → (o ≡ None) × (r ≡ Ok c)
behind_ok None r c e = (refl, e)
behind_ok (Some fault) r c e = absurd (cc e)

some_size : (n : ℕ) → size_fault n ≡ None → 1 ≤ n
unfolding size_fault
some_size zero e = absurd (cc e)
some_size (suc n) e = omega arith

-- a sample is the content of a case, with a p-value for each hypothesis
pub record IsSample (c : Content) : Type 0 where
  pub valid : IsValidContent c
  pub p_values : List Ratio
  pub inputs : c.inputs ≡ Single p_values

pub sample_is : (n seed : ℕ) (c : Content) → sample_case n seed ≡ Ok c → IsSample c
unfolding sample_case
sample_is n seed c e =
    let a = behind_ok (size_fault n) _ c e in
    let b = behind_ok (seed_fault seed) _ c a.1 in
    let G = sample_graph n seed in
    let alpha = quotient (pos 1) 20 in
    let ps = sample_p_values n seed in
    record {
      valid = sample_valid n seed c e;
      p_values = ps;
      inputs = sample_inputs G alpha ps n n seed c refl (some_size n a.0) refl b.1;
    }
