-- What is printed of a sample names exactly what the closed test rejects.
use Rattle.std.proofs.Common.{◌≡◌, ap, subst, ℕ, Option, Some, None, Result, Ok, inl, inr}
use Rattle.std.specs.Prelude.{pos}
use Rattle.answers.specs.declared.answer.Answer.{Answer}
use Rattle.case_model.specs.Content.{Content}
use Rattle.case_model.specs.Validity.{IsValidContent}
use Rattle.catalogue.specs.declared.fault.CatalogueFault.{CatalogueFault}
use Rattle.catalogue.specs.Makings.{unless, seed_fault, sample_case}
use Rattle.catalogue.specs.Quotients.{quotient}
use Rattle.catalogue.specs.Samples.{sample_graph, sample_p_values}
use Rattle.catalogue.specs.Sizes.{size_fault}
use Rattle.catalogue.specs.WeightedGraphs.{draft_of}
use Rattle.command_words.specs.Asked.{sample}
use Rattle.command_words.specs.Words.{asked_in}
use Rattle.answers.proofs.Decided.{stage_decided}
use Rattle.sequential.specs.declared.priority.Priority.TheVariants.{First}
use Rattle.graph_cli.specs.Commands.{call_of}
use Rattle.graph_cli.specs.Sample.{sample_stage}
use Rattle.graph_cli.specs.Laws.{SamplesAreOfTheClosedTest}
use Rattle.catalogue.proofs.AloneCases.{is_made}
use Rattle.catalogue.proofs.KnownEnds.{known_ends, known_arrivals}
use Rattle.case_model.proofs.DraftValidity.{valid_of}
use Rattle.graph_cli.proofs.ClosedReports.{by_the_closed_test, not_done}

-- nothing stands before what is made
behind_made : (fault : Option CatalogueFault) (r : Result Content CatalogueFault) (c : Content) → unless fault r ≡ Ok c → r ≡ Ok c
behind_made None r c e = e
behind_made (Some fault) r c e = absurd (cc e)

pub sample_valid : (size seed : ℕ) (c : Content) → sample_case size seed ≡ Ok c → IsValidContent c
unfolding sample_case
sample_valid size seed c e =
    let G = sample_graph size seed in
    let alpha = quotient (pos 1) 20 in
    let ps = sample_p_values size seed in
    let M = is_made (draft_of G alpha ps) c (behind_made (seed_fault seed) _ c (behind_made (size_fault size) _ c e)) in
    subst IsValidContent M.content (valid_of (draft_of G alpha ps) (known_ends G alpha ps) (known_arrivals G alpha ps) M.faultless)

pub samples_closed_test : SamplesAreOfTheClosedTest
unfolding call_of sample_stage
samples_closed_test words size seed case proof a asks (inr h) z = absurd (not_done a.status h.0.cause (ap (λ (x : Answer). x.status) h.2) z)
samples_closed_test words size seed case proof a asks (inl h) z =
    let command_is : h.0 ≡ sample size seed = (stage_decided (asked_in words)).one h.0 (sample size seed) h.1 asks in
    let gives = subst (λ command. (call_of command case proof).Gives a) command_is h.2 in (
      gives.0,
      gives.1,
      record {
        decision = gives.2.0;
        text_is = ap (λ (x : Answer). x.text) gives.2.2;
        decided = by_the_closed_test gives.0 First gives.2.0 (sample_valid size seed gives.0 gives.1) gives.2.1.1;
      },
    )
