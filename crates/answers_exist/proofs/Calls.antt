-- Each call has an answer.
use Rattle.std.proofs.Common.{◌≡◌, ◌⊎◌, inl, inr, refl, ℕ, Bool, true, false, List, Option, Result, Ok, Err}
use Rattle.std.specs.Prelude.{codes}
use Rattle.answers.specs.Lines.{done}
use Rattle.answers.specs.Stages.{Ends, stage_of, on_bytes, within, told_as}
use Rattle.case_csv.specs.Sheet.{fits_sheet}
use Rattle.case_json.specs.Written.{json_text}
use Rattle.answers.proofs.Decided.{stage_ends, given_if_ends}
use Rattle.case_model.specs.Content.{Content}
use Rattle.catalogue.specs.Makings.{sample_case}
use Rattle.catalogue.specs.NamedGraphs.{equal_weights, part}
use Rattle.catalogue.specs.declared.fault.CatalogueFault.{CatalogueFault}
use Rattle.catalogue.specs.declared.fault.CatalogueFault.TheVariants.{Size, Seed, Case as OfCase, NoMemory}
use Rattle.catalogue.specs.WeightedGraphs.{names_of}
use Rattle.command_words.specs.Asked.{Encoding, Asked, on_case as task_on_case, check, catalogue, sample, help}
use Rattle.command_words.specs.Words.{asked_in}
use Rattle.command_words.specs.declared.command.CaseTask.{CaseTask}
use Rattle.command_words.specs.declared.command.CaseTask.TheVariants as tasks
use Rattle.command_words.specs.declared.format.Format.{Format}
use Rattle.command_words.specs.declared.format.Format.TheVariants as formats
use Rattle.command_words.specs.declared.graph_name.SizedGraph.{SizedGraph}
use Rattle.command_words.specs.declared.graph_name.SizedGraph.TheVariants.{Holm, FixedSequence, Fallback, Parallel, ImprovedParallel}
use Rattle.edge_text.specs.CanonicalText.{canonical_text}
use Rattle.refusals.specs.CaseRefusal.{case_refusal}
use Rattle.refusals.specs.CatalogueRefusal.{size_refusal, seed_refusal}
use Rattle.refusals.specs.UsageRefusal.{usage}
use Rattle.report.specs.SampleReport.{sample_report}
use Rattle.sequential.specs.declared.priority.Priority.TheVariants.{First}
use Rattle.graph_cli.specs.Accepted.{accepted}
use Rattle.graph_cli.specs.Canon.{sheet_stage, canon_stage}
use Rattle.graph_cli.specs.Catalogue.{made_of}
use Rattle.graph_cli.specs.Check.{check_stage}
use Rattle.graph_cli.specs.Commands.{needs_of, on_case, case_call, check_needs, check_call, call_of}
use Rattle.graph_cli.specs.Graphs.{reported_size, named_case, catalogue_stage}
use Rattle.graph_cli.specs.Help.{help_text, help_stage}
use Rattle.graph_cli.specs.Outcome.{outcome}
use Rattle.graph_cli.specs.Sample.{decided_sample, sample_stage}
use Rattle.graph_cli.specs.Test.{decided}
use Rattle.graph_cli.specs.Troubles.{line_of}
use Rattle.answers_exist.specs.Existence.{CallsHaveAnAnswer}
use Rattle.answers_exist.proofs.AcceptedCases.{IsTaken, accepted_ends, accepted_taken, single_of}
use Rattle.answers_exist.proofs.DecidedCalls.{decided_ends, test_ends, stages_ends}
use Rattle.answers_exist.proofs.Ends.{then_ends, told_ends, only_ends, within_ends, bytes_end, has_answer}
use Rattle.answers_exist.proofs.EvidenceCalls.{check_ends, evidence_ends}
use Rattle.answers_exist.proofs.NamedCases.{IsPlain, holm_plain, sequence_plain, fallback_plain, parallel_plain, improved_plain, sample_plain, sample_is}
use Rattle.answers_exist.proofs.SetCalls.{weights_ends, bounds_ends, simes_ends}

-- ---- canonical documents

passes_or_not : (b : Bool) → (b ≡ true) ⊎ ¬ (b ≡ true)
passes_or_not true = inl refl
passes_or_not false = inr (λ e. cc)

canon_ends : (format : Format) (c : Content) → Ends (canon_stage format c)
unfolding canon_stage sheet_stage
canon_ends formats.Text c = only_ends (done (canonical_text c))
canon_ends formats.Csv c = given_if_ends _ _ _ (passes_or_not (fits_sheet c))
canon_ends formats.Json c = only_ends (done (json_text c))

-- ---- named graphs

fault_ends : (n : ℕ) (made : Result Content CatalogueFault) → IsPlain made → (fault : CatalogueFault) → made ≡ Err fault → Ends (made_of n made)
fault_ends n made plain (Size k) e = inr (size_refusal k, (Size k, e, refl))
fault_ends n made plain (Seed k) e = inr (seed_refusal k, (Seed k, e, refl))
fault_ends n made plain (OfCase fault) e = inr (case_refusal (names_of n) fault, (OfCase fault, e, refl))
fault_ends n made plain NoMemory e = absurd (plain e)

made_ends : (n : ℕ) (made : Result Content CatalogueFault) → IsPlain made → Ends (made_of n made)
made_ends n made plain = elim (stage_ends made) [ inl c ↦ inl c | inr f ↦ fault_ends n made plain f.0 f.1 ]

named_plain : (graph : SizedGraph) → IsPlain (named_case graph)
unfolding named_case
named_plain (Holm n) = holm_plain n (part 20)
named_plain (FixedSequence n) = sequence_plain n (part 20)
named_plain (Fallback n) = fallback_plain (equal_weights n) (part 20)
named_plain (Parallel a b) = parallel_plain a b (part 20)
named_plain (ImprovedParallel a b) = improved_plain a b (part 20)

catalogue_ends : (graph : SizedGraph) → Ends (catalogue_stage graph)
unfolding catalogue_stage
catalogue_ends graph =
    then_ends (made_of (reported_size graph) (named_case graph)) _ (made_ends (reported_size graph) (named_case graph) (named_plain graph))
    (λ c g. only_ends (done (canonical_text c)))

-- ---- samples

decided_sample_ends : (size seed : ℕ) (c : Content) → sample_case size seed ≡ Ok c → Ends (decided_sample seed c)
decided_sample_ends size seed c h =
    let S = sample_is size seed c h in
    then_ends (decided First c) _ (decided_ends c S.valid S.p_values S.inputs First) (λ d D. only_ends (done (sample_report c seed d)))

sample_ends : (size seed : ℕ) → Ends (sample_stage size seed)
unfolding sample_stage
sample_ends size seed =
    then_ends (made_of size (sample_case size seed)) _ (made_ends size (sample_case size seed) (sample_plain size seed))
    (λ c h. told_ends (line_of c.names) (decided_sample seed c) (decided_sample_ends size seed c h))

-- ---- tasks on a case

task_ends : (task : CaseTask) (c : Content) → IsTaken (needs_of task).kind c → Ends (on_case task c)
unfolding on_case needs_of
task_ends (tasks.Test priority) c T = let s = single_of c.inputs T.of_kind in test_ends c T.valid s.0 s.1 priority
task_ends tasks.Weights c T = weights_ends c T.valid
task_ends tasks.Bounds c T = let s = single_of c.inputs T.of_kind in bounds_ends c T.valid s.0 s.1
task_ends tasks.Simes c T = let s = single_of c.inputs T.of_kind in simes_ends c T.valid s.0 s.1
task_ends (tasks.Evidence priority) c T = let s = single_of c.inputs T.of_kind in evidence_ends c T.valid s.0 s.1 priority
task_ends tasks.Stages c T = stages_ends c T.valid
task_ends (tasks.Canon format) c T = canon_ends format c

case_ends : (format : Encoding) (task : CaseTask) (case : Option (List ℕ)) → Ends (case_call format task case)
unfolding case_call
case_ends format task case =
    then_ends (accepted format (needs_of task) case) _ (accepted_ends format (needs_of task) case)
    (λ c g. told_ends (line_of c.names) (on_case task c) (task_ends task c (accepted_taken format (needs_of task) case c g)))

check_call_ends : (format : Encoding) (case proof : Option (List ℕ)) → Ends (check_call format case proof)
unfolding check_call
check_call_ends format case proof =
    then_ends (accepted format check_needs case) _ (accepted_ends format check_needs case)
    (λ c g. then_ends (on_bytes proof (within (codes "proof "))) _ (bytes_end proof (within (codes "proof ")) (λ bytes. within_ends (codes "proof ") bytes))
    (λ bytes h. told_ends (line_of c.names) (check_stage c bytes) (check_ends c bytes)))

-- ---- calls

call_ends : (command : Asked) (case proof : Option (List ℕ)) → Ends (call_of command case proof)
unfolding call_of help_stage
call_ends (task_on_case format task) case proof = case_ends format task case
call_ends (catalogue graph) case proof = catalogue_ends graph
call_ends (check format file) case proof = check_call_ends format case proof
call_ends (sample size seed) case proof = sample_ends size seed
call_ends help case proof = only_ends (done help_text)

pub calls_have_an_answer : CallsHaveAnAnswer
calls_have_an_answer words case proof =
    has_answer (outcome words case proof)
    (then_ends (told_as usage (stage_of (asked_in words))) _ (told_ends usage (stage_of (asked_in words)) (stage_ends (asked_in words)))
    (λ command g. call_ends command case proof))
