-- Each command is decided.
use Rattle.std.proofs.Common.{ℕ, List, Some}
use Rattle.answers.specs.Stages.{IsDecided}
use Rattle.answers.proofs.Decided.{stage_decided, given_if_decided, then_decided, told_as_decided, told_if_decided, only_decided, within_decided}
use Rattle.case_model.specs.Content.{Content}
use Rattle.command_words.specs.Asked.{Asked, on_case as task_on_case, check, catalogue, sample, help}
use Rattle.command_words.specs.declared.command.CaseTask.{CaseTask}
use Rattle.command_words.specs.declared.command.CaseTask.TheVariants as tasks
use Rattle.graph_cli.specs.Commands.{on_case, needs_of, case_call, check_needs, check_call, call_of}
use Rattle.command_words.specs.declared.graph_name.SizedGraph.{SizedGraph}
use Rattle.command_words.specs.declared.format.Format.{Format}
use Rattle.command_words.specs.declared.format.Format.TheVariants as formats
use Rattle.graph_cli.specs.Canon.{sheet_stage, canon_stage}
use Rattle.graph_cli.specs.Catalogue.{refusal_of}
use Rattle.graph_cli.specs.Graphs.{catalogue_stage, named_case, reported_size}
use Rattle.graph_cli.specs.Help.{help_stage}
use Rattle.graph_cli.specs.Troubles.{line_of}
use Rattle.graph_cli.proofs.AcceptedCases.{accepted_decided}
use Rattle.graph_cli.proofs.CheckAnswers.{check_decided}
use Rattle.graph_cli.proofs.EvidenceAnswers.{evidence_decided}
use Rattle.graph_cli.proofs.StagesAnswers.{stages_decided}
use Rattle.graph_cli.proofs.SampleAnswers.{sample_decided}
use Rattle.graph_cli.proofs.SetAnswers.{weights_decided, bounds_decided}
use Rattle.graph_cli.proofs.SimesCalls.{simes_decided}
use Rattle.graph_cli.proofs.TestAnswers.{test_decided}

help_decided : IsDecided help_stage
unfolding help_stage
help_decided = only_decided _

catalogue_decided : (graph : SizedGraph) → IsDecided (catalogue_stage graph)
unfolding catalogue_stage
catalogue_decided graph = then_decided _ _ (told_if_decided (refusal_of (reported_size graph)) _ (stage_decided (named_case graph))) (λ c. only_decided _)

canon_decided : (format : Format) (c : Content) → IsDecided (canon_stage format c)
unfolding canon_stage sheet_stage
canon_decided formats.Text c = only_decided _
canon_decided formats.Csv c = given_if_decided _ _ _
canon_decided formats.Json c = only_decided _

task_decided : (task : CaseTask) (c : Content) → IsDecided (on_case task c)
unfolding on_case
task_decided (tasks.Test priority) c = test_decided priority c
task_decided tasks.Weights c = weights_decided c
task_decided tasks.Bounds c = bounds_decided c
task_decided tasks.Simes c = simes_decided c
task_decided (tasks.Evidence priority) c = evidence_decided priority c
task_decided tasks.Stages c = stages_decided c
task_decided (tasks.Canon format) c = canon_decided format c

pub call_decided : (command : Asked) (case proof : List ℕ) → IsDecided (call_of command (Some case) (Some proof))
unfolding call_of case_call check_call
call_decided (task_on_case format task) case proof = then_decided _ _ (accepted_decided format (needs_of task) case)
    (λ c. told_as_decided (line_of c.names) _ (task_decided task c))
call_decided (catalogue graph) case proof = catalogue_decided graph
call_decided (check format file) case proof = then_decided _ _ (accepted_decided format check_needs case)
    (λ c. then_decided _ _ (within_decided _ proof) (λ bytes. told_as_decided (line_of c.names) _ (check_decided c bytes)))
call_decided (sample size seed) case proof = sample_decided size seed
call_decided help case proof = help_decided
