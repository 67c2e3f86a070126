-- Words, a case, commands and kept looks have one outcome.
use Rattle.std.proofs.Common.{ℕ, List, Some}
use Rattle.graph_io.specs.declared.keeper.Look.{Look}
use Rattle.answers.specs.Stages.{IsDecided}
use Rattle.answers.proofs.Decided.{stage_decided, then_decided, told_as_decided, within_decided}
use Rattle.case_model.specs.Content.{Content}
use Rattle.command_words.specs.Asked.{StudyAsked}
use Rattle.command_words.specs.Words.{study_in}
use Rattle.graph_cli.proofs.AcceptedCases.{accepted_decided}
use Rattle.refusals.specs.UsageRefusal.{usage}
use Rattle.study_cli.specs.Commands.{commands_of}
use Rattle.study_cli.proofs.OneEnd.{studies_have_one_end}
use Rattle.study_cli.specs.StudyOutcome.{study_needs, commands_in, study_call}
use Rattle.study_cli.specs.StudyStatements.{StudiesHaveOneOutcome}

commands_decided : (c : Content) (bytes : List ℕ) → IsDecided (commands_in c bytes)
commands_decided c bytes = told_as_decided _ _ (stage_decided (commands_of c.names bytes))

call_decided : (asked : StudyAsked) (case commands : List ℕ) (looks : List Look) → IsDecided (study_call asked (Some case) (Some commands) (Some looks))
unfolding study_call
call_decided asked case commands looks =
    then_decided _ _ (accepted_decided asked.format study_needs case)
    (λ c. then_decided _ _ (then_decided _ _ (within_decided _ commands) (commands_decided c)) (λ list. studies_have_one_end c list looks))

pub studies_have_one_outcome : StudiesHaveOneOutcome
studies_have_one_outcome words case commands looks =
    then_decided _ _ (told_as_decided usage _ (stage_decided (study_in words))) (λ asked. call_decided asked case commands looks)
