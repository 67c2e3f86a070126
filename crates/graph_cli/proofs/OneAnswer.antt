-- Words, a case and a proof have at most one answer.
use Rattle.std.proofs.Common.{Some}
use Rattle.answers.proofs.Decided.{stage_decided, then_decided, told_as_decided, one_answer}
use Rattle.command_words.specs.Words.{asked_in}
use Rattle.refusals.specs.UsageRefusal.{usage}
use Rattle.graph_cli.specs.Laws.{HasOneAnswer}
use Rattle.graph_cli.specs.Outcome.{outcome}
use Rattle.graph_cli.proofs.CallAnswers.{call_decided}

pub has_one_answer : HasOneAnswer
has_one_answer words case proof =
    one_answer (outcome words (Some case) (Some proof))
    (then_decided _ _ (told_as_decided usage _ (stage_decided (asked_in words))) (λ command. call_decided command case proof))
