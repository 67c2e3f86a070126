-- What `canon` prints is accepted again, in place of the case.
use Rattle.std.specs.Prelude.{◌≡◌, ◌↔◌, ◌≤◌, ℕ, List, Option, Some, length}
use Rattle.answers.specs.declared.answer.Answer.{Answer}
use Rattle.answers.specs.declared.status.Status.TheVariants.{Done}
use Rattle.answers.specs.Stages.{IsAnswerOf, most_bytes}
use Rattle.case_model.specs.Content.{Content}
use Rattle.command_words.specs.Asked.{Encoding, Asked, on_case, check}
use Rattle.command_words.specs.declared.command.CaseTask.{CaseTask}
use Rattle.command_words.specs.declared.command.CaseTask.TheVariants.{Canon}
use Rattle.command_words.specs.declared.format.Format.{Format}
use Rattle.graph_cli.specs.Accepted.{case_in}
use Rattle.graph_cli.specs.Outcome.{AskFor, outcome}
use Rattle.printed.specs.Canon.{read_again}

-- Words that request a command in the format of the case, and words that request it in the format of the printed text. Both have the same answers: the ones
-- on the bytes of the case, the others on the printed text.
abbrev pub HasSameAnswers : (command : Encoding → Asked) → (format again : Encoding) → (case printed : List ℕ) → Type 0
HasSameAnswers command format again case printed =
    (words others : List (List ℕ)) (proof : Option (List ℕ)) (a : Answer) → AskFor words (command format) → AskFor others (command again)
    → IsAnswerOf (outcome words (Some case) proof) a ↔ IsAnswerOf (outcome others (Some printed) proof) a

-- each command that reads a case answers the printed text as it answers the bytes of the case
pub record IsAnsweredAlike (format again : Encoding) (case printed : List ℕ) : Type 0 where
  pub tasks : (task : CaseTask) → HasSameAnswers (λ form. on_case form task) format again case printed
  pub checks : (file : ℕ) → HasSameAnswers (λ form. check form file) format again case printed

-- Words that request `canon` have an answer with status 0, whose text isn't longer than an input may be. Then every command answers this text as it answers
-- the bytes of the case. The text is given in the format in which it is read again.
abbrev pub CanonIsAnsweredAsTheCase : Type 0
CanonIsAnsweredAsTheCase =
    (words : List (List ℕ)) (format : Encoding) (to : Format) (case : List ℕ) (proof : Option (List ℕ)) (a : Answer) (c : Content)
    → AskFor words (on_case format (Canon to)) → IsAnswerOf (outcome words (Some case) proof) a → a.status ≡ Done → length a.text ≤ most_bytes
    → (case_in format case).Gives c → IsAnsweredAlike format (read_again to c) case a.text
