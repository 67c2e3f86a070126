-- What `canon` prints is read as the same case.
use Rattle.std.specs.Prelude.{◌≡◌, ℕ, List, Option, Some}
use Rattle.answers.specs.declared.answer.Answer.{Answer}
use Rattle.answers.specs.declared.status.Status.TheVariants.{Done}
use Rattle.answers.specs.Stages.{IsAnswerOf}
use Rattle.case_model.specs.Content.{Content}
use Rattle.command_words.specs.Asked.{Encoding, text, csv, json, on_case}
use Rattle.command_words.specs.declared.command.CaseTask.TheVariants.{Canon}
use Rattle.command_words.specs.declared.format.Format.{Format}
use Rattle.command_words.specs.declared.format.Format.TheVariants.{Text, Csv, Json}
use Rattle.graph_cli.specs.Accepted.{case_in}
use Rattle.graph_cli.specs.Laws.{ReportsCase}
use Rattle.graph_cli.specs.Outcome.{AskFor, outcome}

-- how the text that is printed of a case in a format is read again: in that format, and a sheet at the level of the case
abbrev pub read_again : Format → Content → Encoding
read_again Text c = text
read_again Csv c = csv c.alpha
read_again Json c = json

-- The text is read, in the format that it is printed in, as this case and as no other.
pub record IsReadAs (format : Format) (c : Content) (printed : List ℕ) : Type 0 where
  pub reads : (case_in (read_again format c) printed).Gives c
  pub only : (d : Content) → (case_in (read_again format c) printed).Gives d → d ≡ c

-- an answer with status 0 to words that request `canon`, in whatever format, is read in that format as the case that the bytes denote
abbrev pub CanonIsReadAsTheCase : Type 0
CanonIsReadAsTheCase = (words : List (List ℕ)) (format : Encoding) (to : Format) (case : List ℕ) (proof : Option (List ℕ)) (a : Answer)
    → AskFor words (on_case format (Canon to)) → IsAnswerOf (outcome words (Some case) proof) a → a.status ≡ Done
    → ReportsCase (IsReadAs to) format case a.text

-- if the format is a sheet, which doesn't hold the level, two cases have the same level
abbrev pub LevelsAgree : Format → Content → Content → Type 0
LevelsAgree Text c d = Unit {0}
LevelsAgree Csv c d = c.alpha ≡ d.alpha
LevelsAgree Json c d = Unit {0}

-- Two texts of two cases in a format: they are the same if the cases are. If they are the same, and for a sheet the levels too, so are the cases.
pub record AreSameTogether (format : Format) (c d : Content) (one other : List ℕ) : Type 0 where
  pub same_text : c ≡ d → one ≡ other
  pub same_case : LevelsAgree format c d → one ≡ other → c ≡ d

-- Two cases, however they are written, are answered with status 0 to words that request `canon` in one format. The two texts are the same exactly if the
-- cases are; if the format is a sheet, this is stated of cases with the same level.
abbrev pub CanonTellsCasesApart : Type 0
CanonTellsCasesApart =
    (words others : List (List ℕ)) (format other_format : Encoding) (to : Format) (case other : List ℕ) (proof other_proof : Option (List ℕ)) (a b : Answer)
    (c d : Content) → AskFor words (on_case format (Canon to)) → AskFor others (on_case other_format (Canon to))
    → IsAnswerOf (outcome words (Some case) proof) a → IsAnswerOf (outcome others (Some other) other_proof) b → a.status ≡ Done → b.status ≡ Done
    → (case_in format case).Gives c → (case_in other_format other).Gives d → AreSameTogether to c d a.text b.text
