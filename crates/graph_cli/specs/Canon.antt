-- What `canon` answers.
use Rattle.std.specs.Prelude.{◌≡◌, true}
use Rattle.answers.specs.declared.answer.Answer.{Answer}
use Rattle.answers.specs.Lines.{done}
use Rattle.answers.specs.Stages.{Stage, given_if, only}
use Rattle.case_csv.specs.Sheet.{fits_sheet, sheet_text}
use Rattle.case_json.specs.Written.{json_text}
use Rattle.case_model.specs.Content.{Content}
use Rattle.command_words.specs.declared.format.Format.{Format}
use Rattle.command_words.specs.declared.format.Format.TheVariants.{Text, Csv, Json}
use Rattle.edge_text.specs.CanonicalText.{canonical_text}
use Rattle.graph_cli.specs.declared.trouble.Trouble.{Trouble}
use Rattle.graph_cli.specs.declared.trouble.Trouble.TheVariants as troubles

-- the sheet of a case; a case that no sheet can hold is of the wrong kind
unfoldable pub sheet_stage : Content → Stage Trouble Answer
sheet_stage c = given_if (fits_sheet c ≡ true) (done (sheet_text c)) troubles.Kind

-- the canonical document of a case in a format
unfoldable pub canon_stage : Format → Content → Stage Trouble Answer
canon_stage Text c = only (done (canonical_text c))
canon_stage Csv c = sheet_stage c
canon_stage Json c = only (done (json_text c))
