-- Commands, as contracts see them.
use Rattle.std.specs.Prelude.{ℕ, List, Option, Some, None}
use Rattle.std.specs.Option.{option_map}
use Rattle.field_core.specs.declared.ratio.Ratio.{Ratio}
use Rattle.command_words.specs.declared.command.CaseTask.{CaseTask}
use Rattle.command_words.specs.declared.command.Command.{Command}
use Rattle.command_words.specs.declared.command.Command.TheVariants as commands
use Rattle.command_words.specs.declared.graph_name.SizedGraph.{SizedGraph}
use Rattle.command_words.specs.declared.format.CaseFormat.{CaseFormat}
use Rattle.command_words.specs.declared.command.StudyCall.{StudyCall}
use Rattle.command_words.specs.declared.format.CaseFormat.TheVariants as formats

-- how a case is written; a sheet comes with its level
pub data Encoding : Type 0 where
  text : Encoding
  csv : (alpha : Ratio) → Encoding
  json : Encoding

-- what is to be done
pub data Asked : Type 0 where
  on_case : Encoding → CaseTask → Asked
  catalogue : SizedGraph → Asked
  check : Encoding → (file : ℕ) → Asked
  sample : (size seed : ℕ) → Asked
  help : Asked

abbrev pub encoding : CaseFormat → Encoding
encoding formats.Text = text
encoding (formats.Csv alpha) = csv alpha
encoding formats.Json = json

abbrev pub asked : Command → Asked
asked (commands.OnCase format task) = on_case (encoding format) task
asked (commands.Catalogue graph) = catalogue graph
asked (commands.Check format file) = check (encoding format) file
asked (commands.Sample size seed) = sample size seed
asked commands.Help = help

-- the place, from 0, of the word that names the file of a proof
unfoldable pub file_of : Asked → Option ℕ
file_of (on_case format task) = None
file_of (catalogue graph) = None
file_of (check format file) = Some file
file_of (sample size seed) = None
file_of help = None

-- What a study is to do: how its case is written, which word names the file of its commands, and the path of the file of its looks. The word's place
-- counts from 0.
pub record StudyAsked : Type 0 where
  pub format : Encoding
  pub file : ℕ
  pub store : Option (List ℕ)

abbrev pub study_asked : StudyCall → StudyAsked
study_asked call = record { format = encoding call.format; file = call.file; store = option_map (λ path. path.now) call.store }
