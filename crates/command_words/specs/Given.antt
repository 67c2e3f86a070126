-- What the arguments say.
use Rattle.std.specs.Prelude.{ℕ, ◌+◌, List, Bool, true, false, not, Option, Some, None, is_some}
use Rattle.std.specs.Option.{option_map}
use Rattle.std.specs.Result.{result_ok}
use Rattle.command_words.specs.Asked.{Asked, StudyAsked, Encoding, text, csv, json, on_case as task_on_case, check, catalogue, sample, help}
use Rattle.command_words.specs.Counts.{count_of}
use Rattle.command_words.specs.Graphs.{sized, has_second}
use Rattle.field_core.specs.declared.ratio.Ratio.{Ratio}
use Rattle.fraction.specs.Numerals.{numeral_of}
use Rattle.command_words.specs.Table.{format_named, format_read, graph_named, priority_named, passing}
use Rattle.command_words.specs.declared.argument.Argument.{Argument}
use Rattle.command_words.specs.declared.argument.Argument.TheVariants as arguments
use Rattle.command_words.specs.declared.command.CaseTask.{CaseTask}
use Rattle.command_words.specs.declared.command.CaseTask.TheVariants as tasks
use Rattle.command_words.specs.declared.format.Format.{Format}
use Rattle.command_words.specs.declared.format.Format.TheVariants as formats
use Rattle.command_words.specs.declared.given.Given.{Given}
use Rattle.command_words.specs.declared.graph_name.GraphName.{GraphName}
use Rattle.command_words.specs.declared.verb.Verb.{Verb}
use Rattle.command_words.specs.declared.verb.Verb.TheVariants as verbs
use Rattle.sequential.specs.declared.priority.Priority.{Priority}
use Rattle.sequential.specs.declared.priority.Priority.TheVariants.{First}

-- The values that were given. Beside those of `alpha` and `second` are the numbers, from 1, of the words with these names. The place of the word that
-- names a file counts from 0.
pub record GivenContent : Type 0 where
  pub format : Option Format
  pub alpha : Option (Ratio × ℕ)
  pub priority : Option Priority
  pub to : Option Format
  pub size : Option ℕ
  pub seed : Option ℕ
  pub graph : Option GraphName
  pub second : Option (ℕ × ℕ)
  pub file : Option ℕ
  pub store : Option (List ℕ)

abbrev pub given_content : Given → GivenContent
given_content g = record {
  format = g.format;
  alpha = g.alpha;
  priority = g.priority;
  to = g.to;
  size = g.size;
  seed = g.seed;
  graph = g.graph;
  second = g.second;
  file = g.file;
  store = option_map (λ path. path.now) g.store;
}

abbrev pub nothing : GivenContent
nothing = record {
  format = None;
  alpha = None;
  priority = None;
  to = None;
  size = None;
  seed = None;
  graph = None;
  second = None;
  file = None;
  store = None;
}

-- an argument was given
abbrev pub is_given : GivenContent → Argument → Bool
is_given g arguments.Format = is_some g.format
is_given g arguments.Alpha = is_some g.alpha
is_given g arguments.Priority = is_some g.priority
is_given g arguments.To = is_some g.to
is_given g arguments.Size = is_some g.size
is_given g arguments.Seed = is_some g.seed
is_given g arguments.Graph = is_some g.graph
is_given g arguments.Second = is_some g.second
is_given g arguments.File = is_some g.file
is_given g arguments.Store = is_some g.store

-- an argument that isn't given yet
abbrev pub not_given : GivenContent → Option Argument → Option Argument
not_given g argument = passing (λ x. not (is_given g x)) argument

-- the same, and an argument with the value that bytes spell, if they spell one; its first word is at a place, from 0
unfoldable pub with_text : Verb → ℕ → Argument → List ℕ → GivenContent → Option GivenContent
with_text verb at arguments.Format bytes g = option_map (λ format. record g { format = Some format }) (format_read verb bytes)
with_text verb at arguments.Alpha bytes g = option_map (λ alpha. record g { alpha = Some (alpha, at + 1) }) (result_ok (numeral_of bytes))
with_text verb at arguments.Priority bytes g = option_map (λ priority. record g { priority = Some priority }) (priority_named bytes)
with_text verb at arguments.To bytes g = option_map (λ format. record g { to = Some format }) (format_named bytes)
with_text verb at arguments.Size bytes g = option_map (λ size. record g { size = Some size }) (count_of bytes)
with_text verb at arguments.Seed bytes g = option_map (λ seed. record g { seed = Some seed }) (count_of bytes)
with_text verb at arguments.Graph bytes g = option_map (λ graph. record g { graph = Some graph }) (graph_named bytes)
with_text verb at arguments.Second bytes g = option_map (λ second. record g { second = Some (second, at + 1) }) (count_of bytes)
with_text verb at arguments.File bytes g = Some (record g { file = Some at })
with_text verb at arguments.Store bytes g = Some (record g { store = Some bytes })

-- a value, without the number of its word
abbrev pub value_of : {A : Type 0} → Option (A × ℕ) → Option A
value_of given = option_map (λ x. x.0) given

-- the number of the word of a value
abbrev pub word_of : {A : Type 0} → Option (A × ℕ) → Option ℕ
word_of given = option_map (λ x. x.1) given

-- ---- how a case is written

-- a text, if no format is given
abbrev pub format_or_text : Option Format → Format
format_or_text None = formats.Text
format_or_text (Some format) = format

-- a sheet needs its level
abbrev pub encoding_as : Format → Option Ratio → Option Encoding
encoding_as formats.Text alpha = Some text
encoding_as formats.Csv alpha = option_map csv alpha
encoding_as formats.Json alpha = Some json

unfoldable pub encoding_of : GivenContent → Option Encoding
encoding_of g = encoding_as (format_or_text g.format) (value_of g.alpha)

-- ---- what a command asks for

abbrev pub priority_or_first : Option Priority → Priority
priority_or_first None = First
priority_or_first (Some priority) = priority

-- a task on the case; nothing if something is missing
unfoldable pub on_case : GivenContent → CaseTask → Option Asked
on_case g task = option_map (λ format. task_on_case format task) (encoding_of g)

-- a named graph needs its name, its size, and its second size if it has one
abbrev pub catalogue_by : Option GraphName → Option ℕ → Option ℕ → Option Asked
catalogue_by (Some graph) (Some size) second = option_map catalogue (sized graph size second)
catalogue_by (Some graph) None second = None
catalogue_by None size second = None

unfoldable pub catalogue_of : GivenContent → Option Asked
catalogue_of g = catalogue_by g.graph g.size (value_of g.second)

-- a check needs its file, and how its case is written
abbrev pub check_by : Option Encoding → Option ℕ → Option Asked
check_by (Some format) (Some file) = Some (check format file)
check_by (Some format) None = None
check_by None file = None

unfoldable pub check_of : GivenContent → Option Asked
check_of g = check_by (encoding_of g) g.file

-- a sample needs its size and its seed
abbrev pub sample_by : Option ℕ → Option ℕ → Option Asked
sample_by (Some size) (Some seed) = Some (sample size seed)
sample_by (Some size) None = None
sample_by None seed = None

unfoldable pub sample_of : GivenContent → Option Asked
sample_of g = sample_by g.size g.seed

-- a study needs its commands, and how its case is written
abbrev pub study_by : Option Encoding → Option ℕ → Option (List ℕ) → Option StudyAsked
study_by (Some format) (Some file) store = Some (record { format = format; file = file; store = store })
study_by (Some format) None store = None
study_by None file store = None

unfoldable pub study_of : GivenContent → Option StudyAsked
study_of g = study_by (encoding_of g) g.file g.store

-- what a command asks for that keeps no looks; nothing if something is missing
abbrev pub asked_of : Verb → GivenContent → Option Asked
asked_of verbs.Test g = on_case g (tasks.Test (priority_or_first g.priority))
asked_of verbs.Weights g = on_case g tasks.Weights
asked_of verbs.Bounds g = on_case g tasks.Bounds
asked_of verbs.Simes g = on_case g tasks.Simes
asked_of verbs.Evidence g = on_case g (tasks.Evidence (priority_or_first g.priority))
asked_of verbs.Stages g = on_case g tasks.Stages
asked_of verbs.Check g = check_of g
asked_of verbs.Canon g = on_case g (tasks.Canon (format_or_text g.to))
asked_of verbs.Catalogue g = catalogue_of g
asked_of verbs.Sample g = sample_of g
asked_of verbs.Study g = None
asked_of verbs.Help g = Some help

-- ---- what the others forbid

-- a level is given, and no sheet
abbrev pub forbidden_alpha : Format → Option ℕ → Option ℕ
forbidden_alpha formats.Csv word = None
forbidden_alpha formats.Text word = word
forbidden_alpha formats.Json word = word

unfoldable pub alpha_forbidden : GivenContent → Option ℕ
alpha_forbidden g = forbidden_alpha (format_or_text g.format) (word_of g.alpha)

-- a second size is given, and the graph has none
abbrev pub forbidden_if : Bool → Option ℕ → Option ℕ
forbidden_if true word = None
forbidden_if false word = word

abbrev pub forbidden_second : Option GraphName → Option ℕ → Option ℕ
forbidden_second None word = None
forbidden_second (Some graph) word = forbidden_if (has_second graph) word

unfoldable pub second_forbidden : GivenContent → Option ℕ
second_forbidden g = forbidden_second g.graph (word_of g.second)

-- the first of two words, if there is one
abbrev pub first_word : Option ℕ → Option ℕ → Option ℕ
first_word (Some word) other = Some word
first_word None other = other

-- the number, from 1, of the word with the name of an option that the others forbid; no command takes both
unfoldable pub forbidden_word : GivenContent → Option ℕ
forbidden_word g = first_word (alpha_forbidden g) (second_forbidden g)
