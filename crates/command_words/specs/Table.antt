-- The names of commands, arguments and values, and what each command takes.
use Rattle.std.specs.Prelude.{ℕ, Bool, true, false, List, [], ◌∷◌, Option, Some, None, codes}
use Rattle.std.specs.Prelude.{if◌then◌else◌}
use Rattle.std.specs.List.{find}
use Rattle.std.specs.Str.{bytes_eq}
use Rattle.std.specs.Map.{lookup}
use Rattle.command_words.specs.declared.argument.Argument.{Argument}
use Rattle.command_words.specs.declared.argument.Argument.TheVariants as arguments
use Rattle.command_words.specs.declared.format.Format.{Format}
use Rattle.command_words.specs.declared.format.Format.TheVariants.{Text, Csv, Json}
use Rattle.command_words.specs.declared.graph_name.GraphName.{GraphName}
use Rattle.command_words.specs.declared.graph_name.GraphName.TheVariants.{Holm, FixedSequence, Fallback, Parallel, ImprovedParallel}
use Rattle.command_words.specs.declared.verb.Verb.{Verb}
use Rattle.command_words.specs.declared.verb.Verb.TheVariants as verbs
use Rattle.sequential.specs.declared.priority.Priority.{Priority}
use Rattle.sequential.specs.declared.priority.Priority.TheVariants.{First, Last, Ratio}

-- what was found, if it passes a test
abbrev pub passing : {A : Type 0} → (A → Bool) → Option A → Option A
passing test None = None
passing test (Some x) = if test x then Some x else None

-- ---- commands

-- the command of a name, but for `study`, which is done by a top call of its own
unfoldable pub verb_named : List ℕ → Option Verb
verb_named name = lookup (bytes_eq name) (
    (codes "test", verbs.Test) ∷
    (codes "weights", verbs.Weights) ∷
    (codes "bounds", verbs.Bounds) ∷
    (codes "simes", verbs.Simes) ∷
    (codes "evidence", verbs.Evidence) ∷
    (codes "stages", verbs.Stages) ∷
    (codes "check", verbs.Check) ∷
    (codes "canon", verbs.Canon) ∷
    (codes "catalogue", verbs.Catalogue) ∷
    (codes "sample", verbs.Sample) ∷
    (codes "help", verbs.Help) ∷
    [])

-- the options that a command takes
unfoldable pub options_of : Verb → List Argument
options_of verbs.Test = arguments.Format ∷ arguments.Alpha ∷ arguments.Priority ∷ []
options_of verbs.Weights = arguments.Format ∷ arguments.Alpha ∷ []
options_of verbs.Bounds = arguments.Format ∷ arguments.Alpha ∷ []
options_of verbs.Simes = arguments.Format ∷ arguments.Alpha ∷ []
options_of verbs.Evidence = arguments.Format ∷ arguments.Alpha ∷ arguments.Priority ∷ []
options_of verbs.Stages = arguments.Format ∷ []
options_of verbs.Check = arguments.Format ∷ arguments.Alpha ∷ []
options_of verbs.Canon = arguments.Format ∷ arguments.Alpha ∷ arguments.To ∷ []
options_of verbs.Catalogue = arguments.Size ∷ arguments.Second ∷ []
options_of verbs.Sample = arguments.Size ∷ arguments.Seed ∷ []
options_of verbs.Study = arguments.Format ∷ arguments.Store ∷ []
options_of verbs.Help = []

-- what a word without a name gives, if a command takes one
unfoldable pub operand_of : Verb → Option Argument
operand_of verbs.Catalogue = Some arguments.Graph
operand_of verbs.Check = Some arguments.File
operand_of verbs.Study = Some arguments.File
operand_of verb = None

-- a command may read its case in a format; a sheet has no stages
unfoldable pub reads : Verb → Format → Bool
reads verbs.Stages Csv = false
reads verbs.Study Csv = false
reads verb format = true

-- ---- arguments

unfoldable pub argument_name : Argument → List ℕ
argument_name arguments.Format = codes "form"
argument_name arguments.Alpha = codes "alpha"
argument_name arguments.Priority = codes "priority"
argument_name arguments.To = codes "to"
argument_name arguments.Size = codes "size"
argument_name arguments.Seed = codes "seed"
argument_name arguments.Graph = codes "graph"
argument_name arguments.Second = codes "second"
argument_name arguments.File = codes "file"
argument_name arguments.Store = codes "store"

-- the option of a name, if a command takes it
unfoldable pub option_named : Verb → List ℕ → Option Argument
option_named verb name = find (λ argument. bytes_eq name (argument_name argument)) (options_of verb)

-- what a command is given by an option of a name, or by a word without one
abbrev pub argument_of : Verb → Option (List ℕ) → Option Argument
argument_of verb (Some name) = option_named verb name
argument_of verb None = operand_of verb

-- ---- values

-- the format of a name
unfoldable pub format_named : List ℕ → Option Format
format_named name = lookup (bytes_eq name) ((codes "text", Text) ∷ (codes "csv", Csv) ∷ (codes "json", Json) ∷ [])

-- the same, if a command may read its case in it
abbrev pub format_read : Verb → List ℕ → Option Format
format_read verb name = passing (reads verb) (format_named name)

-- the graph of a name
unfoldable pub graph_named : List ℕ → Option GraphName
graph_named name = lookup (bytes_eq name) (
    (codes "holm", Holm) ∷
    (codes "fixed-sequence", FixedSequence) ∷
    (codes "fallback", Fallback) ∷
    (codes "parallel", Parallel) ∷
    (codes "improved-parallel", ImprovedParallel) ∷
    [])

-- the priority of a name
unfoldable pub priority_named : List ℕ → Option Priority
priority_named name = lookup (bytes_eq name) ((codes "first", First) ∷ (codes "last", Last) ∷ (codes "ratio", Ratio) ∷ [])
