-- The canonical text of a case: one spelling for each case.
use Rattle.std.specs.Prelude.{ℕ, ◌+◌, ◌/◌, ◌%◌, Bool, List, [], ◌∷◌, ◌++◌, map, length, get_or, codes}
use Rattle.std.specs.Prelude.{if◌then◌else◌}
use Rattle.std.specs.Fmt.{decimal}
use Rattle.std.specs.List.{flat_map}
use Rattle.field_core.specs.declared.ratio.Ratio.{Ratio}
use Rattle.field_core.specs.View.{terms}
use Rattle.fraction.specs.Spelling.{spelling}
use Rattle.case_model.specs.declared.component.Component.{Component}
use Rattle.case_model.specs.declared.draft_stages.Arrival.{Arrival}
use Rattle.case_model.specs.declared.inputs.Inputs.{Inputs}
use Rattle.case_model.specs.declared.inputs.Inputs.TheVariants.{Bare, Single, Staged}
use Rattle.case_model.specs.declared.inputs.Stages.{Stages}
use Rattle.case_model.specs.declared.spend.Spend.{Spend}
use Rattle.case_model.specs.declared.spend.Spend.TheVariants.{Shares, Table}
use Rattle.case_model.specs.declared.spend_step.SpendStep.{SpendStep}
use Rattle.case_model.specs.Content.{Content, is_alone}
use Rattle.case_model.specs.Entries.{is_zero_entry}
use Rattle.edge_expression.specs.EntryTexts.{entry_text}
use Rattle.text_lines.specs.Spelling.{text_of}
use Rattle.edge_text.specs.Grammar.{Words}

-- ---- the words of single lines

-- a number, in lowest terms
abbrev pub number_word : Ratio → List ℕ
number_word x = spelling (terms x)

-- the name of the hypothesis at a position
abbrev pub name_at : List (List ℕ) → ℕ → List ℕ
name_at names i = get_or names i []

-- the level
abbrev pub alpha_words : Ratio → Words
alpha_words alpha = codes "alpha" ∷ number_word alpha ∷ []

-- the names
abbrev pub names_words : List (List ℕ) → Words
names_words names = codes "hypotheses" ∷ names

-- the p-values
abbrev pub p_words : List Ratio → Words
p_words ps = codes "p" ∷ map number_word ps

-- the share of a component
abbrev pub share_words : Ratio → Words
share_words share = codes "component" ∷ number_word share ∷ []

-- the weights of a component
abbrev pub weights_words : List Ratio → Words
weights_words weights = codes "weights" ∷ map number_word weights

-- the edge from `i` to `j`
abbrev pub edge_words : List (List ℕ) → ℕ → ℕ → List Ratio → Words
edge_words names i j entry = codes "edge" ∷ name_at names i ∷ name_at names j ∷ entry_text entry ∷ []

-- how many stages there are
abbrev pub stages_words : ℕ → Words
stages_words count = codes "stages" ∷ decimal count ∷ []

-- the fractions that a hypothesis spends
abbrev pub spend_words : List ℕ → List Ratio → Words
spend_words name fractions = codes "spend" ∷ name ∷ map number_word fractions

-- a step of the table of a hypothesis
abbrev pub table_words : List ℕ → SpendStep → Words
table_words name step = codes "table" ∷ name ∷ number_word step.from ∷ map number_word step.levels

-- a p-value that arrived
abbrev pub arrive_words : List (List ℕ) → Arrival → Words
arrive_words names a = codes "arrive" ∷ name_at names a.hypothesis ∷ decimal a.stage ∷ number_word a.p ∷ []

-- ---- the lines of a case, each by its words

-- the edge at a place of a table, row by row: place `i * m + j` of `m` rows and columns has the edge from `i` to `j`; nothing if it is 0
unfoldable pub edge_lines : List (List ℕ) → ℕ → List Ratio → List Words
edge_lines names place entry = if is_zero_entry entry then [] else edge_words names (place / length names) (place % length names) entry ∷ []

-- the edges of a table that aren't 0, in its order, so by ascending first and then second end; the first entry has this place
abbrev pub table_lines : List (List ℕ) → ℕ → List (List Ratio) → List Words
table_lines names place [] = []
table_lines names place (entry ∷ entries) = edge_lines names place entry ++ table_lines names (place + 1) entries

-- the share of a component, which isn't written if the component is alone
abbrev pub share_lines : Bool → Ratio → List Words
share_lines alone share = if alone then [] else share_words share ∷ []

-- a component: its share, its weights and its edges
unfoldable pub block_lines : List (List ℕ) → Bool → Component → List Words
block_lines names alone k = share_lines alone k.share ++ weights_words k.weights ∷ table_lines names 0 k.edges

-- the components
unfoldable pub blocks_lines : List (List ℕ) → List Component → List Words
blocks_lines names ks = flat_map (block_lines names (is_alone ks)) ks

-- what a hypothesis spends: one line of fractions, or a line for each step of a table, be there one or more
unfoldable pub spend_lines : List ℕ → Spend → List Words
spend_lines name (Shares fractions) = spend_words name fractions ∷ []
spend_lines name (Table steps) = map (table_words name) steps

-- what hypotheses spend, in their order
abbrev pub spends_lines : List (List ℕ) → List Spend → List Words
spends_lines [] spends = []
spends_lines (name ∷ names) [] = []
spends_lines (name ∷ names) (spend ∷ spends) = spend_lines name spend ++ spends_lines names spends

-- the stages; the p-values that arrived keep their order
unfoldable pub stages_lines : List (List ℕ) → Stages → List Words
stages_lines names s = stages_words s.count ∷ spends_lines names s.spend ++ map (arrive_words names) s.arrivals

-- the p-values of hypotheses, if there are some
abbrev pub p_lines : Inputs → List Words
p_lines Bare = []
p_lines (Single ps) = p_words ps ∷ []
p_lines (Staged s) = []

-- the stages, if there are some
abbrev pub late_lines : List (List ℕ) → Inputs → List Words
late_lines names Bare = []
late_lines names (Single ps) = []
late_lines names (Staged s) = stages_lines names s

-- the lines of a case
unfoldable pub canonical_lines : Content → List Words
canonical_lines c = alpha_words c.alpha ∷ names_words c.names ∷ p_lines c.inputs ++ (blocks_lines c.names c.components ++ late_lines c.names c.inputs)

-- one blank between words, and a line feed after each line
unfoldable pub canonical_text : Content → List ℕ
canonical_text c = text_of (canonical_lines c)
