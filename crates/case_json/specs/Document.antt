-- What the values of a JSON document denote, or their first fault: numbers, names, edges, components, stages and the draft.
use Rattle.std.specs.Prelude.{◌≡◌, ◌^◌, ℕ, ℤ, pos, unsigned_abs, List, [], ◌∷◌, Bool, true, false, Option, Some, None, Result, Ok, Err}
use Rattle.std.specs.Prelude.{codes, nat_le, ok_or, option_and_then}
use Rattle.field_core.specs.Answers.{and_then, ◌>>=◌, mapped, told_as}
use Rattle.field_core.specs.declared.ratio.Ratio.{Ratio}
use Rattle.fraction.specs.Plain.{one_reduced}
use Rattle.case_model.specs.Sums.{zero_ratio}
use Rattle.fraction.specs.Numerals.{numeral_of}
use Rattle.case_model.specs.declared.draft.Draft.{Draft}
use Rattle.case_model.specs.declared.draft_component.DraftComponent.{DraftComponent}
use Rattle.case_model.specs.declared.draft_edge.DraftEdge.{DraftEdge}
use Rattle.case_model.specs.declared.draft_stages.DraftStages.{DraftStages}
use Rattle.case_model.specs.declared.draft_stages.Arrival.{Arrival}
use Rattle.case_model.specs.declared.spend.Spend.{Spend}
use Rattle.case_model.specs.declared.spend.Spend.TheVariants.{Shares, Table}
use Rattle.case_model.specs.declared.spend_step.SpendStep.{SpendStep}
use Rattle.case_model.specs.Names.{position_of}
use Rattle.edge_expression.specs.declared.fault.ExprFault.TheVariants.{Part}
use Rattle.entries.specs.Entries.{entry_of}
use Rattle.serde_json.specs.Data.{Data, null, number, string, array, object}
use Rattle.serde_json.specs.Find.{as_integer, as_u64, is_float}
use Rattle.case_json.specs.declared.fault.JsonFault.{JsonFault}
use Rattle.case_json.specs.declared.fault.JsonFault.TheVariants.{NotWhole, Number, UnknownName, Expr}
use Rattle.case_json.specs.Answers.{Reader, wrong_kind, with_keys, at, at_or, list_of}
use Rattle.case_json.specs.WholeRatios.{whole_ratio}

-- ---- single values

-- a number: a text that is a numeral, or a whole number that is held as an integer of at most 64 bits
abbrev pub number_of : Reader Ratio
number_of (string s) = told_as (Number []) (numeral_of s)
number_of (number n) = ok_or (option_and_then whole_ratio (as_integer n)) (NotWhole [])
number_of other = wrong_kind

-- a place of a p-value: null if it is missing, and else a number
abbrev pub place_of : Reader (Option Ratio)
place_of null = Ok None
place_of other = mapped Some (number_of other)

-- the number of stages, or that of one stage: a whole number of at least 0
abbrev pub whole_count : Bool → Option ℕ → Result ℕ JsonFault
whole_count true n = Err (NotWhole [])
whole_count false (Some n) = Ok n
whole_count false None = wrong_kind

abbrev pub count_of : Reader ℕ
count_of (number n) = whole_count (is_float n) (as_u64 n)
count_of other = wrong_kind

-- a text
abbrev pub text_of : Reader (List ℕ)
text_of (string s) = Ok s
text_of other = wrong_kind

-- the position of a hypothesis, by its name; of several hypotheses with one name, the first
abbrev pub hypothesis_of : List (List ℕ) → Reader ℕ
hypothesis_of names (string s) = ok_or (position_of s names) (UnknownName [])
hypothesis_of names other = wrong_kind

-- this whole number at power 0, and nothing above
abbrev pub whole_entry : Ratio → List Ratio
whole_entry x = x ∷ zero_ratio ∷ zero_ratio ∷ zero_ratio ∷ zero_ratio ∷ []

-- a whole number as the weight of an edge: of at most 10^18 in size
abbrev pub short_weight : Bool → Ratio → Result (List Ratio) JsonFault
short_weight true x = Ok (whole_entry x)
short_weight false x = Err (Expr [] Part)

abbrev pub whole_weight : Option ℤ → Result (List Ratio) JsonFault
whole_weight None = Err (NotWhole [])
whole_weight (Some z) = and_then (ok_or (whole_ratio z) (NotWhole [])) (short_weight (nat_le (unsigned_abs z) (10 ^ 18)))

-- the weight of an edge: a text that is an edge expression, or a whole number that is held as an integer
abbrev pub weight_of : Reader (List Ratio)
weight_of (string s) = told_as (Expr []) (entry_of s)
weight_of (number n) = whole_weight (as_integer n)
weight_of other = wrong_kind

-- ---- edges and components

-- the keys of an edge, in the order in which they are read
abbrev pub edge_keys : List (List ℕ)
edge_keys = codes "from" ∷ codes "to" ∷ codes "weight" ∷ []

-- an edge between two of the hypotheses of these names
abbrev pub edge_of : List (List ℕ) → Reader DraftEdge
edge_of names value = do
  known ← with_keys edge_keys value
  from ← at (codes "from") (hypothesis_of names) value
  to ← at (codes "to") (hypothesis_of names) value
  weight ← at (codes "weight") weight_of value
  Ok (record { from = from; to = to; entry = weight })

-- 1/1
abbrev pub one : Ratio
one = record { num = pos 1; den = pos 1; valid = one_reduced }

-- the keys of a component, in the order in which they are read
abbrev pub component_keys : List (List ℕ)
component_keys = codes "share" ∷ codes "weights" ∷ codes "edges" ∷ []

-- a component; its share is 1 if none is written
abbrev pub component_of : List (List ℕ) → Reader DraftComponent
component_of names value = do
  known ← with_keys component_keys value
  share ← at_or one (codes "share") number_of value
  weights ← at (codes "weights") (list_of number_of) value
  edges ← at (codes "edges") (list_of (edge_of names)) value
  Ok (record { share = share; weights = weights; edges = edges })

-- ---- stages

-- the keys of a step of a table, in the order in which they are read
abbrev pub step_keys : List (List ℕ)
step_keys = codes "from" ∷ codes "levels" ∷ []

-- a step of a table: the weight from which it counts, and its levels
abbrev pub step_of : Reader SpendStep
step_of value = do
  known ← with_keys step_keys value
  from ← at (codes "from") number_of value
  levels ← at (codes "levels") (list_of number_of) value
  Ok (record { from = from; levels = levels })

-- the key of a table
abbrev pub table_keys : List (List ℕ)
table_keys = codes "steps" ∷ []

-- a table of steps
abbrev pub table_of : Reader (List SpendStep)
table_of value = do
  known ← with_keys table_keys value
  at (codes "steps") (list_of step_of) value

-- what a hypothesis spends: an array of fractions of its level, or an object that is a table
abbrev pub spend_of : Reader Spend
spend_of (array ds) = mapped Shares (list_of number_of (array ds))
spend_of (object ms) = mapped Table (table_of (object ms))
spend_of other = wrong_kind

-- the keys of an arrival, in the order in which they are read
abbrev pub arrival_keys : List (List ℕ)
arrival_keys = codes "hypothesis" ∷ codes "stage" ∷ codes "p" ∷ []

-- a p-value that arrived, of one of the hypotheses of these names
abbrev pub arrival_of : List (List ℕ) → Reader Arrival
arrival_of names value = do
  known ← with_keys arrival_keys value
  hypothesis ← at (codes "hypothesis") (hypothesis_of names) value
  stage ← at (codes "stage") count_of value
  p ← at (codes "p") number_of value
  Ok (record { hypothesis = hypothesis; stage = stage; p = p })

-- the keys of stages, in the order in which they are read
abbrev pub stages_keys : List (List ℕ)
stages_keys = codes "count" ∷ codes "spend" ∷ codes "arrivals" ∷ []

-- stages of hypotheses of these names
abbrev pub stages_of : List (List ℕ) → Reader DraftStages
stages_of names value = do
  known ← with_keys stages_keys value
  count ← at (codes "count") count_of value
  spend ← at (codes "spend") (list_of spend_of) value
  arrivals ← at (codes "arrivals") (list_of (arrival_of names)) value
  Ok (record { count = count; spend = spend; arrivals = arrivals })

abbrev pub some_stages : List (List ℕ) → Reader (Option DraftStages)
some_stages names value = mapped Some (stages_of names value)

-- ---- the document

-- the keys of a document, in the order in which they are read
abbrev pub document_keys : List (List ℕ)
document_keys = codes "alpha" ∷ codes "hypotheses" ∷ codes "p" ∷ codes "components" ∷ codes "stages" ∷ []

-- the draft that a value denotes, or its first fault. In each object unknown keys are found first, and then each part in this order.
abbrev pub document_of : Reader Draft
document_of value = do
  known ← with_keys document_keys value
  alpha ← at (codes "alpha") number_of value
  names ← at (codes "hypotheses") (list_of text_of) value
  p ← at_or [] (codes "p") (list_of place_of) value
  components ← at (codes "components") (list_of (component_of names)) value
  stages ← at_or None (codes "stages") (some_stages names) value
  Ok (record { names = names; alpha = alpha; p = p; components = components; stages = stages })

-- the value denotes this draft
abbrev pub IsDraft : Data → Draft → Type 0
IsDraft value draft = document_of value ≡ Ok draft
