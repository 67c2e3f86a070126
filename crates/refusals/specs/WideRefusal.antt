-- Lines of operations that have a part past its size.
use Rattle.std.specs.Prelude.{ℕ, ◌+◌, List, [], ◌∷◌, ◌++◌, codes, if◌then◌else◌}
use Rattle.std.specs.Fmt.{decimal}
use Rattle.field_core.specs.NumberedSets.{members}
use Rattle.field_core.specs.declared.place.Op.{Op}
use Rattle.field_core.specs.declared.place.Op.TheVariants.{Add, Sub, Mul, Div}
use Rattle.field_core.specs.declared.place.Place.{Place}
use Rattle.field_core.specs.declared.place.Place.TheVariants.{Weight, Loss, Edge, Share, Ratio, Flow, Visit, Exit, Bound, Level, WeightSum, RowSum, ShareSum}
use Rattle.field_core.specs.declared.place.Place.TheVariants.{SpendSum}
use Rattle.field_core.specs.declared.place.WideAt.{WideAt}
use Rattle.answers.specs.declared.refusal.Refusal.{Refusal}
use Rattle.answers.specs.declared.cause.Cause.TheVariants.{TooWide}
use Rattle.refusals.specs.declared.wide.When.{When}
use Rattle.refusals.specs.declared.wide.When.TheVariants.{Reading, Step, AdjustedStep, EvidenceStep, Set, SimesSet, Opening, Arrival, Look, Check}
use Rattle.answers.specs.Lines.{line}
use Rattle.refusals.specs.LinePieces.{counted, name_at, two_names}
use Rattle.refusals.specs.ProofRefusal.{part_words}

-- a space and the name of the hypothesis at a position, if it is a member of a set
abbrev pub name_if_member : ℕ → ℕ → List ℕ → List ℕ
name_if_member n k name = if members n k then 32 ∷ name else []

-- the names of the members of a set in their order, where the first name is that of this position
abbrev pub names_of_members : ℕ → ℕ → List (List ℕ) → List ℕ
names_of_members n k [] = []
names_of_members n k (name ∷ names) = name_if_member n k name ++ names_of_members n (k + 1) names

-- when an operation is written
unfoldable pub when_words : List (List ℕ) → When → List ℕ
when_words names Reading = codes "reading"
when_words names (Step n) = codes "step " ++ decimal n
when_words names (AdjustedStep n) = codes "adjusted step " ++ decimal n
when_words names (EvidenceStep n) = codes "evidence step " ++ decimal n
when_words names (Set n) = codes "set" ++ names_of_members n 0 names
when_words names (SimesSet n) = codes "simes set" ++ names_of_members n 0 names
when_words names Opening = codes "opening"
when_words names (Arrival n) = codes "arrival " ++ decimal n
when_words names (Look n) = codes "look " ++ decimal n
when_words names (Check part) = codes "check " ++ part_words names part

-- what an operation is for
unfoldable pub place_words : List (List ℕ) → Place → List ℕ
place_words names (Weight i) = codes "weight of " ++ name_at names i
place_words names (Loss i) = codes "loss of " ++ name_at names i
place_words names (Edge i j) = codes "edge " ++ two_names names i j
place_words names (Share i) = codes "share of " ++ name_at names i
place_words names (Ratio i) = codes "ratio of " ++ name_at names i
place_words names (Flow i) = codes "flow of " ++ name_at names i
place_words names (Visit i j) = codes "visit " ++ two_names names i j
place_words names (Exit i j) = codes "exit " ++ two_names names i j
place_words names (Bound i) = codes "bound of " ++ name_at names i
place_words names (Level i) = codes "level of " ++ name_at names i
place_words names WeightSum = codes "weight sum"
place_words names (RowSum i) = codes "row sum of " ++ name_at names i
place_words names ShareSum = codes "share sum"
place_words names (SpendSum i) = codes "spend sum of " ++ name_at names i

-- the operation
unfoldable pub op_words : Op → List ℕ
op_words Add = codes "add"
op_words Sub = codes "sub"
op_words Mul = codes "mul"
op_words Div = codes "div"

-- when and where an operation has a part past its size
unfoldable pub wide_refusal : List (List ℕ) → When → WideAt → Refusal
wide_refusal names when wide = record {
  cause = TooWide;
  line = line (codes "too wide: " ++ when_words names when ++ codes ": component " ++ counted wide.component
      ++ codes " " ++ place_words names wide.place ++ codes " " ++ op_words wide.op);
}
