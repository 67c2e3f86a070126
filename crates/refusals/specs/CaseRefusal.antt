-- Lines of the faults of a case.
use Rattle.std.specs.Prelude.{ℕ, List, [], ◌++◌, codes}
use Rattle.std.specs.Fmt.{decimal}
use Rattle.case_model.specs.declared.fault.PartPlace.{PartPlace}
use Rattle.case_model.specs.declared.fault.PartPlace.TheVariants.{Alpha, Share, Weight, Edge, P, Spend, Step, Arrival}
use Rattle.case_model.specs.declared.fault.CaseFault.{CaseFault}
use Rattle.case_model.specs.declared.fault.CaseFault.TheVariants.{NoHypothesis, TooMany, NameForm, DuplicateName, NoComponent, TooManyComponents, PartTooLong}
use Rattle.case_model.specs.declared.fault.CaseFault.TheVariants.{AlphaRange, ShareRange, ShareSum, WeightCount, WeightRange, WeightSum, SelfEdge, RepeatedEdge}
use Rattle.case_model.specs.declared.fault.CaseFault.TheVariants.{EdgeRange, RowSum, Mixed, PCount, PMissing, PRange, NoStage, TooManyStages, SpendCount}
use Rattle.case_model.specs.declared.fault.CaseFault.TheVariants.{TooManySteps, StepOrder, SpendRange, SpendSum, ArrivalStage, ArrivalRepeated, ArrivalRange}
use Rattle.case_model.specs.declared.fault.CaseFault.TheVariants.{Wide, NoMemory}
use Rattle.answers.specs.declared.refusal.Refusal.{Refusal}
use Rattle.refusals.specs.declared.wide.When.TheVariants.{Reading}
use Rattle.refusals.specs.LinePieces.{counted, name_at, two_names, in_component, malformed_at, past_limit}
use Rattle.refusals.specs.WideRefusal.{wide_refusal}

-- where a number is in a draft
unfoldable pub part_words : List (List ℕ) → PartPlace → List ℕ
part_words names Alpha = codes "alpha"
part_words names (Share c) = codes "share" ++ in_component c
part_words names (Weight c i) = codes "weight of " ++ name_at names i ++ in_component c
part_words names (Edge c i j) = codes "edge " ++ two_names names i j ++ in_component c
part_words names (P i) = codes "p of " ++ name_at names i
part_words names (Spend i t) = codes "spend of " ++ name_at names i ++ codes " stage " ++ counted t
part_words names (Step i n) = codes "step " ++ counted n ++ codes " of " ++ name_at names i
part_words names (Arrival n) = codes "arrival " ++ counted n

-- What is wrong with a case that is malformed. Hypotheses, components, stages, steps and arrivals are counted from 1. For other faults it is empty.
unfoldable pub case_kind : List (List ℕ) → CaseFault → List ℕ
case_kind names NoHypothesis = codes "no hypothesis"
case_kind names (NameForm i) = codes "name " ++ counted i
case_kind names (DuplicateName i) = codes "duplicate name " ++ counted i
case_kind names NoComponent = codes "no component"
case_kind names AlphaRange = codes "alpha"
case_kind names (ShareRange c) = codes "share" ++ in_component c
case_kind names ShareSum = codes "share sum"
case_kind names (WeightCount c) = codes "weight count" ++ in_component c
case_kind names (WeightRange c i) = codes "weight of " ++ name_at names i ++ in_component c
case_kind names (WeightSum c) = codes "weight sum" ++ in_component c
case_kind names (SelfEdge c i) = codes "self edge of " ++ name_at names i ++ in_component c
case_kind names (RepeatedEdge c i j) = codes "repeated edge " ++ two_names names i j ++ in_component c
case_kind names (EdgeRange c i j) = codes "edge " ++ two_names names i j ++ in_component c
case_kind names (RowSum c i) = codes "row sum of " ++ name_at names i ++ in_component c
case_kind names Mixed = codes "mixed"
case_kind names (PCount n) = codes "p count " ++ decimal n
case_kind names (PMissing i) = codes "p missing " ++ name_at names i
case_kind names (PRange i) = codes "p of " ++ name_at names i
case_kind names NoStage = codes "no stage"
case_kind names (SpendCount i) = codes "spend count " ++ counted i
case_kind names (StepOrder i n) = codes "step " ++ counted n ++ codes " of " ++ name_at names i
case_kind names (SpendRange i t) = codes "spend of " ++ name_at names i ++ codes " stage " ++ counted t
case_kind names (SpendSum i) = codes "spend sum of " ++ name_at names i
case_kind names (ArrivalStage n) = codes "arrival " ++ counted n ++ codes " stage"
case_kind names (ArrivalRepeated n) = codes "arrival " ++ counted n ++ codes " repeated"
case_kind names (ArrivalRange n) = codes "arrival " ++ counted n ++ codes " p"
case_kind names (TooMany n) = []
case_kind names (TooManyComponents n) = []
case_kind names (TooManyStages n) = []
case_kind names (TooManySteps i n) = []
case_kind names (PartTooLong place) = []
case_kind names (Wide wide) = []
case_kind names NoMemory = []

-- a case that is malformed
abbrev pub malformed_case : List (List ℕ) → CaseFault → Refusal
malformed_case names fault = malformed_at (codes "case") (case_kind names fault)

-- The line of a fault. Out of memory is not an error in a draft, so no line is claimed for it.
unfoldable pub case_refusal : List (List ℕ) → CaseFault → Refusal
case_refusal names (TooMany n) = past_limit (codes "hypotheses " ++ decimal n)
case_refusal names (TooManyComponents n) = past_limit (codes "components " ++ decimal n)
case_refusal names (TooManyStages n) = past_limit (codes "stages " ++ decimal n)
case_refusal names (TooManySteps i n) = past_limit (codes "spend steps " ++ decimal n)
case_refusal names (PartTooLong place) = past_limit (codes "case: part " ++ part_words names place)
case_refusal names (Wide wide) = wide_refusal names Reading wide
case_refusal names NoHypothesis = malformed_case names NoHypothesis
case_refusal names (NameForm i) = malformed_case names (NameForm i)
case_refusal names (DuplicateName i) = malformed_case names (DuplicateName i)
case_refusal names NoComponent = malformed_case names NoComponent
case_refusal names AlphaRange = malformed_case names AlphaRange
case_refusal names (ShareRange c) = malformed_case names (ShareRange c)
case_refusal names ShareSum = malformed_case names ShareSum
case_refusal names (WeightCount c) = malformed_case names (WeightCount c)
case_refusal names (WeightRange c i) = malformed_case names (WeightRange c i)
case_refusal names (WeightSum c) = malformed_case names (WeightSum c)
case_refusal names (SelfEdge c i) = malformed_case names (SelfEdge c i)
case_refusal names (RepeatedEdge c i j) = malformed_case names (RepeatedEdge c i j)
case_refusal names (EdgeRange c i j) = malformed_case names (EdgeRange c i j)
case_refusal names (RowSum c i) = malformed_case names (RowSum c i)
case_refusal names Mixed = malformed_case names Mixed
case_refusal names (PCount n) = malformed_case names (PCount n)
case_refusal names (PMissing i) = malformed_case names (PMissing i)
case_refusal names (PRange i) = malformed_case names (PRange i)
case_refusal names NoStage = malformed_case names NoStage
case_refusal names (SpendCount i) = malformed_case names (SpendCount i)
case_refusal names (StepOrder i n) = malformed_case names (StepOrder i n)
case_refusal names (SpendRange i t) = malformed_case names (SpendRange i t)
case_refusal names (SpendSum i) = malformed_case names (SpendSum i)
case_refusal names (ArrivalStage n) = malformed_case names (ArrivalStage n)
case_refusal names (ArrivalRepeated n) = malformed_case names (ArrivalRepeated n)
case_refusal names (ArrivalRange n) = malformed_case names (ArrivalRange n)
case_refusal names NoMemory = malformed_case names NoMemory
