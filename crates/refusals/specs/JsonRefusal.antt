-- Lines of JSON that gives no case.
use Rattle.std.specs.Prelude.{codes}
use Rattle.answers.specs.declared.refusal.Refusal.{Refusal}
use Rattle.case_json.specs.declared.fault.JsonFault.{JsonFault}
use Rattle.case_json.specs.declared.fault.JsonFault.TheVariants.{Syntax, Shape, NotWhole, Number, UnknownName, Expr, Case, NoMemory}
use Rattle.refusals.specs.CaseRefusal.{case_refusal}
use Rattle.refusals.specs.LinePieces.{malformed_at}
use Rattle.refusals.specs.TextRefusal.{number_refusal, expression_refusal}

-- bytes that are not JSON
abbrev pub syntax_refusal : Refusal
syntax_refusal = malformed_at (codes "json") (codes "syntax")

-- The line of a fault. Its path is written as it is, and is empty for the whole value. Out of memory is not a fault of the bytes.
unfoldable pub json_refusal : JsonFault → Refusal
json_refusal Syntax = syntax_refusal
json_refusal (Shape path) = malformed_at path (codes "shape")
json_refusal (NotWhole path) = malformed_at path (codes "not whole")
json_refusal (Number path fault) = number_refusal path fault
json_refusal (UnknownName path) = malformed_at path (codes "unknown name")
json_refusal (Expr path fault) = expression_refusal path fault
json_refusal (Case refused) = case_refusal refused.names refused.fault
json_refusal NoMemory = syntax_refusal
