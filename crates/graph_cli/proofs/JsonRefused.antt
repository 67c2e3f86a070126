-- A fault of JSON refuses its bytes.
use Rattle.std.proofs.Common.{◌≡◌, ◌≢◌, ◌∙◌, refl, ap, ℕ, List, inl, inr}
use Rattle.answers.specs.declared.refusal.Refusal.{Refusal}
use Rattle.command_words.specs.Asked.{json}
use Rattle.case_json.specs.Reading.{IsJsonFault}
use Rattle.case_json.specs.declared.fault.JsonFault.{JsonFault}
use Rattle.case_json.specs.declared.fault.JsonFault.TheVariants as faults
use Rattle.refusals.specs.CaseRefusal.{case_refusal}
use Rattle.refusals.specs.JsonRefusal.{json_refusal}
use Rattle.graph_cli.specs.Accepted.{case_in}

pub json_refused : (bytes : List ℕ) (fault : JsonFault) (r : Refusal) → IsJsonFault bytes fault → fault ≢ faults.NoMemory → r ≡ json_refusal fault
    → (case_in json bytes).Refuses r
unfolding IsJsonFault json_refusal
json_refused bytes faults.Syntax r h some e = inl (inl (h, e))
json_refused bytes (faults.Shape path) r h some e = inl (inr (faults.Shape path, h, e))
json_refused bytes (faults.NotWhole path) r h some e = inl (inr (faults.NotWhole path, h, e))
json_refused bytes (faults.Number path why) r h some e = inl (inr (faults.Number path why, h, e))
json_refused bytes (faults.UnknownName path) r h some e = inl (inr (faults.UnknownName path, h, e))
json_refused bytes (faults.Expr path why) r h some e = inl (inr (faults.Expr path why, h, e))
json_refused bytes (faults.Case refused) r h some e =
    inr (h.draft, h.says, (refused.fault, h.fault_is, e ∙ ap (λ names. case_refusal names refused.fault) h.names_are))
json_refused bytes faults.NoMemory r h some e = absurd (some refl)
