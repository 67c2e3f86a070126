-- The stages that commands have in common are decided.
use Rattle.std.proofs.Common.{◌≡◌, sym, ap, ◌∙◌, ℕ, List, Some, inl, inr}
use Rattle.answers.specs.declared.refusal.Refusal.{Refusal}
use Rattle.answers.specs.Stages.{IsDecided}
use Rattle.answers.proofs.Decided.{stage_decided, given_unless_decided, given_if_decided, then_decided, told_as_decided, within_decided}
use Rattle.case_model.specs.CaseFaults.{case_fault}
use Rattle.case_model.specs.Content.{Content, content_of}
use Rattle.case_model.specs.declared.draft.Draft.{Draft}
use Rattle.command_words.specs.Asked.{Encoding, text, csv, json}
use Rattle.edge_text.specs.Document.{text_reading}
use Rattle.field_core.proofs.Results.{same_value, same_fault, one_some}
use Rattle.case_csv.specs.Table.{cells_of, table_of}
use Rattle.case_json.specs.Values.{IsJson}
use Rattle.case_json.specs.Reading.{SaysDraft, HasFirstFault}
use Rattle.case_json.specs.Document.{document_of}
use Rattle.case_json.specs.declared.fault.JsonFault.{JsonFault}
use Rattle.serde_json.specs.Data.{Data}
use Rattle.serde_json.specs.Read.{read}
use Rattle.refusals.specs.CaseRefusal.{case_refusal}
use Rattle.refusals.specs.JsonRefusal.{json_refusal}
use Rattle.graph_cli.specs.Accepted.{grammar, case_in, suitable, accepted}
use Rattle.graph_cli.specs.Troubles.{line_of}
use Rattle.graph_cli.specs.declared.needs.Needs.{Needs}

same_document : (bytes : List ℕ) (u v : Data) → IsJson bytes u → IsJson bytes v → document_of u ≡ document_of v
same_document bytes u v h k = ap document_of (one_some (read bytes) u v h.1 k.1)

json_draft : (bytes : List ℕ) (d e : Draft) → SaysDraft bytes d → SaysDraft bytes e → d ≡ e
json_draft bytes d e h k = same_value d e (sym h.2 ∙ same_document bytes h.0 k.0 h.1 k.1 ∙ k.2)

json_fault : (bytes : List ℕ) (f g : JsonFault) → HasFirstFault bytes f → HasFirstFault bytes g → f ≡ g
json_fault bytes f g h k = same_fault f g (sym h.2 ∙ same_document bytes h.0 k.0 h.1 k.1 ∙ k.2)

json_one_refusal : (bytes : List ℕ) (r q : Refusal) → (grammar json bytes).Refuses r → (grammar json bytes).Refuses q → r ≡ q
json_one_refusal bytes r q (inl h) (inl k) = h.1 ∙ sym k.1
json_one_refusal bytes r q (inl h) (inr k) = absurd (h.0 k.1.0 k.1.1)
json_one_refusal bytes r q (inr h) (inl k) = absurd (k.0 h.1.0 h.1.1)
json_one_refusal bytes r q (inr h) (inr k) = h.2 ∙ ap json_refusal (json_fault bytes h.0 k.0 h.1 k.1) ∙ sym k.2

json_not_both : (bytes : List ℕ) (d : Draft) (r : Refusal) → (grammar json bytes).Gives d → (grammar json bytes).Refuses r → ⊥
json_not_both bytes d r h (inl k) = k.0 h.0 h.1
json_not_both bytes d r h (inr k) = cc (sym h.2 ∙ same_document bytes h.0 k.1.0 h.1 k.1.1 ∙ k.1.2)

grammar_decided : (format : Encoding) (bytes : List ℕ) → IsDecided (grammar format bytes)
grammar_decided text bytes = told_as_decided _ _ (stage_decided (text_reading bytes))
grammar_decided (csv alpha) bytes = told_as_decided _ _ (stage_decided (table_of alpha (cells_of bytes)))
grammar_decided json bytes = record { one = json_draft bytes; one_refusal = json_one_refusal bytes; not_both = json_not_both bytes }

-- bytes denote at most one case
pub case_decided : (format : Encoding) (bytes : List ℕ) → IsDecided (case_in format bytes)
case_decided format bytes = then_decided _ _ (grammar_decided format bytes)
    (λ (d : Draft). told_as_decided (case_refusal d.names) _ (given_unless_decided (case_fault d) (content_of d)))

suitable_decided : (needs : Needs) (c : Content) → IsDecided (suitable needs c)
suitable_decided needs c = then_decided _ _ (given_if_decided _ _ _) (λ x. given_if_decided _ _ _)

pub accepted_decided : (format : Encoding) (needs : Needs) (bytes : List ℕ) → IsDecided (accepted format needs (Some bytes))
accepted_decided format needs bytes =
    then_decided _ _ (within_decided _ bytes)
    (λ xs. then_decided _ _ (case_decided format xs) (λ c. told_as_decided (line_of c.names) _ (suitable_decided needs c)))
