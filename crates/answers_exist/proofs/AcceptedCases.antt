-- A source denotes a case that a command can take, or is refused.
use Rattle.std.proofs.Common.{◌≡◌, ◌⊎◌, ◌≤◌, inl, inr, refl, sym, ◌∙◌, subst, ℕ, List, [], ◌∷◌, length, Option, arith}
use Rattle.std.specs.Str.{is_utf8}
use Rattle.std.proofs.lemmas.Str.{IsUtf8-from_is_utf8, is_utf8-from_IsUtf8}
use Rattle.field_core.specs.declared.ratio.Ratio.{Ratio}
use Rattle.field_core.proofs.Live.{true_or_false, true_not_false}
use Rattle.field_core.proofs.Positions.{below_or_above}
use Rattle.answers.specs.Stages.{Ends, on_bytes, within}
use Rattle.answers.proofs.Decided.{stage_ends, given_unless_ends, given_if_ends}
use Rattle.case_model.specs.declared.draft.Draft.{Draft}
use Rattle.case_model.specs.declared.draft_stages.Arrival.{Arrival}
use Rattle.case_model.specs.declared.inputs.Inputs.{Inputs}
use Rattle.case_model.specs.declared.inputs.Inputs.TheVariants.{Bare, Single, Staged}
use Rattle.case_model.specs.CaseFaults.{case_fault}
use Rattle.case_model.specs.Content.{Content, content_of}
use Rattle.case_model.specs.Validity.{IsValidContent}
use Rattle.case_csv.specs.Table.{cells_of, table_of}
use Rattle.case_json.specs.Document.{document_of}
use Rattle.case_json.specs.Values.{IsJson}
use Rattle.serde_json.specs.Data.{Data}
use Rattle.serde_json.specs.Read.{read}
use Rattle.command_words.specs.Asked.{Encoding, text, csv, json}
use Rattle.edge_text.specs.Document.{text_reading}
use Rattle.refusals.specs.CaseRefusal.{case_refusal}
use Rattle.refusals.specs.JsonRefusal.{syntax_refusal, json_refusal}
use Rattle.graph_cli.specs.Accepted.{grammar, faultless, case_in, IsOfKind, of_kind, of_size, suitable, accepted}
use Rattle.graph_cli.specs.Troubles.{line_of}
use Rattle.graph_cli.specs.declared.kind.InputKind.{InputKind}
use Rattle.graph_cli.specs.declared.kind.InputKind.TheVariants as kinds
use Rattle.graph_cli.specs.declared.needs.Needs.{Needs}
use Rattle.graph_cli.proofs.ClosedReports.{valid_said}
use Rattle.answers_exist.proofs.Ends.{then_ends, told_ends, bytes_end, within_ends}
use Rattle.answers_exist.proofs.Results.{given_or_none, not_given}

-- ---- drafts

value_ends : (bytes : List ℕ) (value : Data) → IsJson bytes value → Ends (grammar json bytes)
value_ends bytes value j = elim (stage_ends (document_of value)) [
  | inl d ↦ inl (d.0, (value, j, d.1))
  | inr f ↦ inr (json_refusal f.0, inr (f.0, (value, j, f.1), refl))
]

json_ends : (bytes : List ℕ) → Ends (grammar json bytes)
json_ends bytes = elim (true_or_false (is_utf8 bytes)) [
  | inr f ↦ inr (syntax_refusal, inl (λ value j. true_not_false (sym (is_utf8-from_IsUtf8 bytes j.0) ∙ f), refl))
  | inl t ↦ elim (given_or_none (read bytes)) [
    | inr none ↦ inr (syntax_refusal, inl (λ value j. not_given (read bytes) value j.1 none, refl))
    | inl value ↦ value_ends bytes value.0 (IsUtf8-from_is_utf8 bytes t, value.1)
  ]
]

grammar_ends : (format : Encoding) (bytes : List ℕ) → Ends (grammar format bytes)
grammar_ends text bytes = told_ends _ _ (stage_ends (text_reading bytes))
grammar_ends (csv alpha) bytes = told_ends _ _ (stage_ends (table_of alpha (cells_of bytes)))
grammar_ends json bytes = json_ends bytes

faultless_ends : (d : Draft) → Ends (faultless d)
faultless_ends d = told_ends (case_refusal d.names) _ (given_unless_ends (case_fault d) (content_of d))

-- ---- what a command can take

none_or_some : (xs : List Arrival) → (xs ≡ []) ⊎ ¬ (xs ≡ [])
none_or_some [] = inl refl
none_or_some (x ∷ xs) = inr (λ e. cc)

kind_or_not : (kind : InputKind) (inputs : Inputs) → IsOfKind kind inputs ⊎ ¬ IsOfKind kind inputs
kind_or_not kinds.Any inputs = inl tt
kind_or_not kinds.Single (Single ps) = inl tt
kind_or_not kinds.Single Bare = inr (λ h. h)
kind_or_not kinds.Single (Staged s) = inr (λ h. h)
kind_or_not kinds.Staged (Staged s) = inl tt
kind_or_not kinds.Staged Bare = inr (λ h. h)
kind_or_not kinds.Staged (Single ps) = inr (λ h. h)
kind_or_not kinds.Awaited (Staged s) = none_or_some s.arrivals
kind_or_not kinds.Awaited Bare = inr (λ h. h)
kind_or_not kinds.Awaited (Single ps) = inr (λ h. h)

few_or_more : (most n : ℕ) → (n ≤ most) ⊎ ¬ (n ≤ most)
few_or_more most n = elim (below_or_above most n) [ inl more ↦ inr (λ few. omega (arith, more, few)) | inr few ↦ inl few ]

suitable_ends : (needs : Needs) (c : Content) → Ends (suitable needs c)
suitable_ends needs c = then_ends (of_kind needs.kind c) (of_size needs.most) (given_if_ends _ _ _ (kind_or_not needs.kind c.inputs))
    (λ x g. given_if_ends _ _ _ (few_or_more needs.most (length x.names)))

-- a source in a format denotes a case that a command with these needs can take, or is refused
pub accepted_ends : (format : Encoding) (needs : Needs) (left : Option (List ℕ)) → Ends (accepted format needs left)
accepted_ends format needs left =
    then_ends (on_bytes left (within [])) _ (bytes_end left (within []) (λ bytes. within_ends [] bytes))
    (λ bytes g. then_ends (case_in format bytes) _ (then_ends (grammar format bytes) faultless (grammar_ends format bytes) (λ d h. faultless_ends d))
    (λ c h. told_ends (line_of c.names) (suitable needs c) (suitable_ends needs c)))

-- ---- what is taken

-- the content of a case, with p-values of a kind
pub record IsTaken (kind : InputKind) (c : Content) : Type 0 where
  pub valid : IsValidContent c
  pub of_kind : IsOfKind kind c.inputs

pub accepted_taken : (format : Encoding) (needs : Needs) (left : Option (List ℕ)) (c : Content) → (accepted format needs left).Gives c → IsTaken needs.kind c
accepted_taken format needs left c g =
    let draft = g.2.1.0 in
    let read : (c : Content) → (case_in format g.0).Gives c → IsValidContent c =
    λ c h. subst IsValidContent (sym h.2.1) (valid_said format g.0 h.0 h.1 h.2.0) in
    let fits = g.2.2 in
    record {
      valid = subst IsValidContent (sym (fits.2.1 ∙ fits.1.1)) (read g.2.0 g.2.1);
      of_kind = subst (λ (x : Content). IsOfKind needs.kind x.inputs) (sym (fits.2.1 ∙ fits.1.1)) fits.1.0;
    }

-- single p-values
pub single_of : (inputs : Inputs) → IsOfKind kinds.Single inputs → (ps : List Ratio) × (inputs ≡ Single ps)
single_of (Single ps) h = (ps, refl)
single_of Bare h = absurd h
single_of (Staged s) h = absurd h
