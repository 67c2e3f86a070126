-- What `test` prints of a case that a rule decides, and that is never too wide, has the status 0, and reports the rule.
use Rattle.std.proofs.Common.{◌≡◌, refl, sym, ap, subst, ℕ, ◌≤◌, ◌↔◌, inl, inr, List, length, Option, Some}
use Rattle.field_core.specs.Number.{Number}
use Rattle.field_core.specs.declared.ratio.Ratio.{Ratio}
use Rattle.answers.specs.declared.answer.Answer.{Answer}
use Rattle.answers.specs.declared.refusal.Refusal.{Refusal}
use Rattle.answers.specs.declared.status.Status.TheVariants.{Done}
use Rattle.answers.specs.Stages.{IsAnswerOf, most_bytes}
use Rattle.case_model.specs.Content.{Content, IsRejectedIn, content_of}
use Rattle.case_model.specs.Draft.{ArePValues}
use Rattle.case_model.specs.Sums.{number_at}
use Rattle.case_model.specs.declared.inputs.Inputs.TheVariants.{Single as Values}
use Rattle.command_words.specs.Asked.{Encoding, on_case}
use Rattle.command_words.specs.declared.command.CaseTask.TheVariants.{Test}
use Rattle.command_words.specs.Words.{asked_in}
use Rattle.answers.proofs.Decided.{stage_decided}
use Rattle.sequential.specs.OtherPValues.{with_p}
use Rattle.sequential.specs.declared.priority.Priority.{Priority}
use Rattle.textbook.specs.DefinedDecisions.{IsNeverWide}
use Rattle.graph_cli.proofs.AcceptedCases.{case_decided, accepted_decided}
use Rattle.graph_cli.proofs.ClosedReports.{reports_closed_test}
use Rattle.graph_cli.specs.Accepted.{IsOfKind, accepted, case_in}
use Rattle.graph_cli.specs.Commands.{needs_of, call_of, case_call, on_case as answers_on_case}
use Rattle.graph_cli.specs.Laws.{ReportsClosedTest}
use Rattle.graph_cli.specs.Outcome.{AskFor, outcome}
use Rattle.graph_cli.specs.Test.{test_stage}
use Rattle.graph_cli.specs.declared.kind.InputKind.TheVariants.{Single}
use Rattle.graph_cli.specs.declared.trouble.Trouble.{Trouble}
use Rattle.printed.specs.Catalogue.{IsTestedBy, DecidesBy}
use Rattle.printed.specs.Rules.{ReportsRule}

-- a decision that is never too wide isn't refused
never_refused : (priority : Priority) (c : Content) (q : Trouble) → IsNeverWide c → (answers_on_case (Test priority) c).Refuses q → ⊥
unfolding answers_on_case test_stage
never_refused priority c q N (inl h) = N.decisions priority h.0 h.1 h.2
never_refused priority c q N (inr h) = elim (h.2) [ inl k ↦ N.adjusted k.0 k.1 k.2 | inr k ↦ k.2 ]

-- what is answered has the status 0
is_done : (priority : Priority) (c : Content) (a : Answer) → (answers_on_case (Test priority) c).Gives a → a.status ≡ Done
unfolding answers_on_case test_stage
is_done priority c a g = ap (λ (x : Answer). x.status) g.2.2

-- ---- a case with p-values that a rule decides

module _ (Rejects : ℕ → Type 0) (c : Content) (ps : List Ratio) (single : c.inputs ≡ Values ps) (few : length c.names ≤ 64)
    (rejects : (j : ℕ) → IsRejectedIn c j ↔ Rejects j) (never_wide : IsNeverWide c) where
  -- a case with a p-value for each of at most 64 hypotheses is one that `test` can take
  taken : (format : Encoding) (priority : Priority) (bytes : List ℕ) → (case_in format bytes).Gives c → length bytes ≤ most_bytes
      → (accepted format (needs_of (Test priority)) (Some bytes)).Gives c
  unfolding needs_of
  taken format priority bytes g within =
      (bytes, (refl, within), (c, g, (c, (subst (λ i. IsOfKind Single i) (sym single) tt, refl), (few, refl))))

  call_not_refused : (format : Encoding) (priority : Priority) (bytes : List ℕ) (r : Refusal)
      → (accepted format (needs_of (Test priority)) (Some bytes)).Gives c → (case_call format (Test priority) (Some bytes)).Refuses r → ⊥
  unfolding case_call
  call_not_refused format priority bytes r takes (inl h) = (accepted_decided format (needs_of (Test priority)) bytes).not_both c r takes h
  call_not_refused format priority bytes r takes (inr h) =
      let same = (accepted_decided format (needs_of (Test priority)) bytes).one h.0 c h.1 takes in
      never_refused priority c h.2.0 never_wide (subst (λ x. (answers_on_case (Test priority) x).Refuses h.2.0) same h.2.1)

  not_refused : (words : List (List ℕ)) (format : Encoding) (priority : Priority) (bytes : List ℕ) (proof : Option (List ℕ)) (r : Refusal)
      → (accepted format (needs_of (Test priority)) (Some bytes)).Gives c
      → AskFor words (on_case format (Test priority)) → (outcome words (Some bytes) proof).Refuses r → ⊥
  unfolding call_of
  not_refused words format priority bytes proof r takes asks (inl h) = (stage_decided (asked_in words)).not_both (on_case format (Test priority)) h.0 asks h.1
  not_refused words format priority bytes proof r takes asks (inr h) =
      let command_is = (stage_decided (asked_in words)).one h.0 (on_case format (Test priority)) h.1 asks in
      call_not_refused format priority bytes r takes (subst (λ command. (call_of command (Some bytes) proof).Refuses r) command_is h.2)

  given_done : (words : List (List ℕ)) (format : Encoding) (priority : Priority) (bytes : List ℕ) (proof : Option (List ℕ)) (a : Answer)
      → AskFor words (on_case format (Test priority)) → (outcome words (Some bytes) proof).Gives a → a.status ≡ Done
  unfolding call_of case_call
  given_done words format priority bytes proof a asks h =
      let command_is = (stage_decided (asked_in words)).one h.0 (on_case format (Test priority)) h.1 asks in
      let gives = subst (λ command. (call_of command (Some bytes) proof).Gives a) command_is h.2 in
      is_done priority gives.0 a gives.2

  rule_reported : (priority : Priority) (text : List ℕ) → ReportsClosedTest priority c text → ReportsRule Rejects priority c text
  rule_reported priority text R = record {
    decision = R.decision;
    adjusted = R.adjusted;
    text_is = R.text_is;
    decides = R.decided.decides;
    named = λ j. let n = R.decided.named j in let law = rejects j in (λ h. law.0 (n.0 h), λ h. n.1 (law.1 h));
    values = R.values;
  }

  pub tested : (words : List (List ℕ)) (format : Encoding) (priority : Priority) (bytes : List ℕ) (proof : Option (List ℕ)) (a : Answer)
      → (case_in format bytes).Gives c → length bytes ≤ most_bytes → AskFor words (on_case format (Test priority))
      → IsAnswerOf (outcome words (Some bytes) proof) a → (a.status ≡ Done) × ReportsRule Rejects priority c a.text
  tested words format priority bytes proof a g within asks (inr h) =
      absurd (not_refused words format priority bytes proof h.0 (taken format priority bytes g within) asks h.1)
  tested words format priority bytes proof a g within asks (inl h) =
      let done = given_done words format priority bytes proof a asks h in
      let r = reports_closed_test words format priority bytes proof a asks (inl h) done in
      let same = (case_decided format bytes).one (content_of r.draft) c (r.draft, r.says, (r.faultless, refl)) g in
      (done, rule_reported priority a.text (subst (λ x. ReportsClosedTest priority x a.text) same r.reports))

-- ---- a case without p-values, by whatever p-values

module _ (Rejects : (ℕ → Number) → ℕ → Type 0) (c : Content) (few : length c.names ≤ 64)
    (rejects : (ps : List Ratio) → ArePValues (length c.names) ps → (j : ℕ) → IsRejectedIn (with_p c ps) j ↔ Rejects (number_at ps) j)
    (never_wide : (ps : List Ratio) → ArePValues (length c.names) ps → IsNeverWide (with_p c ps)) where
  tested_by : IsTestedBy Rejects c
  tested_by words format priority bytes proof ps a P g within asks h =
      tested (Rejects (number_at ps)) (with_p c ps) ps refl few (rejects ps P) (never_wide ps P) words format priority bytes proof a g within asks h

  pub decides_by : DecidesBy Rejects c
  decides_by = record { rejects = rejects; never_wide = never_wide; tested = tested_by }
