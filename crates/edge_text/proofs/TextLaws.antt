-- What texts say, and where they fail.
use Rattle.std.proofs.Common.{◌≡◌, ◌⊎◌, ℕ, inl, inr, Result, Ok, Err, refl, sym, ap, ◌∙◌}
use Rattle.case_model.specs.declared.draft.Draft.{Draft}
use Rattle.field_core.proofs.Results.{same_value, same_fault}
use Rattle.text_lines.specs.Faults.{FaultAt}
use Rattle.text_lines.specs.Forms.{texts_seen}
use Rattle.text_lines.specs.Lines.{rows_of, end_of}
use Rattle.text_lines.proofs.FaultKinds.{first_wrong, unfinished_end as ends_unfinished}
use Rattle.text_lines.proofs.FormFaults.{none_is_fault}
use Rattle.text_lines.proofs.FormReads.{reading_as}
use Rattle.edge_text.specs.declared.fault.LineKind.{LineKind}
use Rattle.edge_text.specs.declared.fault.LineKind.TheVariants.{Ended}
use Rattle.edge_text.specs.Document.{document, kinds, text_reading}
use Rattle.edge_text.specs.DocumentStatements.{TextsSayTheirLines, TextsCanEnd}
use Rattle.edge_text.specs.Faults.{IsFirstFault}
use Rattle.edge_text.specs.TextStatements.{TextsSayOneDraft, TextsHaveOneFault, TextsSayOrFail, TextsDontSayAndFail}
use Rattle.edge_text.specs.TextStatements.{FirstFaultsEndDocuments, WhereNoneGoesOnIsFault, UnfinishedTextsEnd}
use Rattle.edge_text.proofs.DocumentEnds.{can_document}
use Rattle.edge_text.proofs.DocumentKinds.{document_runs}

abbrev fault_at : ℕ → LineKind → FaultAt LineKind
fault_at number kind = record { line = number; kind = kind }

pub says_lines : TextsSayTheirLines
says_lines bytes draft = reading_as kinds document (texts_seen (rows_of bytes)) (end_of bytes) draft

pub one_draft : TextsSayOneDraft
one_draft bytes d e h k = same_value d e (sym h ∙ k)

pub one_first_fault : TextsHaveOneFault
one_first_fault bytes m n j k f g =
    let same = same_fault (fault_at m j) (fault_at n k) (sym f ∙ g) in (ap (λ x. x.line) same, ap (λ x. x.kind) same)

pub not_both : TextsDontSayAndFail
not_both bytes d n kind h f = let e : Ok d ≡ Err (fault_at n kind) = sym h ∙ f in cc

pub says_or_fails : TextsSayOrFail
says_or_fails bytes = by (text_reading bytes) refl
  where
    by : (r : Result Draft (FaultAt LineKind)) → text_reading bytes ≡ r
        → ((d : Draft) × (text_reading bytes ≡ Ok d)) ⊎ ((n : ℕ) × (kind : LineKind) × IsFirstFault bytes n kind)
    by (Ok d) e = inl (d, e)
    by (Err fault) e = inr (fault.line, fault.kind, e)

-- ---- where no document continues

pub ends_documents : FirstFaultsEndDocuments
ends_documents bytes number kind f =
    elim (first_wrong kinds (λ e. cc) document (texts_seen (rows_of bytes)) (end_of bytes) document_runs can_document (fault_at number kind) f) [
      | inl w ↦ inl w
      | inr w ↦ inr (ap (λ x. x.kind) w.0, ap (λ x. x.line) w.0, w.1)
    ]

pub none_goes_on : WhereNoneGoesOnIsFault
none_goes_on bytes number w = none_is_fault kinds document (texts_seen (rows_of bytes)) (end_of bytes) can_document number w

pub unfinished_end : UnfinishedTextsEnd
unfinished_end bytes u = ends_unfinished kinds (λ e. cc) document (texts_seen (rows_of bytes)) (end_of bytes) can_document u

pub can_end : TextsCanEnd
can_end bytes number f = elim (ends_documents bytes number Ended f) [ inl w ↦ absurd (w.0 refl) | inr u ↦ u.2.begins ]
