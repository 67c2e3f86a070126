-- A whole document is read.
use Rattle.std.proofs.Common.{◌≡◌, inr, sym, ap, ap₂, ◌∙◌, ℕ, List, [], ◌∷◌, Result, Ok, Err}
use Rattle.field_core.specs.Answers.{and_then, told_as}
use Rattle.field_core.proofs.Results.{same_fault}
use Rattle.text_lines.specs.Faults.{FaultAt}
use Rattle.text_lines.specs.Lines.{Row, rows_of, end_of}
use Rattle.text_lines.specs.Forms.{Say, Line, Then, Many, Seen, words_seen, read, all_read}
use Rattle.text_lines.specs.Kinds.{each_of}
use Rattle.text_lines.specs.Left.{Left}
use Rattle.text_lines.proofs.FormReads.{read_say}
use Rattle.evidence_check.specs.declared.fault.ProofKind.{ProofKind}
use Rattle.evidence_check.specs.declared.fault.ProofText.{ProofText}
use Rattle.evidence_check.specs.EvidenceParts.{StepParts, KeepParts}
use Rattle.evidence_check.specs.DocumentLines.{Words, Frame, kinds, version_line, step_line, end_line}
use Rattle.evidence_check.specs.Document.{Said, named, step, keep, kept, last, document}
use Rattle.evidence_check.specs.DocumentStatements.{evidence_reading}
use Rattle.evidence_check.specs.ReadView.{proof_fault}
use Rattle.evidence_check.proofs.ReadAnswers.{Fails, Gives, fails_too, reads, then_fails, then_reads}

module _ (T : Frame) (start : Left) where
  pub no_version : (fault : ProofText) → Fails (reads (Line version_line) start) fault → Fails (reads (document T) start) fault
  no_version fault h = then_fails (Line version_line) (λ v. Then (Many (step_line T) (step T) []) (λ ss. last T v ss)) start fault h

  module _ (v : ℕ) (l1 : Left) (first : Gives (Line version_line) start v l1) (e1 : l1.end ≡ start.end) where
    at_steps : reads (document T) start ≡ reads (Then (Many (step_line T) (step T) []) (λ ss. last T v ss)) l1
    at_steps = then_reads (Line version_line) (λ v. Then (Many (step_line T) (step T) []) (λ ss. last T v ss)) start v l1 first e1

    pub no_steps : (fault : ProofText) → Fails (reads (Many (step_line T) (step T) []) l1) fault → Fails (reads (document T) start) fault
    no_steps fault h = fails_too (reads (Then (Many (step_line T) (step T) []) (λ ss. last T v ss)) l1) (reads (document T) start) fault (λ f e. at_steps ∙ e)
        (then_fails (Many (step_line T) (step T) []) (λ ss. last T v ss) l1 fault h)

    module _ (ss : List StepParts) (l2 : Left) (second : Gives (Many (step_line T) (step T) []) l1 ss l2) (e2 : l2.end ≡ l1.end) where
      at_keeps : reads (document T) start ≡ reads (last T v ss) l2
      at_keeps = at_steps ∙ then_reads (Many (step_line T) (step T) []) (λ ss. last T v ss) l1 ss l2 second e2

      abbrev said : List KeepParts → Said
      said xs = record { version = v; steps = ss; keeps = xs }

      pub no_keeps : (fault : ProofText) → Fails (reads (each_of (keep T (named ss)) (kept T v (named ss))) l2) fault → Fails (reads (document T) start) fault
      no_keeps fault h = fails_too (reads (last T v ss) l2) (reads (document T) start) fault (λ f e. at_keeps ∙ e)
          (then_fails (each_of (keep T (named ss)) (kept T v (named ss))) (λ xs. Then (Line end_line) (λ u. Say (said xs))) l2 fault h)

      module _ (xs : List KeepParts) (l3 : Left) (third : Gives (each_of (keep T (named ss)) (kept T v (named ss))) l2 xs l3) (e3 : l3.end ≡ l2.end) where
        at_end : reads (document T) start ≡ reads (Then (Line end_line) (λ u. Say (said xs))) l3
        at_end = at_keeps ∙ then_reads (each_of (keep T (named ss)) (kept T v (named ss))) (λ xs. Then (Line end_line) (λ u. Say (said xs))) l2 xs l3 third e3

        pub no_end : (fault : ProofText) → Fails (reads (Line end_line) l3) fault → Fails (reads (document T) start) fault
        no_end fault h = fails_too (reads (Then (Line end_line) (λ u. Say (said xs))) l3) (reads (document T) start) fault (λ f e. at_end ∙ e)
            (then_fails (Line end_line) (λ u. Say (said xs)) l3 fault h)

        pub all_lines : (l4 : Left) → Gives (Line end_line) l3 tt l4 → l4.end ≡ l3.end → reads (document T) start ≡ Ok (said xs, words_seen l4.rows)
        all_lines l4 h e = at_end ∙ then_reads (Line end_line) (λ u. Say (said xs)) l3 tt l4 h e ∙ read_say kinds (said xs) (words_seen l4.rows) l4.end

-- ---- a text

-- whether a line is left
abbrev pub More : Result (Unit {0}) ProofText → List Row → Type 0
More r left = ◌≡◌ {A = Result (Unit {0}) ProofText} r (told_as proof_fault (all_read {A = Unit {0}} kinds tt (words_seen left)))

abbrev whole : Result (Said × List (Seen Words)) (FaultAt ProofKind) → Result Said (FaultAt ProofKind)
whole r = and_then {A = Said × List (Seen Words)} r (λ p. all_read kinds p.0 p.1)

module _ (T : Frame) (bytes : List ℕ) (start : Left) (rows : start.rows ≡ rows_of bytes) (end : start.end ≡ end_of bytes) where
  reading_is : evidence_reading T bytes ≡ whole (reads (document T) start)
  reading_is = ap₂ (λ rs n. whole (read kinds (document T) (words_seen rs) n)) (sym rows) (sym end)

  pub text_fails : (fault : ProofText) → Fails (reads (document T) start) fault → Fails (evidence_reading T bytes) fault
  text_fails fault h = fails_too (reads (document T) start) (evidence_reading T bytes) fault
      (λ f e. reading_is ∙ ap {A = Result (Said × List (Seen Words)) (FaultAt ProofKind)} whole e) h

  module _ (said : Said) (left : List Row) (all : reads (document T) start ≡ Ok (said, words_seen left)) where
    here : evidence_reading T bytes ≡ all_read kinds said (words_seen left)
    here = reading_is ∙ ap {A = Result (Said × List (Seen Words)) (FaultAt ProofKind)} whole all

    pub more_fails : (fault : ProofText) → More (Err fault) left → Fails (evidence_reading T bytes) fault
    more_fails fault e = by left here e
      where
        by : (left : List Row) → evidence_reading T bytes ≡ all_read kinds said (words_seen left) → More (Err fault) left
            → Fails (evidence_reading T bytes) fault
        by [] h e = absurd (cc e)
        by (row ∷ rest) h e = inr (ap (told_as proof_fault) h
            ∙ ap Err (sym (same_fault {A = Unit {0}} fault (proof_fault (record { line = row.number; kind = kinds.unexpected })) e)))

    pub text_read : More (Ok tt) left → told_as proof_fault (evidence_reading T bytes) ≡ Ok said
    text_read e = by left here e
      where
        by : (left : List Row) → evidence_reading T bytes ≡ all_read kinds said (words_seen left) → More (Ok tt) left
            → told_as proof_fault (evidence_reading T bytes) ≡ Ok said
        by [] h e = ap (told_as proof_fault) h
        by (row ∷ rest) h e = absurd (cc e)
