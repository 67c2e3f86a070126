-- What is read of a text for a case.
use Rattle.std.proofs.Common.{◌≡◌, sym, ap, ap₂, ◌∙◌, subst, inl, inr, ℕ, List, Some, Result, Ok, Err}
use Rattle.std.specs.Result.{IsErrAnd}
use Rattle.text_lines.specs.Lines.{rows_of, end_of}
use Rattle.text_lines.specs.Faults.{FaultAt}
use Rattle.text_lines.specs.Forms.{words_seen, IsDocument}
use Rattle.text_lines.proofs.FormReads.{reading_as}
use Rattle.field_core.specs.Answers.{IsUnless, told_as}
use Rattle.field_core.specs.Kind.{Parts, ok_map}
use Rattle.field_core.proofs.Results.{same_value, same_fault}
use Rattle.field_core.proofs.Live.{true_or_false}
use Rattle.fraction.specs.Plain.{fraction_parts}
use Rattle.eps_quotient.specs.View.{quotient_parts}
use Rattle.case_model.specs.Content.{Content, is_plain}
use Rattle.case_numbers.specs.Numbers.{Numbers, in_fractions, in_quotients, numbers_of}
use Rattle.evidence_check.specs.declared.evidence.Evidence.{Evidence}
use Rattle.evidence_check.specs.declared.evidence.Evidence.TheVariants.{Plain, Eps}
use Rattle.evidence_check.specs.declared.evidence.Steps.{Steps}
use Rattle.evidence_check.specs.declared.fault.ProofKind.{ProofKind}
use Rattle.evidence_check.specs.declared.fault.ProofText.{ProofText}
use Rattle.evidence_check.specs.declared.fault.ProofText.TheVariants.{Line, NoMemory}
use Rattle.evidence_check.specs.EvidenceView.{FitsCase, IsFormOf, IsEvidenceFor, version_of, steps_of, keeps_of}
use Rattle.evidence_check.specs.DocumentLines.{kinds}
use Rattle.evidence_check.specs.Document.{Said, document}
use Rattle.evidence_check.specs.NumberReading.{number_in_text, case_frame}
use Rattle.evidence_check.specs.ReadView.{proof_fault, said_in}
use Rattle.evidence_check.specs.DocumentStatements.{evidence_reading, case_reading, said_of, SaysEvidence, HasFault, ReadingsAreEvidence}
use Rattle.evidence_check.proofs.CheckAnswers.{fractions_of, quotients_of}
use Rattle.evidence_check.proofs.DocumentFits.{document_said, said_fits, flows_all, exits_all}
use Rattle.evidence_check.proofs.SaidEvidence.{Typed, said_typed}
use Rattle.evidence_check.proofs.TypedNumbers.{fraction_found, quotient_found}

-- ---- what the reader answers

module _ (c : Content) (bytes : List ℕ) where
  -- the answer is what the text reads as for the case, or the reader is out of memory
  abbrev pub IsReading : Result Said ProofText → Type 0
  IsReading r = IsUnless NoMemory r (told_as proof_fault (case_reading c bytes))

  -- the same, in some numbers
  abbrev pub IsReadingIn : Numbers → Result Said ProofText → Type 0
  IsReadingIn n r = IsUnless NoMemory r (told_as proof_fault (evidence_reading (case_frame n c) bytes))

  pub read_in : (n : Numbers) (r : Result Said ProofText) → n ≡ numbers_of c → IsReadingIn n r → IsReading r
  unfolding case_reading
  read_in n r e h = subst (λ n. IsReadingIn n r) e h

  pub handed_in : (n : Numbers) (r : Result Evidence ProofText) (fault : ProofText) → n ≡ numbers_of c → IsErrAnd r (λ y. y ≡ fault)
      → IsReadingIn n (Err fault) → IsReading (ok_map said_of r)
  handed_in n (Ok v) fault e h k = absurd h
  handed_in n (Err y) fault e h k = subst (λ z. IsReading (Err z)) (sym h) (read_in n (Err fault) e k)

value_told : (r : Result Said (FaultAt ProofKind)) (said : Said) → told_as proof_fault r ≡ Ok said → r ≡ Ok said
value_told (Ok other) said e = ap Ok (same_value other said e)
value_told (Err f) said e = absurd (cc e)

fault_told : (r : Result Said (FaultAt ProofKind)) (number : ℕ) (kind : ProofKind) → told_as proof_fault r ≡ Err (Line number kind)
    → r ≡ Err (record { line = number; kind = kind })
fault_told (Ok said) number kind e = absurd (cc e)
fault_told (Err f) number kind e =
    let same : Line f.line f.kind ≡ Line number kind = same_fault (Line f.line f.kind) (Line number kind) e in
    let line : f.line ≡ number = cc in
    let why : f.kind ≡ kind = cc in
    ap₂ (λ l k. Err (record { line = l; kind = k })) line why

pub evidence_found : (c : Content) (bytes : List ℕ) (v : Evidence) → IsReading c bytes (Ok (said_of v)) → SaysEvidence c bytes v
evidence_found c bytes v e = value_told (case_reading c bytes) (said_of v) e

pub evidence_refused : (c : Content) (bytes : List ℕ) (number : ℕ) (kind : ProofKind) → IsReading c bytes (Err (Line number kind))
    → HasFault c bytes (record { line = number; kind = kind })
evidence_refused c bytes number kind (inl e) = absurd (cc e)
evidence_refused c bytes number kind (inr e) = fault_told (case_reading c bytes) number kind e

-- ---- what is read is evidence

-- a text denotes one evidence
pub one_said : (c : Content) (bytes : List ℕ) (v w : Evidence) → IsEvidenceFor c v → IsEvidenceFor c w → SaysEvidence c bytes v → SaysEvidence c bytes w
    → (version_of v ≡ version_of w) × (steps_of v ≡ steps_of w) × (keeps_of v ≡ keeps_of w)
one_said c bytes v w h k d e =
    let s = same_value (said_of v) (said_of w) (sym d ∙ e) in
    (ap (λ x. x.version) s, ap (λ x. x.steps) s, ap (λ x. x.keeps) s)

module _ (c : Content) (bytes : List ℕ) (said : Said) where
  document_is : (n : Numbers) → evidence_reading (case_frame n c) bytes ≡ Ok said → IsDocument (document (case_frame n c)) (words_seen (rows_of bytes)) said
  document_is n e = (reading_as kinds (document (case_frame n c)) (words_seen (rows_of bytes)) (end_of bytes) said).0 e

  -- it fits the case
  said_is_fit : (n : Numbers) → evidence_reading (case_frame n c) bytes ≡ Ok said → FitsCase c said.version said.steps said.keeps
  said_is_fit n e = said_fits n c (λ x. Unit {0}) (λ text x f. tt) said
      (document_said (case_frame n c) (λ x. Unit {0}) (λ text x f. tt) said (words_seen (rows_of bytes)) (document_is n e))

  -- and it is evidence in numbers of a type, if each number that is read is one
  typed : {F : Type 0} (parts : F → Parts) (n : Numbers) → ((text : List ℕ) (x : Parts) → number_in_text n text ≡ Some x → (y : F) × (parts y ≡ x))
      → evidence_reading (case_frame n c) bytes ≡ Ok said → (v : Steps F) × (said_in parts v ≡ said)
  typed parts n found e =
      let d = document_said (case_frame n c) (Typed parts) found said (words_seen (rows_of bytes)) (document_is n e) in
      said_typed parts said (flows_all n c (Typed parts) found 0 said.steps d.steps) (exits_all n c (Typed parts) found _ _ said.keeps d.keeps)

fit : (c : Content) (v : Evidence) → IsFormOf c v → FitsCase c (version_of v) (steps_of v) (keeps_of v) → IsEvidenceFor c v
fit c v f h = record { form = f; version = h.version; size = h.size; none = h.none; all = h.all }

pub reading_fits : (c : Content) (bytes : List ℕ) (v : Evidence) → IsFormOf c v → SaysEvidence c bytes v → IsEvidenceFor c v
unfolding case_reading
reading_fits c bytes v f e = fit c v f (said_is_fit c bytes (said_of v) (numbers_of c) e)

pub readings_are_evidence : ReadingsAreEvidence
unfolding case_reading
readings_are_evidence c bytes said e = elim (true_or_false (is_plain c)) [
  | inl p ↦
      let v = typed c bytes said fraction_parts in_fractions fraction_found (subst (λ n. evidence_reading (case_frame n c) bytes ≡ Ok said) (fractions_of c p) e) in
      (Plain v.0, fit c (Plain v.0) p (subst (λ s. FitsCase c s.version s.steps s.keeps) (sym v.1) (said_is_fit c bytes said (numbers_of c) e)), sym v.1)
  | inr p ↦
      let v = typed c bytes said quotient_parts in_quotients quotient_found (subst (λ n. evidence_reading (case_frame n c) bytes ≡ Ok said) (quotients_of c p) e) in
      (Eps v.0, fit c (Eps v.0) p (subst (λ s. FitsCase c s.version s.steps s.keeps) (sym v.1) (said_is_fit c bytes said (numbers_of c) e)), sym v.1)
]
