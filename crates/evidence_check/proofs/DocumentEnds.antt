-- The first fault of a document is where no document continues.
use Rattle.std.proofs.Common.{◌≡◌, refl, sym, subst, ◌∙◌, ℕ, ◌+◌, true, List, [], ◌∷◌, ◌++◌, Option, Some, None, Result, Ok, arith}
use Rattle.std.specs.Prelude.{codes, pos}
use Rattle.std.specs.Fmt.{decimal}
use Rattle.std.specs.List.{range_with_len}
use Rattle.std.specs.Str.{bytes_eq}
use Rattle.std.specs.Option.{option_map}
use Rattle.std.proofs.lemmas.Slice.Eq.{bytes_eq-Decides}
use Rattle.text_lines.specs.Lines.{rows_of, end_of}
use Rattle.text_lines.specs.Words.{words_after}
use Rattle.text_lines.specs.Forms.{Line, Then, Many, Seen, Begins, Lacks, Is, words_seen}
use Rattle.text_lines.specs.Kinds.{keyed_words, each_of}
use Rattle.text_lines.proofs.Keywords.{keyword_found}
use Rattle.text_lines.proofs.FormEnds.{Whole, Leads, Can, can_then, can_many, Stop}
use Rattle.text_lines.proofs.FormFaults.{none_is_fault as none_is}
use Rattle.text_lines.proofs.FaultKinds.{first_wrong}
use Rattle.text_lines.proofs.Always.{Always, always_say, always_line, always_then, always_each}
use Rattle.field_core.specs.Kind.{Parts}
use Rattle.fraction.specs.Plain.{single, zero_reduced}
use Rattle.eps_quotient.specs.Polynomials.{term}
use Rattle.eps_quotient.proofs.TermLaws.{term_stored}
use Rattle.case_model.specs.Content.{Content}
use Rattle.case_numbers.specs.Numbers.{Numbers, in_fractions, in_quotients, numbers_of, IsStoredIn}
use Rattle.evidence_check.specs.declared.fault.ProofKind.{ProofKind}
use Rattle.evidence_check.specs.declared.quantity.Quantity.{Quantity}
use Rattle.evidence_check.specs.declared.quantity.Quantity.TheVariants.{Flow, Exit}
use Rattle.evidence_check.specs.EvidenceParts.{StepParts, KeepParts}
use Rattle.evidence_check.specs.NumberReading.{case_frame}
use Rattle.evidence_check.specs.DocumentLines.{Words, Frame, kinds, nothing, version_line, step_line, number_line, keep_line, end_line}
use Rattle.evidence_check.specs.DocumentLines.{number_words, keep_words, end_words}
use Rattle.evidence_check.specs.Document.{numbers, named, step, keep, kept, last, document}
use Rattle.evidence_check.specs.DocumentStatements.{case_reading, IsPrinted, FaultsAreFirst, FaultsAreWhereNoneGoesOn, NoneGoesOnIsFault}
use Rattle.text_lines.specs.FormStatements.{IsFirstWrong, NoneGoesOnIsFault as FirstIsFault}
use Rattle.evidence_check.proofs.LineFaults.{document_runs}
use Rattle.evidence_check.proofs.PrintedNumbers.{stored_printed}

same : (xs : List ℕ) → bytes_eq xs xs ≡ true
same xs = (bytes_eq-Decides xs xs).1 refl

-- ---- a line of each kind

abbrev line : Words → Seen Words
line words = record { number = 0; line = words }

-- a line that begins so is not a step
other : {A : Type 0} (F : Frame) (first : List ℕ) (f : Words → Result A ProofKind) (words : Words) (a : A)
    → ((rest : Words) → step_line F (first ∷ rest) ≡ None) → keyed_words first f words ≡ Some (Ok a) → step_line F words ≡ None
other {A} F first f words a h e = by (words_after first words) refl e
  where
    by : (o : Option Words) → o ≡ words_after first words → ◌≡◌ {A = Option (Result A ProofKind)} (option_map f o) (Some (Ok a)) → step_line F words ≡ None
    by (Some rest) k m = subst (λ ws. step_line F ws ≡ None) (sym (keyword_found first words rest k)) (h rest)
    by None k m = absurd (cc m)

module _ (F : Frame) where
  pub number_back : (q : Quantity) (c h : ℕ) (x : Parts) → IsPrinted F x → number_line F q c h (number_words F q c h x) ≡ Some (Ok x)
  number_back Flow c h x printed = rw (same (decimal (c + 1)), same (F.name h), printed) refl
  number_back Exit c h x printed = rw (same (decimal (c + 1)), same (F.name h), printed) refl

  pub keep_back : (h : ℕ) → keep_line F h (keep_words F h) ≡ Some (Ok h)
  keep_back h = rw (same (F.name h)) refl

module _ (F : Frame) (x : Parts) (printed : IsPrinted F x) where
  always_numbers : (q : Quantity) (js : List ℕ) → Always kinds (numbers F q js)
  always_numbers q js =
      always_each kinds (λ c. each_of (λ j. Line (number_line F q c j)) js) (λ c.
      always_each kinds (λ j. Line (number_line F q c j)) (λ j.
      always_line kinds (number_line F q c j) (line (number_words F q c j x), x, number_back F q c j x printed)) js) (range_with_len 0 F.components)

  always_step : (ss : List StepParts) (j : ℕ) → Always kinds (step F ss j)
  always_step ss j = always_then kinds (numbers F Flow (named ss)) _ (always_numbers Flow (named ss)) (λ flows. always_say kinds _)

  always_keep : (js : List ℕ) (k : ℕ) → Always kinds (keep F js k)
  always_keep js k = always_then kinds (Line (keep_line F k)) _ (always_line kinds (keep_line F k) (line (keep_words F k), k, keep_back F k)) (λ h.
      always_then kinds (numbers F Exit js) _ (always_numbers Exit js) (λ exits. always_say kinds _))

  always_last : (v : ℕ) (ss : List StepParts) → Always kinds (last F v ss)
  always_last v ss = always_then kinds (each_of (keep F (named ss)) (kept F v (named ss))) _
      (always_each kinds (keep F (named ss)) (always_keep (named ss)) (kept F v (named ss))) (λ ks.
      always_then kinds (Line end_line) _ (always_line kinds end_line (line end_words, tt, refl)) (λ e. always_say kinds _))

  -- what follows the last step doesn't begin as a step
  last_apart : (v : ℕ) (ss : List StepParts) (ks : List ℕ) (rows mid rest : List (Seen Words)) (a : List KeepParts) (u : Unit {0})
      → Is (each_of (keep F (named ss)) ks) rows a mid → Begins end_line mid u rest → Lacks (step_line F) rows
  last_apart v ss [] rows mid rest a u h k =
      subst (Lacks (step_line F)) (sym k.rows_are ∙ h.1) (other F (codes "end") nothing k.row.line u (λ ws. refl) k.says)
  last_apart v ss (i ∷ ks) rows mid rest a u h k =
      let b = h.2.2 in
      subst (Lacks (step_line F)) (sym b.rows_are) (other F (codes "keep") _ b.row.line h.2.0 (λ ws. refl) b.says)

  stops : (v : ℕ) (ss : List StepParts) → (rest : List (Seen Words)) × Stop kinds (step_line F) (λ ss. Leads (last F v ss) Whole) ss rest
  stops v ss =
      let w = always_last v ss Whole (λ a. ([], refl)) [] in
      let d = w.1.2 in
      (w.0, (w.1, last_apart v ss (kept F v (named ss)) w.0 d.1 d.3.1 d.0 d.3.0 d.2 d.3.2))

  can_rest : (v : ℕ) → Can kinds (Then (Many (step_line F) (step F) []) (λ ss. last F v ss)) Whole
  can_rest v = can_then kinds (Many (step_line F) (step F) []) (λ ss. last F v ss) Whole
      (can_many kinds (step_line F) (step F) (λ ss. Leads (last F v ss) Whole) (stops v) (λ ss j. always_step ss j _ (λ s. stops v (ss ++ s ∷ []))) [])
      (λ ss. always_last v ss Whole (λ a. ([], refl)))

  pub can_document : Can kinds (document F) Whole
  can_document = can_then kinds (Line version_line) _ Whole
      (always_line kinds version_line (line (codes "evidence" ∷ codes "1" ∷ []), 1, refl) _ (λ v. can_rest v []))
      can_rest

pub faults_first : FaultsAreFirst
faults_first F x bytes printed = (
  first_wrong kinds (λ e. cc) (document F) (words_seen (rows_of bytes)) (end_of bytes) (document_runs F) (can_document F x printed),
  none_is kinds (document F) (words_seen (rows_of bytes)) (end_of bytes) (can_document F x printed),
)

-- ---- of a case

-- each kind of numbers has one
some_stored : (n : Numbers) → (x : Parts) × IsStoredIn n x
some_stored in_fractions = (single (record { num = pos 0; den = pos 1 }), record { reduced = zero_reduced; shape = refl })
some_stored in_quotients = (term 0 (record { num = pos 0; den = pos 1 }), term_stored 0 (record { num = pos 0; den = pos 1 }) (omega arith) zero_reduced)

case_faults : (n : Numbers) (c : Content) (bytes : List ℕ) → IsFirstWrong kinds (document (case_frame n c)) (words_seen (rows_of bytes)) (end_of bytes)
    × FirstIsFault kinds (document (case_frame n c)) (words_seen (rows_of bytes)) (end_of bytes)
case_faults n c bytes = let s = some_stored n in faults_first (case_frame n c) s.0 bytes (stored_printed n c s.0 s.1)

pub faults_end_documents : FaultsAreWhereNoneGoesOn
unfolding case_reading
faults_end_documents c bytes fault e = (case_faults (numbers_of c) c bytes).0 fault e

pub none_is_fault : NoneGoesOnIsFault
unfolding case_reading
none_is_fault c bytes number w = (case_faults (numbers_of c) c bytes).1 number w
