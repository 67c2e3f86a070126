-- The text of evidence says it, and nothing else.
use Rattle.std.proofs.Common.{◌≡◌, ◌∙◌, sym, refl, subst, ℕ, suc, ◌+◌, ◌<◌, ◌≤◌, inl, inr, List, [], ◌∷◌, ◌++◌, length, map, get_or}
use Rattle.std.proofs.Common.{Some, arith}
use Rattle.std.specs.Prelude.{◌⊎◌}
use Rattle.std.specs.Fmt.{decimal}
use Rattle.std.specs.List.{All, AllByRecursion}
use Rattle.std.proofs.lemmas.List.Elements.{All-head, All-tail, All-map, All-push, All-weaker}
use Rattle.field_core.specs.Kind.{Parts}
use Rattle.fraction.specs.Plain.{fraction_parts, fraction_stored}
use Rattle.eps_quotient.specs.View.{quotient_parts}
use Rattle.text_lines.specs.Spelling.{IsWord, IsLine}
use Rattle.case_model.specs.Content.{Content}
use Rattle.case_model.specs.Validity.{Each}
use Rattle.case_model.specs.Validity.{IsValidContent}
use Rattle.case_model.proofs.ValidContents.{shape}
use Rattle.case_numbers.specs.Numbers.{Numbers, numbers_of, IsStoredIn, in_fractions, in_quotients}
use Rattle.edge_text.proofs.CanonicalWords.{name_is_word, whole_is_word}
use Rattle.edge_text.proofs.CanonicalLines.{AreDistinct, distinct, keyed, all_append, name_word, place_of_name}
use Rattle.evidence_check.specs.declared.evidence.Evidence.{Evidence}
use Rattle.evidence_check.specs.declared.evidence.Evidence.TheVariants.{Plain, Eps}
use Rattle.evidence_check.specs.declared.evidence.ProofStep.{ProofStep}
use Rattle.evidence_check.specs.declared.evidence.KeepProof.{KeepProof}
use Rattle.evidence_check.specs.declared.quantity.Quantity.{Quantity}
use Rattle.evidence_check.specs.declared.quantity.Quantity.TheVariants.{Flow, Exit}
use Rattle.evidence_check.specs.EvidenceParts.{StepParts, KeepParts, FlowsFit, ExitsFit, FitsSize}
use Rattle.evidence_check.specs.EvidenceView.{step_parts, keep_parts, version_of, steps_of, keeps_of, IsEvidenceFor}
use Rattle.evidence_check.specs.DocumentLines.{Frame, version_words, step_words, number_words, keep_words, end_words}
use Rattle.evidence_check.specs.EvidenceLines.{number_lines, list_lines, step_lines, keep_lines, evidence_lines}
use Rattle.evidence_check.specs.NumberReading.{case_frame}
use Rattle.evidence_check.specs.DocumentStatements.{IsPrinted, ArePrinted, SaysEvidence, evidence_text}
use Rattle.evidence_check.proofs.CheckAnswers.{fractions_of, quotients_of}
use Rattle.evidence_check.proofs.DocumentLaws.{one_said}
use Rattle.evidence_check.proofs.PrintedNumbers.{stored_printed}
use Rattle.evidence_check.proofs.WrittenTexts.{text_says}
use Rattle.evidence.specs.EvidenceText.{EvidenceTextsSayTheirs, EvidenceTextsSayNoOther, EvidenceTextsHaveNoFault, EvidenceTextsTellApart}
use Rattle.evidence.proofs.NumberWords.{number_is_word}

-- ---- all numbers are stored

-- all numbers of steps and keeps are stored
record AreStored (n : Numbers) (ss : List StepParts) (xs : List KeepParts) : Type 0 where
  flows : All (λ s. All (All (IsStoredIn n)) s.flows) ss
  exits : All (λ x. All (All (IsStoredIn n)) x.exits) xs

module _ {F : Type 0} (n : Numbers) (parts : F → Parts) (each : (x : F) → IsStoredIn n (parts x)) where
  numbers_stored : (xs : List F) → All (IsStoredIn n) (map parts xs)
  numbers_stored xs = All-map (IsStoredIn n) parts xs (λ i d lt. each (get_or xs i d))

  lists_stored : (lists : List (List F)) → All (All (IsStoredIn n)) (map (map parts) lists)
  lists_stored lists = All-map (All (IsStoredIn n)) (map parts) lists (λ i d lt. numbers_stored (get_or lists i d))

  all_stored : (ss : List (ProofStep F)) (xs : List (KeepProof F)) → AreStored n (map (step_parts parts) ss) (map (keep_parts parts) xs)
  all_stored ss xs = record {
    flows = All-map (λ s. All (All (IsStoredIn n)) s.flows) (step_parts parts) ss (λ i d lt. lists_stored (get_or ss i d).flows);
    exits = All-map (λ x. All (All (IsStoredIn n)) x.exits) (keep_parts parts) xs (λ i d lt. lists_stored (get_or xs i d).exits);
  }

evidence_stored : (c : Content) (v : Evidence) → IsEvidenceFor c v → AreStored (numbers_of c) (steps_of v) (keeps_of v)
evidence_stored c (Plain v) h = subst (λ n. AreStored n (steps_of (Plain v)) (keeps_of (Plain v))) (sym (fractions_of c h.form))
    (all_stored in_fractions fraction_parts fraction_stored v.steps v.keeps)
evidence_stored c (Eps v) h = subst (λ n. AreStored n (steps_of (Eps v)) (keeps_of (Eps v))) (sym (quotients_of c h.form))
    (all_stored in_quotients quotient_parts (λ x. x.stored) v.steps v.keeps)

-- ---- each line is one

module _ (n : Numbers) (c : Content) (words : Each c.names IsWord) (apart : AreDistinct c.names) (few : length c.components ≤ 8) where
  abbrev T : Frame
  T = case_frame n c

  -- it is a hypothesis of the case
  abbrev IsKnown : ℕ → Type 0
  IsKnown j = j < length c.names

  name_is : (j : ℕ) → IsKnown j → IsWord (get_or c.names j [])
  name_is j l = name_word c.names j words l

  number_is : (q : Quantity) (k j : ℕ) (x : Parts) → k < 8 → IsKnown j → IsStoredIn n x → IsLine (number_words T q k j x)
  number_is Flow k j x l h s = keyed _ _ (decimal (k + 1) ∷ get_or c.names j [] ∷ (case_frame n c).text x ∷ []) refl refl
      (whole_is_word (k + 1) (omega arith), (name_is j h, (number_is_word n x s, tt)))
  number_is Exit k j x l h s = keyed _ _ (decimal (k + 1) ∷ get_or c.names j [] ∷ (case_frame n c).text x ∷ []) refl refl
      (whole_is_word (k + 1) (omega arith), (name_is j h, (number_is_word n x s, tt)))

  numbers_are : (q : Quantity) (k : ℕ) (js : List ℕ) (xs : List Parts) → k < 8 → All IsKnown js → All (IsStoredIn n) xs
      → AllByRecursion IsLine (number_lines T q k js xs)
  numbers_are q k [] xs l h s = tt
  numbers_are q k (j ∷ js) [] l h s = tt
  numbers_are q k (j ∷ js) (x ∷ xs) l h s = (
    number_is q k j x l (All-head IsKnown j js h) (All-head (IsStoredIn n) x xs s),
    numbers_are q k js xs l (All-tail IsKnown j js h) (All-tail (IsStoredIn n) x xs s),
  )

  lists_are : (q : Quantity) (k : ℕ) (js : List ℕ) (lists : List (List Parts)) → k + length lists ≤ 8 → All IsKnown js
      → All (All (IsStoredIn n)) lists → AllByRecursion IsLine (list_lines T q k js lists)
  lists_are q k js [] l h s = tt
  lists_are q k js (xs ∷ lists) l h s =
      all_append IsLine (number_lines T q k js xs) (list_lines T q (suc k) js lists)
      (numbers_are q k js xs (omega arith) h (All-head (All (IsStoredIn n)) xs lists s))
      (lists_are q (suc k) js lists (omega arith) h (All-tail (All (IsStoredIn n)) xs lists s))

  step_is : (j : ℕ) → IsKnown j → IsLine (step_words T j)
  step_is j h = keyed _ _ (get_or c.names j [] ∷ []) refl refl (name_is j h, tt)

  keep_is : (j : ℕ) → IsKnown j → IsLine (keep_words T j)
  keep_is j h = keyed _ _ (get_or c.names j [] ∷ []) refl refl (name_is j h, tt)

  version_is : (v : ℕ) → (v ≡ 1) ⊎ (v ≡ 2) → IsLine (version_words v)
  version_is v h = keyed _ _ (decimal v ∷ []) refl refl (whole_is_word v (low h), tt)
    where
      low : (v ≡ 1) ⊎ (v ≡ 2) → v ≤ 12
      low (inl e) = omega (arith, e)
      low (inr e) = omega (arith, e)

  end_is : IsLine end_words
  end_is = keyed _ _ [] refl refl tt

  steps_are : (i : ℕ) (js : List ℕ) (ss : List StepParts) → All IsKnown js → All (λ s. IsKnown s.hypothesis) ss → FlowsFit (length c.components) i ss
      → All (λ s. All (All (IsStoredIn n)) s.flows) ss → AllByRecursion IsLine (step_lines T js ss)
  steps_are i js [] h k f s = tt
  steps_are i js (t ∷ ss) h k f s =
      let below = All-head (λ s. IsKnown s.hypothesis) t ss k in
      let many : length t.flows ≡ length c.components = f.0.lists in (
        step_is t.hypothesis below,
        all_append IsLine (list_lines T Flow 0 js t.flows) (step_lines T (js ++ t.hypothesis ∷ []) ss)
            (lists_are Flow 0 js t.flows (omega arith) h (All-head (λ s. All (All (IsStoredIn n)) s.flows) t ss s))
            (steps_are (suc i) (js ++ t.hypothesis ∷ []) ss (All-push IsKnown js t.hypothesis h below) (All-tail (λ s. IsKnown s.hypothesis) t ss k) f.1
            (All-tail (λ s. All (All (IsStoredIn n)) s.flows) t ss s)),
      )

  keeps_are : (i : ℕ) (js : List ℕ) (xs : List KeepParts) → All IsKnown js → All (λ x. IsKnown x.hypothesis) xs → ExitsFit (length c.components) i xs
      → All (λ x. All (All (IsStoredIn n)) x.exits) xs → AllByRecursion IsLine (keep_lines T js xs)
  keeps_are i js [] h k f s = tt
  keeps_are i js (x ∷ xs) h k f s =
      let many : length x.exits ≡ length c.components = f.0.lists in (
        keep_is x.hypothesis (All-head (λ x. IsKnown x.hypothesis) x xs k),
        all_append IsLine (list_lines T Exit 0 js x.exits) (keep_lines T js xs)
            (lists_are Exit 0 js x.exits (omega arith) h (All-head (λ x. All (All (IsStoredIn n)) x.exits) x xs s))
            (keeps_are i js xs h (All-tail (λ x. IsKnown x.hypothesis) x xs k) f.1 (All-tail (λ x. All (All (IsStoredIn n)) x.exits) x xs s)),
      )

  module _ (v : ℕ) (ss : List StepParts) (xs : List KeepParts) (version : (v ≡ 1) ⊎ (v ≡ 2))
      (size : FitsSize (length c.names) (length c.components) ss xs) (stored : AreStored n ss xs) where
    known : All IsKnown (map (λ s. s.hypothesis) ss)
    known = All-map IsKnown (λ s. s.hypothesis) ss size.steps_below

    all_lines : AllByRecursion IsLine (evidence_lines (case_frame n c) v ss xs)
    all_lines =
        let js = map (λ s. s.hypothesis) ss in (
          version_is v version,
          all_append IsLine (step_lines T [] ss ++ keep_lines T js xs) (end_words ∷ [])
              (all_append IsLine (step_lines T [] ss) (keep_lines T js xs)
              (steps_are 0 [] ss (λ i d lt. absurd (omega arith)) size.steps_below size.flows stored.flows)
              (keeps_are (length ss) js xs known size.keeps_below size.exits stored.exits))
              (end_is, tt),
        )

    printed : (lists : List (List Parts)) → All (All (IsStoredIn n)) lists → All (All (IsPrinted (case_frame n c))) lists
    printed lists = All-weaker (All (IsStoredIn n)) (All (IsPrinted (case_frame n c)))
        (λ ys. All-weaker (IsStoredIn n) (IsPrinted (case_frame n c)) (λ x. stored_printed n c x) ys) lists

    all_printed : ArePrinted (case_frame n c) ss xs
    all_printed = record {
      names = All-weaker (λ s. s.hypothesis < length c.names) (λ s. (case_frame n c).position ((case_frame n c).name s.hypothesis) ≡ Some s.hypothesis)
          (λ s l. place_of_name c.names s.hypothesis apart l) ss size.steps_below;
      flows = All-weaker (λ s. All (All (IsStoredIn n)) s.flows) (λ s. All (All (IsPrinted (case_frame n c))) s.flows)
          (λ s h. printed s.flows h) ss stored.flows;
      exits = All-weaker (λ x. All (All (IsStoredIn n)) x.exits) (λ x. All (All (IsPrinted (case_frame n c))) x.exits)
          (λ x h. printed x.exits h) xs stored.exits;
    }

-- ---- the text

pub text_says_it : EvidenceTextsSayTheirs
text_says_it c v valid h =
    let words : Each c.names IsWord = λ i name e. name_is_word name (valid.names.form i name e) in
    let apart = distinct c.names valid.names.distinct in
    let few = (shape c valid).few_components in
    let stored = evidence_stored c v h in
    text_says c v h
    (all_printed (numbers_of c) c words apart few (version_of v) (steps_of v) (keeps_of v) h.version h.size stored)
    (all_lines (numbers_of c) c words apart few (version_of v) (steps_of v) (keeps_of v) h.version h.size stored)

pub said : (c : Content) (v : Evidence) (text : List ℕ) → text ≡ evidence_text c v → IsValidContent c → IsEvidenceFor c v → SaysEvidence c text v
said c v text e valid h = subst (λ t. SaysEvidence c t v) (sym e) (text_says_it c v valid h)

pub no_other : EvidenceTextsSayNoOther
no_other c v w valid h k d = one_said c (evidence_text c v) w v k h d (text_says_it c v valid h)

pub no_fault : EvidenceTextsHaveNoFault
no_fault c v fault valid h k = cc (sym (text_says_it c v valid h) ∙ k)

pub told_apart : EvidenceTextsTellApart
told_apart c v w valid h k e = one_said c (evidence_text c w) v w h k (said c v (evidence_text c w) (sym e) valid h) (text_says_it c w valid k)
