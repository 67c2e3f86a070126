-- The lines of evidence say it.
use Rattle.std.proofs.Common.{◌≡◌, refl, sym, ap, subst, ◌∙◌, ℕ, suc, ◌+◌, List, [], ◌∷◌, ◌++◌, map, length, append_assoc, add-one, Some, Ok, inl, inr, arith}
use Rattle.std.specs.Prelude.{◌⊎◌}
use Rattle.std.specs.Fmt.{digits}
use Rattle.std.specs.List.{All, range_with_len}
use Rattle.std.proofs.lemmas.List.{append-nil, length-map}
use Rattle.std.proofs.lemmas.List.Elements.{All-head, All-tail}
use Rattle.text_lines.specs.Forms.{Say, Line, Then, Seen, Lacks, Is, AreMany, IsDocument}
use Rattle.text_lines.specs.Kinds.{each_of, each_after}
use Rattle.text_lines.proofs.Written.{lines_in, Says, cut, first_of_lines, says_say, says_line, says_then, says_all}
use Rattle.field_core.specs.Kind.{Parts}
use Rattle.evidence_check.specs.declared.quantity.Quantity.{Quantity}
use Rattle.evidence_check.specs.declared.quantity.Quantity.TheVariants.{Flow, Exit}
use Rattle.evidence_check.specs.EvidenceParts.{StepParts, KeepParts, AreFull, FlowsFit, ExitsFit}
use Rattle.evidence_check.specs.DocumentLines.{Words, Frame, version_line, step_line, number_line, keep_line, end_line}
use Rattle.evidence_check.specs.DocumentLines.{version_words, step_words, number_words, keep_words, end_words}
use Rattle.evidence_check.specs.EvidenceLines.{number_lines, list_lines, step_lines, keep_lines, evidence_lines}
use Rattle.evidence_check.specs.Document.{component_numbers, numbers, named, step, keep, kept, last, document}
use Rattle.evidence_check.specs.DocumentStatements.{IsPrinted, LinesSayTheirEvidence}
use Rattle.evidence_check.proofs.Hypotheses.{one_longer}
use Rattle.evidence_check.proofs.DocumentEnds.{number_back, keep_back}

abbrev Rows : Type 0
Rows = List (Seen Words)

version_back : (v : ℕ) → (v ≡ 1) ⊎ (v ≡ 2) → version_line (version_words v) ≡ Some (Ok v)
unfolding digits
version_back v (inl e) = rw e refl
version_back v (inr e) = rw e refl

module _ (T : Frame) where
  step_back : (h : ℕ) → T.position (T.name h) ≡ Some h → step_line T (step_words T h) ≡ Some (Ok h)
  step_back h e = rw e refl

  -- ---- numbers

  numbers_say : (q : Quantity) (c : ℕ) (before : List Parts) (js : List ℕ) (xs : List Parts) → length xs ≡ length js → All (IsPrinted T) xs
      → Says (each_after (λ j. Line (number_line T q c j)) before js) (number_lines T q c js xs) (before ++ xs)
  numbers_say q c before [] [] n h = subst (Says (each_after (λ j. Line (number_line T q c j)) before []) []) (sym (append-nil before)) (says_say before)
  numbers_say q c before [] (x ∷ xs) n h = absurd (omega (arith, n))
  numbers_say q c before (j ∷ js) [] n h = absurd (omega (arith, n))
  numbers_say q c before (j ∷ js) (x ∷ xs) n h =
      subst (Says (each_after (λ j. Line (number_line T q c j)) before (j ∷ js)) (number_lines T q c (j ∷ js) (x ∷ xs))) (append_assoc before (x ∷ []) xs)
      (says_then (Line (number_line T q c j)) (λ a. each_after (λ j. Line (number_line T q c j)) (before ++ a ∷ []) js) (number_words T q c j x ∷ [])
      (number_lines T q c js xs) x ((before ++ x ∷ []) ++ xs)
      (says_line (number_line T q c j) (number_words T q c j x) x (number_back T q c j x (All-head (IsPrinted T) x xs h)))
      (numbers_say q c (before ++ x ∷ []) js xs (omega (arith, n)) (All-tail (IsPrinted T) x xs h)))

  lists_say : (q : Quantity) (c : ℕ) (js : List ℕ) (before lists : List (List Parts)) → All (λ xs. length xs ≡ length js) lists → All (All (IsPrinted T)) lists
      → Says (each_after (component_numbers T q js) before (range_with_len c (length lists))) (list_lines T q c js lists) (before ++ lists)
  lists_say q c js before [] n h = subst (Says (each_after (component_numbers T q js) before []) []) (sym (append-nil before)) (says_say before)
  lists_say q c js before (xs ∷ lists) n h =
      subst (Says (each_after (component_numbers T q js) before (range_with_len c (length (xs ∷ lists)))) (list_lines T q c js (xs ∷ lists)))
      (append_assoc before (xs ∷ []) lists)
      (says_then (component_numbers T q js c) (λ a. each_after (component_numbers T q js) (before ++ a ∷ []) (range_with_len (c + 1) (length lists)))
      (number_lines T q c js xs) (list_lines T q (suc c) js lists) xs ((before ++ xs ∷ []) ++ lists)
      (numbers_say q c [] js xs (All-head (λ xs. length xs ≡ length js) xs lists n) (All-head (All (IsPrinted T)) xs lists h))
      (subst (λ i. Says (each_after (component_numbers T q js) (before ++ xs ∷ []) (range_with_len i (length lists))) (list_lines T q (suc c) js lists)
      ((before ++ xs ∷ []) ++ lists)) (sym (add-one c))
      (lists_say q (suc c) js (before ++ xs ∷ []) lists (All-tail (λ xs. length xs ≡ length js) xs lists n) (All-tail (All (IsPrinted T)) xs lists h))))

  full_say : (q : Quantity) (js : List ℕ) (lists : List (List Parts)) → AreFull T.components (length js) lists → All (All (IsPrinted T)) lists
      → Says (numbers T q js) (list_lines T q 0 js lists) lists
  full_say q js lists f h = subst (λ n. Says (each_of (component_numbers T q js) (range_with_len 0 n)) (list_lines T q 0 js lists) lists) f.lists
      (lists_say q 0 js [] lists f.each h)

  -- ---- steps

  step_say : (earlier : List StepParts) (s : StepParts) → AreFull T.components (length (named earlier)) s.flows → All (All (IsPrinted T)) s.flows
      → Says (step T earlier s.hypothesis) (list_lines T Flow 0 (named earlier) s.flows) s
  step_say earlier s f h =
      subst (λ ls. Says (step T earlier s.hypothesis) ls s) (append-nil (list_lines T Flow 0 (named earlier) s.flows))
      (says_then (numbers T Flow (named earlier)) (λ flows. Say (record { hypothesis = s.hypothesis; flows = flows })) (list_lines T Flow 0 (named earlier) s.flows) []
      s.flows s (full_say Flow (named earlier) s.flows f h) (says_say s))

  steps_say : (earlier ss : List StepParts) (js : List ℕ) → named earlier ≡ js → FlowsFit T.components (length js) ss
      → All (λ s. T.position (T.name s.hypothesis) ≡ Some s.hypothesis) ss → All (λ s. All (All (IsPrinted T)) s.flows) ss
      → (rows rest : Rows) → lines_in rows ≡ step_lines T js ss → Lacks (step_line T) rest
      → AreMany (step_line T) (λ ys j. Is (step T ys j)) earlier (rows ++ rest) ss rest
  steps_say earlier [] js n f k h rows rest e l = let none = (says_say rows rows rest e).1 in (none, subst (Lacks (step_line T)) none l)
  steps_say earlier (s ∷ ss) js n f k h rows rest e l =
      let d = first_of_lines rows (step_words T s.hypothesis) (list_lines T Flow 0 js s.flows ++ step_lines T (js ++ s.hypothesis ∷ []) ss) e in
      let c = cut d.rest (list_lines T Flow 0 js s.flows) (step_lines T (js ++ s.hypothesis ∷ []) ss) d.others in
      let Q = λ (s : StepParts). T.position (T.name s.hypothesis) ≡ Some s.hypothesis in
      let R = λ (s : StepParts). All (All (IsPrinted T)) s.flows in (
        s.hypothesis,
        d.rest ++ rest,
        c.back ++ rest,
        record {
          row = d.row;
          rows_are = ap (λ rs. rs ++ rest) d.rows_are;
          says = ap (step_line T) d.line_is ∙ step_back s.hypothesis (All-head Q s ss k);
        },
        subst (λ rs. Is (step T earlier s.hypothesis) rs s (c.back ++ rest)) (sym (append_assoc c.front c.back rest) ∙ ap (λ rs. rs ++ rest) (sym c.rows_are))
            (step_say earlier s (subst (λ js. AreFull T.components (length js) s.flows) (sym n) f.0) (All-head R s ss h) c.front (c.back ++ rest)
            (c.first ∙ ap (λ js. list_lines T Flow 0 js s.flows) (sym n))),
        steps_say (earlier ++ s ∷ []) ss (js ++ s.hypothesis ∷ []) (longer earlier s ∙ ap (λ js. js ++ s.hypothesis ∷ []) n)
            (subst (λ n. FlowsFit T.components n ss) (sym (one_longer js s.hypothesis)) f.1) (All-tail Q s ss k) (All-tail R s ss h) c.back rest c.second l,
      )
    where
      longer : (earlier : List StepParts) (s : StepParts) → named (earlier ++ s ∷ []) ≡ named earlier ++ s.hypothesis ∷ []
      longer [] s = refl
      longer (t ∷ earlier) s = ap (λ js. t.hypothesis ∷ js) (longer earlier s)

  -- ---- keeps and the end

  keep_say : (js : List ℕ) (x : KeepParts) → AreFull T.components (length js) x.exits → All (All (IsPrinted T)) x.exits
      → Says (keep T js x.hypothesis) (keep_words T x.hypothesis ∷ list_lines T Exit 0 js x.exits) x
  keep_say js x f h =
      says_then (Line (keep_line T x.hypothesis)) (λ k. Then (numbers T Exit js) (λ exits. Say (record { hypothesis = k; exits = exits })))
      (keep_words T x.hypothesis ∷ []) (list_lines T Exit 0 js x.exits) x.hypothesis x
      (says_line (keep_line T x.hypothesis) (keep_words T x.hypothesis) x.hypothesis (keep_back T x.hypothesis))
      (subst (λ ls. Says (Then (numbers T Exit js) (λ exits. Say (record { hypothesis = x.hypothesis; exits = exits }))) ls x)
      (append-nil (list_lines T Exit 0 js x.exits))
      (says_then (numbers T Exit js) (λ exits. Say (record { hypothesis = x.hypothesis; exits = exits })) (list_lines T Exit 0 js x.exits) [] x.exits x
      (full_say Exit js x.exits f h) (says_say x)))

  keeps_say : (js : List ℕ) (before xs : List KeepParts) → ExitsFit T.components (length js) xs → All (λ x. All (All (IsPrinted T)) x.exits) xs
      → Says (each_after (keep T js) before (map (λ x. x.hypothesis) xs)) (keep_lines T js xs) (before ++ xs)
  keeps_say js before [] f h = subst (Says (each_after (keep T js) before []) []) (sym (append-nil before)) (says_say before)
  keeps_say js before (x ∷ xs) f h =
      subst (Says (each_after (keep T js) before (map (λ x. x.hypothesis) (x ∷ xs))) (keep_lines T js (x ∷ xs))) (append_assoc before (x ∷ []) xs)
      (says_then (keep T js x.hypothesis) (λ a. each_after (keep T js) (before ++ a ∷ []) (map (λ x. x.hypothesis) xs))
      (keep_words T x.hypothesis ∷ list_lines T Exit 0 js x.exits) (keep_lines T js xs) x ((before ++ x ∷ []) ++ xs)
      (keep_say js x f.0 (All-head (λ x. All (All (IsPrinted T)) x.exits) x xs h))
      (keeps_say js (before ++ x ∷ []) xs f.1 (All-tail (λ x. All (All (IsPrinted T)) x.exits) x xs h)))

  last_say : (v : ℕ) (ss : List StepParts) (xs : List KeepParts) → kept T v (named ss) ≡ map (λ x. x.hypothesis) xs
      → ExitsFit T.components (length (named ss)) xs → All (λ x. All (All (IsPrinted T)) x.exits) xs
      → Says (last T v ss) (keep_lines T (named ss) xs ++ end_words ∷ []) (record { version = v; steps = ss; keeps = xs })
  last_say v ss xs e f h =
      says_then (each_of (keep T (named ss)) (kept T v (named ss))) (λ keeps. Then (Line end_line) (λ u. Say (record { version = v; steps = ss; keeps = keeps })))
      (keep_lines T (named ss) xs) (end_words ∷ []) xs (record { version = v; steps = ss; keeps = xs })
      (subst (λ ks. Says (each_of (keep T (named ss)) ks) (keep_lines T (named ss) xs) xs) (sym e) (keeps_say (named ss) [] xs f h))
      (says_then (Line end_line) (λ u. Say (record { version = v; steps = ss; keeps = xs })) (end_words ∷ []) [] tt (record { version = v; steps = ss; keeps = xs })
      (says_line end_line end_words tt refl) (says_say (record { version = v; steps = ss; keeps = xs })))

  -- the first line after the last step is none of a step
  no_step_first : (js : List ℕ) (xs : List KeepParts) (rows : Rows) → lines_in rows ≡ keep_lines T js xs ++ end_words ∷ [] → Lacks (step_line T) rows
  no_step_first js [] rows e =
      let d = first_of_lines rows end_words [] e in subst (Lacks (step_line T)) (sym d.rows_are) (ap (step_line T) d.line_is)
  no_step_first js (x ∷ xs) rows e =
      let d = first_of_lines rows (keep_words T x.hypothesis) ((list_lines T Exit 0 js x.exits ++ keep_lines T js xs) ++ end_words ∷ []) e in
      subst (Lacks (step_line T)) (sym d.rows_are) (ap (step_line T) d.line_is)

  -- ---- the whole evidence

  whole_say : (v : ℕ) (ss : List StepParts) (xs : List KeepParts) → (v ≡ 1) ⊎ (v ≡ 2) → FlowsFit T.components 0 ss
      → kept T v (named ss) ≡ map (λ x. x.hypothesis) xs → ExitsFit T.components (length (named ss)) xs
      → All (λ s. T.position (T.name s.hypothesis) ≡ Some s.hypothesis) ss → All (λ s. All (All (IsPrinted T)) s.flows) ss
      → All (λ x. All (All (IsPrinted T)) x.exits) xs → (rows : Rows) → lines_in rows ≡ evidence_lines T v ss xs
      → IsDocument (document T) rows (record { version = v; steps = ss; keeps = xs })
  whole_say v ss xs version flows all exits names p q rows e =
      let d = first_of_lines rows (version_words v) ((step_lines T [] ss ++ keep_lines T (named ss) xs) ++ end_words ∷ []) e in
      let c = cut d.rest (step_lines T [] ss) (keep_lines T (named ss) xs ++ end_words ∷ [])
      (d.others ∙ append_assoc (step_lines T [] ss) (keep_lines T (named ss) xs) (end_words ∷ [])) in (
        v,
        d.rest,
        record { row = d.row; rows_are = d.rows_are; says = ap version_line d.line_is ∙ version_back v version },
        (
          ss,
          c.back,
          (
            ss,
            refl,
            subst (λ rs. AreMany (step_line T) (λ ys j. Is (step T ys j)) [] rs ss c.back) (sym c.rows_are)
                (steps_say [] ss [] refl flows names p c.front c.back c.first (no_step_first (named ss) xs c.back c.second)),
          ),
          says_all (last T v ss) (keep_lines T (named ss) xs ++ end_words ∷ []) (record { version = v; steps = ss; keeps = xs }) (last_say v ss xs all exits q) c.back c.second,
        ),
      )

pub lines_say : LinesSayTheirEvidence
lines_say n c T v ss xs t h p rows e =
    whole_say T v ss xs h.version (subst (λ m. FlowsFit m 0 ss) (sym t.components) h.size.flows) (kept_is h.version)
    (subst (λ m. ExitsFit m (length (named ss)) xs) (sym t.components)
    (subst (λ k. ExitsFit (length c.components) k xs) (sym (length-map ss (λ s. s.hypothesis))) h.size.exits))
    p.names p.flows p.exits rows e
  where
    kept_is : (v ≡ 1) ⊎ (v ≡ 2) → kept T v (named ss) ≡ map (λ x. x.hypothesis) xs
    kept_is (inl e) = ap (λ v. kept T v (named ss)) e ∙ sym (ap (map (λ x. x.hypothesis)) (h.none e))
    kept_is (inr e) = ap (λ v. kept T v (named ss)) e ∙ t.others_are (named ss) ∙ sym (h.all e)
