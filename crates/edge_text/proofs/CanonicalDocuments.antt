-- The canonical text of a case says that case.
use Rattle.std.proofs.Common.{append-nil, ◌≡◌, refl, sym, ap, ap₂, subst, ◌∙◌, ℕ, suc, ◌*◌, ◌<◌, ◌≤◌, ◌==◌, List}
use Rattle.std.proofs.Common.{[], ◌∷◌, ◌++◌, length, map, Bool, true, false, Option, Some, None, Result, Ok, pos, arith, append_assoc}
use Rattle.std.specs.Prelude.{codes}
use Rattle.std.specs.List.{AllByRecursion, flat_map, list_all}
use Rattle.std.specs.Fmt.{decimal}
use Rattle.std.specs.Str.{bytes_eq}
use Rattle.std.proofs.lemmas.Bool.Decides.{nat_tests, Decides-int_eq}
use Rattle.std.proofs.lemmas.List.{map-append}
use Rattle.field_core.specs.View.{terms}
use Rattle.field_core.specs.declared.ratio.Ratio.{Ratio}
use Rattle.fraction.specs.Tests.{is_one}
use Rattle.fraction.proofs.SameRatios.{same_ratio}
use Rattle.case_model.specs.declared.component.Component.{Component}
use Rattle.case_model.specs.declared.draft.Draft.{Draft}
use Rattle.case_model.specs.declared.draft_component.DraftComponent.{DraftComponent}
use Rattle.case_model.specs.declared.draft_stages.DraftStages.{DraftStages}
use Rattle.case_model.specs.declared.inputs.Inputs.{Inputs}
use Rattle.case_model.specs.declared.inputs.Inputs.TheVariants.{Bare, Single, Staged}
use Rattle.case_model.specs.declared.inputs.Stages.{Stages}
use Rattle.case_model.specs.Content.{Content, is_alone}
use Rattle.case_model.specs.Validity.{Each}
use Rattle.case_model.proofs.Holding.{both}
use Rattle.text_lines.specs.Forms.{Leaf, Say, Line, Then, May, Many, texts_seen}
use Rattle.text_lines.specs.Kinds.{keyed_line, more_lines, each_of}
use Rattle.text_lines.specs.Lines.{Row, rows_of, end_of, texts_in}
use Rattle.text_lines.specs.Spelling.{line_spelt, IsWord, IsLine}
use Rattle.text_lines.proofs.FormReads.{reading_as}
use Rattle.edge_text.specs.declared.fault.LineKind.{LineKind}
use Rattle.edge_text.specs.Document.{Lines, edge_line, further_line, block, blocks, spend, stages, after_p, document, kinds, IsText}
use Rattle.edge_text.specs.Grammar.{Words, one}
use Rattle.edge_text.specs.WordReading.{number, numbers, given, edge, count, arrival}
use Rattle.edge_text.specs.CanonicalText.{number_word, alpha_words, names_words, p_words, share_words, weights_words, stages_words, arrive_words, table_lines}
use Rattle.edge_text.specs.CanonicalText.{block_lines, blocks_lines, spends_lines, stages_lines, p_lines, late_lines, canonical_lines, canonical_text}
use Rattle.edge_text.proofs.CanonicalDrafts.{edges_from, untabled, p_of, stages_in, draft_of}
use Rattle.edge_text.proofs.CanonicalWords.{IsSaid, zip_map, number_is_word, numbers_are_words, whole_is, whole_is_word}
use Rattle.edge_text.proofs.CanonicalLines.{each_holds, keyed, line_says, line_apart, all_append, all_flat, texts_spelt, AreDistinct, IsEntry, edges_lines, edges_said}
use Rattle.edge_text.proofs.CanonicalStages.{IsSpendSaid, IsArrivalSaid, spends_lines_are, spends_said, arrive_lines_are, arrivals_said, arrivals_other}
use Rattle.text_lines.proofs.Written.{lines_in}
use Rattle.edge_text.proofs.FormSpells.{Other, Spells, spells_say, spells_line, spells_then, spells_last, spells_may, spells_other, spells_stop, spells_more, spells_lines, spelt_document}
use Rattle.edge_text.proofs.Leaves.{number_said, numbers_said, given_said, count_said}

-- what stages of `m` hypotheses need so that they are read back
pub record AreStagesSaid (m : ℕ) (s : Stages) : Type 0 where
  pub count : s.count ≤ 12
  pub as_many : length s.spend ≡ m
  pub spends : Each s.spend IsSpendSaid
  pub arrivals : Each s.arrivals (IsArrivalSaid m)

-- ---- components

-- what a component of `m` hypotheses needs so that it is read back
pub record IsComponentSaid (m : ℕ) (k : Component) : Type 0 where
  pub share : IsSaid k.share
  pub weights : Each k.weights IsSaid
  pub size : length k.edges ≡ m * m
  pub entries : Each (edges_from m 0 k.edges) (λ e. IsEntry e.entry)

one_is : (x : Ratio) → is_one (terms x) ≡ true → x ≡ one
one_is x h =
    let w = both _ _ h in
    same_ratio x one (ap₂ (λ n d. record { num = n; den = d }) ((Decides-int_eq x.num (pos 1)).0 w.left) ((Decides-int_eq x.den (pos 1)).0 w.right))

count_line : (n : ℕ) → n ≤ 12 → IsLine (stages_words n)
count_line n h = keyed _ _ (decimal n ∷ []) refl refl (whole_is_word n h, tt)

module _ (names : List (List ℕ)) (words : Each names IsWord) (apart : AreDistinct names) where
  abbrev m : ℕ
  m = length names

  weights_line : (xs : List Ratio) → IsLine (weights_words xs)
  weights_line xs = keyed _ _ (map number_word xs) refl refl (numbers_are_words xs)

  share_line : (x : Ratio) → IsLine (share_words x)
  share_line x = keyed _ _ (number_word x ∷ []) refl refl (number_is_word x, tt)

  block_are : (alone : Bool) (k : Component) → IsComponentSaid m k → AllByRecursion IsLine (block_lines names alone k)
  unfolding block_lines
  block_are true k h = (weights_line k.weights, edges_lines names words apart 0 k.edges (omega (arith, h.size)))
  block_are false k h = (share_line k.share, (weights_line k.weights, edges_lines names words apart 0 k.edges (omega (arith, h.size))))

  abbrev share_kind : Leaf (List ℕ) LineKind Ratio
  share_kind = keyed_line (codes "component") number

  -- the number of a share is said
  share_said : (x : Ratio) → IsSaid x → share_kind (line_spelt (share_words x)) ≡ Some (Ok x)
  share_said x h = line_says (codes "component") (number_word x ∷ []) number x (share_line x)
      (number_said (number_word x ∷ []) x (record { numeral = number_word x; alone = refl; says = h }))

  block_said : (k : Component) (after : List (List ℕ)) → IsComponentSaid m k → Other (edge_line names) after
      → Spells (block names k.share) (map line_spelt (weights_words k.weights ∷ table_lines names 0 k.edges)) (untabled m k) after
  block_said k after h o =
      let weights = map number_word k.weights in
      let edges = map line_spelt (table_lines names 0 k.edges) in
      spells_then (Line (keyed_line (codes "weights") numbers)) _ (line_spelt (weights_words k.weights) ∷ []) edges k.weights (untabled m k) after
      (spells_line (keyed_line (codes "weights") numbers) (line_spelt (weights_words k.weights)) k.weights (edges ++ after)
      (line_says (codes "weights") weights numbers k.weights (weights_line k.weights) (numbers_said weights k.weights (zip_map _ number_word k.weights h.weights))))
      (spells_last (more_lines (edge_line names) []) (λ es. record { share = k.share; weights = k.weights; edges = es }) edges (edges_from m 0 k.edges) after
      (spells_lines (edge_line names) [] edges (edges_from m 0 k.edges) after (edges_said names words apart 0 k.edges (omega (arith, h.size)) h.entries) o))

  -- further blocks begin with a share
  further_other : (ks : List Component) (after : List (List ℕ)) → Other (edge_line names) after
      → Other (edge_line names) (map line_spelt (flat_map (block_lines names false) ks) ++ after)
  unfolding block_lines
  further_other [] after o = o
  further_other (k ∷ ks) after o = line_apart (codes "component") (number_word k.share ∷ []) (codes "edge") (edge names (line_spelt (share_words k.share))) (share_line k.share) refl

  abbrev further : List DraftComponent → Lines (List DraftComponent)
  further ks = Many share_kind (λ ks share. block names share) ks

  further_said : (before : List DraftComponent) (ks : List Component) (after : List (List ℕ)) → Each ks (IsComponentSaid m) → Other share_kind after
      → Other (edge_line names) after
      → Spells (further before) (map line_spelt (flat_map (block_lines names false) ks)) (before ++ map (untabled m) ks) after
  unfolding block_lines
  further_said before [] after h o p =
      subst (λ xs. Spells (further before) [] xs after) (sym (append-nil before)) (spells_stop share_kind (λ ks share. block names share) before after o)
  further_said before (k ∷ ks) after h o p =
      let c = h 0 k refl in
      let lines = map line_spelt (weights_words k.weights ∷ table_lines names 0 k.edges) in
      let rest = map line_spelt (flat_map (block_lines names false) ks) in
      let x = untabled m k in
      let all = before ++ x ∷ map (untabled m) ks in
      subst (λ ls. Spells (further before) ls all after) (sym (map-append line_spelt (block_lines names false k) (flat_map (block_lines names false) ks)))
      (spells_more share_kind (λ ks share. block names share) before (line_spelt (share_words k.share)) lines rest k.share x all after (share_said k.share c.share)
      (block_said k (rest ++ after) c (further_other ks after p))
      (subst (λ xs. Spells (further (before ++ x ∷ [])) rest xs after) (append_assoc before (x ∷ []) (map (untabled m) ks))
      (further_said (before ++ x ∷ []) ks after (λ i y e. h (suc i) y e) o p)))

  pub blocks_are : (ks : List Component) → Each ks (IsComponentSaid m) → AllByRecursion IsLine (blocks_lines names ks)
  unfolding blocks_lines
  blocks_are ks h = all_flat IsLine (block_lines names (is_alone ks)) ks (λ i k e. block_are (is_alone ks) k (h i k e))

  abbrev shared : Ratio → Lines (List DraftComponent)
  shared share = Then (block names share) (λ k. further (k ∷ []))

  abbrev lone : Lines (List DraftComponent)
  lone = Then (block names one) (λ k. Say (k ∷ []))

  alone_said : (ks : List Component) (after : List (List ℕ)) → is_alone ks ≡ true → Each ks (IsComponentSaid m) → Other (edge_line names) after
      → Spells (blocks names) (map line_spelt (flat_map (block_lines names true) ks)) (map (untabled m) ks) after
  unfolding is_alone block_lines
  alone_said [] after a h o = absurd (cc)
  alone_said (k ∷ []) after a h o =
      let lines = weights_words k.weights ∷ table_lines names 0 k.edges in
      let same : k.share ≡ one = one_is k.share (both (is_one (terms k.share)) true (both true _ a).right).left in
      subst (λ ls. Spells (blocks names) (map line_spelt ls) (untabled m k ∷ []) after) (sym (append-nil lines))
      (spells_other share_kind shared lone (map line_spelt lines) (untabled m k ∷ []) after
      (line_apart (codes "weights") (map number_word k.weights) (codes "component") number (weights_line k.weights) refl)
      (spells_last (block names one) (λ x. x ∷ []) (map line_spelt lines) (untabled m k) after
      (subst (λ share. Spells (block names share) (map line_spelt lines) (untabled m k) after) same (block_said k after (h 0 k refl) o))))
  alone_said (k ∷ l ∷ ks) after a h o =
      let t = both (length (k ∷ l ∷ ks) == 1) (list_all (λ k. is_one (terms k.share)) (k ∷ l ∷ ks)) a in
      let n : length (k ∷ l ∷ ks) ≡ 1 = grind (arith, nat_tests, t.left) in
      absurd (omega arith)

  shared_said : (ks : List Component) (after : List (List ℕ)) → 0 < length ks → Each ks (IsComponentSaid m) → Other share_kind after → Other (edge_line names) after
      → Spells (blocks names) (map line_spelt (flat_map (block_lines names false) ks)) (map (untabled m) ks) after
  unfolding block_lines
  shared_said [] after some h o p = absurd (omega arith)
  shared_said (k ∷ ks) after some h o p =
      let c = h 0 k refl in
      let lines = map line_spelt (weights_words k.weights ∷ table_lines names 0 k.edges) in
      let rest = map line_spelt (flat_map (block_lines names false) ks) in
      let all = untabled m k ∷ map (untabled m) ks in
      subst (λ ls. Spells (blocks names) ls all after) (sym (map-append line_spelt (block_lines names false k) (flat_map (block_lines names false) ks)))
      (spells_may share_kind shared lone (line_spelt (share_words k.share)) (lines ++ rest) k.share all after (share_said k.share c.share)
      (spells_then (block names k.share) (λ x. further (x ∷ [])) lines rest (untabled m k) all after
      (block_said k (rest ++ after) c (further_other ks after p))
      (further_said (untabled m k ∷ []) ks after (λ i y e. h (suc i) y e) o p)))

  pub blocks_said : (ks : List Component) (after : List (List ℕ)) → 0 < length ks → Each ks (IsComponentSaid m) → Other share_kind after → Other (edge_line names) after
      → Spells (blocks names) (map line_spelt (blocks_lines names ks)) (map (untabled m) ks) after
  unfolding blocks_lines
  blocks_said ks after some h o p = by_test (is_alone ks) refl
    where
      by_test : (b : Bool) → is_alone ks ≡ b → Spells (blocks names) (map line_spelt (flat_map (block_lines names b) ks)) (map (untabled m) ks) after
      by_test true a = alone_said ks after a h p
      by_test false a = shared_said ks after some h o p

  -- blocks begin with no p-values
  pub blocks_other : (ks : List Component) (after : List (List ℕ)) → 0 < length ks
      → Other (keyed_line (codes "p") given) (map line_spelt (blocks_lines names ks) ++ after)
  unfolding blocks_lines block_lines
  blocks_other [] after some = absurd (omega arith)
  blocks_other (k ∷ ks) after some = by_test (is_alone (k ∷ ks))
    where
      by_test : (b : Bool) → Other (keyed_line (codes "p") given) (map line_spelt (flat_map (block_lines names b) (k ∷ ks)) ++ after)
      by_test true = line_apart (codes "weights") (map number_word k.weights) (codes "p") given (weights_line k.weights) refl
      by_test false = line_apart (codes "component") (number_word k.share ∷ []) (codes "p") given (share_line k.share) refl

  -- ---- stages

  pub stages_are : (s : Stages) → AreStagesSaid m s → AllByRecursion IsLine (stages_lines names s)
  unfolding stages_lines
  stages_are s h = (
    count_line s.count h.count,
    all_append IsLine (spends_lines names s.spend) (map (arrive_words names) s.arrivals) (spends_lines_are names s.spend (each_holds IsWord names words))
        (arrive_lines_are names words s.arrivals h.arrivals),
  )

  pub stages_said : (s : Stages) → AreStagesSaid m s
      → Spells (stages names) (map line_spelt (stages_lines names s)) (Some (record { count = s.count; spend = s.spend; arrivals = s.arrivals })) []
  unfolding stages_lines
  stages_said s h =
      let spends = map line_spelt (spends_lines names s.spend) in
      let arrivals = map line_spelt (map (arrive_words names) s.arrivals) in
      let line = line_spelt (stages_words s.count) in
      let arrive = keyed_line (codes "arrive") (arrival names) in
      let said : Option DraftStages = Some (record { count = s.count; spend = s.spend; arrivals = s.arrivals }) in
      subst (λ ls. Spells (stages names) (line ∷ ls) said []) (sym (map-append line_spelt (spends_lines names s.spend) (map (arrive_words names) s.arrivals)))
      (spells_may (keyed_line (codes "stages") count) _ (Say None) line (spends ++ arrivals) s.count said []
      (line_says (codes "stages") (decimal s.count ∷ []) count s.count (count_line s.count h.count)
      (count_said (decimal s.count ∷ []) s.count (record { word = decimal s.count; alone = refl; is = whole_is s.count h.count })))
      (spells_then (each_of spend names) _ spends arrivals s.spend said []
      (spends_said names [] s.spend (arrivals ++ []) (each_holds IsWord names words) apart h.as_many h.spends
      (λ name. subst (Other (further_line name)) (sym (append-nil arrivals)) (arrivals_other names words name s.arrivals h.arrivals)))
      (spells_last (more_lines arrive []) (λ xs. Some (record { count = s.count; spend = s.spend; arrivals = xs })) arrivals s.arrivals []
      (spells_lines arrive [] arrivals s.arrivals [] (arrivals_said names words apart s.arrivals h.arrivals) tt))))

-- ---- inputs

-- what the inputs of a case need so that they are read back
abbrev pub AreInputsSaid : List (List ℕ) → Inputs → Type 0
AreInputsSaid names Bare = Unit {0}
AreInputsSaid names (Single ps) = (0 < length ps) × Each ps IsSaid
AreInputsSaid names (Staged s) = AreStagesSaid (length names) s

p_line : (ps : List Ratio) → IsLine (p_words ps)
p_line ps = keyed _ _ (map number_word ps) refl refl (numbers_are_words ps)

p_are : (i : Inputs) → AllByRecursion IsLine (p_lines i)
p_are Bare = tt
p_are (Single ps) = (p_line ps, tt)
p_are (Staged s) = tt

late_are : (names : List (List ℕ)) → Each names IsWord → AreDistinct names → (i : Inputs) → AreInputsSaid names i
    → AllByRecursion IsLine (late_lines names i)
late_are names w a Bare h = tt
late_are names w a (Single ps) h = tt
late_are names w a (Staged s) h = stages_are names w a s h

no_stages_said : (names : List (List ℕ)) → Spells (stages names) [] None []
no_stages_said names = spells_other (keyed_line (codes "stages") count) _ (Say None) [] None [] tt (spells_say None [])

seen_texts : (rows : List Row) → lines_in (texts_seen rows) ≡ texts_in rows
seen_texts [] = refl
seen_texts (row ∷ rows) = ap (λ (ls : List (List ℕ)). row.text ∷ ls) (seen_texts rows)

late_said : (names : List (List ℕ)) → Each names IsWord → AreDistinct names → (i : Inputs) → AreInputsSaid names i
    → Spells (stages names) (map line_spelt (late_lines names i)) (stages_in i) []
late_said names w a Bare h = no_stages_said names
late_said names w a (Single ps) h = no_stages_said names
late_said names w a (Staged s) h = stages_said names w a s h

-- stages begin with another line than blocks
late_other : {A : Type 0} (names : List (List ℕ)) (keyword : List ℕ) (says : List ℕ → Words → Result A LineKind) (i : Inputs) → AreInputsSaid names i
    → bytes_eq (codes "stages") keyword ≡ false → Other (λ line. keyed_line keyword (says line) line) (map line_spelt (late_lines names i))
unfolding stages_lines
late_other names keyword says Bare h n = tt
late_other names keyword says (Single ps) h n = tt
late_other names keyword says (Staged s) h n =
    line_apart (codes "stages") (decimal s.count ∷ []) keyword (says (line_spelt (stages_words s.count))) (count_line s.count h.count) n

-- ---- the document

-- what a content needs so that its text is read back
pub record IsContentSaid (c : Content) : Type 0 where
  pub words : Each c.names IsWord
  pub apart : AreDistinct c.names
  pub alpha : IsSaid c.alpha
  pub some : 0 < length c.components
  pub components : Each c.components (IsComponentSaid (length c.names))
  pub inputs : AreInputsSaid c.names c.inputs

module _ (c : Content) (h : IsContentSaid c) where
  alpha_line : IsLine (alpha_words c.alpha)
  alpha_line = keyed _ _ (number_word c.alpha ∷ []) refl refl (number_is_word c.alpha, tt)

  names_line : IsLine (names_words c.names)
  names_line = keyed _ _ c.names refl refl (each_holds IsWord c.names h.words)

  lines_are : AllByRecursion IsLine (canonical_lines c)
  unfolding canonical_lines
  lines_are =
      let rest = all_append IsLine (blocks_lines c.names c.components) (late_lines c.names c.inputs)
      (blocks_are c.names h.words h.apart c.components h.components) (late_are c.names h.words h.apart c.inputs h.inputs) in
      (alpha_line, (names_line, all_append IsLine (p_lines c.inputs) (blocks_lines c.names c.components ++ late_lines c.names c.inputs) (p_are c.inputs) rest))

  abbrev late : List (List ℕ)
  late = map line_spelt (late_lines c.names c.inputs)

  abbrev body : List (List ℕ)
  body = map line_spelt (blocks_lines c.names c.components ++ late_lines c.names c.inputs)

  after_said : Spells (after_p c.alpha c.names (p_of c.inputs)) body (draft_of c) []
  after_said =
      let first = map line_spelt (blocks_lines c.names c.components) in
      let components = map (untabled (length c.names)) c.components in
      subst (λ ls. Spells (after_p c.alpha c.names (p_of c.inputs)) ls (draft_of c) []) (sym (map-append line_spelt (blocks_lines c.names c.components) (late_lines c.names c.inputs)))
      (spells_then (blocks c.names) _ first late components (draft_of c) []
      (subst (λ ls. Spells (blocks c.names) first components ls) (sym (append-nil late))
      (blocks_said c.names h.words h.apart c.components late h.some h.components
      (late_other c.names (codes "component") (λ line. number) c.inputs h.inputs refl)
      (late_other c.names (codes "edge") (λ line. edge c.names line) c.inputs h.inputs refl)))
      (spells_last (stages c.names) (λ s. record { names = c.names; alpha = c.alpha; p = p_of c.inputs; components = components; stages = s }) late (stages_in c.inputs) []
      (late_said c.names h.words h.apart c.inputs h.inputs)))

  p_other : Other (keyed_line (codes "p") given) (body ++ [])
  p_other = subst (Other (keyed_line (codes "p") given)) (sym (append-nil body))
      (subst (Other (keyed_line (codes "p") given)) (sym (map-append line_spelt (blocks_lines c.names c.components) (late_lines c.names c.inputs)))
      (blocks_other c.names h.words h.apart c.components late h.some))

  abbrev p_form : Lines Draft
  p_form = May (keyed_line (codes "p") given) (after_p c.alpha c.names) (after_p c.alpha c.names [])

  p_said : (i : Inputs) → AreInputsSaid c.names i → Spells (after_p c.alpha c.names (p_of i)) body (draft_of c) []
      → Spells p_form (map line_spelt (p_lines i) ++ body) (draft_of c) []
  p_said Bare k s = spells_other (keyed_line (codes "p") given) (after_p c.alpha c.names) (after_p c.alpha c.names []) body (draft_of c) [] p_other s
  p_said (Single ps) k s =
      let words = map number_word ps in
      spells_may (keyed_line (codes "p") given) (after_p c.alpha c.names) (after_p c.alpha c.names []) (line_spelt (p_words ps)) body (map Some ps) (draft_of c) []
      (line_says (codes "p") words given (map Some ps) (p_line ps)
      (given_said words (map Some ps) (ps, record { each = zip_map _ number_word ps k.1; some = k.0 }, refl))) s
  p_said (Staged t) k s = spells_other (keyed_line (codes "p") given) (after_p c.alpha c.names) (after_p c.alpha c.names []) body (draft_of c) [] p_other s

  document_said : Spells document (map line_spelt (canonical_lines c)) (draft_of c) []
  unfolding canonical_lines
  document_said =
      let rest = map line_spelt (p_lines c.inputs ++ (blocks_lines c.names c.components ++ late_lines c.names c.inputs)) in
      spells_then (Line (keyed_line (codes "alpha") number)) _ (line_spelt (alpha_words c.alpha) ∷ []) (line_spelt (names_words c.names) ∷ rest) c.alpha (draft_of c) []
      (spells_line (keyed_line (codes "alpha") number) (line_spelt (alpha_words c.alpha)) c.alpha ((line_spelt (names_words c.names) ∷ rest) ++ [])
      (line_says (codes "alpha") (number_word c.alpha ∷ []) number c.alpha alpha_line
      (number_said (number_word c.alpha ∷ []) c.alpha (record { numeral = number_word c.alpha; alone = refl; says = h.alpha }))))
      (spells_then (Line (keyed_line (codes "hypotheses") (λ words. Ok words))) _ (line_spelt (names_words c.names) ∷ []) rest c.names (draft_of c) []
      (spells_line (keyed_line (codes "hypotheses") (λ words. Ok words)) (line_spelt (names_words c.names)) c.names (rest ++ [])
      (line_says (codes "hypotheses") c.names (λ words. Ok words) c.names names_line refl))
      (subst (λ ls. Spells p_form ls (draft_of c) []) (sym (map-append line_spelt (p_lines c.inputs) (blocks_lines c.names c.components ++ late_lines c.names c.inputs)))
      (p_said c.inputs h.inputs after_said)))

  pub canonical_says : IsText (canonical_text c) (draft_of c)
  unfolding canonical_text
  canonical_says =
      let rows = rows_of (canonical_text c) in
      (reading_as kinds document (texts_seen rows) (end_of (canonical_text c)) (draft_of c)).1
      (spelt_document document (map line_spelt (canonical_lines c)) (draft_of c) (texts_seen rows) document_said
      (seen_texts rows ∙ texts_spelt (canonical_lines c) lines_are))
