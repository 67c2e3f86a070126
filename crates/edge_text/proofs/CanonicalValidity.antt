-- The draft that the canonical text of a case says has the content of the case, and no fault.
use Rattle.std.proofs.Common.{◌≡◌, refl, sym, ap, subst, ◌∙◌, ℕ, zero, suc, ◌+◌, ◌*◌, ◌/◌, ◌%◌, ◌<◌, ◌==◌, inl, inr, List, [], ◌∷◌}
use Rattle.std.proofs.Common.{length, map, get_or, slice_get, nat_lt, Bool, true, false, Option, Some, None, arith}
use Rattle.std.proofs.Math.Nat.{div-lt_iff_lt-mul}
use Rattle.std.proofs.lemmas.Bool.{and_from}
use Rattle.std.proofs.lemmas.Bool.Decides.{nat_tests}
use Rattle.std.proofs.lemmas.List.{length-map}
use Rattle.std.proofs.lemmas.Option.{slice_get-map}
use Rattle.std.specs.List.{list_all}
use Rattle.std.specs.Option.{option_map, option_map_or}
use Rattle.field_core.specs.declared.ratio.Ratio.{Ratio}
use Rattle.case_model.specs.declared.draft_edge.DraftEdge.{DraftEdge}
use Rattle.case_model.specs.declared.inputs.Inputs.{Inputs}
use Rattle.case_model.specs.declared.inputs.Inputs.TheVariants.{Bare, Single, Staged}
use Rattle.case_model.specs.Draft.{goes_between, have_known_ends, have_known_arrivals, arrives_among}
use Rattle.case_model.specs.Entries.{no_edge, is_zero_entry}
use Rattle.case_model.specs.Content.{Content, content_of, has_coefficients}
use Rattle.case_model.specs.CaseFaults.{case_fault}
use Rattle.case_model.specs.Validity.{Each, EachTwo, AreValidInputs, IsValidContent, IsOneCase}
use Rattle.case_model.proofs.DraftTests.{each_all}
use Rattle.case_model.proofs.DraftValidity.{no_fault}
use Rattle.edge_text.proofs.CanonicalDrafts.{edge_at, before, edges_from, untabled, stages_in, draft_of, SomeValues, content_back}

-- ---- items of lists

some_same : {A : Type 0} (x y : A) → Path (Option A) (Some x) (Some y) → x ≡ y
some_same x y e = cc

no_item : {A : Type 0} (i : ℕ) (x : A) → slice_get [] i ≡ Some x → ⊥
no_item zero x e = let q : Path (Option _) None (Some x) = e in cc
no_item (suc i) x e = let q : Path (Option _) None (Some x) = e in cc

pub each_cons : {A : Type 0} (P : A → Type 0) (x : A) (xs : List A) → P x → Each xs P → Each (x ∷ xs) P
each_cons P x xs p h zero y e = subst P (some_same x y e) p
each_cons P x xs p h (suc i) y e = h i y e

pub two_cons : {A : Type 0} (P : A → A → Type 0) (x : A) (xs : List A) → Each xs (P x) → EachTwo xs P → EachTwo (x ∷ xs) P
two_cons P x xs p h zero zero y z l e f = absurd (omega arith)
two_cons P x xs p h zero (suc j) y z l e f = subst (λ w. P w z) (some_same x y e) (p j z f)
two_cons P x xs p h (suc i) zero y z l e f = absurd (omega arith)
two_cons P x xs p h (suc i) (suc j) y z l e f = h i j y z (omega arith) e f

found_from : {A B : Type 0} (f : A → B) (o : Option A) (y : B) → option_map f o ≡ Some y → (x : A) × (o ≡ Some x) × (f x ≡ y)
found_from f None y e = absurd (let q : Path (Option _) None (Some y) = e in cc)
found_from f (Some x) y e = (x, refl, some_same (f x) y e)

mapped_from : {A B : Type 0} (f : A → B) (xs : List A) (i : ℕ) (y : B) → slice_get (map f xs) i ≡ Some y → (x : A)
    × (slice_get xs i ≡ Some x) × (f x ≡ y)
mapped_from f xs i y e = found_from f (slice_get xs i) y (sym (slice_get-map f xs i) ∙ e)

pub each_map : {A B : Type 0} (f : A → B) (P : B → Type 0) (xs : List A) → ((i : ℕ) (x : A) → slice_get xs i ≡ Some x → P (f x))
    → Each (map f xs) P
each_map f P xs h i y e = let r = mapped_from f xs i y e in subst P r.2 (h i r.0 r.1)

-- ---- edges of a table

-- what holds of each edge of a table holds of those that aren't 0
pub edges_each : (P : DraftEdge → Type 0) (m p : ℕ) (table : List (List Ratio))
    → ((n q : ℕ) → p + n ≡ q → n < length table → is_zero_entry (get_or table n no_edge) ≡ false
    → P (edge_at m q (get_or table n no_edge))) → Each (edges_from m p table) P
edges_each P m p [] h = λ i x e. absurd (no_item i x e)
edges_each P m p (e ∷ es) h = by_test (is_zero_entry e) refl (edges_each P m (p + 1) es (λ n q s l a. h (suc n) q (omega arith) (omega arith) a))
  where
    by_test : (b : Bool) → is_zero_entry e ≡ b → Each (edges_from m (p + 1) es) P → Each (before b (edge_at m p e) (edges_from m (p + 1) es)) P
    by_test true t rest = rest
    by_test false t rest = each_cons P (edge_at m p e) (edges_from m (p + 1) es) (h 0 p (omega arith) (omega arith) t) rest

-- no two of them have the same ends
abbrev AreApart : DraftEdge → DraftEdge → Type 0
AreApart e f = ¬ ((e.from ≡ f.from) × (e.to ≡ f.to))

apart : (m : ℕ) → 0 < m → (p q : ℕ) → p < q → (p / m ≡ q / m) × (p % m ≡ q % m) → ⊥
apart m some p q l e =
    let rows : p / m * m ≡ q / m * m = ap (λ k. k * m) e.0 in
    let columns : p % m ≡ q % m = e.1 in
    omega arith

once_each : (m p : ℕ) (table : List (List Ratio)) → 0 < m → EachTwo (edges_from m p table) AreApart
once_each m p [] some = λ i j x y l e f. absurd (no_item i x e)
once_each m p (e ∷ es) some = by_test (is_zero_entry e) (once_each m (p + 1) es some)
  where
    by_test : (b : Bool) → EachTwo (edges_from m (p + 1) es) AreApart → EachTwo (before b (edge_at m p e) (edges_from m (p + 1) es)) AreApart
    by_test true rest = rest
    by_test false rest = two_cons AreApart (edge_at m p e) (edges_from m (p + 1) es)
        (edges_each (AreApart (edge_at m p e)) m (p + 1) es (λ n q s l a. apart m some p q (omega arith))) rest

-- a place of a table of `m` rows and columns is in one of its rows and columns
pub place_within : (m q : ℕ) → 0 < m → q < m * m → (q / m < m) × (q % m < m)
place_within m q some h = ((div-lt_iff_lt-mul some).1 h, omega arith)

edges_within : (m : ℕ) (table : List (List Ratio)) → 0 < m → length table ≡ m * m → list_all (goes_between m) (edges_from m 0 table) ≡ true
edges_within m table some size = each_all (goes_between m) (edges_from m 0 table)
    (edges_each (λ e. goes_between m e ≡ true) m 0 table (λ n q s l a.
    let w = place_within m q some (omega arith) in
    let row : q / m < m = w.0 in
    let column : q % m < m = w.1 in
    and_from (nat_lt (q / m) m) _ (grind (arith, nat_tests, row)) (grind (arith, nat_tests, column))))

-- ---- inputs

no_none : (ps : List Ratio) (i : ℕ) → slice_get (map Some ps) i ≡ Some None → ⊥
no_none ps i e = let r = mapped_from Some ps i None e in let q : Path (Option Ratio) (Some r.0) None = r.2 in cc

some_values : (m : ℕ) (alpha : Ratio) (i : Inputs) → 0 < m → AreValidInputs m alpha i → SomeValues i
some_values m alpha Bare some v = tt
some_values m alpha (Single ps) some v = let n : length ps ≡ m = v.count in omega arith
some_values m alpha (Staged s) some v = tt

known_arrivals : (m : ℕ) (alpha : Ratio) (i : Inputs) → AreValidInputs m alpha i
    → option_map_or (λ s. list_all (arrives_among m) s.arrivals) (stages_in i) true ≡ true
known_arrivals m alpha Bare v = refl
known_arrivals m alpha (Single ps) v = refl
known_arrivals m alpha (Staged s) v = each_all (arrives_among m) s.arrivals (λ k a e. let h = v.known k a e in grind (arith, nat_tests, h))

one_case : (c : Content) → IsValidContent c → IsOneCase (draft_of c)
one_case c v = by c.inputs v.inputs
  where
    once : Each (map (untabled (length c.names)) c.components) (λ k. EachTwo k.edges AreApart)
    once = each_map (untabled (length c.names)) (λ k. EachTwo k.edges AreApart) c.components (λ i k e. once_each (length c.names) 0 k.edges v.names.some)

    by : (i : Inputs) → AreValidInputs (length c.names) c.alpha i → IsOneCase (draft_of (record c { inputs = i }))
    by Bare w = record { once = once; count = inl refl; all = λ i j p e f. no_item j None f; unmixed = λ s e. refl }
    by (Single ps) w = record { once = once; count = inr (length-map ps Some ∙ w.count); all = λ i j p e f. no_none ps j f; unmixed = λ s e. absurd (cc e) }
    by (Staged s) w = record { once = once; count = inl refl; all = λ i j p e f. no_item j None f; unmixed = λ s e. refl }

-- ---- the draft

module _ (c : Content) (v : IsValidContent c) (h : has_coefficients c.components ≡ true) where
  abbrev m : ℕ
  m = length c.names

  known_ends : have_known_ends (draft_of c) ≡ true
  unfolding have_known_ends
  known_ends = each_all (λ k. list_all (goes_between m) k.edges) (map (untabled m) c.components)
      (each_map (untabled m) (λ k. list_all (goes_between m) k.edges ≡ true) c.components
      (λ i k e. edges_within m k.edges v.names.some (v.components i k e).size))

  known : have_known_arrivals (draft_of c) ≡ true
  unfolding have_known_arrivals
  known = known_arrivals m c.alpha c.inputs v.inputs

  pub same_content : content_of (draft_of c) ≡ c
  same_content = content_back c v.names.some
      (each_all (λ k. length k.edges == m * m) c.components (λ i k e. let n : length k.edges ≡ m * m = (v.components i k e).size in grind (arith, nat_tests)))
      h (some_values m c.alpha c.inputs v.names.some v.inputs)

  -- the draft of a valid content has no fault
  pub canonical_faultless : case_fault (draft_of c) ≡ None
  canonical_faultless = no_fault (draft_of c) known_ends known (subst IsValidContent (sym same_content) v) (one_case c v)
