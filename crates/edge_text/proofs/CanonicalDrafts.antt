-- The draft that the canonical text of a case says, and that it has the content of the case.
use Rattle.std.proofs.Common.{◌≡◌, ◌≢◌, refl, sym, ap, ap₂, subst, ◌∙◌, ℕ, zero, suc, ◌+◌, ◌*◌, ◌/◌, ◌%◌, ◌<◌}
use Rattle.std.proofs.Common.{◌==◌, inl, inr, List, [], ◌∷◌, length, replicate, map, get_or, Bool, true, false, Option, Some, None, pos, arith}
use Rattle.std.proofs.lemmas.Bool.{cases_Bool}
use Rattle.std.proofs.lemmas.Bool.Decides.{nat_tests, Decides-int_eq}
use Rattle.std.proofs.lemmas.List.{same_lists, get_or_default}
use Rattle.std.proofs.lemmas.List.FromFn.{length-map-range_with_len, get_or-map-range_with_len}
use Rattle.std.specs.List.{list_all, range_with_len}
use Rattle.fraction.proofs.AtOnce.{den_of_zero}
use Rattle.field_core.specs.View.{terms}
use Rattle.field_core.specs.declared.ratio.Ratio.{Ratio}
use Rattle.fraction.specs.Tests.{is_zero}
use Rattle.fraction.proofs.SameRatios.{same_ratio}
use Rattle.case_model.specs.Sums.{zero_ratio}
use Rattle.case_model.specs.declared.component.Component.{Component}
use Rattle.case_model.specs.declared.draft.Draft.{Draft}
use Rattle.case_model.specs.declared.draft_component.DraftComponent.{DraftComponent}
use Rattle.case_model.specs.declared.draft_edge.DraftEdge.{DraftEdge}
use Rattle.case_model.specs.declared.draft_stages.DraftStages.{DraftStages}
use Rattle.case_model.specs.declared.inputs.Inputs.{Inputs}
use Rattle.case_model.specs.declared.inputs.Inputs.TheVariants.{Bare, Single, Staged}
use Rattle.case_model.specs.Draft.{has_ends}
use Rattle.case_model.specs.Entries.{no_edge, is_zero_entry}
use Rattle.case_model.specs.Content.{Content, content_of, edge_between, table_of, tabled, given, inputs_of, has_coefficients}
use Rattle.case_model.proofs.Holding.{both}

-- ---- the draft

-- the edge at a place of a table of `m` rows and columns
abbrev pub edge_at : ℕ → ℕ → List Ratio → DraftEdge
edge_at m place entry = record { from = place / m; to = place % m; entry = entry }

-- an edge in front of others, where it isn't 0
abbrev pub before : Bool → DraftEdge → List DraftEdge → List DraftEdge
before true edge edges = edges
before false edge edges = edge ∷ edges

-- the edges of a table that aren't 0, in its order; the first entry has this place
abbrev pub edges_from : ℕ → ℕ → List (List Ratio) → List DraftEdge
edges_from m place [] = []
edges_from m place (entry ∷ entries) = before (is_zero_entry entry) (edge_at m place entry) (edges_from m (place + 1) entries)

abbrev pub untabled : ℕ → Component → DraftComponent
untabled m k = record { share = k.share; weights = k.weights; edges = edges_from m 0 k.edges }

abbrev pub p_of : Inputs → List (Option Ratio)
p_of Bare = []
p_of (Single ps) = map Some ps
p_of (Staged s) = []

abbrev pub stages_in : Inputs → Option DraftStages
stages_in Bare = None
stages_in (Single ps) = None
stages_in (Staged s) = Some (record { count = s.count; spend = s.spend; arrivals = s.arrivals })

abbrev pub draft_of : Content → Draft
draft_of c = record {
  names = c.names;
  alpha = c.alpha;
  p = p_of c.inputs;
  components = map (untabled (length c.names)) c.components;
  stages = stages_in c.inputs;
}

-- ---- an absent edge is none

zero_is : (x : Ratio) → is_zero (terms x) ≡ true → x ≡ zero_ratio
zero_is x h =
    let n : x.num ≡ pos 0 = (Decides-int_eq x.num (pos 0)).0 h in
    same_ratio x zero_ratio (ap₂ (λ n d. record { num = n; den = d }) n (den_of_zero (terms x) x.valid n))

zeros_are : (n : ℕ) (xs : List Ratio) → length xs ≡ n → list_all (λ x. is_zero (terms x)) xs ≡ true → xs ≡ replicate n zero_ratio
zeros_are zero [] l h = refl
zeros_are zero (x ∷ xs) l h = absurd (omega arith)
zeros_are (suc n) [] l h = absurd (omega arith)
zeros_are (suc n) (x ∷ xs) l h =
    let b = both (is_zero (terms x)) (list_all (λ x. is_zero (terms x)) xs) h in
    let m : length xs ≡ n = omega arith in
    ap₂ ◌∷◌ (zero_is x b.left) (zeros_are n xs m b.right)

pub absent_is : (e : List Ratio) → length e ≡ 5 → is_zero_entry e ≡ true → e ≡ no_edge
unfolding is_zero_entry
absent_is e l h = zeros_are 5 e l h

-- ---- the table of the edges

abbrev pub five : List Ratio → Bool
five e = length e == 5

module _ (m : ℕ) (some : 0 < m) where
  same_ends : (p : ℕ) (e : List Ratio) → has_ends (p / m) (p % m) (edge_at m p e) ≡ true
  same_ends p e = grind (arith, nat_tests)

  other_ends : (p k : ℕ) (e : List Ratio) → p ≢ k → has_ends (k / m) (k % m) (edge_at m p e) ≡ false
  other_ends p k e n = elim (cases_Bool (has_ends (k / m) (k % m) (edge_at m p e))) [
    | inl t ↦
        let b = both (p / m == k / m) (p % m == k % m) t in
        let row : p / m ≡ k / m = grind (arith, nat_tests, b.left) in
        let column : p % m ≡ k % m = grind (arith, nat_tests, b.right) in
        let rows : p / m * m ≡ k / m * m = ap (λ q. q * m) row in
        let same : p ≡ k = omega arith in
        absurd (n same)
    | inr f ↦ f
  ]

  found_first : (p : ℕ) (e : List Ratio) (es : List DraftEdge) → edge_between (edge_at m p e ∷ es) (p / m) (p % m) ≡ e
  unfolding edge_between
  found_first p e es = rw (same_ends p e) refl

  found_later : (p k : ℕ) (e : List Ratio) (es : List DraftEdge) → p ≢ k
      → edge_between (edge_at m p e ∷ es) (k / m) (k % m) ≡ edge_between es (k / m) (k % m)
  unfolding edge_between
  found_later p k e es n = rw (other_ends p k e n) refl

  found_before : (b : Bool) (p k : ℕ) (e : List Ratio) (es : List DraftEdge) → p ≢ k
      → edge_between (before b (edge_at m p e) es) (k / m) (k % m) ≡ edge_between es (k / m) (k % m)
  found_before true p k e es n = refl
  found_before false p k e es n = found_later p k e es n

  none_found : (k : ℕ) → edge_between [] (k / m) (k % m) ≡ no_edge
  unfolding edge_between
  none_found k = refl

  beyond : (p k : ℕ) (es : List (List Ratio)) → k < p → edge_between (edges_from m p es) (k / m) (k % m) ≡ no_edge
  beyond p k [] h = none_found k
  beyond p k (e ∷ es) h =
      let next : k < p + 1 = omega arith in
      let other : p ≢ k = λ q. omega arith in
      found_before (is_zero_entry e) p k e (edges_from m (p + 1) es) other ∙ beyond (p + 1) k es next

  here : (b : Bool) (p : ℕ) (e : List Ratio) (es : List (List Ratio)) → is_zero_entry e ≡ b → length e ≡ 5
      → edge_between (before b (edge_at m p e) (edges_from m (p + 1) es)) (p / m) (p % m) ≡ e
  here true p e es h l = let next : p < p + 1 = omega arith in beyond (p + 1) p es next ∙ sym (absent_is e l h)
  here false p e es h l = found_first p e (edges_from m (p + 1) es)

  found : (p n k : ℕ) (es : List (List Ratio)) → p + n ≡ k → list_all five es ≡ true
      → edge_between (edges_from m p es) (k / m) (k % m) ≡ get_or es n no_edge
  found p n k [] e h = none_found k
  found p zero k (x ∷ es) e h =
      let at : p ≡ k = omega arith in
      let l : length x ≡ 5 = grind (arith, nat_tests, (both (five x) (list_all five es) h).left) in
      subst (λ k. edge_between (edges_from m p (x ∷ es)) (k / m) (k % m) ≡ x) at (here (is_zero_entry x) p x es refl l)
  found p (suc n) k (x ∷ es) e h =
      let other : p ≢ k = λ q. omega arith in
      let next : p + 1 + n ≡ k = omega arith in
      found_before (is_zero_entry x) p k x (edges_from m (p + 1) es) other ∙ found (p + 1) n k es next (both (five x) (list_all five es) h).right

  pub table_back : (table : List (List Ratio)) → length table ≡ m * m → list_all five table ≡ true → table_of m (edges_from m 0 table) ≡ table
  unfolding table_of
  table_back table l h =
      same_lists (map (λ k. edge_between (edges_from m 0 table) (k / m) (k % m)) (range_with_len 0 (m * m))) table
      (length-map-range_with_len _ 0 (m * m) ∙ sym l) at
    where
      at : (k : ℕ) (d : List Ratio) → k < length (map (λ k. edge_between (edges_from m 0 table) (k / m) (k % m)) (range_with_len 0 (m * m)))
          → get_or (map (λ k. edge_between (edges_from m 0 table) (k / m) (k % m)) (range_with_len 0 (m * m))) k d ≡ get_or table k d
      at k d q =
          let n : k < m * m = omega (arith, length-map-range_with_len (λ k. edge_between (edges_from m 0 table) (k / m) (k % m)) 0 (m * m)) in
          let w : k < length table = omega (arith, l) in
          get_or-map-range_with_len (λ k. edge_between (edges_from m 0 table) (k / m) (k % m)) 0 (m * m) k k d n (omega arith)
          ∙ found 0 k k table (omega arith) h ∙ get_or_default table k no_edge d w

-- ---- the content of the draft

tables_back : (m : ℕ) → 0 < m → (ks : List Component) → list_all (λ k. length k.edges == m * m) ks ≡ true
    → list_all (λ k. list_all five k.edges) ks ≡ true → map (tabled m) (map (untabled m) ks) ≡ ks
tables_back m some [] h g = refl
tables_back m some (k ∷ ks) h g =
    let a = both (length k.edges == m * m) (list_all (λ k. length k.edges == m * m) ks) h in
    let b = both (list_all five k.edges) (list_all (λ k. list_all five k.edges) ks) g in
    let size : length k.edges ≡ m * m = grind (arith, nat_tests, a.left) in
    ap₂ ◌∷◌ (ap (λ es. record { share = k.share; weights = k.weights; edges = es }) (table_back m some k.edges size b.left))
    (tables_back m some ks a.right b.right)

given_back : (ps : List Ratio) → given (map Some ps) ≡ ps
unfolding given
given_back [] = refl
given_back (p ∷ ps) = ap (λ qs. p ∷ qs) (given_back ps)

single_back : (ps : List Ratio) → 0 < length ps → inputs_of None (map Some ps) ≡ Single ps
single_back [] h = absurd (omega arith)
single_back (p ∷ ps) h = ap Single (given_back (p ∷ ps))

abbrev pub SomeValues : Inputs → Type 0
SomeValues Bare = Unit {0}
SomeValues (Single ps) = 0 < length ps
SomeValues (Staged s) = Unit {0}

inputs_back : (i : Inputs) → SomeValues i → inputs_of (stages_in i) (p_of i) ≡ i
inputs_back Bare h = refl
inputs_back (Single ps) h = single_back ps h
inputs_back (Staged s) h = refl

pub content_back : (c : Content) → 0 < length c.names → list_all (λ k. length k.edges == length c.names * length c.names) c.components ≡ true
    → has_coefficients c.components ≡ true → SomeValues c.inputs → content_of (draft_of c) ≡ c
unfolding content_of has_coefficients
content_back c some tables five v =
    ap₂ (λ ks i. record { names = c.names; alpha = c.alpha; components = ks; inputs = i })
    (tables_back (length c.names) some c.components tables five) (inputs_back c.inputs v)
