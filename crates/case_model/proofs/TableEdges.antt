-- What holds of the edges of a draft holds of the entries of their table, and the other way round.
use Rattle.std.proofs.Common.{◌≡◌, ◌↔◌, refl, sym, ap, ap₂, subst, ◌∙◌, ℕ, zero, suc, ◌+◌, ◌*◌, ◌/◌, ◌%◌, ◌==◌, ◌<◌, List, [], ◌∷◌}
use Rattle.std.proofs.Common.{Bool, true, false, cond, Option, Some, None, slice_get, get_or, nat_lt, arith}
use Rattle.std.proofs.Math.Nat.{div-lt_iff_lt-mul}
use Rattle.std.proofs.lemmas.Bool.Decides.{nat_tests, Decides-eqb, Decides-and}
use Rattle.std.proofs.lemmas.List.FromFn.{get_or-map-range_with_len}
use Rattle.std.proofs.lemmas.Nat.{mul-add-lt, div-mul-add, mod-mul-add}
use Rattle.std.specs.Bool.{Decides}
use Rattle.std.specs.List.{list_all}
use Rattle.field_core.specs.declared.ratio.Ratio.{Ratio}
use Rattle.case_model.specs.declared.draft_edge.DraftEdge.{DraftEdge}
use Rattle.case_model.specs.Draft.{goes_between, has_ends}
use Rattle.case_model.specs.Entries.{entry_at, no_edge}
use Rattle.case_model.specs.Content.{edge_between, table_of}
use Rattle.case_model.specs.Validity.{Each, EachTwo, IsValidEdge, IsValidComponent}
use Rattle.case_model.specs.declared.component.Component.{Component}
use Rattle.case_model.proofs.DraftTests.{all_each, false_from}
use Rattle.case_model.proofs.Holding.{both}
use Rattle.case_model.proofs.TablePlaces.{edge_between-more, edge_between-none}

-- the entry of a table is that of the draft's edge
pub entry_at-table_of : (m : ℕ) (es : List DraftEdge) (i j : ℕ) → i < m → j < m → entry_at m (table_of m es) i j ≡ edge_between es i j
unfolding entry_at table_of
entry_at-table_of m es i j h k =
    get_or-map-range_with_len (λ k. edge_between es (k / m) (k % m)) 0 (m * m) (i * m + j) (i * m + j) no_edge (omega (arith, mul-add-lt i m j m h k))
    (omega arith)
    ∙ ap₂ (edge_between es) (div-mul-add i m j k) (mod-mul-add i m j k)

-- no two edges have the same ends
abbrev pub AreApart : List DraftEdge → Type 0
AreApart es = EachTwo es (λ e f. ¬ ((e.from ≡ f.from) × (e.to ≡ f.to)))

has_them : (i j : ℕ) (e : DraftEdge) → Decides (has_ends i j e) ((e.from ≡ i) × (e.to ≡ j))
has_them i j e = Decides-and (e.from == i) (e.to == j) (Decides-eqb e.from i) (Decides-eqb e.to j)

-- the first edge that has the ends of an edge is this edge
first_is : (es : List DraftEdge) → AreApart es → (n : ℕ) (e : DraftEdge) → slice_get es n ≡ Some e → edge_between es e.from e.to ≡ e.entry
first_is [] apart zero e q = absurd (let p : Path (Option DraftEdge) None (Some e) = q in cc)
first_is [] apart (suc n) e q = absurd (let p : Path (Option DraftEdge) None (Some e) = q in cc)
first_is (x ∷ es) apart zero e q =
    let same : x ≡ e = let p : Path (Option DraftEdge) (Some x) (Some e) = q in cc in
    let ends : has_ends e.from e.to x ≡ true = (has_them e.from e.to x).1 (ap (λ e. e.from) same, ap (λ e. e.to) same) in
    sym (edge_between-more x es e.from e.to) ∙ ap (λ b. cond b x.entry (edge_between es e.from e.to)) ends ∙ ap (λ e. e.entry) same
first_is (x ∷ es) apart (suc n) e q =
    let other : has_ends e.from e.to x ≡ false = false_from (has_ends e.from e.to x) (has_them e.from e.to x) (apart 0 (suc n) x e (omega arith) refl q) in
    sym (edge_between-more x es e.from e.to) ∙ ap (λ b. cond b x.entry (edge_between es e.from e.to)) other
    ∙ first_is es (λ i j y z l f g. apart (suc i) (suc j) y z (omega arith) f g) n e q

module _ (P : ℕ → ℕ → List Ratio → Type 0) (none : (i j : ℕ) → P i j no_edge) where
  between : (es : List DraftEdge) → Each es (λ e. P e.from e.to e.entry) → (i j : ℕ) → P i j (edge_between es i j)
  between [] h i j = subst (P i j) (sym (edge_between-none i j)) (none i j)
  between (e ∷ es) h i j = subst (P i j) (edge_between-more e es i j) (by (has_ends i j e) (has_them i j e) (between es (λ n x q. h (suc n) x q) i j))
    where
      by : (b : Bool) → Decides b ((e.from ≡ i) × (e.to ≡ j)) → P i j (edge_between es i j) → P i j (cond b e.entry (edge_between es i j))
      by true d rest = let w = d.0 refl in subst (λ i. P i j e.entry) w.0 (subst (λ j. P e.from j e.entry) w.1 (h 0 e refl))
      by false d rest = rest

  -- of distinct edges between `m` hypotheses the same holds as of their table
  pub edges_agree : (m : ℕ) (es : List DraftEdge) → list_all (goes_between m) es ≡ true → AreApart es
      → Each es (λ e. P e.from e.to e.entry) ↔ ((i j : ℕ) → i < m → j < m → P i j (entry_at m (table_of m es) i j))
  edges_agree m es ends apart = (
    λ h i j k l. subst (P i j) (sym (entry_at-table_of m es i j k l)) (between es h i j),
    λ h n e q.
        let w = both (nat_lt e.from m) (nat_lt e.to m) (all_each (goes_between m) es ends n e q) in
        let from : e.from < m = grind (arith, nat_tests, w.left) in
        let to : e.to < m = grind (arith, nat_tests, w.right) in
        subst (P e.from e.to) (entry_at-table_of m es e.from e.to from to ∙ first_is es apart n e q) (h e.from e.to from to),
  )

-- at each place of the table of a valid component is a valid edge
pub edge_at_place : (m : ℕ) (k : Component) → IsValidComponent m k → 0 < m → (n : ℕ) → n < m * m
    → IsValidEdge (n / m) (n % m) (get_or k.edges n no_edge)
unfolding entry_at
edge_at_place m k v some n h =
    let row : n / m < m = (div-lt_iff_lt-mul some).1 h in
    let same : n / m * m + n % m ≡ n = omega arith in
    subst (λ p. IsValidEdge (n / m) (n % m) (get_or k.edges p no_edge)) same (v.edges (n / m) (n % m) row (omega arith))
