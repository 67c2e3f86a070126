-- Places of edges in tables.
use Rattle.std.proofs.Common.{◌≡◌, refl, sym, ap, ◌∙◌, ℕ, ◌+◌, ◌*◌, ◌/◌, ◌%◌, ◌==◌, ◌<◌, ◌≤◌, List, [], ◌∷◌}
use Rattle.std.proofs.Common.{◌++◌, length, get_or, Bool, true, false, ◌||◌, cond, Option, Some, arith, inl, inr, nat_lt}
use Rattle.std.proofs.Math.ListN.{set}
use Rattle.std.proofs.Math.Nat.{mul-le-mul_right}
use Rattle.std.proofs.lemmas.Bool.Decides.{nat_tests}
use Rattle.std.proofs.lemmas.List.{get_or-set_same, get_or-set_other}
use Rattle.std.proofs.lemmas.Nat.{mul-add-lt, div-mul-add, mod-mul-add}
use Rattle.std.specs.List.{list_any, find}
use Rattle.std.specs.Option.{option_map_or}
use Rattle.field_core.proofs.Live.{true_or_false}
use Rattle.case_model.specs.declared.draft_edge.DraftEdge.{DraftEdge}
use Rattle.case_model.specs.Draft.{goes_between, has_ends}
use Rattle.case_model.specs.Entries.{no_edge}
use Rattle.case_model.specs.Content.{edge_between}
use Rattle.case_model.proofs.Holding.{both}

pub table_size : (m : ℕ) → m ≤ 64 → m * m ≤ 4096
table_size m h =
    let rows : m * m ≤ 64 * m = mul-le-mul_right m h in
    omega (arith, h)

module _ (m : ℕ) (e : DraftEdge) (ends : goes_between m e ≡ true) where
  from_below : e.from < m
  from_below = grind (arith, nat_tests, (both (nat_lt e.from m) (nat_lt e.to m) ends).left)

  to_below : e.to < m
  to_below = grind (arith, nat_tests, (both (nat_lt e.from m) (nat_lt e.to m) ends).right)

  pub place_within : e.from * m + e.to < m * m
  place_within = mul-add-lt e.from m e.to m from_below to_below

  pub place_row : (e.from * m + e.to) / m ≡ e.from
  place_row = div-mul-add e.from m e.to to_below

  pub place_column : (e.from * m + e.to) % m ≡ e.to
  place_column = mod-mul-add e.from m e.to to_below

  at_place : (k : ℕ) → e.from * m + e.to ≡ k → has_ends (k / m) (k % m) e ≡ true
  at_place k same =
      let row : e.from ≡ k / m = sym place_row ∙ ap (λ n. n / m) same in
      let column : e.to ≡ k % m = sym place_column ∙ ap (λ n. n % m) same in
      grind (arith, nat_tests)

  off_place : (k : ℕ) → has_ends (k / m) (k % m) e ≡ true → e.from * m + e.to ≡ k
  off_place k has =
      let b = both (e.from == k / m) (e.to == k % m) has in
      let row : e.from ≡ k / m = grind (arith, nat_tests, b.left) in
      let column : e.to ≡ k % m = grind (arith, nat_tests, b.right) in
      let below = to_below in
      let rows : e.from * m ≡ k / m * m = ap (λ n. n * m) row in
      omega arith

  -- what is written at the place of the edge is read there, and at no other place
  pub set_place : {A : Type 0} (xs : List A) (x d : A) (k : ℕ) → e.from * m + e.to < length xs
      → get_or (set xs (e.from * m + e.to) x) k d ≡ cond (has_ends (k / m) (k % m) e) x (get_or xs k d)
  set_place xs x d k within = elim (true_or_false (has_ends (k / m) (k % m) e)) [
    | inl has ↦ ap (λ k. get_or (set xs (e.from * m + e.to) x) k d) (sym (off_place k has)) ∙ get_or-set_same xs (e.from * m + e.to) x d within
        ∙ sym (ap (λ b. cond b x (get_or xs k d)) has)
    | inr other ↦ get_or-set_other xs (e.from * m + e.to) k x d (λ same. let e : true ≡ false = sym (at_place k (sym same)) ∙ other in cc)
        ∙ sym (ap (λ b. cond b x (get_or xs k d)) other)
  ]

-- ---- tables

found_entry : (b : Bool) (e : DraftEdge) (r : Option DraftEdge)
    → cond b e.entry (option_map_or (λ e. e.entry) r no_edge) ≡ option_map_or (λ e. e.entry) (cond b (Some e) r) no_edge
found_entry true e r = refl
found_entry false e r = refl

pub edge_between-more : (e : DraftEdge) (es : List DraftEdge) (i j : ℕ)
    → cond (has_ends i j e) e.entry (edge_between es i j) ≡ edge_between (e ∷ es) i j
unfolding edge_between
edge_between-more e es i j = found_entry (has_ends i j e) e (find (has_ends i j) es)

pub edge_between-none : (i j : ℕ) → edge_between [] i j ≡ no_edge
unfolding edge_between
edge_between-none i j = refl

-- ---- marks

either : (a b : Bool) → cond a true b ≡ (b || (a || false))
either true true = refl
either true false = refl
either false true = refl
either false false = refl

or_assoc : (a b c : Bool) → (a || (b || c)) ≡ ((a || b) || c)
or_assoc true b c = refl
or_assoc false b c = refl

list_any-append : {A : Type 0} (p : A → Bool) (xs ys : List A) → list_any p (xs ++ ys) ≡ (list_any p xs || list_any p ys)
list_any-append p [] ys = refl
list_any-append p (x ∷ xs) ys = ap (λ b. p x || b) (list_any-append p xs ys) ∙ or_assoc (p x) (list_any p xs) (list_any p ys)

pub mark_more : {A : Type 0} (p : A → Bool) (xs : List A) (x : A) → cond (p x) true (list_any p xs) ≡ list_any p (xs ++ x ∷ [])
mark_more p xs x = either (p x) (list_any p xs) ∙ sym (list_any-append p xs (x ∷ []))
