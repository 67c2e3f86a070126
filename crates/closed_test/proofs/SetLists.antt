-- Lists of all sets in their order: how one is made, and that there is one.
use Rattle.std.proofs.Common.{◌≡◌, ◌⊎◌, inl, inr, refl, sym, ap, ap₂, subst, ◌∙◌, ℕ, zero, suc, ◌^◌, ◌<◌, List, [], ◌∷◌}
use Rattle.std.proofs.Common.{◌++◌, length, get_or, Result, Ok, Err, arith}
use Rattle.std.specs.Prelude.{Contains}
use Rattle.std.specs.List.{All, AllPairs}
use Rattle.std.proofs.lemmas.List.Elements.{All-nil, All-cons, All-push, All-weaker, All-get_or, All-contains, Contains-append_left, Contains-push}
use Rattle.std.proofs.lemmas.List.Quantifiers.{all_pairs_push}
use Rattle.field_core.specs.declared.place.WideAt.{WideAt}
use Rattle.field_core.specs.Sets.{whole}
use Rattle.field_core.specs.Runs.{left_after}
use Rattle.field_core.specs.NumberedSets.{members}
use Rattle.field_core.specs.OrderOfSets.{left_out, ComesBefore, IsListStep, IsLastList}
use Rattle.field_core.proofs.Members.{number_below, number_same, number_members}
use Rattle.field_core.proofs.Positions.{compared}
use Rattle.field_core.proofs.SetOrders.{out_ascending, out_leaves}
use Rattle.case_model.specs.Content.{Content}
use Rattle.entangled.specs.CaseRun.{CaseState}
use Rattle.closed_test.specs.Paths.{number_without}
use Rattle.closed_test.specs.SetRuns.{set_run, IsEarlierSet, AreRunsDefined, IsFirstWideSet}
use Rattle.closed_test.specs.SetLists.{AreSetsInOrder}
use Rattle.closed_test.proofs.SetTables.{left_out_is}
use Rattle.field_core.proofs.Results.{one_fault}
use Rattle.field_core.proofs.ListOrder.{not_itself}

-- ---- what comes before

pub before_behind : (js xs ys : List ℕ) → ComesBefore xs ys → ComesBefore (js ++ xs) (js ++ ys)
before_behind [] xs ys b = b
before_behind (j ∷ js) xs ys b = inr (refl, before_behind js xs ys b)

pub before_both : (js ks ls : List ℕ) → ComesBefore js ks → ComesBefore ks ls → ComesBefore js ls
before_both js ks [] a b = absurd b
before_both js [] (l ∷ ls) a b = absurd a
before_both [] (k ∷ ks) (l ∷ ls) a b = tt
before_both (j ∷ js) (k ∷ ks) (l ∷ ls) (inl p) (inl q) = inl (omega (arith, p, q))
before_both (j ∷ js) (k ∷ ks) (l ∷ ls) (inl p) (inr q) = inl (omega (arith, p, q.0))
before_both (j ∷ js) (k ∷ ks) (l ∷ ls) (inr p) (inl q) = inl (omega (arith, p.0, q))
before_both (j ∷ js) (k ∷ ks) (l ∷ ls) (inr p) (inr q) = inr (p.0 ∙ q.0, before_both js ks ls p.1 q.1)

-- ---- a list in a strict order is known by its items

first : (x : ℕ) (xs : List ℕ) → Contains (x ∷ xs) x
first x xs = (0, omega arith, refl)

later : (x y : ℕ) (xs : List ℕ) → Contains xs y → Contains (x ∷ xs) y
later x y xs c = (suc c.0, omega (arith, c.1), c.2)

none : (y : ℕ) → Contains [] y → ⊥
none y c = absurd (omega (arith, c.1))

at_place : (x y : ℕ) (xs : List ℕ) (k : ℕ) → k < length (x ∷ xs) → get_or (x ∷ xs) k y ≡ y → (x ≡ y) ⊎ Contains xs y
at_place x y xs zero p e = inl e
at_place x y xs (suc k) p e = inr (k, omega (arith, p), e)

first_or_later : (x y : ℕ) (xs : List ℕ) → Contains (x ∷ xs) y → (x ≡ y) ⊎ Contains xs y
first_or_later x y xs c = at_place x y xs c.0 c.1 c.2

module _ (R : ℕ → ℕ → Type 0) (itself : (n : ℕ) → R n n → ⊥) (both : (n o : ℕ) → R n o → R o n → ⊥) where
  head_before : (x : ℕ) (xs : List ℕ) → AllPairs R (x ∷ xs) → (y : ℕ) → Contains xs y → R x y
  head_before x xs h y c = subst (R x) c.2 (h 0 (suc c.0) y (omega arith) (omega (arith, c.1)))

  rest_ordered : (x : ℕ) (xs : List ℕ) → AllPairs R (x ∷ xs) → AllPairs R xs
  rest_ordered x xs h i j d p q = h (suc i) (suc j) d (omega (arith, p)) (omega (arith, q))

  heads : (x y : ℕ) (xs ys : List ℕ) → AllPairs R (x ∷ xs) → AllPairs R (y ∷ ys) → Contains (y ∷ ys) x → Contains (x ∷ xs) y → x ≡ y
  heads x y xs ys a b c d = elim (first_or_later y x ys c) [
    | inl e ↦ sym e
    | inr f ↦ elim (first_or_later x y xs d) [
      | inl e ↦ e
      | inr g ↦ absurd (both x y (head_before x xs a y g) (head_before y ys b x f))
    ]
  ]

  kept : (x y n : ℕ) (xs ys : List ℕ) → x ≡ y → AllPairs R (x ∷ xs) → Contains xs n → Contains (y ∷ ys) n → Contains ys n
  kept x y n xs ys e a c d = elim (first_or_later y n ys d) [
    | inl f ↦ absurd (itself x (subst (R x) (sym (e ∙ f)) (head_before x xs a n c)))
    | inr g ↦ g
  ]

  ordered_unique : (xs ys : List ℕ) → AllPairs R xs → AllPairs R ys → ((n : ℕ) → Contains xs n → Contains ys n)
      → ((n : ℕ) → Contains ys n → Contains xs n) → xs ≡ ys
  ordered_unique [] [] a b to from = refl
  ordered_unique [] (y ∷ ys) a b to from = absurd (none y (from y (first y ys)))
  ordered_unique (x ∷ xs) [] a b to from = absurd (none x (to x (first x xs)))
  ordered_unique (x ∷ xs) (y ∷ ys) a b to from =
      let e = heads x y xs ys a b (to x (first x xs)) (from y (first y ys)) in
      ap₂ ◌∷◌ e (ordered_unique xs ys (rest_ordered x xs a) (rest_ordered y ys b) (λ n c. kept x y n xs ys e a c (to n (later x n xs c)))
      (λ n c. kept y x n ys xs (sym e) b c (from n (later y n ys c))))

-- there is one list of all sets in their order
pub sets_unique : (m : ℕ) (xs ys : List ℕ) → AreSetsInOrder m xs → AreSetsInOrder m ys → xs ≡ ys
sets_unique m xs ys X Y =
    ordered_unique (IsEarlierSet m) (λ n. not_itself (left_out m (members n)))
    (λ n o p q. not_itself (left_out m (members n)) (before_both (left_out m (members n)) (left_out m (members o)) (left_out m (members n)) p q))
    xs ys X.ordered Y.ordered (λ n c. Y.each n (All-contains (λ o. o < 2 ^ m) xs n X.sets_of c))
    (λ n c. X.each n (All-contains (λ o. o < 2 ^ m) ys n Y.sets_of c))

-- ---- the list is made set by set

-- the number of a set, by what it leaves out
pub number_out : (m n : ℕ) → n < 2 ^ m → number_without m (left_out m (members n)) ≡ n
number_out m n p = number_same m (left_after whole (left_out m (members n))) (members n) (out_leaves m (members n)) ∙ number_members m n p

-- a list comes before another one, or is it
abbrev pub IsUpTo : List ℕ → List ℕ → Type 0
IsUpTo xs js = ComesBefore xs js ⊎ (xs ≡ js)

-- the sets up to the one that leaves out `js`, in their order
pub record AreListedTo (m : ℕ) (sets js : List ℕ) : Type 0 where
  pub sets_of : All (λ n. n < 2 ^ m) sets
  pub up_to : All (λ n. IsUpTo (left_out m (members n)) js) sets
  pub each : (n : ℕ) → n < 2 ^ m → IsUpTo (left_out m (members n)) js → Contains sets n
  pub ordered : AllPairs (IsEarlierSet m) sets

is_set : (m n : ℕ) (js : List ℕ) → n ≡ number_without m js → n < 2 ^ m
is_set m n js e = subst (λ k. k < 2 ^ m) (sym e) (number_below m (left_after whole js))

pub listed_first : (m n : ℕ) (js sets : List ℕ) → js ≡ [] → n ≡ number_without m js → sets ≡ [] ++ n ∷ [] → AreListedTo m sets js
listed_first m n js sets e f g = rw (e, g) (record {
  sets_of = All-cons (λ o. o < 2 ^ m) n [] (is_set m n js f) (All-nil (λ o. o < 2 ^ m));
  up_to = All-cons (λ o. IsUpTo (left_out m (members o)) []) n [] (inr (left_out_is m n [] number tt)) (All-nil (λ o. IsUpTo (left_out m (members o)) []));
  each = only;
  ordered = λ i j d p q. absurd (omega (arith, p, q));
})
  where
    number : n ≡ number_without m []
    number = f ∙ ap (number_without m) e

    only : (o : ℕ) → o < 2 ^ m → IsUpTo (left_out m (members o)) [] → Contains (n ∷ []) o
    only o p (inl b) = absurd b
    only o p (inr same) = (0, omega arith, number ∙ ap (number_without m) (sym same) ∙ number_out m o p)

module _ (m n last : ℕ) (sets js ks : List ℕ) (L : AreListedTo m sets js) (step : IsListStep m js ks last) (behind : ComesBefore js ks)
    (e : n ≡ number_without m ks) where
  out_is : left_out m (members n) ≡ ks
  out_is = left_out_is m n ks e step.next.ascending

  before_new : (xs : List ℕ) → IsUpTo xs js → ComesBefore xs ks
  before_new xs (inl b) = before_both xs js ks b behind
  before_new xs (inr f) = subst (λ ys. ComesBefore ys ks) (sym f) behind

  found : (o : ℕ) → o < 2 ^ m → IsUpTo (left_out m (members o)) ks → Contains (sets ++ n ∷ []) o
  found o p (inl b) = Contains-append_left sets (n ∷ []) o (L.each o p (step.next.least (left_out m (members o)) (out_ascending m (members o)) b))
  found o p (inr f) = subst (Contains (sets ++ n ∷ [])) (e ∙ ap (number_without m) (sym f) ∙ number_out m o p) (Contains-push sets n)

  earlier : (k d : ℕ) → k < length sets → IsEarlierSet m (get_or sets k d) n
  earlier k d p = subst (ComesBefore (left_out m (members (get_or sets k d)))) (sym out_is)
      (before_new _ (All-get_or (λ o. IsUpTo (left_out m (members o)) js) sets k d p L.up_to))

  pub listed_next : (more : List ℕ) → more ≡ sets ++ n ∷ [] → AreListedTo m more ks
  listed_next more g = rw g (record {
    sets_of = All-push (λ o. o < 2 ^ m) sets n L.sets_of (is_set m n ks e);
    up_to = All-push (λ o. IsUpTo (left_out m (members o)) ks) sets n
        (All-weaker (λ o. IsUpTo (left_out m (members o)) js) (λ o. IsUpTo (left_out m (members o)) ks)
        (λ o u. inl (before_new (left_out m (members o)) u)) sets L.up_to) (inr out_is);
    each = found;
    ordered = all_pairs_push (IsEarlierSet m) sets n L.ordered earlier;
  })

pub all_listed : (m : ℕ) (sets js : List ℕ) → AreListedTo m sets js → IsLastList m js → AreSetsInOrder m sets
all_listed m sets js L last = record {
  sets_of = L.sets_of;
  each = λ n p. L.each n p (last (left_out m (members n)) (out_ascending m (members n)));
  ordered = L.ordered;
}

-- ---- there is one first set whose run is undefined

pub before_or_behind : (js ks : List ℕ) → (js ≡ ks) ⊎ (ComesBefore js ks ⊎ ComesBefore ks js)
before_or_behind [] [] = inl refl
before_or_behind [] (k ∷ ks) = inr (inl tt)
before_or_behind (j ∷ js) [] = inr (inr tt)
before_or_behind (j ∷ js) (k ∷ ks) = elim (compared j k) [
  | inl e ↦ elim (before_or_behind js ks) [
    | inl f ↦ inl (ap₂ ◌∷◌ e f)
    | inr (inl b) ↦ inr (inl (inr (e, b)))
    | inr (inr b) ↦ inr (inr (inr (sym e, b)))
  ]
  | inr (inl p) ↦ inr (inl (inl p))
  | inr (inr p) ↦ inr (inr (inl p))
]

not_both : (r : Result CaseState WideAt) (s : CaseState) (w : WideAt) → r ≡ Ok s → r ≡ Err w → ⊥
not_both r s w e f = cc

pub defined_not_wide : (c : Content) (n : ℕ) (w : WideAt) → AreRunsDefined c → ¬ IsFirstWideSet c n w
defined_not_wide c n w D F = let d = D n F.below in not_both (set_run c n) d.0 w d.1 F.wide

module _ (c : Content) (n o : ℕ) (v w : WideAt) (F : IsFirstWideSet c n v) (G : IsFirstWideSet c o w) where
  not_earlier : ¬ IsEarlierSet (length c.names) n o
  not_earlier b = let d = G.before n F.below b in not_both (set_run c n) d.0 v d.1 F.wide

  not_later : ¬ IsEarlierSet (length c.names) o n
  not_later b = let d = F.before o G.below b in not_both (set_run c o) d.0 w d.1 G.wide

  same_set : n ≡ o
  same_set = elim (before_or_behind (left_out (length c.names) (members n)) (left_out (length c.names) (members o))) [
    | inl e ↦ sym (number_out (length c.names) n F.below) ∙ ap (number_without (length c.names)) e ∙ number_out (length c.names) o G.below
    | inr (inl b) ↦ absurd (not_earlier b)
    | inr (inr b) ↦ absurd (not_later b)
  ]

  pub first_wide_unique : (n ≡ o) × (v ≡ w)
  first_wide_unique = (same_set, one_fault (set_run c o) v w (ap (set_run c) (sym same_set) ∙ F.wide) G.wide)
