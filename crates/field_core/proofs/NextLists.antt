-- The next list in the order of sets.
use Rattle.std.proofs.Common.{◌≡◌, ◌⊎◌, inl, inr, refl, sym, ap, subst, ◌∙◌, ℕ, suc, ◌+◌, ◌-◌, ◌^◌, ◌<◌, ◌≤◌, arith}
use Rattle.std.proofs.Common.{cond, List, [], ◌∷◌, ◌++◌, length, Option, Some, None}
use Rattle.std.specs.Prelude.{nat_lt}
use Rattle.std.proofs.lemmas.Bool.Decides.{nat_tests}
use Rattle.std.proofs.lemmas.Nat.{pow_pos}
use Rattle.std.proofs.Math.Nat.{two-pow-succ}
use Rattle.std.proofs.lemmas.List.{append-nil}
use Rattle.field_core.specs.OrderOfSets.{ComesBefore, IsAscending, IsListStep, IsLastList, lists_after}
use Rattle.field_core.proofs.Positions.{below_or_above}

-- below `j ∷ ..` the next list, or else the next head
abbrev onto : ℕ → Option (List ℕ) → Option (List ℕ) → Option (List ℕ)
onto j other (Some ks) = Some (j ∷ ks)
onto j other None = other

abbrev head_below : ℕ → ℕ → Option (List ℕ)
head_below m k = cond (nat_lt k m) (Some (k ∷ [])) None

-- the next list from `first` on
unfoldable pub next_list : ℕ → ℕ → List ℕ → Option (List ℕ)
next_list m first [] = head_below m first
next_list m first (j ∷ js) = onto j (head_below m (suc j)) (next_list m (suc j) js)

head_some : (m k : ℕ) → k < m → head_below m k ≡ Some (k ∷ [])
head_some m k h = grind (arith, nat_tests)

head_none : (m k : ℕ) → m ≤ k → head_below m k ≡ None
head_none m k h = grind (arith, nat_tests)

next_empty : (m first : ℕ) → next_list m first [] ≡ head_below m first
unfolding next_list
next_empty m first = refl

next_more : (m first j : ℕ) (js : List ℕ) → next_list m first (j ∷ js) ≡ onto j (head_below m (suc j)) (next_list m (suc j) js)
unfolding next_list
next_more m first j js = refl

after_empty : (m first : ℕ) → lists_after m first [] ≡ 2 ^ (m - first) - 1
unfolding lists_after
after_empty m first = refl

after_more : (m first j : ℕ) (js : List ℕ) → lists_after m first (j ∷ js) ≡ lists_after m (suc j) js + (2 ^ (m - suc j) - 1)
unfolding lists_after
after_more m first j js = refl

-- what the next list is, or that there is none
abbrev Follows : ℕ → ℕ → List ℕ → Option (List ℕ) → Type 0
Follows m first js (Some ks) =
    IsAscending m first ks × ((xs : List ℕ) → IsAscending m first xs → ComesBefore xs ks → ComesBefore xs js ⊎ (xs ≡ js))
    × (lists_after m first ks + 1 ≡ lists_after m first js) × ComesBefore js ks
Follows m first js None = ((xs : List ℕ) → IsAscending m first xs → ComesBefore xs js ⊎ (xs ≡ js)) × (lists_after m first js ≡ 0)

power_next : (m first : ℕ) → first < m → 2 ^ (m - first) ≡ 2 ^ (m - suc first) + 2 ^ (m - suc first)
power_next m first h =
    let e : m - first ≡ suc (m - suc first) = omega arith in
    rw e (two-pow-succ (m - suc first))

power_none : (m first : ℕ) → m ≤ first → 2 ^ (m - first) ≡ 1
power_none m first h =
    let e : m - first ≡ 0 = omega arith in
    rw e

after_head : (m first : ℕ) → first < m → lists_after m 0 (first ∷ []) + 2 ≡ 2 ^ (m - first)
after_head m first h =
    rw (after_more m 0 first [], after_empty m (suc first)) (omega (arith, power_next m first h, pow_pos (m - suc first)))

after_any : (m first other j : ℕ) (js : List ℕ) → lists_after m first (j ∷ js) ≡ lists_after m other (j ∷ js)
after_any m first other j js = after_more m first j js ∙ sym (after_more m other j js)

empty_follows : (m first : ℕ) → Follows m first [] (head_below m first)
empty_follows m first = elim (below_or_above first m) [
  | inl h ↦ rw (head_some m first h)
      ((omega arith, h, tt), before, omega (arith, after_any m first 0 first [], after_head m first h, after_empty m first, pow_pos (m - first)), tt)
  | inr h ↦ rw (head_none m first h) (last h, omega (arith, after_empty m first, power_none m first h))
]
  where
    before : (xs : List ℕ) → IsAscending m first xs → ComesBefore xs (first ∷ []) → ComesBefore xs [] ⊎ (xs ≡ [])
    before [] a b = inr refl
    before (x ∷ xs) a (inl b) = absurd (omega (arith, a.0))
    before (x ∷ xs) a (inr b) = absurd b.1

    last : m ≤ first → (xs : List ℕ) → IsAscending m first xs → ComesBefore xs [] ⊎ (xs ≡ [])
    last h [] a = inr refl
    last h (x ∷ xs) a = absurd (omega (arith, a.0, a.1, h))

same_head : (x j : ℕ) (xs js : List ℕ) → x ≡ j → ComesBefore xs js ⊎ (xs ≡ js) → ComesBefore (x ∷ xs) (j ∷ js) ⊎ (x ∷ xs ≡ j ∷ js)
same_head x j xs js e (inl b) = inl (inr (e, b))
same_head x j xs js e (inr f) = inr (cc)

ascending_at : (m x j : ℕ) (xs : List ℕ) → x ≡ j → IsAscending m (suc x) xs → IsAscending m (suc j) xs
ascending_at m x j xs e = subst (λ i. IsAscending m (suc i) xs) e

more_follows : (m first j : ℕ) (js : List ℕ) (o : Option (List ℕ)) → first ≤ j → j < m → Follows m (suc j) js o
    → Follows m first (j ∷ js) (onto j (head_below m (suc j)) o)
more_follows m first j js (Some ks) low high (a, before, r, late) =
    ((low, high, a), earlier, omega (arith, after_more m first j js, after_more m first j ks, r), inr (refl, late))
  where
    earlier : (xs : List ℕ) → IsAscending m first xs → ComesBefore xs (j ∷ ks) → ComesBefore xs (j ∷ js) ⊎ (xs ≡ j ∷ js)
    earlier [] b c = inl tt
    earlier (x ∷ xs) b (inl c) = inl (inl c)
    earlier (x ∷ xs) b (inr c) = same_head x j xs js c.0 (before xs (ascending_at m x j xs c.0 b.2) c.1)
more_follows m first j js None low high (last, r) = elim (below_or_above (suc j) m) [
  | inl h ↦ rw (head_some m (suc j) h) (
    (omega arith, h, tt),
    earlier,
    omega (arith, after_any m first 0 (suc j) [], after_head m (suc j) h, after_more m first j js, r, pow_pos (m - suc j)),
    inl (omega arith),
  )
  | inr h ↦ rw (head_none m (suc j) h) (all h, omega (arith, after_more m first j js, r, power_none m (suc j) h))
]
  where
    at_or_below : (x : ℕ) → x < suc j → (x < j) ⊎ (x ≡ j)
    at_or_below x h = grind arith

    either : (x : ℕ) (xs : List ℕ) → IsAscending m (suc x) xs → (x < j) ⊎ (x ≡ j) → ComesBefore (x ∷ xs) (j ∷ js) ⊎ (x ∷ xs ≡ j ∷ js)
    either x xs b (inl c) = inl (inl c)
    either x xs b (inr e) = same_head x j xs js e (last xs (ascending_at m x j xs e b))

    earlier : (xs : List ℕ) → IsAscending m first xs → ComesBefore xs (suc j ∷ []) → ComesBefore xs (j ∷ js) ⊎ (xs ≡ j ∷ js)
    earlier [] b c = inl tt
    earlier (x ∷ xs) b (inl c) = either x xs b.2 (at_or_below x c)
    earlier (x ∷ xs) b (inr c) = absurd c.1

    all : m ≤ suc j → (xs : List ℕ) → IsAscending m first xs → ComesBefore xs (j ∷ js) ⊎ (xs ≡ j ∷ js)
    all h [] b = inl tt
    all h (x ∷ xs) b = either x xs b.2 (at_or_below x (omega (arith, b.1, h)))

pub next_follows : (m first : ℕ) (js : List ℕ) → IsAscending m first js → Follows m first js (next_list m first js)
next_follows m first [] a = rw (next_empty m first) (empty_follows m first)
next_follows m first (j ∷ js) a = rw (next_more m first j js) (more_follows m first j js (next_list m (suc j) js) a.0 a.1 (next_follows m (suc j) js a.2))

-- ---- the next list, from the end of the list

pub next_child : (m first l : ℕ) (js : List ℕ) → suc l < m → next_list m first (js ++ l ∷ []) ≡ Some (js ++ l ∷ suc l ∷ [])
next_child m first l [] h = rw (next_more m first l [], next_empty m (suc l), head_some m (suc l) h)
next_child m first l (j ∷ js) h = rw (next_more m first j (js ++ l ∷ []), next_child m (suc j) l js h)

pub next_last : (m first l : ℕ) → m ≤ suc l → next_list m first (l ∷ []) ≡ None
next_last m first l h = rw (next_more m first l [], next_empty m (suc l), head_none m (suc l) h)

pub next_sibling : (m first k l : ℕ) (js : List ℕ) → suc k < m → m ≤ suc l → next_list m first (js ++ k ∷ l ∷ []) ≡ Some (js ++ suc k ∷ [])
next_sibling m first k l [] h g = rw (next_more m first k (l ∷ []), next_last m (suc k) l g, head_some m (suc k) h)
next_sibling m first k l (j ∷ js) h g = rw (next_more m first j (js ++ k ∷ l ∷ []), next_sibling m (suc j) k l js h g)

-- ---- steps

step_of : (m : ℕ) (old new : List ℕ) (last : ℕ) (parent rest : List ℕ) → IsAscending m 0 old → next_list m 0 old ≡ Some new
    → old ≡ parent ++ rest → new ≡ parent ++ last ∷ [] → IsListStep m old new last
step_of m old new last parent rest a e was is =
    let f = subst (Follows m 0 old) e (next_follows m 0 old a) in
    record { next = record { ascending = f.0; later = f.3; least = f.1 }; fewer = f.2; parent = parent; rest = rest; was = was; is = is }

pub first_step : (m : ℕ) → 0 < m → IsListStep m [] (0 ∷ []) 0
first_step m h = step_of m [] (0 ∷ []) 0 [] [] tt (next_empty m 0 ∙ head_some m 0 h) refl refl

two_more : (js : List ℕ) (l k : ℕ) → js ++ l ∷ k ∷ [] ≡ (js ++ l ∷ []) ++ k ∷ []
two_more [] l k = refl
two_more (j ∷ js) l k = ap (λ xs. j ∷ xs) (two_more js l k)

pub child_step : (m l : ℕ) (js : List ℕ) → IsAscending m 0 (js ++ l ∷ []) → suc l < m
    → IsListStep m (js ++ l ∷ []) ((js ++ l ∷ []) ++ suc l ∷ []) (suc l)
child_step m l js a h = step_of m (js ++ l ∷ []) _ (suc l) (js ++ l ∷ []) [] a (next_child m 0 l js h ∙ ap Some (two_more js l (suc l)))
    (sym (append-nil (js ++ l ∷ []))) refl

pub sibling_step : (m k l : ℕ) (js : List ℕ) → IsAscending m 0 (js ++ k ∷ l ∷ []) → suc k < m → m ≤ suc l
    → IsListStep m (js ++ k ∷ l ∷ []) (js ++ suc k ∷ []) (suc k)
sibling_step m k l js a h g = step_of m (js ++ k ∷ l ∷ []) _ (suc k) js (k ∷ l ∷ []) a (next_sibling m 0 k l js h g) refl refl

last_of : (m : ℕ) (old : List ℕ) → IsAscending m 0 old → next_list m 0 old ≡ None → IsLastList m old
last_of m old a e = let f = subst (Follows m 0 old) e (next_follows m 0 old a) in f.0

pub last_one : (m l : ℕ) → l < m → m ≤ suc l → IsLastList m (l ∷ [])
last_one m l p h = last_of m (l ∷ []) (omega arith, p, tt) (next_last m 0 l h)

pub ascending_short : (m first : ℕ) (js : List ℕ) → IsAscending m first js → first ≤ m → length js + first ≤ m
ascending_short m first [] a h = omega arith
ascending_short m first (j ∷ js) a h = let b = ascending_short m (suc j) js a.2 (omega (arith, a.1)) in omega (arith, b, a.0)

pub ascending_last : (m first l : ℕ) (js : List ℕ) → IsAscending m first (js ++ l ∷ []) → l < m
ascending_last m first l [] a = a.1
ascending_last m first l (j ∷ js) a = ascending_last m (suc j) l js a.2

pub ascending_two : (m first k l : ℕ) (js : List ℕ) → IsAscending m first (js ++ k ∷ l ∷ []) → (k < l) × (l < m)
ascending_two m first k l [] a = (a.2.0, a.2.1)
ascending_two m first k l (j ∷ js) a = ascending_two m (suc j) k l js a.2

pub ends_with_two : (xs ys js : List ℕ) (k l : ℕ) → xs ≡ ys ++ l ∷ [] → ys ≡ js ++ k ∷ [] → xs ≡ js ++ k ∷ l ∷ []
ends_with_two xs ys js k l e f = e ∙ ap (λ zs. zs ++ l ∷ []) f ∙ sym (two_more js k l)
