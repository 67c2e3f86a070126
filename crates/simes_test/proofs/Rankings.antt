-- A sorted list of hypotheses has each one once, by ascending p-value.
use Rattle.std.proofs.Common.{◌≡◌, ◌≢◌, ◌⊎◌, inl, inr, refl, sym, ap, ◌∙◌, subst, ℕ, zero, suc, ◌+◌, ◌<◌, ◌≤◌, ◌==◌}
use Rattle.std.proofs.Common.{◌||◌, arith, Bool, false, not, cond, List, [], ◌∷◌, map, length, get_or}
use Rattle.std.specs.List.{list_any, sum_by, All, AllPairs, AllByRecursion, enumerate_from}
use Rattle.std.specs.List.Sorted.{IsPermutation, IsSortedBy}
use Rattle.std.specs.Ordering.{is_lt, is_gt, nat_cmp, ordering_then}
use Rattle.std.specs.declared.cmp.Ordering.{Ordering}
use Rattle.std.specs.declared.cmp.Ordering.TheVariants.{Less, Equal, Greater}
use Rattle.std.proofs.lemmas.Bool.Decides.{nat_tests}
use Rattle.std.proofs.lemmas.List.{length-map, get_or-map}
use Rattle.std.proofs.lemmas.List.Elements.{recursion_from_All}
use Rattle.std.proofs.lemmas.List.FromFn.{length-enumerate_from, get_or-enumerate_from}
use Rattle.std.proofs.lemmas.List.Sums.{sum_by-cons}
use Rattle.std.proofs.lemmas.List.Sorted.{All-permutation, IsPermutation-map, length_permutation, sum_by-IsPermutation, list_any-IsPermutation}
use Rattle.field_core.specs.declared.ratio.Ratio.{Ratio}
use Rattle.field_core.specs.Number.{Number}
use Rattle.field_core.specs.Order.{◌≤ε◌, at_most}
use Rattle.field_core.specs.Sets.{set_of}
use Rattle.field_core.specs.Laws.AtMostLaws.{at_most_equal, at_most_trans}
use Rattle.fraction.specs.View.{number_of}
use Rattle.fraction.specs.Laws.Order.{by_value}
use Rattle.case_model.specs.Sums.{ratio_at, zero_ratio, number_at}
use Rattle.case_model.specs.LegalOrder.{IsListed}
use Rattle.case_model.specs.TextbookRules.{IsByPValue}
use Rattle.case_model.proofs.Comparisons.{below_is, above_is}
use Rattle.case_model.proofs.NoFaults.{not_false}
use Rattle.case_model.proofs.RejectionOrders.{listed_here, listed_later, here_or_later}
use Rattle.simes_test.specs.declared.ranking.Ranked.{Ranked}
use Rattle.simes_test.specs.Leaders.{AreLeaders}
use Rattle.simes_test.specs.Ranking.{position_of, ranked_of, by_position}

-- ---- what the order of two says

-- the test by which they are sorted
abbrev pub comes_first : Ranked → Ranked → Bool
comes_first x y = is_lt (ordering_then (by_value x.p_value y.p_value) (nat_cmp x.position y.position))

then_not_less : (o q : Ordering) → is_lt (ordering_then o q) ≡ false → (is_lt o ≡ false) × (o ≡ Equal → is_lt q ≡ false)
then_not_less Less q h = absurd (cc)
then_not_less Equal q h = (refl, λ e. h)
then_not_less Greater q h = (refl, λ e. absurd (cc))

neither : (o : Ordering) → is_lt o ≡ false → is_gt o ≡ false → o ≡ Equal
neither Less h g = absurd (cc)
neither Equal h g = refl
neither Greater h g = absurd (cc)

not_below : (i j : ℕ) → is_lt (nat_cmp j i) ≡ false → i ≤ j
not_below i j h = grind (arith, nat_tests)

-- `i` isn't after `j`
record IsNotBehind (p : ℕ → Number) (i j : ℕ) : Type 0 where
  not_above : p i ≤ε p j
  tie : p j ≤ε p i → i ≤ j

not_behind_trans : (p : ℕ → Number) (i j k : ℕ) → IsNotBehind p i j → IsNotBehind p j k → IsNotBehind p i k
not_behind_trans p i j k a b = record {
  not_above = at_most_trans (p i) (p j) (p k) a.not_above b.not_above;
  tie = λ h.
      let low = a.tie (at_most_trans (p j) (p k) (p i) b.not_above h) in
      let high = b.tie (at_most_trans (p k) (p i) (p j) h a.not_above) in
      omega (arith, low, high);
}

module _ (ps : List Ratio) where
  -- it has the p-value of its position
  abbrev IsOf : Ranked → Type 0
  IsOf x = x.p_value ≡ ratio_at ps x.position

  sorted_two : (x y : Ranked) → IsOf x → IsOf y → comes_first y x ≡ false → IsNotBehind (number_at ps) x.position y.position
  sorted_two x y hx hy h =
      let two = then_not_less (by_value y.p_value x.p_value) (nat_cmp y.position x.position) h in
      let px : number_of x.p_value ≡ number_at ps x.position = ap number_of hx in
      let py : number_of y.p_value ≡ number_at ps y.position = ap number_of hy in
      let below : number_of x.p_value ≤ε number_of y.p_value =
      not_false (at_most (number_of x.p_value) (number_of y.p_value)) (sym (below_is y.p_value x.p_value) ∙ two.0) in
      record {
        not_above = subst (λ v. number_at ps x.position ≤ε v) py (subst (λ v. v ≤ε number_of y.p_value) px below);
        tie = λ t.
            let up : number_of y.p_value ≤ε number_of x.p_value =
            subst (λ v. number_of y.p_value ≤ε v) (sym px) (subst (λ v. v ≤ε number_at ps x.position) (sym py) t) in
            let equal = neither (by_value y.p_value x.p_value) two.0 (above_is y.p_value x.p_value ∙ ap not up) in
            not_below x.position y.position (two.1 equal);
      }

  -- ---- sorted lists

  sorted_rest : (x : Ranked) (xs : List Ranked) → IsSortedBy comes_first (x ∷ xs) → IsSortedBy comes_first xs
  sorted_rest x xs s k d low high =
      let e : suc k + 1 ≡ suc (k + 1) = omega arith in
      subst (λ n. comes_first (get_or (x ∷ xs) n d) (get_or xs k d) ≡ false) e (s (suc k) d (omega arith) (omega (arith, high)))

  all_not_behind : (x : Ranked) (xs : List Ranked) → IsSortedBy comes_first (x ∷ xs) → IsOf x → AllByRecursion IsOf xs → (j : ℕ)
      → IsListed (map position_of xs) j → IsNotBehind (number_at ps) x.position j
  all_not_behind x [] s hx hs j l = absurd (cc)
  all_not_behind x (y ∷ ys) s hx hs j l =
      let first = sorted_two x y hx hs.0 (s 0 x (omega arith) (omega arith)) in
      elim (here_or_later y.position j (map position_of ys) l) [
        | inl e ↦ subst (IsNotBehind (number_at ps) x.position) (sym e) first
        | inr later ↦ not_behind_trans (number_at ps) x.position y.position j first (all_not_behind y ys (sorted_rest x (y ∷ ys) s) hs.0 hs.1 j later)
      ]

-- ---- how often a position is in a list

-- 1 for the position itself, and else 0
abbrev counts_as : ℕ → ℕ → ℕ
counts_as i j = cond (j == i) 1 0

abbrev counts : ℕ → List ℕ → ℕ
counts i js = sum_by (counts_as i) js

counts_first : (i j : ℕ) (js : List ℕ) → counts i (j ∷ js) ≡ counts_as i j + counts i js
counts_first i j js = sum_by-cons (counts_as i) j js

same_counts : (i j : ℕ) → j ≡ i → counts_as i j ≡ 1
same_counts i j e = grind (arith, nat_tests)

other_counts : (i j : ℕ) → (j ≡ i → ⊥) → counts_as i j ≡ 0
other_counts i j h = grind (arith, nat_tests)

same_or_not : (i j : ℕ) → (i ≡ j) ⊎ (i ≡ j → ⊥)
same_or_not i j = grind arith

listed_counts : (i : ℕ) (js : List ℕ) → IsListed js i → 1 ≤ counts i js
listed_counts i [] l = absurd (cc)
listed_counts i (j ∷ js) l = elim (here_or_later j i js l) [
  | inl e ↦ let a = same_counts i j (sym e) in omega (arith, a, counts_first i j js)
  | inr later ↦ let a = listed_counts i js later in omega (arith, a, counts_first i j js)
]

module _ (ps : List Ratio) where
  in_order : (xs : List Ranked) → IsSortedBy comes_first xs → AllByRecursion (IsOf ps) xs → ((i : ℕ) → counts i (map position_of xs) ≤ 1)
      → IsByPValue (number_at ps) (map position_of xs)
  in_order [] s hs once = tt
  in_order (x ∷ xs) s hs once = (
    λ j l.
        let weak = all_not_behind ps x xs s hs.0 hs.1 j l in
        record {
          not_above = weak.not_above;
          tie = λ h.
              let low = weak.tie h in
              elim (same_or_not x.position j) [
                | inl e ↦
                    let a = same_counts j x.position e in
                    let b = listed_counts j (map position_of xs) l in
                    let c = once j in
                    absurd (omega (arith, a, b, c, counts_first j x.position (map position_of xs)))
                | inr n ↦ apart x.position j low n
              ];
        },
    in_order xs (sorted_rest ps x xs s) hs.1 (λ i. let c = once i in omega (arith, c, counts_first i x.position (map position_of xs))),
  )
    where
      apart : (i j : ℕ) → i ≤ j → (i ≡ j → ⊥) → i < j
      apart i j h n = grind arith

-- ---- by position

-- the positions from `n` on
abbrev from_place : ℕ → List Ratio → List ℕ
from_place n ps = map position_of (map ranked_of (enumerate_from n ps))

counts_before : (n : ℕ) (ps : List Ratio) (i : ℕ) → i < n → counts i (from_place n ps) ≡ 0
counts_before n [] i h = refl
counts_before n (x ∷ ps) i h =
    let a = other_counts i n (λ e. absurd (omega (arith, e, h))) in
    let b = counts_before (n + 1) ps i (omega (arith, h)) in
    omega (arith, a, b, counts_first i n (from_place (n + 1) ps))

counts_once : (n : ℕ) (ps : List Ratio) (i : ℕ) → counts i (from_place n ps) ≤ 1
counts_once n [] i = omega arith
counts_once n (x ∷ ps) i = elim (same_or_not n i) [
  | inl e ↦
      let a = same_counts i n e in
      let b = counts_before (n + 1) ps i (omega (arith, e)) in
      omega (arith, a, b, counts_first i n (from_place (n + 1) ps))
  | inr h ↦
      let a = other_counts i n h in
      let b = counts_once (n + 1) ps i in
      omega (arith, a, b, counts_first i n (from_place (n + 1) ps))
]

place_below : (n : ℕ) (ps : List Ratio) (i : ℕ) → IsListed (from_place n ps) i → i < n + length ps
place_below n [] i l = absurd (cc)
place_below n (x ∷ ps) i l = elim (here_or_later n i (from_place (n + 1) ps) l) [
  | inl e ↦ omega (arith, e)
  | inr later ↦ let a = place_below (n + 1) ps i later in omega (arith, a)
]

place_listed : (n : ℕ) (ps : List Ratio) (i : ℕ) → n ≤ i → i < n + length ps → IsListed (from_place n ps) i
place_listed n [] i low high = absurd (omega (arith, low, high))
place_listed n (x ∷ ps) i low high = elim (same_or_not i n) [
  | inl e ↦ here i n (from_place (n + 1) ps) e
  | inr h ↦ later i n (from_place (n + 1) ps) (place_listed (n + 1) ps i (above i n low h) (omega (arith, high)))
]
  where
    here : (i j : ℕ) (js : List ℕ) → i ≡ j → IsListed (j ∷ js) i
    here i j js e = grind (arith, nat_tests)

    later : (i j : ℕ) (js : List ℕ) → IsListed js i → IsListed (j ∷ js) i
    later i j js h = grind (arith, nat_tests)

    above : (i n : ℕ) → n ≤ i → (i ≡ n → ⊥) → n + 1 ≤ i
    above i n low h = grind arith

listed_any : (js : List ℕ) (i : ℕ) → set_of js i ≡ list_any (λ j. i == j) js
listed_any [] i = refl
listed_any (j ∷ js) i = ap (λ b. (i == j) || b) (listed_any js i)

-- ---- the sorted list of all

module _ (ps : List Ratio) (xs : List Ranked) (perm : IsPermutation (by_position ps) xs) (sorted : IsSortedBy comes_first xs) where
  all_of : All (IsOf ps) (by_position ps)
  unfolding ratio_at
  all_of k d h =
      let long = length-enumerate_from 0 ps in
      let short : k < length ps = omega (arith, h, length-map (enumerate_from 0 ps) ranked_of, long) in
      let none : ℕ × Ratio = (0, zero_ratio) in
      let at : get_or (by_position ps) k d ≡ ranked_of (0 + k, get_or ps k zero_ratio) =
      get_or-map ranked_of (enumerate_from 0 ps) k none d (omega (arith, short, long)) ∙ ap ranked_of (get_or-enumerate_from 0 ps k none short) in
      let place : k ≡ 0 + k = omega arith in
      subst (IsOf ps) (sym at) (ap (λ n. get_or ps n zero_ratio) place)

  places : IsPermutation (from_place 0 ps) (map position_of xs)
  places = IsPermutation-map position_of (by_position ps) xs perm

  listed_is : (i : ℕ) → set_of (from_place 0 ps) i ≡ set_of (map position_of xs) i
  listed_is i = listed_any (from_place 0 ps) i ∙ list_any-IsPermutation (λ j. i == j) (from_place 0 ps) (map position_of xs) places
      ∙ sym (listed_any (map position_of xs) i)

  pub leaders_are : (m : ℕ) → length ps ≡ m → AreLeaders m (number_at ps) (map position_of xs)
  leaders_are m e = record {
    all = λ i. (
      λ l. let a = place_below 0 ps i (listed_is i ∙ l) in omega (arith, a, e),
      λ b. sym (listed_is i) ∙ place_listed 0 ps i (omega arith) (omega (arith, b, e)),
    );
    count = length-map xs position_of ∙ length_permutation (by_position ps) xs perm ∙ length-map (enumerate_from 0 ps) ranked_of
        ∙ length-enumerate_from 0 ps ∙ e;
    order = in_order ps xs sorted (recursion_from_All (IsOf ps) xs (All-permutation (IsOf ps) (by_position ps) xs perm all_of))
        (λ i. let a = counts_once 0 ps i in let b = sum_by-IsPermutation (counts_as i) (from_place 0 ps) (map position_of xs) places in omega (arith, a, b));
  }

-- ---- each one stands once

listed_at : (js : List ℕ) (k d : ℕ) → k < length js → IsListed js (get_or js k d)
listed_at [] k d h = absurd (omega arith)
listed_at (j ∷ js) zero d h = listed_here j js
listed_at (j ∷ js) (suc k) d h = listed_later j (get_or js k d) js (listed_at js k d (omega (arith, h)))

all_apart : (p : ℕ → Number) (js : List ℕ) → IsByPValue p js → AllPairs (λ i j. i ≢ j) js
all_apart p [] o i k d low high e = absurd (omega arith)
all_apart p (j ∷ js) o zero zero d low high e = absurd (omega arith)
all_apart p (j ∷ js) o zero (suc k) d low high e =
    let later = (o.0 (get_or js k d) (listed_at js k d (omega (arith, high)))).tie in
    let first : j < get_or js k d = later (at_most_equal (p (get_or js k d)) (p j) (ap p (sym e))) in
    absurd (omega (arith, first, e))
all_apart p (j ∷ js) o (suc i) zero d low high e = absurd (omega (arith, low))
all_apart p (j ∷ js) o (suc i) (suc k) d low high e = all_apart p js o.1 i k d (omega (arith, low)) (omega (arith, high)) e

-- the list has only positions below `m`, and none of them twice
pub leaders_once : (m : ℕ) (p : ℕ → Number) (js : List ℕ) → AreLeaders m p js → All (λ j. j < m) js × AllPairs (λ i j. i ≢ j) js
leaders_once m p js L = (λ k d h. (L.all (get_or js k d)).0 (listed_at js k d h), all_apart p js L.order)
