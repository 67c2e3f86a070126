-- Ascending lists beside the numbers of the sets that leave them out.
use Rattle.std.proofs.Common.{◌≡◌, refl, sym, ap, subst, ◌∙◌, ℕ, zero, suc, ◌+◌, ◌^◌, ◌<◌, ◌≤◌, arith, Bool, true, false, List}
use Rattle.std.proofs.Common.{[], ◌∷◌, ◌++◌, length, length-append}
use Rattle.std.proofs.Math.Pow.{pow_mono}
use Rattle.field_core.specs.Sets.{whole, dropping}
use Rattle.field_core.specs.Runs.{left_after}
use Rattle.field_core.specs.NumberedSets.{members, set_number}
use Rattle.field_core.specs.OrderOfSets.{IsAscending}
use Rattle.field_core.proofs.Live.{dropping_same, dropping_other}
use Rattle.field_core.proofs.Members.{number_in, number_none, number_below, number_same, number_dropping, members_number, double}
use Rattle.field_core.proofs.NextLists.{ascending_last, ascending_short}
use Rattle.field_core.proofs.SetOrders.{left_append}
use Rattle.closed_test.specs.Paths.{number_without, IsLeftOutOf}

pub stays : (m first : ℕ) (I : ℕ → Bool) (js : List ℕ) (l : ℕ) → IsAscending m first (js ++ l ∷ []) → I l ≡ true
    → left_after I js l ≡ true
stays m first I [] l a h = h
stays m first I (j ∷ js) l a h = stays m (suc j) (dropping j I) js l a.2 (dropping_other j I l (omega (arith, above (suc j) js a.2)) ∙ h)
  where
    above : (f : ℕ) (ks : List ℕ) → IsAscending m f (ks ++ l ∷ []) → f ≤ l
    above f [] b = b.0
    above f (k ∷ ks) b = let x = above (suc k) ks b.2 in omega (arith, x, b.0)

pub begins : (m first : ℕ) (js ks : List ℕ) → IsAscending m first (js ++ ks) → IsAscending m first js
begins m first [] ks a = tt
begins m first (j ∷ js) ks a = (a.0, a.1, begins m (suc j) js ks a.2)

last_out : (js : List ℕ) (l : ℕ) → left_after whole (js ++ l ∷ []) l ≡ false
last_out js l = left_append whole js l l ∙ dropping_same l (left_after whole js)

number_whole : (m : ℕ) → set_number m whole + 1 ≡ 2 ^ m
number_whole zero = rw (number_none whole)
number_whole (suc m) = let ih = number_whole m in let e = number_in m whole refl in omega (arith, e, ih, double m)

number_more : (m : ℕ) (js : List ℕ) (l : ℕ) → IsAscending m 0 (js ++ l ∷ []) → number_without m (js ++ l ∷ []) + 2 ^ l ≡ number_without m js
number_more m js l a =
    let same = number_same m (left_after whole (js ++ l ∷ [])) (dropping l (left_after whole js)) (λ i p. left_append whole js l i) in
    let less = number_dropping m l (left_after whole js) (ascending_last m 0 l js a) (stays m 0 whole js l a refl) in
    omega (arith, same, less)

-- ---- the first set, one more that is left out, and one taken back

pub first_set : (m set : ℕ) → set + 1 ≡ 2 ^ m → (left : List ℕ) → left ≡ [] → IsLeftOutOf m set left
first_set m set e left f =
    record { ascending = subst (IsAscending m 0) (sym f) tt; number = omega (arith, e, number_whole m) ∙ ap (number_without m) (sym f) }

module _ (m set : ℕ) (left : List ℕ) (P : IsLeftOutOf m set left) where
  set_below : set < 2 ^ m
  set_below = let b = number_below m (left_after whole left) in omega (arith, b, P.number)

  pub within_sixteen : m ≤ 16 → set < 2 ^ 16
  within_sixteen few = let p = pow_mono few in omega (arith, p, set_below)

  pub out_below : (k : ℕ) → IsAscending m 0 (left ++ k ∷ []) → k < m
  out_below k a = ascending_last m 0 k left a

  pub out_member : (k : ℕ) → IsAscending m 0 (left ++ k ∷ []) → members set k ≡ true
  out_member k a = ap (λ n. members n k) P.number ∙ members_number m (left_after whole left) k (ascending_last m 0 k left a)
      ∙ stays m 0 whole left k a refl

  pub out_room : (k : ℕ) → IsAscending m 0 (left ++ k ∷ []) → length left < m
  out_room k a = let s = ascending_short m 0 (left ++ k ∷ []) a (omega arith) in omega (arith, s, length-append left (k ∷ []))

  pub out_set : (k r : ℕ) (new : List ℕ) → IsAscending m 0 (left ++ k ∷ []) → r + 2 ^ k ≡ set → new ≡ left ++ k ∷ [] → IsLeftOutOf m r new
  out_set k r new a e f = record {
    ascending = subst (IsAscending m 0) (sym f) a;
    number = omega (arith, e, P.number, number_more m left k a) ∙ ap (number_without m) (sym f);
  }

  module _ (k : ℕ) (js : List ℕ) (e : left ≡ js ++ k ∷ []) where
    pub back_ascending : IsAscending m 0 (js ++ k ∷ [])
    back_ascending = subst (IsAscending m 0) e P.ascending

    pub back_below : k < m
    back_below = ascending_last m 0 k js back_ascending

    pub back_outside : members set k ≡ false
    back_outside = ap (λ n. members n k) (P.number ∙ ap (number_without m) e) ∙ members_number m (left_after whole (js ++ k ∷ [])) k back_below
        ∙ last_out js k

    pub back_set : (r : ℕ) → r ≡ set + 2 ^ k → IsLeftOutOf m r js
    back_set r f = record {
      ascending = begins m 0 js (k ∷ []) back_ascending;
      number = omega (arith, f, P.number ∙ ap (number_without m) e, number_more m js k back_ascending);
    }
