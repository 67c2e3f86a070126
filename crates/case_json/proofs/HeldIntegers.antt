-- The integers in the value of bytes have at most 64 bits.
use Rattle.std.proofs.Common.{◌≡◌, ◌<◌, ◌≤◌, ◌^◌, ℕ, zero, suc, pos, Bool, true, false, ◌&&◌, ◌==◌, if◌then◌else◌, List}
use Rattle.std.proofs.Common.{Option, Some, None}
use Rattle.std.proofs.Common.{refl, subst, arith, drop, ltb-true, Ordering, Less, Equal, Greater, option_map, option_and_then}
use Rattle.std.specs.Prelude.{unsigned_abs, neg_ℤ, slice_index, nat_lt, nat_le, IfSome}
use Rattle.std.proofs.lemmas.Bool.{leb-true, and_parts}
use Rattle.std.specs.Float.{binary64, float_is_finite}
use Rattle.std.specs.Float.Numeral.{Parts, numeral_digits, nearest_float, scan_numeral}
use Rattle.std.specs.Ordering.{nat_cmp, match_ordering}
use Rattle.std.specs.Cmp.Lexicographic.{slice_cmp}
use Rattle.json.specs.Json as json
use Rattle.json.specs.Lex.{tokens}
use Rattle.serde_json.specs.Data.{Num, unsigned, negative, float, Data, number, array, object, item}
use Rattle.serde_json.specs.Data.{Members, no_members, member, put}
use Rattle.serde_json.specs.Read.{is_integer, float_of, number_from, number_of, of_json, of_items, of_members, max_depth}
use Rattle.case_json.specs.JsonStatements.{JsonHoldsIntegers}
use Rattle.case_json.specs.Values.{IsHeld, HoldsIntegers, ItemsHoldIntegers, MembersHoldIntegers}

if_there : {A : Type 0} (P : A → Type 0) (o : Option A) (a : A) → IfSome o P → o ≡ Some a → P a
if_there P None a h e = absurd (cc)
if_there P (Some b) a h e = let same : b ≡ a = cc in subst P same h

mapped : {A B : Type 0} (f : A → B) (P : A → Type 0) (Q : B → Type 0) → ((a : A) → P a → Q (f a)) → (o : Option A) → IfSome o P
    → IfSome (option_map f o) Q
mapped f P Q each None h = tt
mapped f P Q each (Some a) h = each a h

chained : {A B : Type 0} (f : A → Option B) (P : A → Type 0) (Q : B → Type 0) → ((a : A) → P a → IfSome (f a) Q) → (o : Option A) → IfSome o P
    → IfSome (option_and_then f o) Q
chained f P Q each None h = tt
chained f P Q each (Some a) h = each a h

-- ---- numbers

either_held : (b : Bool) (n : Num) (o : Option Num) → (b ≡ true → IsHeld n) → IfSome o IsHeld → IfSome (if b then Some n else o) IsHeld
either_held true n o h k = h refl
either_held false n o h k = k

float_held : (sign : Bool) (p : Parts) → IfSome (float_of sign p) IsHeld
float_held sign p = either_held (float_is_finite (nearest_float binary64 sign p)) (float (nearest_float binary64 sign p)) None (λ e. tt) tt

negative_held : (n : ℕ) → n ≤ 2 ^ 63 → unsigned_abs (neg_ℤ (pos n)) < 2 ^ 64
negative_held zero h = omega arith
negative_held (suc n) h = omega (arith, h)

from_held : (sign : Bool) (p : Parts) → IfSome (number_from sign p) IsHeld
from_held false p =
    let fits = nat_lt (numeral_digits p) (2 ^ 64) in
    either_held (is_integer p && fits) (unsigned (numeral_digits p)) (float_of false p)
    (λ e. ltb-true (numeral_digits p) (2 ^ 64) (and_parts (is_integer p) fits e).1) (float_held false p)
from_held true p =
    let integer = is_integer p && nat_lt 0 (numeral_digits p) in
    let fits = nat_le (numeral_digits p) (2 ^ 63) in
    either_held (integer && fits) (negative (neg_ℤ (pos (numeral_digits p)))) (float_of true p)
    (λ e. negative_held (numeral_digits p) (leb-true (numeral_digits p) (2 ^ 63) (and_parts integer fits e).1)) (float_held true p)

either_there : (b : Bool) (x y : Option Num) → IfSome x IsHeld → IfSome y IsHeld → IfSome (if b then x else y) IsHeld
either_there true x y h k = h
either_there false x y h k = k

number_held : (s : List ℕ) → IfSome (number_of s) IsHeld
unfolding number_of
number_held s =
    let behind = scan_numeral (drop 1 s) in
    either_there (slice_index s 0 == 45) (number_from true behind) (number_from false (scan_numeral s))
    (from_held true behind) (from_held false (scan_numeral s))

-- ---- values

put_holds : (k : List ℕ) (d : Data) (ms : Members) → HoldsIntegers d → MembersHoldIntegers ms → MembersHoldIntegers (put k d ms)
put_holds k d no_members h held = (h, tt)
put_holds k d (member l e ms) h held = by_order (slice_cmp nat_cmp k l) (put_holds k d ms h held.1)
  where
    by_order : (o : Ordering) → MembersHoldIntegers (put k d ms)
        → MembersHoldIntegers (match_ordering o (member k d (member l e ms)) (member l d ms) (member l e (put k d ms)))
    by_order Less more = (h, held)
    by_order Equal more = (h, held.1)
    by_order Greater more = (held.0, more)

mutual
  value_holds : (j : json.Json) → IfSome (of_json j) HoldsIntegers
  value_holds json.null = tt
  value_holds (json.boolean b) = tt
  value_holds (json.number s) = mapped number IsHeld HoldsIntegers (λ n h. h) (number_of s) (number_held s)
  value_holds (json.string s) = tt
  value_holds (json.array js) = mapped array ItemsHoldIntegers HoldsIntegers (λ ds h. h) (of_items js) (items_hold js)
  value_holds (json.object ms) = mapped object MembersHoldIntegers HoldsIntegers (λ ds h. h) (of_members ms no_members) (members_hold ms no_members tt)

  items_hold : (js : json.Items) → IfSome (of_items js) ItemsHoldIntegers
  items_hold json.no_items = tt
  items_hold (json.item j js) = chained (λ d. option_map (item d) (of_items js)) HoldsIntegers ItemsHoldIntegers
      (λ d h. mapped (item d) ItemsHoldIntegers ItemsHoldIntegers (λ ds k. (h, k)) (of_items js) (items_hold js)) (of_json j) (value_holds j)

  members_hold : (ms : json.Members) (found : Members) → MembersHoldIntegers found → IfSome (of_members ms found) MembersHoldIntegers
  members_hold json.no_members found h = h
  members_hold (json.member k j ms) found h = chained (λ d. of_members ms (put k d found)) HoldsIntegers MembersHoldIntegers
      (λ d held. members_hold ms (put k d found) (put_holds k d found held h)) (of_json j) (value_holds j)

read_holds : (o : Option json.Json) → IfSome (option_and_then of_json o) HoldsIntegers
read_holds None = tt
read_holds (Some j) = value_holds j

pub held_integers : JsonHoldsIntegers
held_integers bytes value is =
    let document = option_and_then (λ p. json.if_last p.0 p.1) (json.value max_depth (tokens bytes)) in
    if_there HoldsIntegers (option_and_then of_json document) value (read_holds document) is.1
