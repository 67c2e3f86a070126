-- Multiples of a unit in an interval: the least one, and the one nearest to the middle.
use Rattle.std.proofs.Common.{◌≡◌, ℕ, suc, ◌+◌, ◌*◌, ◌-◌, ◌/◌, ◌%◌, ◌<◌, ◌≤◌, ◌⊎◌, max, arith, inl, inr, sym, subst}
use Rattle.std.proofs.lemmas.Bool.{cases_lt, cases_order}
use Rattle.std.proofs.lemmas.Nat.{div_below}
use Rattle.std.proofs.Math.Nat.{mul-le-mul_left, div-add-mod, mod-lt}
use lib.Ieee.Nearest.{closest}
use Rattle.typed_numbers.specs.Searches.{gap, IsWithin, IsNearestIn}
use Rattle.typed_numbers.specs.Laws.Nearest.{nearest_within}

-- ---- the least

pub first_from : (low ends unit f : ℕ) → ends ≤ 1 → 0 < unit → f ≡ (low + unit - ends) / unit → low < f * unit + ends
first_from low ends unit f few some is =
    let x = low + unit - ends in
    let whole : unit * (x / unit) + x % unit ≡ x = div-add-mod x unit in
    let rest : x % unit < unit = mod-lt x some in
    let same : unit * f ≡ unit * (x / unit) = rw is in
    omega arith

pub first_least : (low ends unit f : ℕ) → ends ≤ 1 → 0 < unit → f ≡ (low + unit - ends) / unit → (m : ℕ) → low < m * unit + ends → f ≤ m
first_least low ends unit f few some is m h =
    let g : (low + unit - ends) / unit < suc m = div_below (low + unit - ends) unit (suc m) some (omega arith) in
    omega arith

-- ---- the nearest

-- c units are nearest to the middle of all numbers of units
pub record IsRounded (middle unit c : ℕ) : Type 0 where
  pub from_low : 2 * (c * unit) < 2 * middle + unit + (1 - c % 2)
  pub to_high : 2 * middle < 2 * (c * unit) + unit + (1 - c % 2)

step_up : (m c u : ℕ) → m < c → m * u + u ≤ c * u
step_up m c u h = let f = mul-le-mul_left {m = suc m} {n = c} u h in omega arith

no_nearer : (middle unit c m : ℕ) → IsRounded middle unit c → gap (c * unit) middle ≤ gap (m * unit) middle
no_nearer a u c m r = elim (cases_order m c) [
  | inl e ↦ subst (λ z. gap (c * u) a ≤ gap (z * u) a) (sym e) (omega arith)
  | inr h ↦ elim h [
    | inl k ↦ (let s = step_up m c u k in let x = r.from_low in let y = r.to_high in omega arith)
    | inr k ↦ (let s = step_up c m u k in let x = r.from_low in let y = r.to_high in omega arith)
  ]
]

even_at_tie : (middle unit c m : ℕ) → 0 < unit → IsRounded middle unit c → gap (m * unit) middle ≡ gap (c * unit) middle → (m ≡ c) ⊎ (c % 2 ≡ 0)
even_at_tie a u c m some r tie = elim (cases_order m c) [
  | inl e ↦ inl e
  | inr h ↦ elim h [
    | inl k ↦ inr (let s = step_up m c u k in let x = r.from_low in let y = r.to_high in omega arith)
    | inr k ↦ inr (let s = step_up c m u k in let x = r.from_low in let y = r.to_high in omega arith)
  ]
]

-- the nearest multiple is in the interval unless it is below the least multiple there
inside_from : (low middle high ends unit f c : ℕ) → ends ≤ 1 → 2 * middle ≤ low + high → low < f * unit + ends → f * unit < high + ends
    → IsRounded middle unit c → f ≤ c → IsWithin low high ends unit c
inside_from l a g v u f c few lopsided from to r h = elim (cases_lt f c) [
  | inl k ↦
      let s = step_up f c u k in
      let x = r.from_low in
      record { from_low = omega arith; to_high = omega arith }
  | inr k ↦
      let same : c ≡ f = omega arith in
      subst (λ z. IsWithin l g v u z) (sym same) (record { from_low = from; to_high = to })
]

first_is_nearest : (low middle high ends unit f c : ℕ) → 0 < unit → low < f * unit + ends → f * unit < high + ends
    → ((m : ℕ) → low < m * unit + ends → f ≤ m) → IsRounded middle unit c → c < f → IsNearestIn low middle high ends unit f
first_is_nearest l a g v u f c some from to least r h =
    let s = step_up c f u h in
    let y = r.to_high in
    let above : a < f * u = omega arith in
    record {
      inside = record { from_low = from; to_high = to };
      nearest = λ m k. (let w = mul-le-mul_left {m = f} {n = m} u (least m k.from_low) in omega arith);
      even = λ m k tie. elim (cases_lt f m) [
        | inl p ↦ absurd (let w = step_up f m u p in omega arith)
        | inr p ↦ inl (let w : f ≤ m = least m k.from_low in omega arith)
      ];
    }

pub nearest_found : (low middle high ends unit f c n : ℕ) → ends ≤ 1 → 0 < unit → 2 * middle ≤ low + high → low < f * unit + ends → f * unit < high + ends
    → ((m : ℕ) → low < m * unit + ends → f ≤ m) → IsRounded middle unit c → n ≡ max c f → IsNearestIn low middle high ends unit n
nearest_found l a g v u f c n few some lopsided from to least r is = elim (cases_lt c f) [
  | inl h ↦
      let same : n ≡ f = omega arith in
      subst (λ z. IsNearestIn l a g v u z) (sym same) (first_is_nearest l a g v u f c some from to least r h)
  | inr h ↦
      let same : n ≡ c = omega arith in
      subst (λ z. IsNearestIn l a g v u z) (sym same) (record {
        inside = inside_from l a g v u f c few lopsided from to r h;
        nearest = λ m k. no_nearer a u c m r;
        even = λ m k tie. even_at_tie a u c m some r tie;
      })
]

-- ---- there is a nearest one, or none

closest_rounds : (middle unit : ℕ) → 0 < unit → IsRounded middle unit (closest middle unit)
closest_rounds a u some =
    let w = nearest_within a u (closest a u) (1 - closest a u % 2) some (omega arith) (omega arith) in
    record { from_low = w.0; to_high = w.1 }

pub none_inside : (low high ends unit f : ℕ) → high + ends ≤ f * unit → ((m : ℕ) → low < m * unit + ends → f ≤ m) → (m : ℕ) → ¬ IsWithin low high ends unit m
none_inside l g v u f over least m k =
    let h = mul-le-mul_left {m = f} {n = m} u (least m k.from_low) in
    let i : m * u < g + v = k.to_high in
    omega arith

pub nearest_or_none : (low middle high ends unit : ℕ) → ends ≤ 1 → 0 < unit → 2 * middle ≤ low + high
    → ((n : ℕ) × IsNearestIn low middle high ends unit n) ⊎ ((m : ℕ) → ¬ IsWithin low high ends unit m)
nearest_or_none l a g v u few some lopsided =
    let f = (l + u - v) / u in
    let from : l < f * u + v = first_from l v u f few some (omega arith) in
    let least : (m : ℕ) → l < m * u + v → f ≤ m = first_least l v u f few some (omega arith) in
    elim (cases_lt (f * u) (g + v)) [
      | inl h ↦ inl (max (closest a u) f, nearest_found l a g v u f (closest a u) (max (closest a u) f) few some lopsided from h least (closest_rounds a u some) (omega arith))
      | inr h ↦ inr (none_inside l g v u f h least)
    ]
