-- What is known of arrivals that came one after another.
use Rattle.std.proofs.Common.{◌≡◌, inl, inr, refl, sym, ap, ◌∙◌, subst, ℕ, zero, suc, ◌+◌, ◌-◌, ◌*◌, ◌/◌, ◌%◌, ◌<◌, arith}
use Rattle.std.proofs.Common.{List, [], ◌∷◌, ◌++◌, map, length}
use Rattle.std.proofs.lemmas.List.{append_assoc, append-nil, map_push, length-map}
use Rattle.std.proofs.lemmas.List.Elements.{Contains-append_left, Contains-push, Contains-push_cases}
use Rattle.std.proofs.lemmas.Nat.{mul-add-lt, div-mul-add, mod-mul-add}
use Rattle.std.specs.List.{Contains}
use Rattle.field_core.specs.Sets.{IsIn, whole, dropping}
use Rattle.field_core.specs.Runs.{IsOrder, left_after}
use Rattle.field_core.proofs.Counting.{one_left}
use Rattle.case_model.specs.declared.draft_stages.Arrival.{Arrival}
use Rattle.case_model.specs.Content.{Content}
use Rattle.case_model.specs.LegalOrder.{IsListed}
use Rattle.case_model.specs.StagedCase.{stages_in}
use Rattle.case_model.proofs.RejectionOrders.{here_or_later, listed_or_not, not_listed_left, left_append}
use Rattle.staged_levels.specs.Studies.{IsKnown, IsStage, MayArrive, AreArrivals}

-- what is known stays known
known_later : (values more : List Arrival) (k t : ℕ) → IsKnown values k t → IsKnown (values ++ more) k t
known_later values more k t n =
    record { arrival = n.arrival; arrived = Contains-append_left values more n.arrival n.arrived; hypothesis = n.hypothesis; stage = n.stage }

module _ (c : Content) where
  pub arrivals_next : (values more : List Arrival) (a : Arrival) → AreArrivals c values more → MayArrive c (values ++ more) a
      → AreArrivals c values (more ++ (a ∷ []))
  arrivals_next values [] a h m = (subst (λ vs. MayArrive c vs a) (append-nil values) m, tt)
  arrivals_next values (b ∷ bs) a h m =
      (h.0, arrivals_next (values ++ (b ∷ [])) bs a h.1 (subst (λ vs. MayArrive c vs a) (sym (append_assoc values (b ∷ []) bs)) m))

  -- each of them might come at some moment
  pub arrivals_may : (values more : List Arrival) → AreArrivals c values more → (a : Arrival) → Contains more a → (before : List Arrival)
      × MayArrive c before a
  arrivals_may values [] h a (k, q, e) = absurd (omega (arith, q))
  arrivals_may values (b ∷ bs) h a (zero, q, e) = (values, subst (MayArrive c values) e h.0)
  arrivals_may values (b ∷ bs) h a (suc k, q, e) = arrivals_may (values ++ (b ∷ [])) bs h.1 a (k, omega (arith, q), e)

  -- what was known before doesn't arrive again
  known_once : (values more : List Arrival) → AreArrivals c values more → (a : Arrival) → Contains more a → ¬ IsKnown values a.hypothesis a.stage
  known_once values [] h a (k, q, e) n = absurd (omega (arith, q))
  known_once values (b ∷ bs) h a (zero, q, e) n = h.0.unknown (subst (λ x. IsKnown values x.hypothesis x.stage) (sym e) n)
  known_once values (b ∷ bs) h a (suc k, q, e) n = known_once (values ++ (b ∷ [])) bs h.1 a (k, omega (arith, q), e)
      (known_later values (b ∷ []) a.hypothesis a.stage n)

  -- so there is one value of a hypothesis at a stage at most
  pub one_arrival : (values more : List Arrival) → AreArrivals c values more → (a b : Arrival) → Contains more a → Contains more b
      → a.hypothesis ≡ b.hypothesis → a.stage ≡ b.stage → a ≡ b
  one_arrival values [] h a b (k, q, e) m i t = absurd (omega (arith, q))
  one_arrival values (x ∷ xs) h a b (zero, q, e) (zero, r, f) i t = sym e ∙ f
  one_arrival values (x ∷ xs) h a b (zero, q, e) (suc l, r, f) i t =
      absurd (known_once (values ++ (x ∷ [])) xs h.1 b (l, omega (arith, r), f)
      (record { arrival = x; arrived = Contains-push values x; hypothesis = ap (λ y. y.hypothesis) e ∙ i; stage = ap (λ y. y.stage) e ∙ t }))
  one_arrival values (x ∷ xs) h a b (suc k, q, e) (zero, r, f) i t =
      absurd (known_once (values ++ (x ∷ [])) xs h.1 a (k, omega (arith, q), e)
      (record { arrival = x; arrived = Contains-push values x; hypothesis = ap (λ y. y.hypothesis) f ∙ sym i; stage = ap (λ y. y.stage) f ∙ sym t }))
  one_arrival values (x ∷ xs) h a b (suc k, q, e) (suc l, r, f) i t =
      one_arrival (values ++ (x ∷ [])) xs h.1 a b (k, omega (arith, q), e) (l, omega (arith, r), f) i t

-- ---- how many may arrive

-- the place of an arrival in a table of the hypotheses and the stages, row by row
place : ℕ → Arrival → ℕ
place count a = a.hypothesis * count + (a.stage - 1)

listed_place : (count : ℕ) (values : List Arrival) (i : ℕ) → IsListed (map (place count) values) i → (a : Arrival) × Contains values a
    × (place count a ≡ i)
listed_place count [] i h = absurd (cc)
listed_place count (b ∷ bs) i h = elim (here_or_later (place count b) i (map (place count) bs) h) [
  | inl e ↦ (b, (0, omega arith, refl), sym e)
  | inr l ↦ let r = listed_place count bs i l in (r.0, (suc r.1.0, (let q = r.1.1 in omega (arith, q)), r.1.2), r.2)
]

module _ (c : Content) (count : ℕ) (count_is : stages_in c.inputs ≡ count) where
  -- arrivals at the same place are of the same hypothesis at the same stage
  same_row : (a b : Arrival) → IsStage c a.stage → IsStage c b.stage → place count a ≡ place count b → a.hypothesis ≡ b.hypothesis
  unfolding place
  same_row a b s t e =
      let p : a.stage - 1 < count = let f = s.first in let l = s.last in omega (arith, count_is, f, l) in
      let q : b.stage - 1 < count = let f = t.first in let l = t.last in omega (arith, count_is, f, l) in
      sym (div-mul-add a.hypothesis count (a.stage - 1) p) ∙ ap (λ n. n / count) e ∙ div-mul-add b.hypothesis count (b.stage - 1) q

  same_column : (a b : Arrival) → IsStage c a.stage → IsStage c b.stage → place count a ≡ place count b → a.stage ≡ b.stage
  unfolding place
  same_column a b s t e =
      let p : a.stage - 1 < count = let f = s.first in let l = s.last in omega (arith, count_is, f, l) in
      let q : b.stage - 1 < count = let f = t.first in let l = t.last in omega (arith, count_is, f, l) in
      let r : a.stage - 1 ≡ b.stage - 1 = sym (mod-mul-add a.hypothesis count (a.stage - 1) p) ∙ ap (λ n. n % count) e
      ∙ mod-mul-add b.hypothesis count (b.stage - 1) q in
      let f = s.first in let g = t.first in omega (arith, r, f, g)

  -- an arrival that may come has a place of its own
  free_place : (values : List Arrival) → ((a : Arrival) → Contains values a → IsStage c a.stage) → (b : Arrival) → MayArrive c values b
      → IsIn (count * length c.names) (left_after whole (map (place count) values)) (place count b)
  unfolding place
  free_place values stages b m = record {
    below = mul-add-lt b.hypothesis count (b.stage - 1) (length c.names) m.below
        (let f = m.stage.first in let l = m.stage.last in omega (arith, count_is, f, l));
    member = elim (listed_or_not (map (place count) values) (place count b)) [
      | inl l ↦ let r = listed_place count values (place count b) l in absurd
          (m.unknown (record {
            arrival = r.0;
            arrived = r.1;
            hypothesis = same_row r.0 b (stages r.0 r.1) m.stage r.2;
            stage = same_column r.0 b (stages r.0 r.1) m.stage r.2;
          }))
      | inr n ↦ not_listed_left (map (place count) values) whole (place count b) refl n
    ];
  }

  places_distinct : (values more : List Arrival) → ((a : Arrival) → Contains values a → IsStage c a.stage) → AreArrivals c values more
      → IsOrder (count * length c.names) (left_after whole (map (place count) values)) (map (place count) more)
  places_distinct values [] stages h = tt
  places_distinct values (b ∷ bs) stages h =
      let next : left_after whole (map (place count) (values ++ (b ∷ []))) ≡ dropping (place count b) (left_after whole (map (place count) values)) =
      ap (left_after whole) (map_push (place count) values b) ∙ left_append (map (place count) values) (place count b ∷ []) whole in
      let known : (a : Arrival) → Contains (values ++ (b ∷ [])) a
      → IsStage c a.stage = λ a k. elim (Contains-push_cases values b a k)
      [ inl l ↦ stages a l | inr e ↦ subst (λ x. IsStage c x.stage) e h.0.stage ] in (
        free_place values stages b h.0,
        subst (λ I. IsOrder (count * length c.names) I (map (place count) bs)) next
            (places_distinct (values ++ (b ∷ [])) bs known h.1),
      )

  -- there is room where one more may come
  pub room_left : (values : List Arrival) (a : Arrival) → AreArrivals c [] values → MayArrive c values a → length values < count * length c.names
  room_left values a h m =
      let none : (b : Arrival) → Contains [] b → IsStage c b.stage = λ b k. absurd (let q = k.1 in omega (arith, q)) in
      let stages : (b : Arrival) → Contains values b → IsStage c b.stage = λ b k. (arrivals_may c [] values h b k).1.stage in
      rw length-map at (one_left (count * length c.names) (map (place count) values) (place count a) (places_distinct [] values none h)
      (free_place values stages a m))
