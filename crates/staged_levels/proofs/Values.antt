-- What is found among the values that have arrived.
use Rattle.std.proofs.Common.{◌≡◌, ◌⊎◌, inl, inr, refl, sym, ap, ◌∙◌, subst, subst₂, ◌↔◌, ℕ, zero, suc, ◌<◌, ◌≤◌, ◌*◌}
use Rattle.std.proofs.Common.{◌==◌, Bool, true, false, cond, List, [], ◌∷◌, length, Option, Some, None, is_some, arith}
use Rattle.std.proofs.lemmas.Bool.Decides.{nat_tests}
use Rattle.std.proofs.Math.Logic.{∥∥₁_elim, ∥∥₁_prop}
use Rattle.std.specs.List.{Contains, find}
use Rattle.std.specs.Option.{option_map}
use Rattle.field_core.specs.Number.{Number}
use Rattle.field_core.specs.declared.ratio.Ratio.{Ratio}
use Rattle.fraction.specs.View.{number_of}
use Rattle.case_model.specs.declared.draft_stages.Arrival.{Arrival}
use Rattle.case_model.specs.Content.{Content}
use Rattle.case_model.specs.Draft.{is_of, is_p_value}
use Rattle.case_model.specs.StagedTest.{Meets}
use Rattle.case_model.specs.StagedCase.{spend_at}
use Rattle.case_model.proofs.Holding.{both}
use Rattle.staged_levels.specs.Studies.{IsKnown, MayArrive}
use Rattle.staged_levels.specs.StudyContents.{StudyContent, size_of, IsStudy, IsSomeStudy, value_at, MeetsAtStage, IsStudyWith}
use Rattle.staged_levels.proofs.AnyStudy.{less_is_fact, any_same, any_value}
use Rattle.staged_levels.proofs.Arrivals.{room_left}
use Rattle.staged_levels.proofs.StateFacts.{study_with}

-- ---- one arrival

test_means : (k t : ℕ) (a : Arrival) → is_of k t a ≡ true → (a.hypothesis ≡ k) × (a.stage ≡ t)
test_means k t a h =
    let b = both (a.hypothesis == k) (a.stage == t) h in
    let left = b.left in
    let right = b.right in
    (grind (arith, nat_tests, left), grind (arith, nat_tests, right))

means_test : (k t : ℕ) (a : Arrival) → a.hypothesis ≡ k → a.stage ≡ t → is_of k t a ≡ true
means_test k t a i s = grind (arith, nat_tests, i, s)

some_in : (b : Bool) (x : Arrival) (o : Option Arrival) (p : Ratio) → option_map (λ a. a.p) (cond b (Some x) o) ≡ Some p → ((b ≡ true) × (x.p ≡ p))
    ⊎ (option_map (λ a. a.p) o ≡ Some p)
some_in true x o p h = inl (refl, cc)
some_in false x o p h = inr h

none_in : (b : Bool) (x : Arrival) (o : Option Arrival) → option_map (λ a. a.p) (cond b (Some x) o) ≡ None → (b ≡ false)
    × (option_map (λ a. a.p) o ≡ None)
none_in true x o h = absurd (cc)
none_in false x o h = (refl, h)

-- ---- all of them

-- an arrival of a hypothesis at a stage, with this p-value
record IsValue (values : List Arrival) (k t : ℕ) (p : Ratio) : Type 0 where
  arrival : Arrival
  arrived : Contains values arrival
  hypothesis : arrival.hypothesis ≡ k
  stage : arrival.stage ≡ t
  p_is : arrival.p ≡ p

later : (b : Arrival) (bs : List Arrival) (a : Arrival) → Contains bs a → Contains (b ∷ bs) a
later b bs a h = (suc h.0, (let q = h.1 in omega (arith, q)), h.2)

found : (values : List Arrival) (k t : ℕ) (p : Ratio) → value_at values k t ≡ Some p → IsValue values k t p
found [] k t p h = absurd (cc)
found (b ∷ bs) k t p h = elim (some_in (is_of k t b) b (find (is_of k t) bs) p h) [
  | inl e ↦ let m = test_means k t b e.0 in record { arrival = b; arrived = (0, omega arith, refl); hypothesis = m.0; stage = m.1; p_is = e.1 }
  | inr r ↦ let f = found bs k t p r in
      record { arrival = f.arrival; arrived = later b bs f.arrival f.arrived; hypothesis = f.hypothesis; stage = f.stage; p_is = f.p_is }
]

not_found : (values : List Arrival) (k t : ℕ) (a : Arrival) → Contains values a → a.hypothesis ≡ k → a.stage ≡ t
    → ¬ (value_at values k t ≡ None)
not_found [] k t a (i, q, e) m s h = absurd (omega (arith, q))
not_found (b ∷ bs) k t a (zero, q, e) m s h =
    let no = (none_in (is_of k t b) b (find (is_of k t) bs) h).0 in
    let yes = means_test k t b (ap (λ x. x.hypothesis) e ∙ m) (ap (λ x. x.stage) e ∙ s) in cc
not_found (b ∷ bs) k t a (suc i, q, e) m s h = not_found bs k t a (i, omega (arith, q), e) m s (none_in (is_of k t b) b (find (is_of k t) bs) h).1

pub none_unknown : (values : List Arrival) (k t : ℕ) → value_at values k t ≡ None → ¬ IsKnown values k t
none_unknown values k t h n = not_found values k t n.arrival n.arrived n.hypothesis n.stage h

some_is : (o : Option Ratio) → is_some o ≡ true → (p : Ratio) × (o ≡ Some p)
some_is None h = absurd (cc)
some_is (Some p) h = (p, refl)

none_is : (o : Option Ratio) → is_some o ≡ false → o ≡ None
none_is None h = refl
none_is (Some p) h = absurd (cc)

pub known_from : (values : List Arrival) (k t : ℕ) → is_some (value_at values k t) ≡ true → IsKnown values k t
known_from values k t h = let s = some_is _ h in let f =
    found values k t s.0 s.1 in record { arrival = f.arrival; arrived = f.arrived; hypothesis = f.hypothesis; stage = f.stage }

pub unknown_from : (values : List Arrival) (k t : ℕ) → is_some (value_at values k t) ≡ false → ¬ IsKnown values k t
unknown_from values k t h = none_unknown values k t (none_is _ h)

-- ---- in a study

module _ (t : StudyContent) (T : IsSomeStudy t) where
  pub value_is : (k s : ℕ) (p : Ratio) → value_at t.looks.values k s ≡ Some p → is_p_value p ≡ true
  value_is k s p h = let f = found t.looks.values k s p h in subst (λ x. is_p_value x ≡ true) f.p_is (any_value t T f.arrival f.arrived)

  -- what the p-value of a stage that has arrived meets, the hypothesis meets at the stage
  pub meets_found : (k s : ℕ) (u : Number) (p : Ratio) → value_at t.looks.values k s ≡ Some p
      → Meets (spend_at t.spends k) (number_of t.alpha) s u (number_of p) ↔ MeetsAtStage t k s u
  meets_found k s u p h =
      let f = found t.looks.values k s p h in (
        λ m. record {
          arrival = f.arrival;
          meets = record {
            arrived = f.arrived;
            hypothesis = f.hypothesis;
            meets = subst₂ (λ n x. Meets (spend_at t.spends k) (number_of t.alpha) n u (number_of x)) (sym f.stage) (sym f.p_is) m;
          };
          stage = f.stage;
        },
        λ n.
            let same : number_of n.arrival.p ≡ number_of p = any_same t T n.arrival f.arrival n.meets.arrived f.arrived
            (n.meets.hypothesis ∙ sym f.hypothesis) (n.stage ∙ sym f.stage) ∙ ap number_of f.p_is in
            subst₂ (λ i x. Meets (spend_at t.spends k) (number_of t.alpha) i u x) n.stage same n.meets.meets,
      )

  pub none_meets : (k s : ℕ) (u : Number) → value_at t.looks.values k s ≡ None → ¬ MeetsAtStage t k s u
  none_meets k s u h n = not_found t.looks.values k s n.arrival n.meets.arrived n.meets.hypothesis n.stage h

  -- where one more may arrive there is room for it
  pub any_room : (a : Arrival) → ((c : Content) → IsStudy c t → MayArrive c t.looks.values a) → length t.looks.values < t.count * size_of t
  any_room a m = ∥∥₁_elim T (less_is_fact _ _)
      (λ h. subst (λ n. length t.looks.values < t.count * n) h.is_study.size
      (room_left h.content t.count h.is_study.count t.looks.values a h.is_study.study.values (m h.content h.is_study)))

  pub any_with : (a : Arrival) (new : StudyContent) → ((c : Content) → IsStudy c t → MayArrive c t.looks.values a) → IsStudyWith t a new
      → IsSomeStudy new
  any_with a new m n = ∥∥₁_elim T ∥∥₁_prop
      (λ h. ∣ record { content = h.content; is_study = study_with h.content t h.is_study a new (m h.content h.is_study) n } ∣₁)

-- an arrival that passes the tests may come
pub may_arrive : (c : Content) (t : StudyContent) → IsStudy c t → (a : Arrival) → a.hypothesis < size_of t → 1 ≤ a.stage → a.stage ≤ t.count
    → is_some (value_at t.looks.values a.hypothesis a.stage) ≡ false → is_p_value a.p ≡ true → MayArrive c t.looks.values a
may_arrive c t T a below first last unknown p = record {
  below = subst (λ n. a.hypothesis < n) (sym T.size) below;
  stage = record { first = first; last = subst (λ n. a.stage ≤ n) (sym T.count) last };
  unknown = unknown_from t.looks.values a.hypothesis a.stage unknown;
  p = p;
}
