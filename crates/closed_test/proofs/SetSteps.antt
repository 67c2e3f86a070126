-- A step of the walk through the sets.
use Rattle.std.proofs.Common.{◌≡◌, ◌≢◌, ◌⊎◌, inl, inr, refl, sym, ap, ap₂, subst, ◌∙◌, ℕ, suc, ◌+◌, ◌-◌, ◌^◌, ◌<◌, add-one}
use Rattle.std.proofs.Common.{◌≤◌, arith, true, List, [], ◌∷◌, ◌++◌, append_assoc, length, length-append, get_or, Ok, Err}
use Rattle.field_core.specs.declared.ratio.Ratio.{Ratio}
use Rattle.field_core.specs.declared.place.WideAt.{WideAt}
use Rattle.field_core.specs.View.{terms}
use Rattle.field_core.specs.Sets.{HaveSameMembers, whole}
use Rattle.field_core.specs.Runs.{left_after}
use Rattle.field_core.specs.NumberedSets.{members}
use Rattle.field_core.specs.OrderOfSets.{ComesBefore, IsAscending, IsListStep}
use Rattle.field_core.proofs.Members.{members_number, number_below}
use Rattle.field_core.proofs.ListOrder.{not_itself}
use Rattle.field_core.proofs.NextLists.{ascending_last, ascending_short}
use Rattle.field_core.proofs.SetOrders.{ascending_order, one_list}
use Rattle.case_model.specs.Content.{Content}
use Rattle.case_model.specs.Validity.{IsValidContent}
use Rattle.entangled.specs.CaseRun.{CaseState, case_removal, case_level, case_size, case_numbers, case_shares, is_live_in_case}
use Rattle.entangled.specs.CaseAfter.{case_after}
use Rattle.entangled.proofs.CaseLevels.{case_live, case_sizes}
use Rattle.entangled.proofs.CaseSteps.{numbers_stay, case_shares_stay}
use Rattle.entangled.proofs.CaseRuns.{after_next}
use Rattle.closed_test.specs.Paths.{number_without}
use Rattle.closed_test.specs.Walks.{IsTabled, AreTabledTo, IsFirstUndefined, AreStatesAlong, AreAlike, AreLikeTheFirst}
use Rattle.closed_test.proofs.LeftLists.{stays, begins}
use Rattle.field_core.proofs.RemovalLaws.{same_or_not}

-- the number of a set is below that of all sets
pub set_fits : (set size m t : ℕ) (left : List ℕ) → set ≡ number_without size left → size ≡ m → t ≡ m → set < 2 ^ t
set_fits set size m t left e f g = rw (e, f, g) (number_below m (left_after whole left))

-- ---- the position that a step removes is still in

live_at : (c : Content) → IsValidContent c → (parent : List ℕ) (l : ℕ) (s : CaseState) → IsAscending (length c.names) 0 (parent ++ l ∷ [])
    → case_after c parent ≡ Ok s → is_live_in_case s l ≡ true
live_at c V parent l s a r =
    case_live c parent s l V (ascending_order (length c.names) 0 whole parent (begins (length c.names) 0 parent (l ∷ []) a) (λ i p q. refl)) r
    (ascending_last (length c.names) 0 l parent a)
    ∙ stays (length c.names) 0 whole parent l a refl

-- ---- the states along a list

-- what begins `parent ++ l ∷ []` begins `parent`, or is all of it
beginning : (js ks parent : List ℕ) (l : ℕ) → parent ++ l ∷ [] ≡ js ++ ks → ((rest : List ℕ) × (parent ≡ js ++ rest))
    ⊎ (js ≡ parent ++ l ∷ [])
beginning [] ks parent l e = inl (parent, refl)
beginning (j ∷ js) ks [] l e = inr (alone j l js ks (cc) (cc))
  where
    alone : (j l : ℕ) (js ks : List ℕ) → l ≡ j → [] ≡ js ++ ks → j ∷ js ≡ l ∷ []
    alone j l [] ks e f = cc
    alone j l (i ∷ js) ks e f = absurd (cc)
beginning (j ∷ js) ks (p ∷ parent) l e =
    let head : p ≡ j = cc in
    let tail : parent ++ l ∷ [] ≡ js ++ ks = cc in
    elim (beginning js ks parent l tail) [
      | inl x ↦ inl (x.0, ap₂ ◌∷◌ head x.1)
      | inr f ↦ inr (ap₂ ◌∷◌ (sym head) f)
    ]

states_next : (c : Content) (old new parent rest : List ℕ) (l : ℕ) (states nexts : List CaseState) → old ≡ parent ++ rest → new ≡ parent ++ l ∷ []
    → AreStatesAlong c old states → ((n : ℕ) (d : CaseState) → n ≤ length parent → get_or nexts n d ≡ get_or states n d)
    → ((d : CaseState) → case_removal (get_or states (length parent) d) l ≡ Ok (get_or nexts (suc (length parent)) d)) → AreStatesAlong c new nexts
states_next c old new parent rest l states nexts was is along same removal js ks d e = elim (beginning js ks parent l (sym is ∙ e)) [
  | inl x ↦
      let long : length js ≤ length parent = rw (x.1, length-append js x.0) (omega arith) in
      along js (x.0 ++ rest) d (was ∙ ap (λ xs. xs ++ rest) x.1 ∙ append_assoc js x.0 rest) ∙ ap Ok (sym (same (length js) d long))
  | inr f ↦
      let long : length js ≡ suc (length parent) = ap length f ∙ length-append parent (l ∷ []) ∙ add-one (length parent) in
      ap (case_after c) f ∙ after_next c parent (get_or states (length parent) d) l (along parent rest d was) ∙ removal d
      ∙ ap (λ n. Ok (get_or nexts n d)) (sym long)
]

-- ---- rows

-- another list has another number
pub differs : (m : ℕ) (xs new : List ℕ) → IsAscending m 0 xs → IsAscending m 0 new → ComesBefore xs new
    → number_without m xs ≢ number_without m new
differs m xs new a b before e = not_itself new (subst (λ ks. ComesBefore ks new) same before)
  where
    alike : HaveSameMembers m (left_after whole xs) (left_after whole new)
    alike i p = sym (members_number m (left_after whole xs) i p) ∙ ap (λ n. members n i) e ∙ members_number m (left_after whole new) i p

    same : xs ≡ new
    same = one_list m 0 whole xs new a b (λ i p q. refl) alike

-- the row that is put has the levels of the members
pub row_of : (c : Content) (weight : ℕ → ℕ → Ratio) (js : List ℕ) (s : CaseState) (set : ℕ) → IsValidContent c
    → IsAscending (length c.names) 0 js → case_after c js ≡ Ok s → set ≡ number_without (length c.names) js
    → ((k : ℕ) → k < length c.names → is_live_in_case s k ≡ true → terms (weight set k) ≡ case_level s k) → IsTabled c weight js
row_of c weight js s set V a run number row = record {
  state = s;
  run = run;
  row = λ k p. ap (λ n. terms (weight n k)) (sym number)
      ∙ row k p.below (case_live c js s k V (ascending_order (length c.names) 0 whole js a (λ i q r. refl)) run p.below ∙ p.member);
}

pub tabled_start : (c : Content) (weight : ℕ → ℕ → Ratio) (js : List ℕ) → js ≡ [] → IsTabled c weight js → AreTabledTo c weight js
tabled_start c weight js e t xs a (inl b) = absurd (subst (ComesBefore xs) e b)
tabled_start c weight js e t xs a (inr f) = subst (IsTabled c weight) (sym f) t

-- some state, that of the set of all
some_state : (c : Content) (weight : ℕ → ℕ → Ratio) (js : List ℕ) → AreTabledTo c weight js → CaseState
some_state c weight [] h = (h [] tt (inr refl)).state
some_state c weight (j ∷ js) h = (h [] tt (inl tt)).state

-- ---- all of a step

module _ (c : Content) (V : IsValidContent c) (old new : List ℕ) (l : ℕ) (step : IsListStep (length c.names) old new l) (states : List CaseState)
    (along : AreStatesAlong c old states) where
  pub depth_is : (len : ℕ) → len ≡ length new → len - 1 ≡ length step.parent
  depth_is len e =
      let a : length new ≡ length step.parent + 1 = ap length step.is ∙ length-append step.parent (l ∷ []) in
      omega (arith, a, e)

  pub one_deeper : (len : ℕ) → len ≡ length new → len ≡ suc (length step.parent)
  one_deeper len e = e ∙ ap length step.is ∙ length-append step.parent (l ∷ []) ∙ add-one (length step.parent)

  pub short : length step.parent + 1 ≤ length c.names
  short =
      let a : length new ≡ length step.parent + 1 = ap length step.is ∙ length-append step.parent (l ∷ []) in
      omega (arith, a, ascending_short (length c.names) 0 new step.next.ascending (omega arith))

  reached : (depth : ℕ) → depth ≡ length step.parent → (d : CaseState) → case_after c step.parent ≡ Ok (get_or states depth d)
  reached depth e d = along step.parent step.rest d step.was ∙ ap (λ n. Ok (get_or states n d)) (sym e)

  pub step_live : (depth : ℕ) → depth ≡ length step.parent → (d : CaseState) → is_live_in_case (get_or states depth d) l ≡ true
  step_live depth e d = live_at c V step.parent l (get_or states depth d) (subst (IsAscending (length c.names) 0) step.is step.next.ascending)
      (reached depth e d)

  -- the nets that are entered are like those from which they are entered
  pub step_both : (depth : ℕ) → depth ≡ length step.parent → AreLikeTheFirst (length c.names + 1) states → (d : CaseState)
      → AreAlike (get_or states (suc depth) d) (get_or states depth d)
  step_both depth at P d =
      let a = P (suc depth) d (omega (arith, at, short)) in
      let b = P depth d (omega (arith, at, short)) in
      record { numbers = a.numbers ∙ sym b.numbers; size = a.size ∙ sym b.size; shares = a.shares ∙ sym b.shares }

  module _ (nexts : List CaseState) (depth : ℕ) (at : depth ≡ length step.parent)
      (others : (n : ℕ) (d : CaseState) → n ≢ suc depth → get_or nexts n d ≡ get_or states n d)
      (value : (d : CaseState) → Ok (get_or nexts (suc depth) d) ≡ case_removal (get_or states depth d) l) where
    pub step_states : AreStatesAlong c new nexts
    step_states = states_next c old new step.parent step.rest l states nexts step.was step.is along (λ n d h. others n d (omega (arith, at, h)))
        (λ d. ap (λ n. case_removal (get_or states n d) l) (sym at) ∙ sym (value d) ∙ ap (λ n. Ok (get_or nexts (suc n) d)) at)

    pub step_run : (d : CaseState) → case_after c new ≡ Ok (get_or nexts (suc depth) d)
    step_run d = ap (case_after c) step.is ∙ after_next c step.parent (get_or states depth d) l (reached depth at d) ∙ sym (value d)

    pub step_size : (d : CaseState) → case_size (get_or nexts (suc depth) d) ≡ length c.names
    step_size d = case_sizes c new (get_or nexts (suc depth) d) V (ascending_order (length c.names) 0 whole new step.next.ascending (λ i p q. refl))
        (step_run d)

    next_alike : (d : CaseState) → AreAlike (get_or states depth d) (get_or states 0 d) → AreAlike (get_or nexts (suc depth) d) (get_or nexts 0 d)
    next_alike d P =
        let first = others 0 d (omega arith) in
        record {
          numbers = numbers_stay (get_or states depth d) (get_or nexts (suc depth) d) l (sym (value d)) ∙ P.numbers ∙ ap case_numbers (sym first);
          size = step_size d ∙ sym (case_sizes c [] (get_or states 0 d) V tt (along [] old d refl)) ∙ ap case_size (sym first);
          shares = case_shares_stay (get_or states depth d) (get_or nexts (suc depth) d) l (sym (value d)) ∙ P.shares ∙ ap case_shares (sym first);
        }

    pub step_alike : AreLikeTheFirst (length c.names + 1) states → AreLikeTheFirst (length c.names + 1) nexts
    step_alike P n d h = elim (same_or_not n (suc depth)) [
      | inl e ↦ subst (λ i. AreAlike (get_or nexts i d) (get_or nexts 0 d)) (sym e) (next_alike d (P depth d (omega (arith, at, short))))
      | inr f ↦ rw (others n d f, others 0 d (omega arith)) (P n d h)
    ]

  pub step_tabled : (weight next : ℕ → ℕ → Ratio) (set : ℕ) → length c.names ≤ 16 → set ≡ number_without (length c.names) new
      → IsTabled c next new
      → ((n k : ℕ) → k < 16 → n ≢ set → next n k ≡ weight n k) → AreTabledTo c weight old → AreTabledTo c next new
  step_tabled weight next set few number t others h xs a (inr e) = subst (IsTabled c next) (sym e) t
  step_tabled weight next set few number t others h xs a (inl b) =
      let T = h xs a (step.next.least xs a b) in
      let other = differs (length c.names) xs new a step.next.ascending b in
      record {
        state = T.state;
        run = T.run;
        row = λ k p. ap terms (others (number_without (length c.names) xs) k (omega (arith, p.below, few)) (λ e. other (e ∙ number))) ∙ T.row k p;
      }

  pub step_wide : (weight : ℕ → ℕ → Ratio) (depth : ℕ) → depth ≡ length step.parent → (w : WideAt) → AreTabledTo c weight old
      → ((d : CaseState) → Err w ≡ case_removal (get_or states depth d) l) → IsFirstUndefined c new w
  step_wide weight depth at w h value =
      let d = some_state c weight old h in
      record {
        ascending = step.next.ascending;
        undefined = ap (case_after c) step.is ∙ after_next c step.parent (get_or states depth d) l (reached depth at d) ∙ sym (value d);
        before = λ xs a b. let T = h xs a (step.next.least xs a b) in (T.state, T.run);
      }
