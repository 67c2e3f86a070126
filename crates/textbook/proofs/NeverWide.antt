-- Decisions and adjusted values on the graphs of textbook rules are never too wide.
use Rattle.std.proofs.Common.{◌≡◌, refl, sym, ap, ◌∙◌, subst, inl, inr, ℕ, zero, suc, ◌+◌, ◌≤◌, ◌<◌, arith, lit<, pos, Bool, true, List, []}
use Rattle.std.proofs.Common.{◌∷◌, ◌++◌, length, Some, None, Result, Ok, Err}
use Rattle.field_core.specs.Fractions.{fraction, one_over}
use Rattle.field_core.specs.Number.{Number}
use Rattle.field_core.specs.NumberField.{number_field}
use Rattle.field_core.specs.Sets.{IsIn, dropping, whole}
use Rattle.field_core.specs.Runs.{IsOrder, left_after}
use Rattle.field_core.specs.Steps.{◌>>=◌}
use Rattle.field_core.specs.declared.place.WideAt.{WideAt}
use Rattle.field_core.specs.declared.ratio.Ratio.{Ratio}
use Rattle.fraction.specs.View.{number_of}
use Rattle.case_model.specs.Sums.{number_at, one_ratio}
use Rattle.case_model.specs.Content.{Content, IfSingle, entangled, is_plain}
use Rattle.case_model.specs.CaseTests.{at_level, IsUnstaged}
use Rattle.case_model.specs.Draft.{ArePValues}
use Rattle.case_model.specs.ClosedTest.{IsLegal}
use Rattle.case_model.specs.LegalOrder.{IsOrderBy}
use Rattle.case_model.specs.TextbookGraphs.{IsAlone, equal_graph, chain_graph, IsHolmGraph, IsFallbackGraph}
use Rattle.case_model.specs.Validity.{IsValidContent}
use Rattle.case_model.proofs.FallbackOrders.{chain_start}
use Rattle.case_model.proofs.HolmOrders.{equal_start}
use Rattle.case_model.proofs.OtherLevels.{valid_at}
use Rattle.case_model.proofs.SingleInputs.{for_single}
use Rattle.case_model.proofs.ValidContents.{shape}
use Rattle.removal.specs.InTurn.{removed_in_turn}
use Rattle.removal.specs.StoredGraph.{size}
use Rattle.removal.proofs.WeightsLeft.{turn_none, turn_first}
use Rattle.entangled.specs.CaseRun.{CaseState, case_opening, case_removal}
use Rattle.entangled.specs.CaseAfter.{case_after}
use Rattle.sequential.specs.Decisions.{IsNext}
use Rattle.sequential.specs.WideDecisions.{AreDefinedBelow, IsWideChoice, IsWideStep, IsWideRemoval}
use Rattle.sequential.specs.declared.priority.Priority.{Priority}
use Rattle.sequential.proofs.TrialFacts.{hypotheses_are}
use Rattle.sequential.specs.declared.priority.Priority.TheVariants.{First, Last, Ratio as ByRatio}
use Rattle.field_core.specs.Laws.Prefixes.{bind_ok}
use Rattle.field_core.proofs.Chains.{chain_left, chain_closed}
use Rattle.field_core.proofs.EqualShares.{equal_left, equal_closed}
use Rattle.field_core.proofs.UnitFractions.{one_over_parts}
use Rattle.textbook.specs.TextbookRuns.{Stores, total}
use Rattle.textbook.specs.DefinedDecisions.{AreDecisionsDefined, IsNeverWide, HolmDecisionsAreDefined, SequenceDecisionsAreDefined, FallbackDecisionsAreDefined, GatekeepingDecisionsAreDefined}
use Rattle.textbook.specs.Gatekeeping.{gatekeeping_graph, IsGatekeepingGraph}
use Rattle.textbook.proofs.ShortRemovals.{IsDefined}
use Rattle.textbook.proofs.CaseRuns.{net, net_stores, net_size, case_defined}
use Rattle.adjusted_p.specs.WrittenRun.{IsWideAdjusting}
use Rattle.adjusted_p.proofs.LevelOne.{one_level}
use Rattle.textbook.proofs.DefinedRatios.{ratios_defined}
use Rattle.textbook.proofs.HolmRuns.{holm_removals, weight_short}
use Rattle.textbook.proofs.ChainRuns.{fallback_removals, weight_short as chain_short}
use Rattle.textbook.proofs.ChainSums.{sum_at_most}
use Rattle.textbook.proofs.SequenceRuns.{first_part, first_weight}
use Rattle.textbook.proofs.GateLeft.{left, left_closed, gate_start}
use Rattle.textbook.proofs.GateRuns.{gatekeeping_removals, weight_short as gate_short}

-- ---- one removal more

module _ {S E : Type 0} (removal : S → ℕ → Result S E) where
  refused_after : (js : List ℕ) (s t : S) (j : ℕ) (e : E) → removed_in_turn removal s js ≡ Ok t → removal t j ≡ Err e
      → removed_in_turn removal s (js ++ j ∷ []) ≡ Err e
  unfolding removed_in_turn
  refused_after [] s t j e h r = ap (λ q. q >>= (λ u. removed_in_turn removal u [])) (ap (λ x. removal x j) (turn_none removal s t h) ∙ r)
  refused_after (k ∷ ks) s t j e h r =
      let u = turn_first removal s t k ks h in
      ap (λ q. q >>= (λ x. removed_in_turn removal x (ks ++ j ∷ []))) u.1.0 ∙ refused_after ks u.0 t j e u.1.1 r

order_more : (m : ℕ) (Rule : (ℕ → Bool) → ℕ → Type 0) → ((I : ℕ → Bool) (j : ℕ) → Rule I j → IsIn m I j)
    → (js : List ℕ) (I : ℕ → Bool) (j : ℕ) → IsOrderBy Rule I js → IsIn m (left_after I js) j → IsOrder m I (js ++ j ∷ [])
order_more m Rule member [] I j o p = (p, tt)
order_more m Rule member (k ∷ ks) I j o p = (member I k o.0, order_more m Rule member ks (dropping k I) j o.1 p)

rule_order : (m : ℕ) (Rule : (ℕ → Bool) → ℕ → Type 0) → ((I : ℕ → Bool) (j : ℕ) → Rule I j → IsIn m I j)
    → (js : List ℕ) (I : ℕ → Bool) → IsOrderBy Rule I js → IsOrder m I js
rule_order m Rule member [] I o = tt
rule_order m Rule member (k ∷ ks) I o = (member I k o.0, rule_order m Rule member ks (dropping k I) o.1)

refused_opening : (c : Content) (js : List ℕ) (w : WideAt) → case_opening c ≡ Err w → case_after c js ≡ Err w
unfolding case_after
refused_opening c js w h = ap (λ r. r >>= (λ s. removed_in_turn case_removal s js)) h

refused_removal : (c : Content) (js : List ℕ) (s : CaseState) (j : ℕ) (w : WideAt) → case_after c js ≡ Ok s → case_removal s j ≡ Err w
    → case_after c (js ++ j ∷ []) ≡ Err w
unfolding case_after
refused_removal c js s j w h r =
    let o = bind_ok (case_opening c) _ s h in
    ap (λ q. q >>= (λ t. removed_in_turn case_removal t (js ++ j ∷ []))) o.1.0 ∙ refused_after case_removal js o.0 s j w o.1.1 r

never_both : (r : Result CaseState WideAt) (w : WideAt) → IsDefined r → r ≡ Err w → ⊥
never_both r w d e = let both : Ok d.0 ≡ Err w = sym d.1 ∙ e in cc

module _ (c : Content) (D : (js : List ℕ) → IsOrder (length c.names) whole js → IsDefined (case_after c js)) where
  -- a removal that comes next isn't refused
  not_removal : (ps : List Ratio) (priority : Priority)
      → ((I : ℕ → Bool) (j : ℕ) → IsNext (entangled c) (number_at ps) (number_of c.alpha) priority I j → IsIn (length c.names) I j)
      → (js : List ℕ) (s : CaseState) (w : WideAt) → IsOrderBy (IsNext (entangled c) (number_at ps) (number_of c.alpha) priority) whole js
      → case_after c js ≡ Ok s → IsWideRemoval c ps priority js s w → ⊥
  not_removal ps priority member js s w o h R =
      let order = order_more (length c.names) (IsNext (entangled c) (number_at ps) (number_of c.alpha) priority) member js whole R.hypothesis o
      (member (left_after whole js) R.hypothesis R.next) in
      never_both (case_after c (js ++ R.hypothesis ∷ [])) w (D (js ++ R.hypothesis ∷ []) order) (refused_removal c js s R.hypothesis w h R.refused)

  legal_member : (ps : List Ratio) (I : ℕ → Bool) (j : ℕ) → IsLegal (entangled c) (number_at ps) (number_of c.alpha) I j → IsIn (length c.names) I j
  legal_member ps I j L = subst (λ n. IsIn n I j) (hypotheses_are c) L.member

  next_member : (ps : List Ratio) (priority : Priority) (I : ℕ → Bool) (j : ℕ) → IsNext (entangled c) (number_at ps) (number_of c.alpha) priority I j
      → IsIn (length c.names) I j
  next_member ps First I j n = legal_member ps I j n.allowed
  next_member ps Last I j n = legal_member ps I j n.allowed
  next_member ps ByRatio I j n = legal_member ps I j n.legal

  no_opening : (w : WideAt) → case_opening c ≡ Err w → ⊥
  no_opening w h = never_both (case_after c []) w (D [] tt) (refused_opening c [] w h)

  module _ (V : IsValidContent c)
      (R : (js : List ℕ) (s : CaseState) → IsOrder (length c.names) whole js → case_after c js ≡ Ok s → (ps : List Ratio)
      → ArePValues (length c.names) ps → AreDefinedBelow (length ps) ps s) where
    -- what a choice writes is defined
    not_choice : (priority : Priority) (ps : List Ratio) (js : List ℕ) (s : CaseState) (w : WideAt) → ArePValues (length c.names) ps
        → IsOrder (length c.names) whole js → case_after c js ≡ Ok s → IsWideChoice priority ps s w → ⊥
    not_choice First ps js s w P o h a = a
    not_choice Last ps js s w P o h a = a
    not_choice ByRatio ps js s w P o h a =
        let d = R js s o h ps P a.hypothesis a.below a.wide.written in
        let both : Some d.0 ≡ None = sym d.1 ∙ a.wide.refused in cc

    no_step : (priority : Priority) (k : ℕ) (w : WideAt) (ps : List Ratio) → ArePValues (length c.names) ps → IsWideStep c ps priority k w → ⊥
    no_step priority k w ps P T =
        let order = rule_order (length c.names) (IsNext (entangled c) (number_at ps) (number_of c.alpha) priority)
        (next_member ps priority) T.rejected whole T.order in
        elim T.cause [
          | inl a ↦ not_choice priority ps T.rejected T.state w P order T.reached a
          | inr W ↦ not_removal ps priority (next_member ps priority) T.rejected T.state w T.order T.reached W
        ]

    pub never_wide : AreDecisionsDefined c
    never_wide priority zero w = no_opening w
    never_wide priority (suc k) w = λ h.
        for_single (λ ps. IsWideStep c ps priority k w) (λ i. IfSingle i (ArePValues (length c.names)) → ⊥)
        (λ ps T P. no_step priority k w ps P T) c.inputs h (shape c V).p_values

-- ---- adjusted values

same_graph : (c : Content) (a : Ratio) → entangled c ≡ entangled (at_level c a)
unfolding entangled
same_graph c a = refl

plain_at : (c : Content) (a : Ratio) → is_plain c ≡ true → is_plain (at_level c a) ≡ true
unfolding is_plain
plain_at c a h = h

-- where decisions are defined at each level, adjusted values are too
module _ (Fits : Content → Type 0) (other : (c : Content) → Fits c → Fits (at_level c one_ratio))
    (D : (c : Content) → IsValidContent c → is_plain c ≡ true → Fits c → AreDecisionsDefined c) where
  never_adjusted : (c : Content) → IsValidContent c → is_plain c ≡ true → Fits c → (n : ℕ) (w : WideAt) → ¬ IsWideAdjusting c n w
  never_adjusted c V P F zero w = D c V P F First zero w
  never_adjusted c V P F (suc n) w = λ h.
      let unstaged = for_single (λ ps. IsWideStep (at_level c one_ratio) ps ByRatio n w) IsUnstaged (λ ps T. tt) c.inputs h in
      D (at_level c one_ratio) (valid_at c one_ratio unstaged V one_level) (plain_at c one_ratio P) (other c F) ByRatio (suc n) w h

  both_defined : (c : Content) → IsValidContent c → is_plain c ≡ true → Fits c → IsNeverWide c
  both_defined c V P F = record { decisions = D c V P F; adjusted = never_adjusted c V P F }

-- ---- the graphs

holm_steps : (c : Content) → IsValidContent c → is_plain c ≡ true → IsHolmGraph (entangled c) → AreDecisionsDefined c
holm_steps c V P A =
    let m = length c.names in
    let S = (net c V P (equal_graph (entangled c).hypotheses) A).0 in
    let size_is : (entangled c).hypotheses ≡ size S = hypotheses_are c ∙ sym (net_size c V P (equal_graph (entangled c).hypotheses) A) in
    let stores : Stores (equal_graph (size S)) S = subst (λ n. Stores (equal_graph n) S) size_is (net_stores c V P (equal_graph (entangled c).hypotheses) A) in
    let alone : IsAlone (equal_graph m) (entangled c) = subst (λ n. IsAlone (equal_graph n) (entangled c)) (hypotheses_are c) A in
    never_wide c (case_defined c V P (equal_graph (entangled c).hypotheses) A (holm_removals S stores).1) V
    (ratios_defined c V (equal_graph m) alone (equal_left number_field one_over one_over_parts m) (equal_closed number_field one_over one_over_parts m)
    (equal_start m) 64 (lit< tt) (weight_short m (shape c V).few))

pub holm_decisions : HolmDecisionsAreDefined
holm_decisions = both_defined (λ c. IsHolmGraph (entangled c)) (λ c A. subst IsHolmGraph (same_graph c one_ratio) A) holm_steps

module _ (a : ℕ → ℕ) (d : ℕ) (small : d < 100000000) where
  -- a chain of these weights
  record IsShortChain (c : Content) : Type 0 where
    sum : total a (length c.names) ≤ suc d
    graph : IsFallbackGraph (λ i. fraction (pos (a i)) (pos (suc d))) (entangled c)

  chain_steps : (c : Content) → IsValidContent c → is_plain c ≡ true → IsShortChain c → AreDecisionsDefined c
  chain_steps c V P F =
      let m = length c.names in
      let ws : ℕ → Number = λ i. fraction (pos (a i)) (pos (suc d)) in
      let G = chain_graph ws in
      let S = (net c V P G F.graph).0 in
      let whole_sum = subst (λ n. total a n ≤ suc d) (sym (net_size c V P G F.graph)) F.sum in
      never_wide c (case_defined c V P G F.graph (fallback_removals S a d small whole_sum (net_stores c V P G F.graph)).1) V
      (ratios_defined c V G F.graph (chain_left number_field ws) (chain_closed number_field m ws) (chain_start m ws) 100000000 (lit< tt)
      (chain_short a d m small F.sum))

  other_chain : (c : Content) → IsShortChain c → IsShortChain (at_level c one_ratio)
  other_chain c F = record { sum = F.sum; graph = subst (IsFallbackGraph (λ i. fraction (pos (a i)) (pos (suc d)))) (same_graph c one_ratio) F.graph }

  chain_decisions : (c : Content) → IsValidContent c → is_plain c ≡ true → IsShortChain c → IsNeverWide c
  chain_decisions = both_defined IsShortChain other_chain chain_steps

pub fallback_decisions : FallbackDecisionsAreDefined
fallback_decisions c a d V P small A = chain_decisions a d small c V P (record { sum = sum_at_most a d c V A; graph = A })

pub sequence_decisions : SequenceDecisionsAreDefined
sequence_decisions c V P A =
    fallback_decisions c first_part 0 V P (omega arith)
    (record { one = A.one; share = A.share; weight = λ i b. A.weight i b ∙ first_weight i; edge = A.edge })

module _ (a b : ℕ) where
  gatekeeping_steps : (c : Content) → IsValidContent c → is_plain c ≡ true → IsGatekeepingGraph a b (entangled c) → AreDecisionsDefined c
  gatekeeping_steps c V P F =
      let m = length c.names in
      let G = gatekeeping_graph a b in
      let families : m ≡ a + b = sym (hypotheses_are c) ∙ F.families in
      let within : a ≤ m = omega (arith, families) in
      let S = (net c V P G F.graph).0 in
      let removals = gatekeeping_removals S a b (net_size c V P G F.graph ∙ families) (net_stores c V P G F.graph) in
      never_wide c (case_defined c V P G F.graph removals.1) V
      (ratios_defined c V G F.graph (left a m within) (left_closed a m within) (gate_start a b m families within) 4096 (lit< tt)
      (gate_short a m within (shape c V).few))

  other_gates : (c : Content) → IsGatekeepingGraph a b (entangled c) → IsGatekeepingGraph a b (entangled (at_level c one_ratio))
  other_gates c F = subst (IsGatekeepingGraph a b) (same_graph c one_ratio) F

  gates_never_wide : (c : Content) → IsValidContent c → is_plain c ≡ true → IsGatekeepingGraph a b (entangled c) → IsNeverWide c
  gates_never_wide = both_defined (λ c. IsGatekeepingGraph a b (entangled c)) other_gates gatekeeping_steps

pub gatekeeping_decisions : GatekeepingDecisionsAreDefined
gatekeeping_decisions c a b V P A = gates_never_wide a b c V P A
