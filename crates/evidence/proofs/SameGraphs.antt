-- Evidence for entangled graphs that are the same below their number of hypotheses.
use Rattle.std.proofs.Common.{◌≡◌, sym, ap, ap₂, subst, ◌∙◌, ℕ, ◌<◌, Bool, List, length}
use Rattle.field_core.specs.Number.{Number}
use Rattle.field_core.specs.Arithmetic.{number_one, ◌+ε◌, ◌*ε◌}
use Rattle.field_core.specs.Order.{◌≤ε◌}
use Rattle.field_core.specs.NumberField.{number_field}
use Rattle.field_core.specs.Limit.{limit}
use Rattle.field_core.specs.Graph.{Graph}
use Rattle.field_core.specs.Sums.{sum_below}
use Rattle.field_core.specs.Sets.{IsIn, whole}
use Rattle.field_core.proofs.SumLaws.{sum_congr}
use Rattle.case_model.specs.EntangledGraph.{EntangledGraph}
use Rattle.case_model.specs.ClosedTest.{Passes, IsLegal}
use Rattle.case_model.specs.LegalOrder.{IsLegalOrder}
use Rattle.case_model.proofs.RejectionOrders.{order_by}
use Rattle.field_core.proofs.SameBelow.{SameBelow, swapped}
use Rattle.entangled.proofs.SameEntangled.{AreSame, weight_of_same}
use Rattle.evidence_check.specs.Evidence.{StepValues, KeepValues, at_place, brought, leaving, allowed, shared, AreFlows, AreExits, IsGoodStep, IsGoodKeep}

pub turned : (D E : EntangledGraph) → AreSame D E → AreSame E D
turned D E S = record {
  hypotheses = sym S.hypotheses;
  components = sym S.components;
  share = λ c p. sym (S.share c (subst (λ n. c < n) S.components p));
  graph = λ c p. subst (λ n. SameBelow n (E.graph c) (D.graph c)) (sym S.hypotheses)
      (swapped number_field E.hypotheses (D.graph c) (E.graph c) (S.graph c (subst (λ n. c < n) S.components p)));
}

module _ (m : ℕ) (A B : Graph Number) (S : SameBelow m A B) (js : List ℕ) (below : (e : ℕ) → e < length js → at_place js e < m) where
  brought_same : (y : ℕ → Number) (k : ℕ) → k < m → brought A js y k ≡ brought B js y k
  unfolding brought
  brought_same y k p = ap₂ ◌+ε◌ (S.weight k p)
      (sum_congr number_field (length js) _ _ (λ e q. ap (λ v. y e *ε v) (S.edge (at_place js e) k (below e q) p)))

  leaving_same : (h : ℕ → Number) (k r : ℕ) → k < m → r < m → leaving A js h k r ≡ leaving B js h k r
  unfolding leaving
  leaving_same h k r p q = ap₂ ◌+ε◌ (S.edge r k q p)
      (sum_congr number_field (length js) _ _ (λ e b. ap (λ v. v *ε h e) (S.edge r (at_place js e) q (below e b))))

  allowed_same : (h : ℕ → Number) (k : ℕ) → k < m → allowed A js h k ≡ allowed B js h k
  unfolding allowed
  allowed_same h k p = ap₂ ◌+ε◌ (S.weight k p)
      (sum_congr number_field (length js) _ _ (λ e b. ap (λ v. v *ε h e) (S.weight (at_place js e) (below e b))))

  flows_same : (y : ℕ → Number) → AreFlows A js y → AreFlows B js y
  flows_same y F = record { nonneg = F.nonneg; within = λ r p. subst (λ v. y r ≤ε v) (brought_same y (at_place js r) (below r p)) (F.within r p) }

  exits_same : (k : ℕ) (h : ℕ → Number) → k < m → AreExits A js k h → AreExits B js k h
  exits_same k h q X = record {
    nonneg = X.nonneg;
    above = λ r p. subst (λ v. v ≤ε h r) (leaving_same h k (at_place js r) q (below r p)) (X.above r p);
    bounded = subst (λ v. v ≤ε number_one) (allowed_same h k q) X.bounded;
  }

module _ (D E : EntangledGraph) (S : AreSame D E) (p : ℕ → Number) (level : Number) where
  back : (c : ℕ) → c < E.components → c < D.components
  back c q = subst (λ n. c < n) (sym S.components) q

  pub legal_same : (I : ℕ → Bool) (k : ℕ) → IsLegal D p level I k → IsLegal E p level I k
  legal_same I k L =
      let i : IsIn E.hypotheses I k = subst (λ n. IsIn n I k) S.hypotheses L.member in
      record { member = i; weight = L.weight; is_weight = weight_of_same D E S I k L.weight i.below L.is_weight; passes = L.passes }

  pub order_same : (js : List ℕ) → IsLegalOrder D p level whole js → IsLegalOrder E p level whole js
  order_same js o = order_by (IsLegal D p level) (IsLegal E p level) legal_same js whole o

  shared_same : (f g : ℕ → Number) → ((c : ℕ) → c < E.components → f c ≡ g c) → shared D f ≡ shared E g
  shared_same f g e =
      ap (λ n. sum_below number_field n (λ c. D.share c *ε limit (f c))) S.components
      ∙ sum_congr number_field E.components (λ c. D.share c *ε limit (f c)) (λ c. E.share c *ε limit (g c))
      (λ c q. ap₂ ◌*ε◌ (S.share c q) (ap limit (e c q)))

  module _ (js : List ℕ) (below : (e : ℕ) → e < length js → at_place js e < E.hypotheses) where
    pub step_same : (s : StepValues) → IsGoodStep D p level js s → IsGoodStep E p level js s
    step_same s G =
        let b : s.hypothesis < E.hypotheses = subst (λ n. s.hypothesis < n) S.hypotheses G.below in
        record {
          below = b;
          new = G.new;
          flows = λ c q. flows_same E.hypotheses (D.graph c) (E.graph c) (S.graph c q) js below (s.flow c) (G.flows c (back c q));
          passes = subst (λ u. Passes (p s.hypothesis) u level)
              (shared_same _ _ (λ c q. brought_same E.hypotheses (D.graph c) (E.graph c) (S.graph c q) js below (s.flow c) s.hypothesis b)) G.passes;
        }

    pub keep_same : (x : KeepValues) → IsGoodKeep D p level js x → IsGoodKeep E p level js x
    keep_same x G =
        let b : x.hypothesis < E.hypotheses = subst (λ n. x.hypothesis < n) S.hypotheses G.below in
        record {
          below = b;
          exits = λ c q. exits_same E.hypotheses (D.graph c) (E.graph c) (S.graph c q) js below x.hypothesis (x.exit c) b (G.exits c (back c q));
          fails = subst (λ u. ¬ Passes (p x.hypothesis) u level)
              (shared_same _ _ (λ c q. allowed_same E.hypotheses (D.graph c) (E.graph c) (S.graph c q) js below (x.exit c) x.hypothesis b)) G.fails;
        }
