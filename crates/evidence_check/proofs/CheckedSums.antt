-- The sums of the written check by value.
use Rattle.std.proofs.Common.{◌≡◌, sym, ap, subst, ◌∙◌, ℕ, ◌<◌, List, Result, length}
use Rattle.field_core.specs.declared.place.Place.{Place}
use Rattle.field_core.specs.declared.place.Place.TheVariants.{Level, Exit}
use Rattle.field_core.specs.Number.{Number}
use Rattle.field_core.specs.Arithmetic.{number_zero, ◌+ε◌, ◌*ε◌}
use Rattle.field_core.specs.NumberField.{number_field}
use Rattle.field_core.specs.Limit.{limit}
use Rattle.field_core.specs.LimitParts.{IsUnit, limit_terms}
use Rattle.field_core.specs.Sums.{sum_below}
use Rattle.field_core.specs.Sets.{whole}
use Rattle.field_core.specs.Runs.{IsOrder}
use Rattle.field_core.specs.Kind.{Parts, Kind}
use Rattle.field_core.specs.Exact.{IsExact, Gives, value_of}
use Rattle.field_core.specs.Steps.{each_below}
use Rattle.evidence_check.specs.declared.event.CheckEvent.{CheckEvent}
use Rattle.evidence_check.specs.declared.verdict.Reason.{Reason}
use Rattle.field_core.specs.Laws.NumberLaws.{number_add_comm, number_add_zero}
use Rattle.fraction.specs.Plain.{plain, single, IsFraction}
use Rattle.fraction.specs.Laws.PlainLaws.{plain_is_exact}
use Rattle.case_model.specs.EntangledGraph.{EntangledGraph, IsValidEntangled}
use Rattle.case_model.proofs.ExactSums.{stored_single, value_single}
use Rattle.evidence_check.specs.Evidence.{at_place, brought, leaving, allowed}
use Rattle.evidence_check.specs.EvidenceParts.{numbers_at}
use Rattle.evidence_check.specs.WrittenCheck.{Loaded, shared_sum, level_by, brought_sum, leaving_sum, allowed_sum}
use Rattle.evidence_check.specs.CheckStatements.{IsLoaded}
use Rattle.evidence_check.proofs.Places.{place_below}
use Rattle.evidence_check.proofs.Tells.{Tells, tells_bind, tells_if, AreEach, each_tells}
use Rattle.evidence_check.proofs.WrittenSums.{added_tells}

zero_first : (x : Number) → number_zero +ε x ≡ x
zero_first x = number_add_comm number_zero x ∙ number_add_zero x

module _ (K : Kind) (IsStored : Parts → Type 0) (X : IsExact K IsStored) where
  -- the limit of a number from 0 to 1
  pub limit_gives : (x : Parts) (v : Number) → Gives IsStored x v → IsUnit v → Gives IsFraction (single (limit_terms x)) (limit v)
  limit_gives x v G u =
      let unit : IsUnit (value_of x) = subst IsUnit (sym G.value) u in
      record {
        stored = stored_single (limit_terms x) (X.limit_reduced x G.stored unit);
        value = value_single (limit_terms x) ∙ X.limit_value x G.stored unit
            ∙ ap limit G.value;
      }

  module _ (L : Loaded) (E : EntangledGraph) (V : IsValidEntangled E) (D : IsLoaded IsStored L E) where
    -- shared sums
    pub shared_tells : (k : ℕ) (limits : List Parts) (v : ℕ → Number) (Bad : Reason → Type 0) → AreEach L.components (λ c x. Gives IsFraction x (v c)) limits
        → Tells (shared_sum L k limits) (λ t. Gives IsFraction t (sum_below number_field E.components (λ c. E.share c *ε v c))) Bad
    unfolding shared_sum numbers_at
    shared_tells k limits v Bad S =
        tells_if (shared_sum L k limits) _ _ _
        (λ t G. subst (Gives IsFraction t) (zero_first _ ∙ ap (λ n. sum_below number_field n (λ c. E.share c *ε v c)) D.components) G)
        (added_tells plain IsFraction plain_is_exact (λ c. c) (Level k) plain.zero L.share (numbers_at plain limits) number_zero E.share v L.components Bad
        (record { stored = plain_is_exact.zero_stored; value = plain_is_exact.zero_value })
        (λ c p. D.share c (subst (λ n. c < n) D.components p))
        (λ c p. S.each c plain.zero p))

    -- levels, where each limit is found with what is said of its component
    pub level_tells : (k : ℕ) (f : ℕ → Result Parts CheckEvent) (v : ℕ → Number) (P : ℕ → Type 0) (Bad : Reason → Type 0)
        → ((c : ℕ) → c < L.components → Tells (f c) (λ x. Gives IsFraction x (v c) × P c) Bad)
        → Tells (level_by L k f) (λ t. Gives IsFraction t (sum_below number_field E.components (λ c. E.share c *ε v c))
        × ((c : ℕ) → c < L.components → P c)) Bad
    unfolding level_by
    level_tells k f v P Bad each =
        tells_bind (each_below L.components f) (λ limits. shared_sum L k limits) (AreEach L.components (λ c x. Gives IsFraction x (v c) × P c)) _ Bad
        (each_tells L.components f (λ c x. Gives IsFraction x (v c) × P c) Bad each)
        (λ limits S. tells_if (shared_sum L k limits) _ _ _ (λ t G. (G, λ c p. (S.each c plain.zero p).1))
        (shared_tells k limits v Bad (record { count = S.count; each = λ c d p. (S.each c d p).0 })))

    module _ (js : List ℕ) (o : IsOrder E.hypotheses whole js) where
      pub here : (r : ℕ) → r < length js → at_place js r < E.hypotheses
      here r p = place_below E.hypotheses js whole o r p

      pub bring_tells : (c : ℕ) → c < E.components → (y : ℕ → Parts) (v : ℕ → Number) → ((e : ℕ) → Gives IsStored (y e) (v e))
          → (place : Place) (k : ℕ) (Bad : Reason → Type 0) → k < E.hypotheses
          → Tells (brought_sum K L js place y k c) (λ x. Gives IsStored x (brought (E.graph c) js v k)) Bad
      unfolding brought brought_sum
      bring_tells c q y v Y place k Bad p =
          added_tells K IsStored X (λ _. c) place (L.weight c k) y (λ e. L.edge c (at_place js e) k) ((E.graph c).weight k) v
          (λ e. (E.graph c).edge (at_place js e) k) (length js) Bad
          (D.weight c k q p) (λ e _. Y e) (λ e h. D.edge c (at_place js e) k q (here e h) p)

      pub leave_tells : (c : ℕ) → c < E.components → (k : ℕ) → k < E.hypotheses → (h : ℕ → Parts) (v : ℕ → Number)
          → ((e : ℕ) → Gives IsStored (h e) (v e)) → (r : ℕ) (Bad : Reason → Type 0) → r < length js
          → Tells (leaving_sum K L js h k c r) (λ x. Gives IsStored x (leaving (E.graph c) js v k (at_place js r))) Bad
      unfolding leaving leaving_sum
      leave_tells c q k i h v H r Bad p =
          let l = at_place js r in
          added_tells K IsStored X (λ _. c) (Exit l k) (L.edge c l k) (λ e. L.edge c l (at_place js e)) h ((E.graph c).edge l k)
          (λ e. (E.graph c).edge l (at_place js e)) v (length js) Bad
          (D.edge c l k q (here r p) i) (λ e g. D.edge c l (at_place js e) q (here r p) (here e g)) (λ e _. H e)

      pub allow_tells : (c : ℕ) → c < E.components → (k : ℕ) → k < E.hypotheses → (h : ℕ → Parts) (v : ℕ → Number)
          → ((e : ℕ) → Gives IsStored (h e) (v e)) → (Bad : Reason → Type 0)
          → Tells (allowed_sum K L js h k c) (λ x. Gives IsStored x (allowed (E.graph c) js v k)) Bad
      unfolding allowed allowed_sum
      allow_tells c q k i h v H Bad =
          added_tells K IsStored X (λ _. c) (Level k) (L.weight c k) (λ r. L.weight c (at_place js r)) h ((E.graph c).weight k)
          (λ r. (E.graph c).weight (at_place js r)) v (length js) Bad
          (D.weight c k q i) (λ e g. D.weight c (at_place js e) q (here e g)) (λ e _. H e)
