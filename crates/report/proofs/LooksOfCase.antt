-- There is a look for each arrival of a case, and each rejection in a look is of a hypothesis of the case.
use Rattle.std.proofs.Common.{◌≡◌, refl, sym, ap, ◌∙◌, ℕ, suc, ◌<◌, List, [], ◌∷◌, ◌++◌, length, append-nil, append_assoc}
use Rattle.std.specs.List.{All}
use Rattle.std.proofs.lemmas.List.Elements.{All-nil, All-cons, All-same}
use Rattle.case_model.specs.declared.draft_stages.Arrival.{Arrival}
use Rattle.case_model.specs.Content.{Content, entangled}
use Rattle.staged_levels.specs.declared.event.Settled.{Settled}
use Rattle.staged_levels.specs.Studies.{StudyState}
use Rattle.staged_levels.specs.StudyCalls.{AreFirstRejections}
use Rattle.staged_levels.specs.Looks.{IsLook, LooksLead}
use Rattle.staged_levels.proofs.LookLaws.{added_same}
use Rattle.report.specs.StagesReport.{AreRejectionsOf}
use Rattle.report.specs.ReportStatements.{LooksAreOfTheirCases}

-- a rejection is of one of a number of hypotheses
abbrev IsBelow : ℕ → Settled → Type 0
IsBelow m r = r.hypothesis < m

module _ (c : Content) where
  -- the rejections that are added are of hypotheses of the case
  first_added : (old new : StudyState) (ks : List ℕ) → AreFirstRejections c old ks new → (more : List Settled) × (new.rejected ≡ old.rejected ++ more)
      × AreRejectionsOf c more
  unfolding entangled
  first_added old new [] e = ([], ap (λ s. s.rejected) e ∙ sym (append-nil old.rejected), All-nil (IsBelow (length c.names)))
  first_added old new (k ∷ ks) h =
      let n = h.1.1 in
      let rest = first_added h.1.0 new ks h.1.2 in (
        n.line ∷ rest.0,
        rest.1 ∙ ap (λ rs. rs ++ rest.0) n.rejected
            ∙ append_assoc old.rejected (n.line ∷ []) rest.0,
        All-cons (IsBelow (length c.names)) n.line rest.0 n.line_is.member.below rest.2,
      )

  pub look_below : (old new : StudyState) (a : Arrival) (added : List Settled) → IsLook c old a added new → AreRejectionsOf c added
  look_below old new a added h =
      let f = first_added h.arrived new h.settles.hypotheses h.settles.rejections in
      let same : added ≡ f.0 = added_same c old.rejected added f.0 (sym h.rejected ∙ f.1 ∙ ap (λ rs. rs ++ f.0) h.arrival.rejected) in
      All-same (IsBelow (length c.names)) added f.0 same f.2

  lead_of_case : (old new : StudyState) (arrivals : List Arrival) (looks : List (List Settled)) → LooksLead c old arrivals looks new
      → (length looks ≡ length arrivals) × All (AreRejectionsOf c) looks
  lead_of_case old new [] [] h = (refl, All-nil (AreRejectionsOf c))
  lead_of_case old new [] (l ∷ looks) h = absurd h
  lead_of_case old new (a ∷ arrivals) [] h = absurd h
  lead_of_case old new (a ∷ arrivals) (l ∷ looks) h =
      let rest = lead_of_case h.0 new arrivals looks h.2 in
      (ap suc rest.0, All-cons (AreRejectionsOf c) l looks (look_below old h.0 a l h.1) rest.1)

pub looks_of_their_cases : LooksAreOfTheirCases
looks_of_their_cases c looks h = lead_of_case c _ h.end _ looks h.lead
