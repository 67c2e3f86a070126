-- The looks at a case are calls on its study, which is settled after them.
use Rattle.std.proofs.Common.{◌≡◌, refl, sym, ap, ◌∙◌, subst, true, arith, List, [], ◌∷◌, ◌++◌, append-nil, append_assoc}
use Rattle.std.specs.Prelude.{◌↔◌}
use Rattle.std.specs.List.{Contains}
use Rattle.case_model.specs.declared.draft_stages.Arrival.{Arrival}
use Rattle.case_model.specs.Content.{Content}
use Rattle.case_model.specs.LegalOrder.{IsListed}
use Rattle.case_model.specs.StagedCase.{IsStagedRejectedIn}
use Rattle.staged_levels.specs.declared.event.Settled.{Settled}
use Rattle.staged_levels.specs.Studies.{StudyState, start, positions_of, IsStudyOf, IsSettled}
use Rattle.staged_levels.specs.StudyCalls.{StudyCall, arrive, settle, Answered, AreCalls, arrivals_in}
use Rattle.staged_levels.specs.Looks.{LooksLead, rejected_in, arrivals_of}
use Rattle.staged_levels.specs.StudyStatements.{LooksDecide}
use Rattle.staged_levels.proofs.Calls.{settling_decides}

abbrev accepted : StudyCall → Answered
accepted call = record { call = call; accepted = true }

-- an arrival and a settling for each look
abbrev calls_of : List Arrival → List Answered
calls_of [] = []
calls_of (a ∷ more) = accepted (arrive a) ∷ accepted settle ∷ calls_of more

module _ (c : Content) where
  lead_calls : (old new : StudyState) (arrivals : List Arrival) (looks : List (List Settled)) → LooksLead c old arrivals looks new
      → AreCalls c old (calls_of arrivals) new
  lead_calls old new [] [] h = h
  lead_calls old new [] (l ∷ looks) h = absurd h
  lead_calls old new (a ∷ more) [] h = absurd h
  lead_calls old new (a ∷ more) (l ∷ looks) h = (h.1.arrived, h.1.arrival, (h.0, h.1.settles, lead_calls h.0 new more looks h.2))

  lead_rejected : (old new : StudyState) (arrivals : List Arrival) (looks : List (List Settled)) → LooksLead c old arrivals looks new
      → new.rejected ≡ old.rejected ++ rejected_in looks
  lead_rejected old new [] [] h = ap (λ s. s.rejected) h ∙ sym (append-nil old.rejected)
  lead_rejected old new [] (l ∷ looks) h = absurd h
  lead_rejected old new (a ∷ more) [] h = absurd h
  lead_rejected old new (a ∷ more) (l ∷ looks) h =
      lead_rejected h.0 new more looks h.2 ∙ ap (λ rs. rs ++ rejected_in looks) h.1.rejected ∙ append_assoc old.rejected l (rejected_in looks)

  lead_settled : (old new : StudyState) (arrivals : List Arrival) (looks : List (List Settled)) → IsSettled c old → LooksLead c old arrivals looks new
      → IsSettled c new
  lead_settled old new [] [] s h = subst (IsSettled c) (sym h) s
  lead_settled old new [] (l ∷ looks) s h = absurd h
  lead_settled old new (a ∷ more) [] s h = absurd h
  lead_settled old new (a ∷ more) (l ∷ looks) s h = lead_settled h.0 new more looks h.1.settles.settled h.2

  -- where nothing has arrived, nothing is legal
  start_settled : IsSettled c start
  start_settled k h = none h.passes.arrival h.passes.at.arrived
    where
      none : (a : Arrival) → Contains [] a → ⊥
      none a (i, q, e) = absurd (omega (arith, q))

arrivals_called : (arrivals : List Arrival) → arrivals_in (calls_of arrivals) ≡ arrivals
arrivals_called [] = refl
arrivals_called (a ∷ more) = ap (λ xs. a ∷ xs) (arrivals_called more)

pub looks_decide : LooksDecide
looks_decide c looks j valid h =
    let arrivals = arrivals_of c.inputs in
    let opened : IsStudyOf c start = record { valid = valid; values = tt; rejected = tt } in
    let decided = settling_decides c (calls_of arrivals) h.end j (record { opened = opened; calls = lead_calls c start h.end arrivals looks h.lead })
    (lead_settled c start h.end arrivals looks (start_settled c) h.lead) in
    let rejected = lead_rejected c start h.end arrivals looks h.lead in
    subst (λ rs. IsListed (positions_of rs) j ↔ IsStagedRejectedIn c arrivals j) rejected
    (subst (λ vs. IsListed (positions_of h.end.rejected) j ↔ IsStagedRejectedIn c vs j) (arrivals_called arrivals) decided)
