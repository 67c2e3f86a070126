-- Looks that are taken: they leave studies, which are settled, on the values of these looks.
use Rattle.std.proofs.Common.{◌≡◌, ◌↔◌, refl, sym, ap, ◌∙◌, subst, zero, suc, arith, List, [], ◌∷◌, ◌++◌, Bool, true, false}
use Rattle.std.proofs.lemmas.List.{append_assoc, append-nil}
use Rattle.std.proofs.lemmas.List.Elements.{Contains-get_or}
use Rattle.std.specs.List.{Contains}
use Rattle.graph_io.specs.declared.keeper.Look.{Look}
use Rattle.case_model.specs.declared.draft_stages.Arrival.{Arrival}
use Rattle.case_model.specs.Content.{Content}
use Rattle.case_model.specs.LegalOrder.{IsListed}
use Rattle.case_model.specs.StagedCase.{IsStagedRejectedIn}
use Rattle.case_model.specs.Validity.{IsValidContent}
use Rattle.staged_levels.specs.Studies.{StudyState, start, positions_of, IsStudyOf, IsSettled}
use Rattle.staged_levels.specs.StudyCalls.{arrive, settle}
use Rattle.staged_levels.specs.StudyStatements.{HaveSameValues}
use Rattle.staged_levels.proofs.Calls.{calls_leave}
use Rattle.staged_levels.proofs.LookSteps.{look_values}
use Rattle.staged_levels.proofs.StudyFacts.{study_decides, studies_agree}
use Rattle.study_register.specs.Looking.{arrival_of, arrivals_of, Takes, Follows, AreTaken}
use Rattle.study_register.specs.Replying.{Replied, look_in, looks_taken, IsReply, AreReplies}
use Rattle.study_register.specs.RegisterStatements.{OneMoreIsTaken, RepliesAreTaken, TakenLooksDecide, OrdersOfLooksAgree}
use Rattle.staged_levels.proofs.StateFacts.{start_study}

-- ---- the values of looks

-- a value of looks is that of one of them
look_behind : (ls : List Look) (a : Arrival) → Contains (arrivals_of ls) a → (l : Look) × Contains ls l × (arrival_of l ≡ a)
look_behind [] a (k, h, e) = absurd (omega arith)
look_behind (l ∷ ls) a (zero, h, e) = (l, Contains-get_or (l ∷ ls) 0 l (omega arith), e)
look_behind (l ∷ ls) a (suc k, h, e) =
    let r = look_behind ls a (k, omega (arith, h), e) in
    (r.0, (suc r.1.0, omega (arith, r.1.1), r.1.2), r.2)

value_in : (ls : List Look) (l : Look) → Contains ls l → Contains (arrivals_of ls) (arrival_of l)
value_in [] l (k, h, e) = absurd (omega arith)
value_in (x ∷ ls) l (zero, h, e) = (zero, omega arith, ap arrival_of e)
value_in (x ∷ ls) l (suc k, h, e) =
    let r = value_in ls l (k, omega (arith, h), e) in
    (suc r.0, omega (arith, r.1), r.2)

values_within : (ls ms : List Look) → ((l : Look) → Contains ls l → Contains ms l) → (a : Arrival) → Contains (arrivals_of ls) a
    → Contains (arrivals_of ms) a
values_within ls ms more a h =
    let r = look_behind ls a h in
    subst (Contains (arrivals_of ms)) r.2 (value_in ms r.0 (more r.0 r.1))

-- ---- studies

-- before anything has arrived nothing is legal
start_settled : (c : Content) → IsSettled c start
start_settled c k h = none h.passes.at.arrived
  where
    none : Contains [] h.passes.arrival → ⊥
    none (i, b, e) = absurd (omega arith)

module _ (c : Content) where
  pub taken_study : (old new : StudyState) (l : Look) → IsStudyOf c old → Takes c old l new → IsStudyOf c new
  taken_study old new l S T =
      calls_leave c old new (record { call = arrive (arrival_of l); accepted = true } ∷ record { call = settle; accepted = true } ∷ []) S
      (T.1.arrived, T.1.arrival, (new, T.1.settles, refl))

  follows_study : (ls : List Look) (old new : StudyState) → IsStudyOf c old → Follows c old ls new → IsStudyOf c new
  follows_study [] old new S h = subst (IsStudyOf c) (sym h) S
  follows_study (l ∷ ls) old new S h = follows_study ls h.0 new (taken_study old h.0 l S h.1) h.2

  follows_settled : (ls : List Look) (old new : StudyState) → IsSettled c old → Follows c old ls new → IsSettled c new
  follows_settled [] old new S h = subst (IsSettled c) (sym h) S
  follows_settled (l ∷ ls) old new S h = follows_settled ls h.0 new h.1.1.settles.settled h.2

  pub follows_values : (ls : List Look) (old new : StudyState) → Follows c old ls new → new.values ≡ old.values ++ arrivals_of ls
  follows_values [] old new h = ap (λ s. s.values) h ∙ sym (append-nil old.values)
  follows_values (l ∷ ls) old new h =
      follows_values ls h.0 new h.2 ∙ ap (λ vs. vs ++ arrivals_of ls) (look_values c old h.0 (arrival_of l) h.1.0 h.1.1)
      ∙ append_assoc old.values (arrival_of l ∷ []) (arrivals_of ls)

  -- looks after looks
  pub follows_on : (ls ms : List Look) (s t u : StudyState) → Follows c s ls t → Follows c t ms u → Follows c s (ls ++ ms) u
  follows_on [] ms s t u e h = subst (λ x. Follows c x ms u) e h
  follows_on (l ∷ ls) ms s t u h k = (h.0, h.1, follows_on ls ms h.0 t u h.2 k)

  -- one look more
  pub follows_one : (ls : List Look) (s t u : StudyState) (l : Look) → Follows c s ls t → Takes c t l u → Follows c s (ls ++ l ∷ []) u
  follows_one ls s t u l h T = follows_on ls (l ∷ []) s t u h (u, T, refl)

  -- ---- replies

  replies_follow : (rs : List Replied) (old new : StudyState) → AreReplies c old rs new → Follows c old (looks_taken rs) new
  replies_follow [] old new h = h
  replies_follow (r ∷ rs) old new h = follows_on (look_in r.look r.taken) (looks_taken rs) old h.0 new (one_reply r.look r.taken old h.0 h.1)
      (replies_follow rs h.0 new h.2)
    where
      one_reply : (l : Look) (b : Bool) (s t : StudyState) → IsReply c s l b t → Follows c s (look_in l b) t
      one_reply l true s t T = (t, T, refl)
      one_reply l false s t e = e

  -- ---- looks since the opening

  module _ (V : IsValidContent c) (looks : List Look) (s : StudyState) (T : AreTaken c looks s) where
    pub taken_is_study : IsStudyOf c s
    taken_is_study = follows_study looks start s (start_study c V) T.follows

    taken_is_settled : IsSettled c s
    taken_is_settled = follows_settled looks start s (start_settled c) T.follows

    taken_values : s.values ≡ arrivals_of looks
    taken_values = follows_values looks start s T.follows

pub one_more_is_taken : OneMoreIsTaken
one_more_is_taken c looks old new l T h = record { opened = T.opened; follows = follows_one c looks start old new l T.follows h }

pub replies_are_taken : RepliesAreTaken
replies_are_taken c looks old new rs T h =
    record { opened = T.opened; follows = follows_on c looks (looks_taken rs) start old new T.follows (replies_follow c rs old new h) }

pub taken_looks_decide : TakenLooksDecide
taken_looks_decide c looks s j V T =
    subst (λ vs. IsListed (positions_of s.rejected) j ↔ IsStagedRejectedIn c vs j) (taken_values c V looks s T)
    (study_decides c s (taken_is_study c V looks s T) (taken_is_settled c V looks s T) j)

pub orders_of_looks_agree : OrdersOfLooksAgree
orders_of_looks_agree c looks others s t j V S T same =
    studies_agree c s t (taken_is_study c V looks s S) (taken_is_study c V others t T) (taken_is_settled c V looks s S)
    (taken_is_settled c V others t T) values j
  where
    values : HaveSameValues s t
    values a = (
      λ h. subst (λ vs. Contains vs a) (sym (taken_values c V others t T))
          (values_within looks others (λ l. (same l).0) a (subst (λ vs. Contains vs a) (taken_values c V looks s S) h)),
      λ h. subst (λ vs. Contains vs a) (sym (taken_values c V looks s S))
          (values_within others looks (λ l. (same l).1) a (subst (λ vs. Contains vs a) (taken_values c V others t T) h)),
    )
