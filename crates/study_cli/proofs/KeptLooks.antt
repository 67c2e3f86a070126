-- The rejections after commands are those on all looks that are kept then.
use Rattle.std.proofs.Common.{◌≡◌, ◌↔◌, ◌+◌, inl, inr, refl, sym, ap, ◌∙◌, subst, ℕ, List, [], ◌∷◌, ◌++◌, length}
use Rattle.std.proofs.lemmas.List.{append_assoc}
use Rattle.field_core.specs.declared.place.WideAt.{WideAt}
use Rattle.graph_io.specs.declared.keeper.Look.{Look}
use Rattle.answers.specs.declared.status.Status.TheVariants.{Done, Refused}
use Rattle.refusals.specs.WideRefusal.{wide_refusal}
use Rattle.refusals.specs.declared.wide.When.TheVariants.{Look as AfterLook}
use Rattle.case_model.specs.Content.{Content}
use Rattle.case_model.specs.Validity.{IsValidContent}
use Rattle.report.specs.StudyReport.{Reply, taken, refused, shown}
use Rattle.staged_levels.specs.Looks.{IsLook}
use Rattle.case_model.specs.LegalOrder.{IsListed}
use Rattle.case_model.specs.StagedCase.{IsStagedRejectedIn}
use Rattle.staged_levels.specs.declared.event.Settled.{Settled}
use Rattle.staged_levels.specs.Studies.{StudyState, start, positions_of}
use Rattle.study_cli.specs.declared.command.StudyCommand.{StudyCommand}
use Rattle.study_cli.specs.declared.command.StudyCommand.TheVariants.{Take, Show}
use Rattle.study_register.specs.Looking.{arrival_of, arrivals_of, AreTaken, Follows}
use Rattle.study_register.proofs.TakenLooks.{follows_on, taken_looks_decide}
use Rattle.study_register.proofs.OneEnd.{reopenings_agree}
use Rattle.study_cli.specs.Replies.{taken_in, looks_taken, IsReply, AreReplies, IsFirstBreak, MayTake}
use Rattle.study_cli.specs.StudyStages.{study_stage}
use Rattle.study_cli.specs.StudyStatements.{DecidesOn, ShowsLooks, RepliesDecide, KeptLooksDecide, TakenLooksAreFirst}
use Rattle.study_cli.proofs.Answering.{records_counted}
use Rattle.study_cli.proofs.OneEnd.{one_reply, replied_not_broken}

module _ (c : Content) where
  -- a reply's look is taken
  one_follows : (n : ℕ) (s : StudyState) (x : StudyCommand) (r : Reply) (t : StudyState) → IsReply c n s x r t → Follows c s (taken_in r) t
  one_follows n s (Take l) (taken m added) t h = (t, (added, subst (λ k. IsLook c s (arrival_of k) added t) (sym h.0) h.1), refl)
  one_follows n s (Take l) (refused k f) t h = h.2
  one_follows n s (Take l) (shown k rs) t h = absurd h
  one_follows n s Show (taken m added) t h = absurd h
  one_follows n s Show (refused k f) t h = absurd h
  one_follows n s Show (shown k rs) t h = h.2

  replies_follow : (xs : List StudyCommand) (n : ℕ) (s : StudyState) (rs : List Reply) (t : StudyState) → AreReplies c n s xs rs t
      → Follows c s (looks_taken rs) t
  replies_follow [] n s [] t h = h
  replies_follow [] n s (r ∷ rs) t h = absurd h
  replies_follow (x ∷ xs) n s [] t h = absurd h
  replies_follow (x ∷ xs) n s (r ∷ rs) t h = follows_on c (taken_in r) (looks_taken rs) s h.0 t (one_follows n s x r h.0 h.1)
      (replies_follow xs (n + 1) h.0 rs t h.2)

  -- what is shown is what the looks before left
  shown_behind : (xs : List StudyCommand) (n : ℕ) (s : StudyState) (before after : List Reply) (m : ℕ) (rs : List Settled) (t : StudyState)
      → AreReplies c n s xs (before ++ shown m rs ∷ after) t
      → (mid : StudyState) × Follows c s (looks_taken before) mid × (m ≡ length mid.values) × (rs ≡ mid.rejected)
  shown_behind [] n s [] after m rs t h = absurd h
  shown_behind (Take l ∷ xs) n s [] after m rs t h = absurd h.1
  shown_behind (Show ∷ xs) n s [] after m rs t h = (s, refl, h.1.0, h.1.1)
  shown_behind [] n s (r ∷ before) after m rs t h = absurd h
  shown_behind (x ∷ xs) n s (r ∷ before) after m rs t h =
      let rest = shown_behind xs (n + 1) h.0 before after m rs t h.2 in
      (rest.0, follows_on c (taken_in r) (looks_taken before) s h.0 rest.0 (one_follows n s x r h.0 h.1) rest.1, rest.2, rest.3)

  -- which is what the staged closed test rejects on all looks by then
  shows_looks : (xs : List StudyCommand) (looks : List Look) (s t : StudyState) (replies before after : List Reply) (m : ℕ) (rs : List Settled)
      → IsValidContent c → AreTaken c looks s → AreReplies c 1 s xs replies t → replies ≡ before ++ shown m rs ∷ after
      → ShowsLooks c (looks ++ looks_taken before) m rs
  shows_looks xs looks s t replies before after m rs V T h e =
      let found = shown_behind xs 1 s before after m rs t (subst (λ r. AreReplies c 1 s xs r t) e h) in
      let all : AreTaken c (looks ++ looks_taken before) found.0 =
      record { opened = T.opened; follows = follows_on c looks (looks_taken before) start s found.0 T.follows found.1 } in
      record {
        counted = found.2 ∙ records_counted c (looks ++ looks_taken before) found.0 all;
        named = λ j.
            subst (λ q. IsListed (positions_of q) j ↔ IsStagedRejectedIn c (arrivals_of (looks ++ looks_taken before)) j) (sym found.3)
            (taken_looks_decide c (looks ++ looks_taken before) found.0 j V all);
      }

pub replies_decide : RepliesDecide
replies_decide c commands looks replies s t V T h =
    let all : AreTaken c (looks ++ looks_taken replies) t =
    record { opened = T.opened; follows = follows_on c looks (looks_taken replies) start s t T.follows (replies_follow c commands 1 s replies t h) } in
    record {
      taken = all;
      named = λ j. taken_looks_decide c (looks ++ looks_taken replies) t j V all;
      again = λ u U. ap (λ x. x.rejected) (reopenings_agree c (looks ++ looks_taken replies) u t U all);
    }

pub kept_looks_decide : KeptLooksDecide
unfolding study_stage
kept_looks_decide c commands looks e V h d = elim (h.2) [
  | inl a ↦ (
    a.end,
    subst (λ ls. DecidesOn c (looks ++ ls) a.end) (sym a.looks_are) (replies_decide c commands looks a.replies h.0 a.end V h.1 a.are),
    a.replies,
    record {
      answer_is = a.answer_is;
      looks_are = a.looks_are;
      shows = λ before after m rs is. shows_looks c commands looks h.0 a.end a.replies before after m rs V h.1 a.are is;
    },
  )
  | inr b ↦ absurd (let r = wide_refusal c.names (AfterLook b.place) b.wide in let k : Refused r.cause ≡ Done = sym (ap (λ x. x.status) b.answer_is)
      ∙ d in cc)
]

-- ---- the looks that are kept where commands stop part way

module _ (c : Content) where
  first_of_replies : (xs : List StudyCommand) (n : ℕ) (s : StudyState) (some : List Look) (rs : List Reply) (t : StudyState) → MayTake c n s xs some
      → AreReplies c n s xs rs t → (more : List Look) × (looks_taken rs ≡ some ++ more)
  first_of_replies [] n s some rs t m h = (looks_taken rs, ap (λ ls. ls ++ looks_taken rs) (sym m))
  first_of_replies (x ∷ xs) n s some rs t (inl m) h = (looks_taken rs, ap (λ ls. ls ++ looks_taken rs) (sym m))
  first_of_replies (x ∷ xs) n s some [] t (inr m) h = absurd h
  first_of_replies (x ∷ xs) n s some (r ∷ rs) t (inr m) h =
      let one = one_reply c n s x m.0 r m.1 h.0 m.3 h.1 in
      let rest = first_of_replies xs (n + 1) h.0 m.2 rs t (subst (λ u. MayTake c (n + 1) u xs m.2) one.1 m.5) h.2 in (
        rest.0,
        ap (λ ls. taken_in r ++ ls) rest.1 ∙ sym (append_assoc (taken_in r) m.2 rest.0)
            ∙ ap (λ ls. ls ++ rest.0) (ap (λ q. taken_in q ++ m.2) (sym one.0) ∙ sym m.4),
      )

  first_of_break : (xs : List StudyCommand) (n : ℕ) (s : StudyState) (some all : List Look) (place : ℕ) (w : WideAt) → MayTake c n s xs some
      → IsFirstBreak c n s xs all place w → (more : List Look) × (all ≡ some ++ more)
  first_of_break [] n s some all place w m h = absurd h
  first_of_break (x ∷ xs) n s some all place w (inl m) h = (all, ap (λ ls. ls ++ all) (sym m))
  first_of_break (x ∷ xs) n s some all place w (inr m) (inl h) = absurd (replied_not_broken c n s x m.0 m.1 place w m.3 h.1)
  first_of_break (x ∷ xs) n s some all place w (inr m) (inr h) =
      let one = one_reply c n s x m.0 h.0 m.1 h.1 m.3 h.3 in
      let rest = first_of_break xs (n + 1) h.1 m.2 h.2 place w (subst (λ u. MayTake c (n + 1) u xs m.2) one.1 m.5) h.5 in (
        rest.0,
        h.4 ∙ ap (λ ls. taken_in h.0 ++ ls) rest.1 ∙ sym (append_assoc (taken_in h.0) m.2 rest.0)
            ∙ ap (λ ls. ls ++ rest.0) (ap (λ q. taken_in q ++ m.2) (sym one.0) ∙ sym m.4),
      )

pub taken_looks_are_first : TakenLooksAreFirst
taken_looks_are_first c commands s some all m h = elim h [
  | inl r ↦ let rest = first_of_replies c commands 1 s some r.0 r.1 m r.2 in (rest.0, r.3 ∙ rest.1)
  | inr b ↦ first_of_break c commands 1 s some all b.0 b.1 m b.2
]
