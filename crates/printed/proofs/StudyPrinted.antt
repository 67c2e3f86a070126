-- What `study` prints is of the staged closed test, on the looks that are kept by then.
use Rattle.std.proofs.Common.{◌≡◌, refl, sym, ap, ap₂, subst, ◌∙◌, ℕ, ◌+◌, ◌==◌, ◌||◌, ◌⊎◌, ◌↔◌, inl, inr, Bool}
use Rattle.std.proofs.Common.{true, false, List, [], ◌∷◌, ◌++◌, Some, length, arith}
use Rattle.std.proofs.lemmas.Bool.Decides.{nat_tests}
use Rattle.std.proofs.lemmas.List.{append_assoc}
use Rattle.field_core.specs.Sets.{set_of}
use Rattle.graph_io.specs.declared.keeper.Look.{Look}
use Rattle.answers.specs.declared.answer.Answer.{Answer}
use Rattle.answers.specs.declared.status.Status.TheVariants.{Done}
use Rattle.case_model.specs.Content.{Content, content_of}
use Rattle.case_model.specs.LegalOrder.{IsListed}
use Rattle.case_model.specs.StagedCase.{IsStagedRejectedIn}
use Rattle.case_model.specs.Validity.{IsValidContent}
use Rattle.command_words.specs.Words.{study_in}
use Rattle.answers.proofs.Decided.{stage_decided}
use Rattle.refusals.specs.WideRefusal.{wide_refusal}
use Rattle.refusals.specs.declared.wide.When.TheVariants.{Look as AfterLook}
use Rattle.report.specs.StudyReport.{Reply, taken, shown, is_among}
use Rattle.staged_levels.specs.declared.event.Settled.{Settled}
use Rattle.staged_levels.specs.Studies.{StudyState, positions_of}
use Rattle.study_cli.proofs.Answering.{records_counted}
use Rattle.study_cli.proofs.KeptLooks.{replies_decide}
use Rattle.study_cli.specs.Replies.{taken_in, looks_taken, IsReply, AreReplies}
use Rattle.study_cli.specs.StudyStages.{StudyEnd, IsBrokenOff, study_stage}
use Rattle.study_cli.specs.StudyOutcome.{study_call}
use Rattle.study_cli.specs.CommandLines.{AreCommands}
use Rattle.study_cli.specs.declared.command.StudyCommand.{StudyCommand}
use Rattle.study_cli.specs.declared.command.StudyCommand.TheVariants.{Take, Show}
use Rattle.study_register.specs.Looking.{arrivals_of, AreTaken}
use Rattle.graph_cli.proofs.ClosedReports.{valid_said, not_done}
use Rattle.graph_cli.proofs.StagedReports.{or_again}
use Rattle.graph_cli.specs.Accepted.{grammar}
use Rattle.printed.specs.Study.{ShowsStagedTest, BringsRejections, ReportsStudy, StudiesAreOfTheStagedTest}

-- ---- lists of rejections

among_listed : (rs : List Settled) (j : ℕ) → is_among rs j ≡ set_of (positions_of rs) j
unfolding is_among
among_listed [] j = refl
among_listed (r ∷ rs) j =
    let e : (r.hypothesis == j) ≡ (j == r.hypothesis) = grind (arith, nat_tests) in
    ap₂ (λ x y. x || y) e (among_listed rs j)

or_cases : (a b : Bool) → (a || b) ≡ true → (a ≡ true) ⊎ (b ≡ true)
or_cases true b h = inl refl
or_cases false b h = inr h

or_first : (a b : Bool) → a ≡ true → (a || b) ≡ true
or_first true b h = refl
or_first false b h = absurd (cc)

or_second : (a b : Bool) → b ≡ true → (a || b) ≡ true
or_second true b h = refl
or_second false b h = h

listed_behind : (rs more : List Settled) (j : ℕ) → set_of (positions_of (rs ++ more)) j ≡ (set_of (positions_of rs) j || is_among more j)
listed_behind [] more j = sym (among_listed more j)
listed_behind (r ∷ rs) more j = ap (λ b. (j == r.hypothesis) || b) (listed_behind rs more j) ∙ sym (or_again (j == r.hypothesis) _ _)

-- ---- replies up to one of them

-- the commands up to one reply, and the study before and after it
record SplitAt (c : Content) (n : ℕ) (s : StudyState) (before : List Reply) (r : Reply) : Type 0 where
  list : List StudyCommand
  middle : StudyState
  replied : AreReplies c n s list before middle
  number : ℕ
  command : StudyCommand
  next : StudyState
  reply : IsReply c number middle command r next
  replied_also : AreReplies c n s (list ++ command ∷ []) (before ++ r ∷ []) next

module _ (c : Content) where
  split_at : (xs : List StudyCommand) (n : ℕ) (s : StudyState) (before after : List Reply) (r : Reply) (t : StudyState)
      → AreReplies c n s xs (before ++ r ∷ after) t → SplitAt c n s before r
  split_at [] n s [] after r t h = absurd h
  split_at (x ∷ xs) n s [] after r t h = record {
    list = [];
    middle = s;
    replied = refl;
    number = n;
    command = x;
    next = h.0;
    reply = h.1;
    replied_also = (h.0, h.1, refl);
  }
  split_at [] n s (q ∷ before) after r t h = absurd h
  split_at (x ∷ xs) n s (q ∷ before) after r t h =
      let rest = split_at xs (n + 1) h.0 before after r t h.2 in
      record {
        list = x ∷ rest.list;
        middle = rest.middle;
        replied = (h.0, h.1, rest.replied);
        number = rest.number;
        command = rest.command;
        next = rest.next;
        reply = rest.reply;
        replied_also = (h.0, h.1, rest.replied_also);
      }

  shown_is : (n : ℕ) (s : StudyState) (x : StudyCommand) (number : ℕ) (rejections : List Settled) (t : StudyState)
      → IsReply c n s x (shown number rejections) t → (number ≡ length s.values) × (rejections ≡ s.rejected)
  shown_is n s (Take l) number rejections t h = absurd h
  shown_is n s Show number rejections t h = (h.0, h.1)

  taken_is : (n : ℕ) (s : StudyState) (x : StudyCommand) (l : Look) (added : List Settled) (t : StudyState)
      → IsReply c n s x (taken l added) t → t.rejected ≡ s.rejected ++ added
  taken_is n s (Take k) l added t h = h.1.rejected
  taken_is n s Show l added t h = absurd h

  looks_with : (before : List Reply) (l : Look) (added : List Settled) → looks_taken (before ++ taken l added ∷ []) ≡ looks_taken before ++ l ∷ []
  looks_with [] l added = refl
  looks_with (r ∷ before) l added = ap (λ ls. taken_in r ++ ls) (looks_with before l added) ∙ sym (append_assoc (taken_in r) (looks_taken before) (l ∷ []))

  module _ (V : IsValidContent c) (kept : List Look) (s t : StudyState) (T : AreTaken c kept s) (list : List StudyCommand) (replies : List Reply)
      (replied : AreReplies c 1 s list replies t) where
    shows : (before after : List Reply) (number : ℕ) (rejections : List Settled) → replies ≡ before ++ shown number rejections ∷ after
        → ShowsStagedTest c (kept ++ looks_taken before) number rejections
    shows before after number rejections e =
        let S = split_at list 1 s before after (shown number rejections) t (subst (λ rs. AreReplies c 1 s list rs t) e replied) in
        let D = replies_decide c S.list kept before s S.middle V T S.replied in
        let is = shown_is S.number S.middle S.command number rejections S.next S.reply in
        record {
          counted = is.0 ∙ records_counted c (kept ++ looks_taken before) S.middle D.taken;
          named = λ j.
              let same : is_among rejections j ≡ set_of (positions_of S.middle.rejected) j = ap (λ rs. is_among rs j) is.1 ∙ among_listed S.middle.rejected j in
              let decides = D.named j in
              (λ h. decides.0 (sym same ∙ h), λ h. same ∙ decides.1 h);
        }

    brings : (before after : List Reply) (l : Look) (added : List Settled) → replies ≡ before ++ taken l added ∷ after
        → BringsRejections c (kept ++ looks_taken before) l added
    brings before after l added e j =
        let S = split_at list 1 s before after (taken l added) t (subst (λ rs. AreReplies c 1 s list rs t) e replied) in
        let D = replies_decide c S.list kept before s S.middle V T S.replied in
        let F = replies_decide c (S.list ++ S.command ∷ []) kept (before ++ taken l added ∷ []) s S.next V T S.replied_also in
        let looks : kept ++ looks_taken (before ++ taken l added ∷ []) ≡ (kept ++ looks_taken before) ++ l ∷ []
        = ap (λ ls. kept ++ ls) (looks_with before l added) ∙ sym (append_assoc kept (looks_taken before) (l ∷ [])) in
        let new : IsListed (positions_of S.next.rejected) j ↔ IsStagedRejectedIn c (arrivals_of ((kept ++ looks_taken before) ++ l ∷ [])) j
        = subst (λ ls. IsListed (positions_of S.next.rejected) j ↔ IsStagedRejectedIn c (arrivals_of ls) j) looks (F.named j) in
        let old = D.named j in
        let same : set_of (positions_of S.next.rejected) j ≡ (set_of (positions_of S.middle.rejected) j || is_among added j)
        = ap (λ rs. set_of (positions_of rs) j) (taken_is S.number S.middle S.command l added S.next S.reply) ∙ listed_behind S.middle.rejected added j in (
          λ h. elim (or_cases (set_of (positions_of S.middle.rejected) j) (is_among added j) (sym same ∙ new.1 h)) [
            | inl a ↦ inl (old.0 a)
            | inr a ↦ inr a
          ],
          λ h. new.0 (same ∙ elim h [
            | inl a ↦ or_first (set_of (positions_of S.middle.rejected) j) (is_among added j) (old.1 a)
            | inr a ↦ or_second (set_of (positions_of S.middle.rejected) j) (is_among added j) a
          ]),
        )

-- ---- the law

-- commands that stop part way aren't done
broken_not_done : (c : Content) (commands : List StudyCommand) (s : StudyState) (e : StudyEnd) → IsBrokenOff c commands s e → e.answer.status ≡ Done → ⊥
broken_not_done c commands s e b z =
    let r = wide_refusal c.names (AfterLook b.place) b.wide in
    not_done e.answer.status r.cause (ap (λ (x : Answer). x.status) b.answer_is) z

pub studies_of_test : StudiesAreOfTheStagedTest
unfolding study_call study_stage
studies_of_test words asked case commands kept e asks h z =
    let asked_is : h.0 ≡ asked = (stage_decided (study_in words)).one h.0 asked h.1 asks in
    let gives = subst (λ x. (study_call x (Some case) (Some commands) (Some kept)).Gives e) asked_is h.2 in
    let c = gives.0 in
    let bytes_are = gives.1.1.0 in
    let read = gives.1.2.1 in
    let draft = read.0 in
    let content_is : c ≡ content_of draft = gives.1.2.2.2.1 ∙ (gives.1.2.2.1.1 ∙ read.2.1) in
    let valid = subst IsValidContent (sym content_is) (valid_said asked.format _ draft read.1 read.2.0) in
    let list = gives.2.0 in
    let commands_are = gives.2.1.1.0 in
    let said = gives.2.1.2 in
    let first = gives.2.2.0 in
    let opened = gives.2.2.1 in
    elim (gives.2.2.2) [
      | inl a ↦ record {
        draft = draft;
        says = subst (λ xs. (grammar asked.format xs).Gives draft) bytes_are read.1;
        faultless = read.2.0;
        reports = subst (λ d. ReportsStudy d commands kept e.looks e.answer.text) content_is (record {
          list = list;
          says = subst (λ bytes. AreCommands c.names bytes list) commands_are said;
          replies = a.replies;
          first = first;
          opened = opened;
          last = a.end;
          replied = a.are;
          text_is = ap (λ (x : Answer). x.text) a.answer_is;
          looks_are = a.looks_are;
          shows = shows c valid kept first a.end opened list a.replies a.are;
          brings = brings c valid kept first a.end opened list a.replies a.are;
        });
      }
      | inr b ↦ absurd (broken_not_done c list first e b z)
    ]
