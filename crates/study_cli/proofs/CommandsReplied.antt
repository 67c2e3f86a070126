-- Commands that are replied to, one after the other.
use Rattle.std.proofs.Common.{◌≡◌, ◌+◌, ◌<◌, inl, inr, refl, sym, ap, ◌∙◌, subst, ℕ, zero, suc, arith, List, []}
use Rattle.std.proofs.Common.{◌∷◌, ◌++◌, length, drop, get_or}
use Rattle.std.specs.declared.option.Option.{Option}
use Rattle.std.specs.List.{AllByRecursion, flat_map}
use Rattle.std.proofs.lemmas.List.{append-nil, append_assoc, drop_more, length-append}
use Rattle.std.proofs.lemmas.Grind.{flat_map-append}
use Rattle.field_core.specs.declared.place.WideAt.{WideAt}
use Rattle.graph_io.specs.declared.keeper.Look.{Look}
use Rattle.graph_io.specs.Keeping.{with_look}
use Rattle.case_model.specs.Content.{Content}
use Rattle.report.specs.StudyReport.{Reply, taken, refused, shown, reply_lines, taken_lines, refused_line, shown_line}
use Rattle.staged_levels.specs.declared.event.Settled.{Settled}
use Rattle.staged_levels.specs.declared.event.StepFault.{StepFault}
use Rattle.staged_levels.specs.Looks.{IsWideLook}
use Rattle.staged_levels.specs.Studies.{StudyState}
use Rattle.staged_levels.specs.StudyAnswers.{IsArriveFault}
use Rattle.study_cli.specs.declared.command.StudyCommand.{StudyCommand}
use Rattle.study_cli.specs.declared.command.StudyCommand.TheVariants.{Take, Show}
use Rattle.study_cli.specs.CommandLines.{IsBelow}
use Rattle.study_register.specs.Looking.{arrival_of, Takes}
use Rattle.study_register.specs.RegisterFaults.{IsAddFault, turns_by}
use Rattle.study_register.specs.declared.fault.AddFault.{AddFault}
use Rattle.study_register.specs.declared.fault.AddFault.TheVariants as additions
use Rattle.study_cli.specs.declared.replying.CommandStop.{CommandStop}
use Rattle.study_cli.specs.declared.replying.CommandStop.TheVariants.{Wide, Fault, NoMemory}
use Rattle.study_cli.specs.Replies.{taken_in, looks_taken, IsReply, AreReplies, IsFirstBreak, MayTake}
use Rattle.study_cli.specs.AnswerView.{with_looks, IsRepliedTo, AreRepliedTo, HoldSome, StopsCommands}
use Rattle.study_cli.proofs.Looks.{with_none, with_one, with_more}

-- ---- additions

pub added_refused : (c : Content) (s : StudyState) (l : Look) (rose : Type 0) (e : AddFault) (f : StepFault) → e ≡ additions.Refused f
    → IsAddFault c s l rose e → IsArriveFault c s (arrival_of l) f
added_refused c s l rose e f h a = subst (IsAddFault c s l rose) h a

-- an addition that is refused calls no keeper
pub added_turns : (before now : ℕ) (e : AddFault) (f : StepFault) → e ≡ additions.Refused f → now ≡ before + turns_by e → now ≡ before
added_turns before now e f h t = let n = ap turns_by h in omega (arith, t, n)

-- nor does one whose settling stops part way
pub wide_turns : (before now : ℕ) (e : AddFault) (w : WideAt) → e ≡ additions.Wide w → now ≡ before + turns_by e → now ≡ before
wide_turns before now e w h t = let n = ap turns_by h in omega (arith, t, n)

-- one that fails calls it once
pub failed_turns : (before now : ℕ) (e : AddFault) → e ≡ additions.Fault → now ≡ before + turns_by e → now ≡ before + 1
failed_turns before now e h t = let n = ap turns_by h in omega (arith, t, n)

pub added_failed : (c : Content) (s : StudyState) (l : Look) (rose : Type 0) (e : AddFault) → e ≡ additions.Fault → IsAddFault c s l rose e → rose
added_failed c s l rose e h a = let failed : IsAddFault c s l rose additions.Fault = subst (IsAddFault c s l rose) h a in failed.2

pub added_wide : (c : Content) (s : StudyState) (l : Look) (rose : Type 0) (e : AddFault) (w : WideAt) → e ≡ additions.Wide w → IsAddFault c s l rose e
    → IsWideLook c s (arrival_of l) w
added_wide c s l rose e w h a = subst (IsAddFault c s l rose) h a

-- ---- the rejections that a look brings

behind_append : (rs xs : List Settled) → drop (length rs) (rs ++ xs) ≡ xs
behind_append [] xs = refl
behind_append (r ∷ rs) xs = behind_append rs xs

module _ (c : Content) (old new : StudyState) (l : Look) (T : Takes c old l new) where
  pub brought : drop (length old.rejected) new.rejected ≡ T.0
  brought = ap (drop (length old.rejected)) T.1.rejected ∙ behind_append old.rejected T.0

-- ---- one command

module _ (c : Content) (n : ℕ) (old : StudyState) (kept : Option (List Look)) (before : ℕ) where
  pub taken_written : (l : Look) (held : Option (List Look)) (text written : List ℕ) (new : StudyState) (rs : List Settled) → (T : Takes c old l new)
      → rs ≡ T.0 → held ≡ with_look kept l → (now : ℕ) → now ≡ before + 1 → written ≡ text ++ taken_lines c l rs
      → IsRepliedTo c n old (Take l) kept held before now text written new
  taken_written l held text written new rs T e h now b w = record {
    reply = taken l T.0;
    is = (refl, T.1);
    held_is = h ∙ with_one kept l;
    calls_are = b;
    text_is = w ∙ ap (λ xs. text ++ taken_lines c l xs) e;
  }

  pub refused_written : (l : Look) (held : Option (List Look)) (text written : List ℕ) (new : StudyState) (f : StepFault)
      → IsArriveFault c old (arrival_of l) f → new ≡ old → held ≡ kept → (now : ℕ) → now ≡ before → written ≡ text ++ refused_line n f
      → IsRepliedTo c n old (Take l) kept held before now text written new
  refused_written l held text written new f r same h now b w = record {
    reply = refused n f;
    is = (refl, r, same);
    held_is = h ∙ sym (with_none kept);
    calls_are = omega (arith, b);
    text_is = w;
  }

  pub shown_written : (text written : List ℕ) → written ≡ text ++ shown_line c (length old.values) old.rejected
      → IsRepliedTo c n old Show kept kept before before text written old
  shown_written text written w = record {
    reply = shown (length old.values) old.rejected;
    is = (refl, refl, refl);
    held_is = sym (with_none kept);
    calls_are = omega arith;
    text_is = w;
  }

-- ---- one command that isn't replied to

module _ (c : Content) (n : ℕ) (old : StudyState) (kept : Option (List Look)) where
  -- nothing is taken
  pub holds_none : (commands : List StudyCommand) (held : Option (List Look)) → held ≡ kept → HoldSome (MayTake c n old commands) kept held
  holds_none commands held h = record { more = []; may = may_none commands; held_is = h ∙ sym (with_none kept) }
    where
      may_none : (xs : List StudyCommand) → MayTake c n old xs []
      may_none [] = refl
      may_none (x ∷ xs) = inl refl

  -- a look is taken, and no reply is written
  pub holds_one : (l : Look) (held : Option (List Look)) (new : StudyState) → Takes c old l new → held ≡ with_look kept l
      → HoldSome (MayTake c n old (Take l ∷ [])) kept held
  holds_one l held new T h = record { more = l ∷ []; may = inr (taken l T.0, new, [], (refl, T.1), refl, refl); held_is = h ∙ with_one kept l }

  pub stops_wide : (l : Look) (held : Option (List Look)) (before now : ℕ) (rose : Type 0) (place : ℕ) (w : WideAt) → IsWideLook c old (arrival_of l) w
      → place ≡ length old.values + 1 → held ≡ kept → now ≡ before → StopsCommands c rose n old (Take l ∷ []) kept held before now (Wide place w)
  stops_wide l held before now rose place w b p h same = record {
    more = [];
    may = (inl (refl, (p, b)), omega (arith, same));
    held_is = h ∙ sym (with_none kept);
  }

  -- the look can be taken, and the call of the keeper for it fails
  pub stops_failed : (l : Look) (held : Option (List Look)) (before now : ℕ) (rose : Type 0) → rose → held ≡ kept → now ≡ before + 1
      → StopsCommands c rose n old (Take l ∷ []) kept held before now Fault
  stops_failed l held before now rose r h once =
      (r, record { more = []; may = (inl refl, omega (arith, once)); held_is = h ∙ sym (with_none kept) })

-- ---- commands that stop part way

pub first_broken : (c : Content) (old : StudyState) (commands : List StudyCommand) (kept held : Option (List Look)) (before now : ℕ) (rose : Type 0)
    (stop : CommandStop) (place : ℕ) (w : WideAt) → stop ≡ Wide place w → StopsCommands c rose 1 old commands kept held before now stop
    → HoldSome (λ looks. IsFirstBreak c 1 old commands looks place w × (now ≡ before + length looks)) kept held
first_broken c old commands kept held before now rose stop place w e h = subst (StopsCommands c rose 1 old commands kept held before now) e h

pub failed_call : (c : Content) (old : StudyState) (commands : List StudyCommand) (kept held : Option (List Look)) (before now : ℕ) (rose : Type 0)
    (stop : CommandStop) → stop ≡ Fault → StopsCommands c rose 1 old commands kept held before now stop
    → rose × HoldSome (λ looks. MayTake c 1 old commands looks × (now ≡ before + (length looks + 1))) kept held
failed_call c old commands kept held before now rose stop e h = subst (StopsCommands c rose 1 old commands kept held before now) e h

-- ---- commands one after the other

-- Of these commands some have been replied to, and the others are left, the first of which has this number.
pub record AreBehind (c : Content) (old : StudyState) (commands : List StudyCommand) (n : ℕ) (mid : StudyState) (left : List StudyCommand)
    (replies : List Reply) : Type 0 where
  pub replied : (more : List Reply) (new : StudyState) → AreReplies c n mid left more new → AreReplies c 1 old commands (replies ++ more) new
  pub broken : (looks : List Look) (place : ℕ) (w : WideAt) → IsFirstBreak c n mid left looks place w
      → IsFirstBreak c 1 old commands (looks_taken replies ++ looks) place w
  pub may : (looks : List Look) → MayTake c n mid left looks → MayTake c 1 old commands (looks_taken replies ++ looks)

taken_append : (rs qs : List Reply) → looks_taken (rs ++ qs) ≡ looks_taken rs ++ looks_taken qs
taken_append [] qs = refl
taken_append (r ∷ rs) qs = ap (λ ls. taken_in r ++ ls) (taken_append rs qs) ∙ sym (append_assoc (taken_in r) (looks_taken rs) (looks_taken qs))

taken_once : (rs : List Reply) (r : Reply) → looks_taken (rs ++ r ∷ []) ≡ looks_taken rs ++ taken_in r
taken_once rs r = taken_append rs (r ∷ []) ∙ ap (λ ls. looks_taken rs ++ ls) (append-nil (taken_in r))

lines_append : (c : Content) (rs qs : List Reply) → flat_map (reply_lines c) (rs ++ qs) ≡ flat_map (reply_lines c) rs ++ flat_map (reply_lines c) qs
lines_append c rs qs = flat_map-append (reply_lines c) rs qs

none_behind : (c : Content) (old : StudyState) (commands : List StudyCommand) → AreBehind c old commands 1 old commands []
none_behind c old commands = record { replied = λ more new h. h; broken = λ looks place w h. h; may = λ looks h. h }

one_behind : (c : Content) (old : StudyState) (commands : List StudyCommand) (n : ℕ) (mid new : StudyState) (left rest : List StudyCommand)
    (replies : List Reply) (x : StudyCommand) (r : Reply)
    → left ≡ x ∷ rest → IsReply c n mid x r new → AreBehind c old commands n mid left replies
    → AreBehind c old commands (n + 1) new rest (replies ++ r ∷ [])
one_behind c old commands n mid new left rest replies x r e is b = record {
  replied = λ more end h. subst (λ rs. AreReplies c 1 old commands rs end) (sym (append_assoc replies (r ∷ []) more))
      (b.replied (r ∷ more) end (subst (λ ls. AreReplies c n mid ls (r ∷ more) end) (sym e) (new, is, h)));
  broken = λ looks place w h.
      subst (λ ls. IsFirstBreak c 1 old commands ls place w) (sym (one_more looks))
      (b.broken (taken_in r ++ looks) place w
      (subst (λ ls. IsFirstBreak c n mid ls (taken_in r ++ looks) place w) (sym e) (inr (r, new, looks, is, refl, h))));
  may = λ looks h.
      subst (MayTake c 1 old commands) (sym (one_more looks))
      (b.may (taken_in r ++ looks) (subst (λ ls. MayTake c n mid ls (taken_in r ++ looks)) (sym e) (inr (r, new, looks, is, refl, h))));
}
  where
    one_more : (looks : List Look) → looks_taken (replies ++ r ∷ []) ++ looks ≡ looks_taken replies ++ (taken_in r ++ looks)
    one_more looks = ap (λ ls. ls ++ looks) (taken_append replies (r ∷ []) ∙ ap (λ ls. looks_taken replies ++ ls) (append-nil (taken_in r)))
        ∙ append_assoc (looks_taken replies) (taken_in r) looks

-- So far commands have been replied to: the replies are written, and the looks that were taken are added.
pub record AreSoFar (c : Content) (old : StudyState) (commands : List StudyCommand) (n : ℕ) (mid : StudyState) (left : List StudyCommand)
    (kept held : Option (List Look)) (before now : ℕ) (text written : List ℕ) : Type 0 where
  pub replies : List Reply
  pub behind : AreBehind c old commands n mid left replies
  pub held_is : held ≡ with_looks kept (looks_taken replies)
  pub calls_are : now ≡ before + length (looks_taken replies)
  pub text_is : written ≡ text ++ flat_map (reply_lines c) replies

module _ (c : Content) (old : StudyState) (commands : List StudyCommand) (kept : Option (List Look)) (before : ℕ) (text : List ℕ) where
  pub begun : AreSoFar c old commands 1 old commands kept kept before before text text
  begun = record {
    replies = [];
    behind = none_behind c old commands;
    held_is = sym (with_none kept);
    calls_are = omega arith;
    text_is = sym (append-nil text);
  }

  pub one_more : (n : ℕ) (mid new : StudyState) (left rest : List StudyCommand) (x : StudyCommand) (held then : Option (List Look)) (now later : ℕ)
      (written next : List ℕ) → left ≡ x ∷ rest → IsRepliedTo c n mid x held then now later written next new
      → AreSoFar c old commands n mid left kept held before now text written
      → AreSoFar c old commands (n + 1) new rest kept then before later text next
  one_more n mid new left rest x held then now later written next e r s = record {
    replies = s.replies ++ r.reply ∷ [];
    behind = one_behind c old commands n mid new left rest s.replies x r.reply e r.is s.behind;
    held_is = r.held_is ∙ ap (λ k. with_looks k (taken_in r.reply)) s.held_is ∙ with_more kept (looks_taken s.replies) (taken_in r.reply)
        ∙ ap (with_looks kept) (sym (taken_once s.replies r.reply));
    calls_are = omega (
      arith,
      r.calls_are,
      s.calls_are,
      ap length (taken_once s.replies r.reply),
      length-append (looks_taken s.replies) (taken_in r.reply),
    );
    text_is = r.text_is ∙ ap (λ t. t ++ reply_lines c r.reply) s.text_is ∙ append_assoc text (flat_map (reply_lines c) s.replies) (reply_lines c r.reply)
        ∙ ap (λ t. text ++ t) (sym
        (lines_append c s.replies (r.reply ∷ []) ∙ ap (λ t. flat_map (reply_lines c) s.replies ++ t) (append-nil (reply_lines c r.reply))));
  }

  pub all_replied : (n : ℕ) (mid : StudyState) (left : List StudyCommand) (held : Option (List Look)) (now : ℕ) (written : List ℕ)
      → left ≡ [] → AreSoFar c old commands n mid left kept held before now text written
      → AreRepliedTo c old commands kept held before now text written mid
  all_replied n mid left held now written e s = record {
    replies = s.replies;
    are = subst (λ rs. AreReplies c 1 old commands rs mid) (append-nil s.replies)
        (s.behind.replied [] mid (subst (λ ls. AreReplies c n mid ls [] mid) (sym e) refl));
    held_is = s.held_is;
    calls_are = s.calls_are;
    text_is = s.text_is;
  }

  held_on : (n : ℕ) (mid : StudyState) (left : List StudyCommand) (held then : Option (List Look)) (now : ℕ) (written : List ℕ)
      (s : AreSoFar c old commands n mid left kept held before now text written) (more : List Look)
      → then ≡ with_looks held more → then ≡ with_looks kept (looks_taken s.replies ++ more)
  held_on n mid left held then now written s more h = h ∙ ap (λ k. with_looks k more) s.held_is ∙ with_more kept (looks_taken s.replies) more

  -- what may be taken by one command may be so by more
  may_more : (n : ℕ) (mid : StudyState) (x : StudyCommand) (rest : List StudyCommand) (looks : List Look) → MayTake c n mid (x ∷ []) looks
      → MayTake c n mid (x ∷ rest) looks
  may_more n mid x rest looks (inl h) = inl h
  may_more n mid x [] looks (inr h) = inr h
  may_more n mid x (y ∷ rest) looks (inr h) = inr (h.0, h.1, h.2, h.3, h.4, inl h.5)

  break_more : (n : ℕ) (mid : StudyState) (x : StudyCommand) (rest : List StudyCommand) (looks : List Look) (place : ℕ) (w : WideAt)
      → IsFirstBreak c n mid (x ∷ []) looks place w → IsFirstBreak c n mid (x ∷ rest) looks place w
  break_more n mid x rest looks place w (inl h) = inl h
  break_more n mid x rest looks place w (inr h) = absurd h.5

  pub stops_on : (rose : Type 0) (n : ℕ) (mid : StudyState) (left rest : List StudyCommand) (x : StudyCommand) (held then : Option (List Look))
      (now later : ℕ) (written : List ℕ) (stop : CommandStop) → left ≡ x ∷ rest
      → AreSoFar c old commands n mid left kept held before now text written → StopsCommands c rose n mid (x ∷ []) held then now later stop
      → StopsCommands c rose 1 old commands kept then before later stop
  stops_on rose n mid left rest x held then now later written (Wide place w) e s h = record {
    more = looks_taken s.replies ++ h.more;
    may = (
      s.behind.broken h.more place w (subst (λ ls. IsFirstBreak c n mid ls h.more place w) (sym e) (break_more n mid x rest h.more place w h.may.0)),
      omega (arith, h.may.1, s.calls_are, length-append (looks_taken s.replies) h.more),
    );
    held_is = held_on n mid left held then now written s h.more h.held_is;
  }
  stops_on rose n mid left rest x held then now later written Fault e s h = (
    h.0,
    record {
      more = looks_taken s.replies ++ h.1.more;
      may = (
        s.behind.may h.1.more (subst (λ ls. MayTake c n mid ls h.1.more) (sym e) (may_more n mid x rest h.1.more h.1.may.0)),
        omega (arith, h.1.may.1, s.calls_are, length-append (looks_taken s.replies) h.1.more),
      );
      held_is = held_on n mid left held then now written s h.1.more h.1.held_is;
    },
  )
  stops_on rose n mid left rest x held then now later written NoMemory e s h = record {
    more = looks_taken s.replies ++ h.more;
    may = s.behind.may h.more (subst (λ ls. MayTake c n mid ls h.more) (sym e) (may_more n mid x rest h.more h.may));
    held_is = held_on n mid left held then now written s h.more h.held_is;
  }

-- ---- the commands of a loop

pub next_command : (xs : List StudyCommand) (i : ℕ) (x : StudyCommand) → i < length xs → x ≡ get_or xs i x → drop i xs ≡ x ∷ drop (i + 1) xs
next_command xs i x h e = drop_more xs i x h ∙ ap (λ y. y ∷ drop (i + 1) xs) (sym e)

pub below_at : (size : ℕ) (xs : List StudyCommand) (i : ℕ) (x : StudyCommand) → AllByRecursion (IsBelow size) xs → i < length xs → x ≡ get_or xs i x
    → IsBelow size x
below_at size [] i x all h e = absurd (omega arith)
below_at size (y ∷ ys) zero x all h e = subst (IsBelow size) (sym e) all.0
below_at size (y ∷ ys) (suc i) x all h e = below_at size ys i x all.1 (omega (arith, h)) e
