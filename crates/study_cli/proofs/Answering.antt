-- What a study answers, from its parts.
use Rattle.std.proofs.Common.{◌≡◌, arith, inl, inr, refl, sym, ap, ◌∙◌, subst, ℕ, ◌+◌, List, [], ◌∷◌, ◌++◌, length}
use Rattle.std.proofs.Common.{Err}
use Rattle.std.specs.Prelude.{IfSome, ⊤, codes}
use Rattle.std.specs.List.{flat_map}
use Rattle.std.specs.declared.option.Option.{Option}
use Rattle.std.specs.declared.option.Option.TheVariants.{Some, None}
use Rattle.std.proofs.lemmas.List.{length-map}
use Rattle.field_core.specs.declared.place.WideAt.{WideAt}
use Rattle.graph_io.specs.declared.keeper.Look.{Look}
use Rattle.answers.specs.declared.answer.Answer.{Answer}
use Rattle.answers.specs.declared.refusal.Refusal.{Refusal}
use Rattle.answers.specs.Lines.{line, done, refused}
use Rattle.answers.specs.Stages.{Stage}
use Rattle.case_model.specs.Content.{Content}
use Rattle.entangled.specs.CaseRun.{case_opening}
use Rattle.refusals.specs.RecordRefusal.{record_refusal}
use Rattle.refusals.specs.WideRefusal.{wide_refusal}
use Rattle.refusals.specs.declared.wide.When.TheVariants.{Look as AfterLook}
use Rattle.report.specs.StudyReport.{Reply, reply_lines, opened_lines, study_report}
use Rattle.staged_levels.specs.Studies.{StudyState, start}
use Rattle.study_cli.specs.declared.command.StudyCommand.{StudyCommand}
use Rattle.study_register.specs.declared.fault.RegisterFault.{RegisterFault}
use Rattle.study_register.specs.declared.fault.RegisterFault.TheVariants.{BadLook, Wide, Fault}
use Rattle.study_register.specs.Looking.{arrival_of, arrivals_of, AreTaken}
use Rattle.study_register.specs.RegisterFaults.{OnLooks, IsRegisterFault}
use Rattle.study_register.proofs.TakenLooks.{follows_values}
use Rattle.study_cli.specs.Replies.{looks_taken, AreReplies, IsFirstBreak, MayTake}
use Rattle.answers.specs.declared.stop.Stop.{Stop}
use Rattle.answers.specs.declared.stop.Stop.TheVariants.{Refused, ReadFault, KeeperFault, NoMemory as OutOfMemory}
use Rattle.answers.specs.Ways.{StopsIn}
use Rattle.study_cli.specs.declared.replying.CommandStop.{CommandStop}
use Rattle.study_cli.specs.declared.replying.CommandStop.TheVariants as halts
use Rattle.study_cli.specs.AnswerView.{AreRepliedTo, HoldSome, KeepWith, IsLastFailed, MayKeep, StopsCommands}
use Rattle.study_cli.specs.KeeperWays.{over_keeper, over_opening}
use Rattle.study_cli.specs.StudyStages.{HasOpening, opened, study_stage, on_looks}
use Rattle.study_cli.proofs.Looks.{with_none}

-- ---- stages on known looks

module _ {A : Type 0} (s : List Look → Stage Refusal A) (looks : List Look) where
  pub gives_on : (kept : Option (List Look)) (x : A) → IfSome kept (λ known. known ≡ looks) → (s looks).Gives x → (on_looks kept s).Gives x
  gives_on None x known h = (looks, h)
  gives_on (Some them) x known h = subst (λ ls. (s ls).Gives x) (sym known) h

  pub refuses_on : (kept : Option (List Look)) (r : Refusal) → IfSome kept (λ known. known ≡ looks) → (s looks).Refuses r → (on_looks kept s).Refuses r
  refuses_on None r known h = (looks, h)
  refuses_on (Some them) r known h = subst (λ ls. (s ls).Refuses r) (sym known) h

-- ---- the kept looks

module _ (c : Content) (kept : Option (List Look)) (rose : Type 0) where
  bad_look_refused : (n : ℕ) (l : Look) (r : Refusal) → IsRegisterFault c kept rose (BadLook n l) → r ≡ record_refusal n
      → (on_looks kept (opened c)).Refuses r
  bad_look_refused n l r h e = refuses_on (opened c) h.0 kept r h.2 (BadLook n l, h.1, e)

  pub bad_look_reported : (why : RegisterFault) (n : ℕ) (l : Look) (r : Refusal) → why ≡ BadLook n l → IsRegisterFault c kept rose why
      → r ≡ record_refusal n → (on_looks kept (opened c)).Refuses r
  bad_look_reported why n l r is h e = bad_look_refused n l r (subst (IsRegisterFault c kept rose) is h) e

  wide_opening_reported : (looks : Option (List Look)) (n : ℕ) (w : WideAt) (r : Refusal) → (n ≡ 0) × (case_opening c ≡ Err w)
      → r ≡ wide_refusal c.names (AfterLook n) w → (on_looks looks (opened c)).Refuses r
  wide_opening_reported None n w r h e = ([], (Wide n w, inl h, e))
  wide_opening_reported (Some looks) n w r h e = (Wide n w, inl h, e)

  wide_look_refused : (n : ℕ) (w : WideAt) (r : Refusal) → IsRegisterFault c kept rose (Wide n w) → r ≡ wide_refusal c.names (AfterLook n) w
      → (on_looks kept (opened c)).Refuses r
  wide_look_refused n w r (inl h) e = wide_opening_reported kept n w r h e
  wide_look_refused n w r (inr h) e = refuses_on (opened c) h.0 kept r h.2 (Wide n w, inr h.1, e)

  pub wide_look_reported : (why : RegisterFault) (n : ℕ) (w : WideAt) (r : Refusal) → why ≡ Wide n w → IsRegisterFault c kept rose why
      → r ≡ wide_refusal c.names (AfterLook n) w → (on_looks kept (opened c)).Refuses r
  wide_look_reported why n w r is h e = wide_look_refused n w r (subst (IsRegisterFault c kept rose) is h) e

-- the keeper's fault, after a defined opening
pub rose_by : (c : Content) (kept : Option (List Look)) (rose : Type 0) (why : RegisterFault) → why ≡ Fault → IsRegisterFault c kept rose why
    → HasOpening c × rose
rose_by c kept rose why is h = subst (IsRegisterFault c kept rose) is h

-- a refusal of the opening is one of the study
pub opening_refuses : (c : Content) (commands : List StudyCommand) (kept : Option (List Look)) (r : Refusal) → (on_looks kept (opened c)).Refuses r
    → (on_looks kept (study_stage c commands)).Refuses r
unfolding study_stage
opening_refuses c commands None r h = (h.0, inl h.1)
opening_refuses c commands (Some looks) r h = inl h

-- ---- the answers

length_arrivals : (ls : List Look) → length (arrivals_of ls) ≡ length ls
length_arrivals ls = length-map ls arrival_of

-- a value has arrived for each look that was taken
pub records_counted : (c : Content) (looks : List Look) (s : StudyState) → AreTaken c looks s → length s.values ≡ length looks
records_counted c looks s T = ap length (follows_values c looks start s T.follows) ∙ length_arrivals looks

-- looks that may be kept where a command stops part way or the answer isn't made
pub taken_may : (c : Content) (xs : List StudyCommand) (n : ℕ) (s : StudyState) (looks : List Look) (place : ℕ) (w : WideAt)
    → IsFirstBreak c n s xs looks place w → MayTake c n s xs looks
taken_may c [] n s looks place w h = absurd h
taken_may c (x ∷ xs) n s looks place w (inl h) = inl h.0
taken_may c (x ∷ xs) n s looks place w (inr h) = inr (h.0, h.1, h.2, h.3, h.4, taken_may c xs (n + 1) h.1 h.2 place w h.5)

pub replied_may : (c : Content) (xs : List StudyCommand) (n : ℕ) (s t : StudyState) (rs : List Reply) → AreReplies c n s xs rs t
    → MayTake c n s xs (looks_taken rs)
replied_may c [] n s t [] h = refl
replied_may c [] n s t (r ∷ rs) h = absurd h
replied_may c (x ∷ xs) n s t [] h = absurd h
replied_may c (x ∷ xs) n s t (r ∷ rs) h = inr (r, h.0, looks_taken rs, h.1, refl, replied_may c xs (n + 1) h.0 t rs h.2)

module _ (c : Content) (commands : List StudyCommand) (looks : List Look) (s : StudyState) (T : AreTaken c looks s) (kept held : Option (List Look))
    (known : IfSome kept (λ them. them ≡ looks)) (start before later : ℕ) (once : before ≡ start + 1) where
  pub all_given : (n : ℕ) (text written : List ℕ) (t : StudyState) (answer : Answer) → n ≡ length s.values → text ≡ opened_lines c n
      → AreRepliedTo c s commands kept held before later text written t → answer ≡ done (written ++ line (codes "end"))
      → KeepWith (on_looks kept (study_stage c commands)).Gives kept held start later answer
  unfolding study_stage study_report
  all_given n text written t answer count e a d = record {
    more = looks_taken a.replies;
    given = gives_on (study_stage c commands) looks kept (record { answer = answer; looks = looks_taken a.replies }) known (
      s,
      T,
      inl (record {
        replies = a.replies;
        end = t;
        are = a.are;
        answer_is = d ∙ ap (λ x. done (x ++ line (codes "end")))
            (a.text_is ∙ ap (λ x. x ++ flat_map (reply_lines c) a.replies) (e ∙ ap (opened_lines c) (count ∙ records_counted c looks s T)));
        looks_are = refl;
      }),
    );
    held_is = a.held_is;
    calls_are = omega (arith, once, a.calls_are);
  }

  pub break_given : (place : ℕ) (w : WideAt) (answer : Answer)
      → HoldSome (λ ls. IsFirstBreak c 1 s commands ls place w × (later ≡ before + length ls)) kept held
      → answer ≡ refused (wide_refusal c.names (AfterLook place) w)
      → KeepWith (on_looks kept (study_stage c commands)).Gives kept held start later answer
  unfolding study_stage
  break_given place w answer b d = record {
    more = b.more;
    given = gives_on (study_stage c commands) looks kept (record { answer = answer; looks = b.more }) known
        (s, T, inr (record { place = place; wide = w; first = b.may.0; answer_is = d }));
    held_is = b.held_is;
    calls_are = omega (arith, once, b.may.1);
  }

  -- some looks of the commands may be kept
  may_keep : (more : List Look) → MayTake c 1 s commands more → MayKeep c commands kept more
  may_keep more h = inr (record { looks = looks; known = known; start = s; opened = T; may = h })

  pub some_kept : HoldSome (MayTake c 1 s commands) kept held → HoldSome (MayKeep c commands kept) kept held
  some_kept h = record { more = h.more; may = may_keep h.more h.may; held_is = h.held_is }

  -- the call for a look failed
  pub look_failed : HoldSome (λ ls. MayTake c 1 s commands ls × (later ≡ before + (length ls + 1))) kept held
      → HoldSome (λ more. MayKeep c commands kept more × IsLastFailed start later more) kept held
  look_failed h = record { more = h.more; may = (may_keep h.more h.may.0, inr (omega (arith, once, h.may.1))); held_is = h.held_is }

-- no look is added
pub none_kept : (c : Content) (commands : List StudyCommand) (kept held : Option (List Look)) → held ≡ kept → HoldSome (MayKeep c commands kept) kept held
none_kept c commands kept held e = record { more = []; may = inl refl; held_is = e ∙ sym (with_none kept) }

-- the call for the kept looks failed
load_failed : (c : Content) (commands : List StudyCommand) (kept held : Option (List Look)) (start later : ℕ) → held ≡ kept → later ≡ start + 1
    → HoldSome (λ more. MayKeep c commands kept more × IsLastFailed start later more) kept held
load_failed c commands kept held start later e once = record { more = []; may = (inl refl, inl (refl, once)); held_is = e ∙ sym (with_none kept) }

-- why kept looks aren't taken, as why the study gives no answer
pub opening_stops : (c : Content) (commands : List StudyCommand) (kept held : Option (List Look)) (start later : ℕ) (rose clean : Type 0) (stop : Stop)
    → held ≡ kept → StopsIn (over_opening c (rose × (later ≡ start + 1)) clean kept) stop
    → StopsIn (over_keeper (on_looks kept (study_stage c commands)) (MayKeep c commands kept) ⊥ (HasOpening c × rose) ⊤ clean kept held start later)
    stop
opening_stops c commands kept held start later rose clean (Refused r) e h = (opening_refuses c commands kept r h.0, e, tt, h.1)
opening_stops c commands kept held start later rose clean ReadFault e h = absurd h
opening_stops c commands kept held start later rose clean KeeperFault e h =
    ((h.0, h.1.0), load_failed c commands kept held start later e h.1.1, tt)
opening_stops c commands kept held start later rose clean OutOfMemory e h = (none_kept c commands kept held e, tt, h)

-- ---- after the opening, which leaves the looks of the keeper

module _ (c : Content) (commands : List StudyCommand) (kept now held : Option (List Look)) (same : now ≡ kept) (s : StudyState)
    (taken : OnLooks kept (λ looks. AreTaken c looks s)) (start before later : ℕ) (once : before ≡ start + 1) where
  pub all_answered : (n : ℕ) (text written : List ℕ) (t : StudyState) (answer : Answer) → n ≡ length s.values → text ≡ opened_lines c n
      → AreRepliedTo c s commands now held before later text written t → answer ≡ done (written ++ line (codes "end"))
      → KeepWith (on_looks kept (study_stage c commands)).Gives kept held start later answer
  all_answered n text written t answer count e a d =
      all_given c commands taken.0 s taken.1 kept held taken.2 start before later once n text written t answer count e
      (subst (λ x. AreRepliedTo c s commands x held before later text written t) same a) d

  pub break_answered : (place : ℕ) (w : WideAt) (answer : Answer)
      → HoldSome (λ ls. IsFirstBreak c 1 s commands ls place w × (later ≡ before + length ls)) now held
      → answer ≡ refused (wide_refusal c.names (AfterLook place) w)
      → KeepWith (on_looks kept (study_stage c commands)).Gives kept held start later answer
  break_answered place w answer b d = break_given c commands taken.0 s taken.1 kept held taken.2 start before later once place w answer
      (subst (λ x. HoldSome (λ ls. IsFirstBreak c 1 s commands ls place w × (later ≡ before + length ls)) x held) same b) d

  -- looks may be kept that the commands before some place take
  may_be_kept : HoldSome (MayTake c 1 s commands) now held → HoldSome (MayKeep c commands kept) kept held
  may_be_kept h = some_kept c commands taken.0 s taken.1 kept held taken.2 start before later once
      (subst (λ x. HoldSome (MayTake c 1 s commands) x held) same h)

  pub replied_kept : (text written : List ℕ) (t : StudyState) → AreRepliedTo c s commands now held before later text written t
      → HoldSome (MayKeep c commands kept) kept held
  replied_kept text written t a = may_be_kept (record { more = looks_taken a.replies; may = replied_may c commands 1 s t a.replies a.are; held_is = a.held_is })

  pub stopped_kept : (rose : Type 0) (stop : CommandStop) → StopsCommands c rose 1 s commands now held before later stop
      → HoldSome (MayKeep c commands kept) kept held
  stopped_kept rose (halts.Wide place w) h =
      may_be_kept (record { more = h.more; may = taken_may c commands 1 s h.more place w h.may.0; held_is = h.held_is })
  stopped_kept rose halts.Fault h = may_be_kept (record { more = h.1.more; may = h.1.may.0; held_is = h.1.held_is })
  stopped_kept rose halts.NoMemory h = may_be_kept h

  -- a study whose keeper failed at a look
  pub failed_answered : (rose : Type 0)
      → rose × HoldSome (λ ls. MayTake c 1 s commands ls × (later ≡ before + (length ls + 1))) now held
      → (HasOpening c × rose) × HoldSome (λ more. MayKeep c commands kept more × IsLastFailed start later more) kept held
  failed_answered rose h = (
    (taken.1.opened, h.0),
    look_failed c commands taken.0 s taken.1 kept held taken.2 start before later once
        (subst (λ x. HoldSome (λ ls. MayTake c 1 s commands ls × (later ≡ before + (length ls + 1))) x held) same h.1),
  )
