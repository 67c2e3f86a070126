-- Kept looks and commands have one end.
use Rattle.std.proofs.Common.{◌≡◌, ◌⊎◌, ◌+◌, inl, inr, refl, sym, ap, ap₂, ◌∙◌, subst, ℕ, List, [], ◌∷◌, ◌++◌, length}
use Rattle.field_core.specs.declared.place.WideAt.{WideAt}
use Rattle.graph_io.specs.declared.keeper.Look.{Look}
use Rattle.answers.specs.declared.refusal.Refusal.{Refusal}
use Rattle.answers.specs.Lines.{done, refused}
use Rattle.answers.specs.Stages.{IsDecided}
use Rattle.answers.proofs.Decided.{then_decided}
use Rattle.case_model.specs.Content.{Content}
use Rattle.refusals.specs.WideRefusal.{wide_refusal}
use Rattle.refusals.specs.declared.wide.When.TheVariants.{Look as AfterLook}
use Rattle.report.specs.StudyReport.{Reply, taken, refused as refusing, shown, study_report}
use Rattle.staged_levels.specs.Studies.{StudyState}
use Rattle.staged_levels.proofs.LookLaws.{look_unique}
use Rattle.study_cli.specs.declared.command.StudyCommand.{StudyCommand}
use Rattle.study_cli.specs.declared.command.StudyCommand.TheVariants.{Take, Show}
use Rattle.study_register.specs.declared.fault.RegisterFault.{RegisterFault}
use Rattle.study_register.specs.declared.fault.RegisterFault.TheVariants.{BadLook, Wide, Fault, NoMemory}
use Rattle.study_register.specs.Looking.{arrival_of}
use Rattle.study_register.proofs.OneEnd.{reopenings_agree, taken_not_stopped, stops_unique, wide_openings, looks_have_one_end}
use Rattle.study_cli.specs.Replies.{taken_in, looks_taken, IsReply, AreReplies, IsBreak, IsFirstBreak}
use Rattle.study_cli.specs.StudyStages.{StudyEnd, IsOpeningFault, ReportsOpeningFault, opened, AreAllAnswered, IsBrokenOff, answering, study_stage}
use Rattle.study_cli.specs.StudyStatements.{StudiesHaveOneEnd}

module _ (c : Content) where
  -- ---- one command

  pub one_reply : (n : ℕ) (s : StudyState) (x : StudyCommand) (r q : Reply) (t u : StudyState) → IsReply c n s x r t → IsReply c n s x q u → (r ≡ q)
      × (t ≡ u)
  one_reply n s (Take l) (taken m added) (taken k more) t u h g =
      let same = look_unique c s t u (arrival_of l) added more h.1 g.1 in
      (ap₂ taken (h.0 ∙ sym g.0) same.1, same.0)
  one_reply n s (Take l) (taken m added) (refusing k f) t u h g = absurd ((looks_have_one_end c s l).not_refused t f (added, h.1) g.1)
  one_reply n s (Take l) (taken m added) (shown k rs) t u h g = absurd g
  one_reply n s (Take l) (refusing k f) (taken m added) t u h g = absurd ((looks_have_one_end c s l).not_refused u f (added, g.1) h.1)
  one_reply n s (Take l) (refusing k f) (refusing i e) t u h g =
      (ap₂ refusing (h.0 ∙ sym g.0) ((looks_have_one_end c s l).refusal f e h.1 g.1), h.2 ∙ sym g.2)
  one_reply n s (Take l) (refusing k f) (shown i rs) t u h g = absurd g
  one_reply n s (Take l) (shown k rs) q t u h g = absurd h
  one_reply n s Show (taken m added) q t u h g = absurd h
  one_reply n s Show (refusing k f) q t u h g = absurd h
  one_reply n s Show (shown k rs) (taken m added) t u h g = absurd g
  one_reply n s Show (shown k rs) (refusing i f) t u h g = absurd g
  one_reply n s Show (shown k rs) (shown i qs) t u h g = (ap₂ shown (h.0 ∙ sym g.0) (h.1 ∙ sym g.1), h.2 ∙ sym g.2)

  pub replied_not_broken : (n : ℕ) (s : StudyState) (x : StudyCommand) (r : Reply) (t : StudyState) (place : ℕ) (w : WideAt) → IsReply c n s x r t
      → ¬ IsBreak c s x place w
  replied_not_broken n s (Take l) (taken m added) t place w h b = (looks_have_one_end c s l).not_broken t w (added, h.1) b.1
  replied_not_broken n s (Take l) (refusing k f) t place w h b = (looks_have_one_end c s l).not_both f w h.1 b.1
  replied_not_broken n s (Take l) (shown k rs) t place w h b = h
  replied_not_broken n s Show r t place w h b = b

  one_break : (s : StudyState) (x : StudyCommand) (m n : ℕ) (v w : WideAt) → IsBreak c s x m v → IsBreak c s x n w → (m ≡ n) × (v ≡ w)
  one_break s (Take l) m n v w h b = (h.0 ∙ sym b.0, (looks_have_one_end c s l).place v w h.1 b.1)
  one_break s Show m n v w h b = absurd h

  -- ---- commands

  pub replies_unique : (xs : List StudyCommand) (n : ℕ) (s : StudyState) (rs qs : List Reply) (t u : StudyState) → AreReplies c n s xs rs t
      → AreReplies c n s xs qs u → (rs ≡ qs) × (t ≡ u)
  replies_unique [] n s [] [] t u h g = (refl, h ∙ sym g)
  replies_unique [] n s [] (q ∷ qs) t u h g = absurd g
  replies_unique [] n s (r ∷ rs) qs t u h g = absurd h
  replies_unique (x ∷ xs) n s [] qs t u h g = absurd h
  replies_unique (x ∷ xs) n s (r ∷ rs) [] t u h g = absurd g
  replies_unique (x ∷ xs) n s (r ∷ rs) (q ∷ qs) t u h g =
      let one = one_reply n s x r q h.0 g.0 h.1 g.1 in
      let rest = replies_unique xs (n + 1) g.0 rs qs t u (subst (λ m. AreReplies c (n + 1) m xs rs t) one.1 h.2) g.2 in
      (ap₂ (λ y ys. y ∷ ys) one.0 rest.0, rest.1)

  replies_not_broken : (xs : List StudyCommand) (n : ℕ) (s : StudyState) (rs : List Reply) (t : StudyState) (looks : List Look) (place : ℕ) (w : WideAt)
      → AreReplies c n s xs rs t → ¬ IsFirstBreak c n s xs looks place w
  replies_not_broken [] n s rs t looks place w h b = b
  replies_not_broken (x ∷ xs) n s [] t looks place w h b = h
  replies_not_broken (x ∷ xs) n s (r ∷ rs) t looks place w h (inl b) = replied_not_broken n s x r h.0 place w h.1 b.1
  replies_not_broken (x ∷ xs) n s (r ∷ rs) t looks place w h (inr b) =
      let one = one_reply n s x r b.0 h.0 b.1 h.1 b.3 in
      replies_not_broken xs (n + 1) b.1 rs t b.2 place w (subst (λ m. AreReplies c (n + 1) m xs rs t) one.1 h.2) b.5

  breaks_unique : (xs : List StudyCommand) (n : ℕ) (s : StudyState) (ls ms : List Look) (i j : ℕ) (v w : WideAt) → IsFirstBreak c n s xs ls i v
      → IsFirstBreak c n s xs ms j w → (ls ≡ ms) × (i ≡ j) × (v ≡ w)
  breaks_unique [] n s ls ms i j v w h g = absurd h
  breaks_unique (x ∷ xs) n s ls ms i j v w (inl h) (inl g) = let one = one_break s x i j v w h.1 g.1 in (h.0 ∙ sym g.0, one.0, one.1)
  breaks_unique (x ∷ xs) n s ls ms i j v w (inl h) (inr g) = absurd (replied_not_broken n s x g.0 g.1 i v g.3 h.1)
  breaks_unique (x ∷ xs) n s ls ms i j v w (inr h) (inl g) = absurd (replied_not_broken n s x h.0 h.1 j w h.3 g.1)
  breaks_unique (x ∷ xs) n s ls ms i j v w (inr h) (inr g) =
      let one = one_reply n s x h.0 g.0 h.1 g.1 h.3 g.3 in
      let rest = breaks_unique xs (n + 1) g.1 h.2 g.2 i j v w (subst (λ m. IsFirstBreak c (n + 1) m xs h.2 i v) one.1 h.5) g.5 in
      (h.4 ∙ ap₂ (λ r looks. taken_in r ++ looks) one.0 rest.0 ∙ sym g.4, rest.1, rest.2)

  -- ---- stages

  end_by : (e f : StudyEnd) → e.answer ≡ f.answer → e.looks ≡ f.looks → e ≡ f
  end_by e f p q = λ i. record { answer = p i; looks = q i }

  one_end : (records : ℕ) (xs : List StudyCommand) (s : StudyState) (e f : StudyEnd) → AreAllAnswered c records xs s e ⊎ IsBrokenOff c xs s e
      → AreAllAnswered c records xs s f ⊎ IsBrokenOff c xs s f → e ≡ f
  one_end records xs s e f (inl h) (inl g) =
      let same = (replies_unique xs 1 s h.replies g.replies h.end g.end h.are g.are).0 in
      end_by e f (h.answer_is ∙ ap (λ rs. done (study_report c records rs)) same ∙ sym g.answer_is)
      (h.looks_are ∙ ap looks_taken same ∙ sym g.looks_are)
  one_end records xs s e f (inl h) (inr g) = absurd (replies_not_broken xs 1 s h.replies h.end f.looks g.place g.wide h.are g.first)
  one_end records xs s e f (inr h) (inl g) = absurd (replies_not_broken xs 1 s g.replies g.end e.looks h.place h.wide g.are h.first)
  one_end records xs s e f (inr h) (inr g) =
      let same = breaks_unique xs 1 s e.looks f.looks h.place g.place h.wide g.wide h.first g.first in
      end_by e f (h.answer_is ∙ ap₂ (λ n w. refused (wide_refusal c.names (AfterLook n) w)) same.1 same.2 ∙ sym g.answer_is) same.0

  answering_decided : (records : ℕ) (xs : List StudyCommand) (s : StudyState) → IsDecided (answering c records xs s)
  answering_decided records xs s = record {
    one = λ e f h g. one_end records xs s e f h g;
    one_refusal = λ r q h g. absurd h;
    not_both = λ e r h g. g;
  }

  one_opening_fault : (looks : List Look) (f g : RegisterFault) → IsOpeningFault c looks f → IsOpeningFault c looks g → f ≡ g
  one_opening_fault looks (BadLook n l) (BadLook m k) h b = stops_unique c looks (BadLook n l) (BadLook m k) h b
  one_opening_fault looks (BadLook n l) (Wide m w) h (inl b) = absurd ((wide_openings c w b.1).stopped looks (BadLook n l) h)
  one_opening_fault looks (BadLook n l) (Wide m w) h (inr b) = stops_unique c looks (BadLook n l) (Wide m w) h b
  one_opening_fault looks (BadLook n l) Fault h b = absurd b
  one_opening_fault looks (BadLook n l) NoMemory h b = absurd b
  one_opening_fault looks (Wide n v) (BadLook m k) (inl h) b = absurd ((wide_openings c v h.1).stopped looks (BadLook m k) b)
  one_opening_fault looks (Wide n v) (BadLook m k) (inr h) b = stops_unique c looks (Wide n v) (BadLook m k) h b
  one_opening_fault looks (Wide n v) (Wide m w) (inl h) (inl b) = ap₂ Wide (h.0 ∙ sym b.0) ((wide_openings c w b.1).unique v h.1)
  one_opening_fault looks (Wide n v) (Wide m w) (inl h) (inr b) = absurd ((wide_openings c v h.1).stopped looks (Wide m w) b)
  one_opening_fault looks (Wide n v) (Wide m w) (inr h) (inl b) = absurd ((wide_openings c w b.1).stopped looks (Wide n v) h)
  one_opening_fault looks (Wide n v) (Wide m w) (inr h) (inr b) = stops_unique c looks (Wide n v) (Wide m w) h b
  one_opening_fault looks (Wide n v) Fault h b = absurd b
  one_opening_fault looks (Wide n v) NoMemory h b = absurd b
  one_opening_fault looks Fault g h b = absurd h
  one_opening_fault looks NoMemory g h b = absurd h

  one_refusal_of : (why : RegisterFault) (r q : Refusal) → ReportsOpeningFault c.names why r → ReportsOpeningFault c.names why q → r ≡ q
  one_refusal_of (BadLook n l) r q h b = h ∙ sym b
  one_refusal_of (Wide n w) r q h b = h ∙ sym b
  one_refusal_of Fault r q h b = absurd h
  one_refusal_of NoMemory r q h b = absurd h

  taken_not_refused : (looks : List Look) (s : StudyState) (why : RegisterFault) → (opened c looks).Gives s → ¬ IsOpeningFault c looks why
  taken_not_refused looks s (BadLook n l) T h = taken_not_stopped c looks s (BadLook n l) T h
  taken_not_refused looks s (Wide n w) T (inl h) = (wide_openings c w h.1).taken looks s T
  taken_not_refused looks s (Wide n w) T (inr h) = taken_not_stopped c looks s (Wide n w) T h
  taken_not_refused looks s Fault T h = h
  taken_not_refused looks s NoMemory T h = h

  opened_decided : (looks : List Look) → IsDecided (opened c looks)
  opened_decided looks = record {
    one = λ s t h g. reopenings_agree c looks s t h g;
    one_refusal = λ r q h g. one_refusal_of h.0 r q h.2 (subst (λ why. ReportsOpeningFault c.names why q) (one_opening_fault looks g.0 h.0 g.1 h.1) g.2);
    not_both = λ s r h g. taken_not_refused looks s g.0 h g.1;
  }

pub studies_have_one_end : StudiesHaveOneEnd
unfolding study_stage
studies_have_one_end c commands looks = then_decided (opened c looks) (answering c (length looks) commands) (opened_decided c looks)
    (λ s. answering_decided c (length looks) commands s)
