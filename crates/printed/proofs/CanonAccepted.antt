-- What `canon` prints is answered as the case is.
use Rattle.std.specs.Prelude.{codes}
use Rattle.std.proofs.Common.{◌≡◌, refl, ap, subst, ◌∙◌, ℕ, ◌≤◌, List, length, Option, Some, inl, inr, arith}
use Rattle.answers.proofs.Decided.{stage_decided}
use Rattle.answers.specs.declared.answer.Answer.{Answer}
use Rattle.answers.specs.declared.refusal.Refusal.{Refusal}
use Rattle.answers.specs.declared.status.Status.TheVariants.{Done}
use Rattle.answers.specs.Stages.{Stage, and_then, told_as, on_bytes, within, IsAnswerOf, most_bytes}
use Rattle.case_model.specs.Content.{Content, content_of}
use Rattle.command_words.specs.Asked.{Encoding, Asked, on_case, check}
use Rattle.command_words.specs.declared.command.CaseTask.{CaseTask}
use Rattle.command_words.specs.declared.command.CaseTask.TheVariants.{Canon}
use Rattle.command_words.specs.declared.format.Format.{Format}
use Rattle.command_words.specs.Words.{asked_in}
use Rattle.graph_cli.specs.Accepted.{case_in, accepted, suitable}
use Rattle.graph_cli.specs.Check.{check_stage}
use Rattle.graph_cli.specs.Commands.{needs_of, check_needs, case_call, check_call, call_of, on_case as answers_on_case}
use Rattle.graph_cli.specs.declared.kind.InputKind.TheVariants.{Any}
use Rattle.graph_cli.specs.declared.needs.Needs.{Needs}
use Rattle.graph_cli.specs.Outcome.{AskFor, outcome}
use Rattle.graph_cli.specs.Troubles.{line_of}
use Rattle.graph_cli.proofs.AcceptedCases.{case_decided, accepted_decided}
use Rattle.graph_cli.proofs.ClosedReports.{not_done}
use Rattle.printed.specs.Canon.{read_again}
use Rattle.printed.specs.Accepted.{IsAnsweredAlike, CanonIsAnsweredAsTheCase}
use Rattle.printed.proofs.CanonReadBack.{canon_reads_back}

-- ---- bytes of a case, and the stages after them

-- the bytes denote the case, which has at most 64 hypotheses, and aren't more than an input may have
record IsInput (format : Encoding) (bytes : List ℕ) (c : Content) : Type 0 where
  short : length bytes ≤ most_bytes
  says : (case_in format bytes).Gives c
  few : length c.names ≤ 64

abbrev whatever : Needs
whatever = record { kind = Any; most = 64 }

module _ (format : Encoding) (bytes : List ℕ) (c : Content) (I : IsInput format bytes c) where
  is_accepted : (accepted format whatever (Some bytes)).Gives c
  is_accepted = (bytes, (refl, I.short), (c, I.says, (c, (tt, refl), (I.few, refl))))

  module _ (needs : Needs) where
    accepted_out : (d : Content) → (accepted format needs (Some bytes)).Gives d → (suitable needs c).Gives d
    accepted_out d g =
        let found = subst (λ xs. (case_in format xs).Gives g.2.0) g.1.0 g.2.1 in
        subst (λ x. (suitable needs x).Gives d) ((case_decided format bytes).one g.2.0 c found I.says) g.2.2

    accepted_in : (d : Content) → (suitable needs c).Gives d → (accepted format needs (Some bytes)).Gives d
    accepted_in d s = (bytes, (refl, I.short), (c, I.says, s))

    refused_out : (r : Refusal) → (accepted format needs (Some bytes)).Refuses r → (told_as (line_of c.names) (suitable needs c)).Refuses r
    refused_out r (inl w) = absurd (let short : length bytes ≤ most_bytes = I.short in let long = w.0 in omega (arith, short, long))
    refused_out r (inr (xs, w, inl q)) = absurd ((accepted_decided format whatever bytes).not_both c r is_accepted (inr (xs, w, inl q)))
    refused_out r (inr (xs, w, inr (d, g, t))) =
        let found = subst (λ ys. (case_in format ys).Gives d) w.0 g in
        subst (λ (x : Content). (told_as (line_of x.names) (suitable needs x)).Refuses r) ((case_decided format bytes).one d c found I.says) t

    refused_in : (r : Refusal) → (told_as (line_of c.names) (suitable needs c)).Refuses r → (accepted format needs (Some bytes)).Refuses r
    refused_in r t = inr (bytes, (refl, I.short), inr (c, I.says, t))

    module _ (rest : Content → Stage Refusal Answer) where
      -- the stages after the case of the bytes is found
      abbrev Rest : Stage Refusal Answer
      Rest = and_then (told_as (line_of c.names) (suitable needs c)) rest

      answers_out : (a : Answer) → IsAnswerOf (and_then (accepted format needs (Some bytes)) rest) a → IsAnswerOf Rest a
      answers_out a (inl g) = inl (g.0, accepted_out g.0 g.1, g.2)
      answers_out a (inr (r, inl q, e)) = inr (r, inl (refused_out r q), e)
      answers_out a (inr (r, inr q, e)) = inr (r, inr (q.0, accepted_out q.0 q.1, q.2), e)

      answers_in : (a : Answer) → IsAnswerOf Rest a → IsAnswerOf (and_then (accepted format needs (Some bytes)) rest) a
      answers_in a (inl g) = inl (g.0, accepted_in g.0 g.1, g.2)
      answers_in a (inr (r, inl q, e)) = inr (r, inl (refused_in r q), e)
      answers_in a (inr (r, inr q, e)) = inr (r, inr (q.0, accepted_in q.0 q.1, q.2), e)

-- ---- words

call_out : (words : List (List ℕ)) (command : Asked) (case proof : Option (List ℕ)) (a : Answer) → AskFor words command
    → IsAnswerOf (outcome words case proof) a → IsAnswerOf (call_of command case proof) a
call_out words command case proof a asks (inl h) =
    inl (subst (λ x. (call_of x case proof).Gives a) ((stage_decided (asked_in words)).one h.0 command h.1 asks) h.2)
call_out words command case proof a asks (inr (r, inl q, e)) = absurd ((stage_decided (asked_in words)).not_both command q.0 asks q.1)
call_out words command case proof a asks (inr (r, inr q, e)) =
    inr (r, subst (λ x. (call_of x case proof).Refuses r) ((stage_decided (asked_in words)).one q.0 command q.1 asks) q.2, e)

call_in : (words : List (List ℕ)) (command : Asked) (case proof : Option (List ℕ)) (a : Answer) → AskFor words command
    → IsAnswerOf (call_of command case proof) a → IsAnswerOf (outcome words case proof) a
call_in words command case proof a asks (inl g) = inl (command, asks, g)
call_in words command case proof a asks (inr (r, q, e)) = inr (r, inr (command, asks, q), e)

-- ---- the same answers

module _ (format again : Encoding) (case printed : List ℕ) (c : Content) (I : IsInput format case c) (J : IsInput again printed c) where
  task_out : (task : CaseTask) (proof : Option (List ℕ)) (a : Answer) → IsAnswerOf (call_of (on_case format task) (Some case) proof) a
      → IsAnswerOf (call_of (on_case again task) (Some printed) proof) a
  unfolding call_of case_call
  task_out task proof a h =
      let rest = λ (d : Content). told_as (line_of d.names) (answers_on_case task d) in
      answers_in again printed c J (needs_of task) rest a (answers_out format case c I (needs_of task) rest a h)

  check_out : (file : ℕ) (proof : Option (List ℕ)) (a : Answer) → IsAnswerOf (call_of (check format file) (Some case) proof) a
      → IsAnswerOf (call_of (check again file) (Some printed) proof) a
  unfolding call_of check_call
  check_out file proof a h =
      let rest = λ (d : Content). and_then (on_bytes proof (within (codes "proof "))) (λ xs. told_as (line_of d.names) (check_stage d xs)) in
      answers_in again printed c J check_needs rest a (answers_out format case c I check_needs rest a h)

  task_there : (task : CaseTask) (words others : List (List ℕ)) (proof : Option (List ℕ)) (a : Answer) → AskFor words (on_case format task)
      → AskFor others (on_case again task) → IsAnswerOf (outcome words (Some case) proof) a → IsAnswerOf (outcome others (Some printed) proof) a
  task_there task words others proof a asks ask h =
      call_in others (on_case again task) (Some printed) proof a ask (task_out task proof a (call_out words (on_case format task) (Some case) proof a asks h))

  check_there : (file : ℕ) (words others : List (List ℕ)) (proof : Option (List ℕ)) (a : Answer) → AskFor words (check format file)
      → AskFor others (check again file) → IsAnswerOf (outcome words (Some case) proof) a → IsAnswerOf (outcome others (Some printed) proof) a
  check_there file words others proof a asks ask h =
      call_in others (check again file) (Some printed) proof a ask (check_out file proof a (call_out words (check format file) (Some case) proof a asks h))

alike : (format again : Encoding) (case printed : List ℕ) (c : Content) → IsInput format case c → IsInput again printed c
    → IsAnsweredAlike format again case printed
alike format again case printed c I J = record {
  tasks = λ task words others proof a asks ask. (
    task_there format again case printed c I J task words others proof a asks ask,
    task_there again format printed case c J I task others words proof a ask asks,
  );
  checks = λ file words others proof a asks ask. (
    check_there format again case printed c I J file words others proof a asks ask,
    check_there again format printed case c J I file others words proof a ask asks,
  );
}

-- ---- what `canon` took

canon_took : (words : List (List ℕ)) (format : Encoding) (to : Format) (case : List ℕ) (proof : Option (List ℕ)) (a : Answer) (c : Content)
    → AskFor words (on_case format (Canon to)) → IsAnswerOf (outcome words (Some case) proof) a → a.status ≡ Done
    → (case_in format case).Gives c → IsInput format case c
unfolding call_of case_call needs_of
canon_took words format to case proof a c asks (inr h) z says = absurd (not_done a.status h.0.cause (ap (λ (x : Answer). x.status) h.2) z)
canon_took words format to case proof a c asks (inl h) z says =
    let command_is : h.0 ≡ on_case format (Canon to) = (stage_decided (asked_in words)).one h.0 (on_case format (Canon to)) h.1 asks in
    let gives = subst (λ command. (call_of command (Some case) proof).Gives a) command_is h.2 in
    let found : (case_in format case).Gives gives.1.2.0 = subst (λ xs. (case_in format xs).Gives gives.1.2.0) gives.1.1.0 gives.1.2.1 in
    let same : gives.1.2.2.0 ≡ c = gives.1.2.2.1.1 ∙ (case_decided format case).one gives.1.2.0 c found says in
    record {
      short = gives.1.1.1;
      says = says;
      few = subst (λ (x : Content). length x.names ≤ 64) same gives.1.2.2.2.0;
    }

pub canon_accepted : CanonIsAnsweredAsTheCase
canon_accepted words format to case proof a c asks h z short says =
    let I = canon_took words format to case proof a c asks h z says in
    let r = canon_reads_back words format to case proof a asks h z in
    let same : content_of r.draft ≡ c = (case_decided format case).one (content_of r.draft) c (r.draft, r.says, (r.faultless, refl)) says in
    let reads = subst (λ x. (case_in (read_again to x) a.text).Gives x) same r.reports.reads in
    alike format (read_again to c) case a.text c I (record { short = short; says = reads; few = I.few })
