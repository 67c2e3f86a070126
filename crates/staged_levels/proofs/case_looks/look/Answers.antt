use Rattle.std.proofs.Common.{◌≡◌, ◌≤◌, sym, ap, ap₂, ◌∙◌, subst₂, ◌++◌, length, drop}
use Rattle.staged_levels.specs.StudyView.{study}
use Rattle.staged_levels.proofs.Calls.{settle_appends}
use Rattle.staged_levels.proofs.LookSteps.{study_defined, added_are, grown}
use Rattle.staged_levels.proofs.case_looks.look.Goals as goal

pub settled_after-requires : goal.settled_after-requires
unfolding study
settled_after-requires c =
    let t = study c.args.current.now in
    let new = study c.settle.new.self in
    let more = grown t c.args.current.now.whole new.looks (λ k T.
    let s = settle_appends k (study c.arrive.new.current).looks new.looks (c.in_default.ensures.call k (c.arrive.ensures.study k T)) in
    (s.0, s.1 ∙ ap (λ rs. rs ++ s.0) (c.arrive.ensures.arrival k T).rejected)) in
    subst₂ (λ xs ys. length xs ≤ length ys) (sym c.settled-before.ensures.value) (sym c.settled.ensures.value) more

pub returns-clause-look : goal.returns-clause-look
returns-clause-look c = λ k T.
    let old = study c.args.current.now in
    let mid = study c.arrive.new.current in
    let new = study c.settle.new.self in
    let M = c.arrive.ensures.study k T in
    let settles = c.in_default.ensures.call k M in
    let s = settle_appends k mid.looks new.looks settles in
    let put : c.append.new.self ≡ drop (length old.looks.rejected) new.looks.rejected
    = c.in_ok-append.ensures.appended ∙ ap (λ xs. xs ++ c.settled_after.result.now) c.new-added.ensures ∙ c.settled_after.ensures
    ∙ ap₂ (λ xs ys. drop (length xs) ys) c.settled-before.ensures.value c.settled.ensures.value in
    record {
      arrived = mid.looks;
      arrival = c.arrive.ensures.arrival k T;
      settles = settles;
      rejected = added_are old.looks.rejected new.looks.rejected s.0 (s.1 ∙ ap (λ rs. rs ++ s.0) (c.arrive.ensures.arrival k T).rejected)
          ∙ ap (λ xs. old.looks.rejected ++ xs) (sym put);
      is_defined = study_defined k new (c.settle.ensures.study k M);
    }
