use Rattle.std.proofs.Common.{◌+◌, sym, ◌∙◌, subst, take, drop}
use Rattle.staged_levels.specs.StudyView.{study}
use Rattle.study_register.specs.Looking.{Follows}
use Rattle.study_register.specs.RegisterFaults.{IsStopAt, IsFirstStop}
use Rattle.study_register.proofs.Following.{next_look, parted, place_of, stops_on}
use Rattle.study_register.proofs.TakenLooks.{follows_one}
use Rattle.study_register.proofs.taking.follow.Goals as goal

pub loop-i-preserved : goal.loop-i-preserved
loop-i-preserved c =
    let l = c.loop-i in
    let looks = c.args.looks.now in
    let at = c.index-looks-i.result in
    let next = next_look looks l.i at c.loop-i-test.true c.index-looks-i.is in
    record {
      same_case = λ k T. c.take_kept.ensures.study k (l.invariant.same_case k T);
      followed = λ k T.
          subst (λ ls. Follows k (study c.args.current.now).looks ls (study c.take_kept.new.current).looks) (sym next)
          (follows_one k (take l.i looks) (study c.args.current.now).looks (study l.current).looks (study c.take_kept.new.current).looks at
          (l.invariant.followed k T) (c.in_default.ensures.taken k (l.invariant.same_case k T)));
      size = c.take_kept.ensures.size ∙ l.invariant.size;
    }

pub returns-in-Err-clause-fault : goal.returns-in-Err-clause-fault
returns-in-Err-clause-fault c = λ k T.
    let l = c.loop-i in
    let looks = c.args.looks.now in
    let at = c.index-looks-i.result in
    let stop = subst (λ n. IsStopAt k (study l.current).looks n at c.in-Err.fault) (place_of looks l.i c.loop-i-test.true)
    (c.in-Err.ensures.fault k (l.invariant.same_case k T)) in
    subst (λ ls. IsFirstStop k (study c.args.current.now).looks 1 ls c.in-Err.fault) (parted looks l.i at c.loop-i-test.true c.index-looks-i.is)
    (stops_on k (take l.i looks) (study c.args.current.now).looks (study l.current).looks 1 at (drop (l.i + 1) looks) c.in-Err.fault
    (l.invariant.followed k T) stop)
