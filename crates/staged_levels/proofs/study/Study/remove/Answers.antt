use Rattle.std.proofs.Common.{◌<◌, refl, sym, length, arith}
use Rattle.std.proofs.lemmas.List.{length-map}
use Rattle.staged_levels.specs.StudyView.{study}
use Rattle.staged_levels.proofs.AnyStudy.{any_next, any_few}
use Rattle.staged_levels.proofs.study.Study.remove.Goals as goal

pub push_reserved-requires : goal.push_reserved-requires
unfolding study
push_reserved-requires c =
    let t = c.args.self.now in
    let few : length t.settled.items < length t.spends = rw length-map at (any_few (study t) t.whole c.args.k c.args.stage c.requires) in
    omega (arith, few, t.room, t.settled.ok.0)

pub invariant_of-self-2-clause-whole : goal.invariant_of-self-2-clause-whole
unfolding study
invariant_of-self-2-clause-whole c =
    let t = c.args.self.now in
    any_next (study t) t.whole c.args.k c.args.stage _ c.requires (record {
      spends = refl;
      count = refl;
      alpha = refl;
      removed = sym c.in_ok-remove.ensures.value;
      values = refl;
      line = record { hypothesis = c.args.k; stage = c.args.stage; weight = c.present_weight-weight.result };
      is_line = record { hypothesis = refl; stage_is = refl; weight = c.present_weight-weight.ensures };
      rejected = c.push_reserved.ensures.items;
    })

pub returns-clause-next : goal.returns-clause-next
unfolding study
returns-clause-next c = record {
  spends = refl;
  count = refl;
  alpha = refl;
  removed = sym c.in_ok-remove.ensures.value;
  values = refl;
  line = record { hypothesis = c.args.k; stage = c.args.stage; weight = c.present_weight-weight.result };
  is_line = record { hypothesis = refl; stage_is = refl; weight = c.present_weight-weight.ensures };
  rejected = c.push_reserved.ensures.items;
}
