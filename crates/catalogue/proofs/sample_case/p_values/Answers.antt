use Rattle.std.proofs.Common.{◌++◌, ◌∷◌, [], ◌+◌, sym, ap₂, ◌∙◌, refl, arith}
use Rattle.std.proofs.lemmas.List.FromFn.{map-range_with_len_more}
use Rattle.catalogue.specs.Samples.{p_value_of}
use Rattle.catalogue.proofs.Draws.{number_none, number_next, p_value_next}
use Rattle.catalogue.proofs.sample_case.p_values.Goals as goal

pub draws-init : goal.draws-init
draws-init c = record { made = c.new-p_values.ensures; number = sym (number_none c.args.generator.now.number) }

pub draws-preserved : goal.draws-preserved
draws-preserved c =
    let seed = c.args.generator.now.number in
    let k = c.draws.counter in
    record {
      made = c.in_ok-push.ensures.pushed
          ∙ ap₂ (λ xs x. xs ++ x ∷ []) c.draws.invariant.made
          (c.quotient.ensures ∙ p_value_next seed k c.draws.generator.number c.draw-drawn.new.self.number c.draw-drawn.result c.draws.invariant.number
          c.draw-drawn.ensures.number c.draw-drawn.ensures.drawn)
          ∙ sym (map-range_with_len_more (p_value_of seed) 0 k k (omega arith));
      number = number_next seed k (k + 1) c.draws.generator.number c.draw-drawn.new.self.number refl c.draws.invariant.number c.draw-drawn.ensures.number;
    }
