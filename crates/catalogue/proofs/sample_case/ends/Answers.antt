use Rattle.std.proofs.Common.{◌≡◌, ◌++◌, ◌∷◌, [], ◌+◌, ◌*◌, sym, ap₂, ◌∙◌, refl, arith}
use Rattle.std.proofs.lemmas.List.FromFn.{map-range_with_len_more}
use Rattle.catalogue.specs.Samples.{number_after, ends_of}
use Rattle.catalogue.proofs.Draws.{number_next, end_next}
use Rattle.catalogue.proofs.sample_case.ends.Goals as goal

pub hypotheses-preserved : goal.hypotheses-preserved
hypotheses-preserved c seed h =
    let n = c.args.size in
    let i = c.hypotheses.i in
    let old = c.hypotheses.invariant seed h in
    let one = c.later-first.new.generator.number in
    let two = c.later-second.new.generator.number in
    let after : one ≡ number_after seed (n + 2 * i + 1) =
    number_next seed (n + 2 * i) (n + 2 * i + 1) c.hypotheses.generator.number one refl old.1 c.later-first.ensures.number in
    let first = end_next n i seed (n + 2 * i) c.hypotheses.generator.number one c.later-first.result old.1 c.later-first.ensures.number
    c.later-first.ensures.named in
    let second = end_next n i seed (n + 2 * i + 1) one two c.later-second.result after c.later-second.ensures.number c.later-second.ensures.named in (
      c.in_ok-push.ensures.pushed ∙ ap₂ (λ xs x. xs ++ x ∷ []) old.0 (ap₂ (λ a b. (a, b)) first second)
          ∙ sym (map-range_with_len_more (ends_of n seed) 0 i i (omega arith)),
      number_next seed (n + 2 * i + 1) (n + 2 * (i + 1)) one two (omega arith) after c.later-second.ensures.number,
    )
