use Rattle.std.proofs.Common.{◌∙◌, inl, inr, ap, unsigned_abs}
use Rattle.std.specs.Int.{w128}
use Rattle.std.proofs.lemmas.Int.{to_z-of_z}
use Rattle.fraction.proofs.LowestQuotients.{are_read, no_denominator, too_wide, in_lowest}
use Rattle.fraction.proofs.quotients.quotient.Goals as goal
use Rattle.fraction.proofs.quotients.quotient.Goals.{then-num-gt-LARGEST-via-then-num-gt-LARGEST, then-num-gt-LARGEST-via-else-num-gt-LARGEST+then-den-gt-LARGEST}

pub returns-then-under-eq0 : goal.returns-then-under-eq0
returns-then-under-eq0 c = no_denominator c.args.num c.args.den c.sign_and_size-turned.result.1
    (c.sign_and_size-turned.ensures.size ∙ ap unsigned_abs (to_z-of_z w128 c.args.den c.ranges.den)) c.if-under-eq0.true

pub returns-then-num-gt-LARGEST : goal.returns-then-num-gt-LARGEST
returns-then-num-gt-LARGEST c =
    let read = are_read c.args.num c.args.den _ _ _ _ _ _ c.ranges.num c.ranges.den c.sign_and_size-below.ensures.sign c.sign_and_size-turned.ensures.sign
    c.sign_and_size-below.ensures.size c.sign_and_size-turned.ensures.size c.divided-num.ensures.first c.divided-num.ensures.second in
    let wide = too_wide c.args.num c.args.den _ _ _ _ _ _ read c.if-under-eq0.false in
    elim c.then-num-gt-LARGEST.branch [
      | then-num-gt-LARGEST-via-then-num-gt-LARGEST w ↦ wide (inl w.if-num-gt-LARGEST.true)
      | then-num-gt-LARGEST-via-else-num-gt-LARGEST+then-den-gt-LARGEST w ↦ wide (inr w.if-den-gt-LARGEST.true)
    ]

pub returns : goal.returns
returns c =
    let read = are_read c.args.num c.args.den _ _ _ _ _ _ c.ranges.num c.ranges.den c.sign_and_size-below.ensures.sign c.sign_and_size-turned.ensures.sign
    c.sign_and_size-below.ensures.size c.sign_and_size-turned.ensures.size c.divided-num.ensures.first c.divided-num.ensures.second in
    in_lowest c.args.num c.args.den _ _ _ _ _ _ c.reduced.result read c.if-under-eq0.false c.if-num-gt-LARGEST.false c.if-den-gt-LARGEST.false c.reduced.ensures
