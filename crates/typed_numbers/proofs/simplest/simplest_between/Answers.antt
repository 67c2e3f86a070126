use Rattle.std.proofs.Common.{◌+◌, ◌*◌, ◌<◌, ◌≤◌, ◌-◌, ◌/◌, arith}
use Rattle.std.proofs.Math.Nat.{mul-le-mul_left}
use Rattle.typed_numbers.specs.Intervals.{Range}
use Rattle.typed_numbers.proofs.Neighbours.{all_wide, run_below, run_above, some_step, few, product_short, over, under, min_left, min_right, min_some}
use Rattle.typed_numbers.proofs.simplest.simplest_between.Goals as goal

pub returns-clause-none : goal.returns-clause-none
returns-clause-none c = λ is m p hp k.
    let l = c.loop-below_den in
    let i = l.invariant in
    let r : Range = record { scale = c.args.scale; low = c.args.low; high = c.args.high; ends = c.args.ends } in
    let w = all_wide r l.below_num l.below_den l.above_num l.above_den c.requires.ends i.below_den_some i.above_den_some i.unit i.below i.above m p hp k in
    omega arith

pub returns-else-high-q-clause-found : goal.returns-else-high-q-clause-found
returns-else-high-q-clause-found c =
    let l = c.loop-below_den in
    let i = l.invariant in
    let r : Range = record { scale = c.args.scale; low = c.args.low; high = c.args.high; ends = c.args.ends } in
    record {
      some = omega arith;
      within = omega arith;
      inside = record { from_low = omega arith; to_high = omega arith };
      least = all_wide r l.below_num l.below_den l.above_num l.above_den c.requires.ends i.below_den_some i.above_den_some i.unit i.below i.above;
    }

pub overflow_mul-n-else-n-scale : goal.overflow_mul-n-else-n-scale
overflow_mul-n-else-n-scale c =
    let l = c.loop-below_den in
    let i = l.invariant in
    let m = product_short (l.below_num + l.above_num) c.args.scale (omega arith) (omega arith) in
    omega arith

pub loop-below_den-smaller-then-n-scale : goal.loop-below_den-smaller-then-n-scale
loop-below_den-smaller-then-n-scale c =
    let l = c.loop-below_den in
    let i = l.invariant in
    let k = c.min-k.result in
    let x = l.above_num * c.args.scale - c.args.low * l.above_den in
    let y = c.args.low * l.below_den - l.below_num * c.args.scale - c.args.ends in
    let order : c.args.low * l.above_den < l.above_num * c.args.scale =
    over c.args.scale c.args.low c.args.high c.args.ends l.above_num l.above_den c.requires.order i.above_den_some i.above in
    let step : 0 < y / x = some_step x y (omega arith) (omega arith) in
    let some : 0 < k = min_some k (y / x) c.args.limit c.min-k.ensures step (omega arith) in
    let most : k ≤ c.args.limit = min_right k (y / x) c.args.limit c.min-k.ensures in
    let grown = few k l.above_den c.args.limit most (omega arith) c.requires.limit in
    let up = mul-le-mul_left {m = 1} {n = k} l.above_den some in
    omega arith

pub loop-below_den-preserved-then-n-scale : goal.loop-below_den-preserved-then-n-scale
loop-below_den-preserved-then-n-scale c =
    let l = c.loop-below_den in
    let i = l.invariant in
    let k = c.min-k.result in
    let x = l.above_num * c.args.scale - c.args.low * l.above_den in
    let y = c.args.low * l.below_den - l.below_num * c.args.scale - c.args.ends in
    let order : c.args.low * l.above_den < l.above_num * c.args.scale =
    over c.args.scale c.args.low c.args.high c.args.ends l.above_num l.above_den c.requires.order i.above_den_some i.above in
    let first : k ≤ y / x = min_left k (y / x) c.args.limit c.min-k.ensures in
    let most : k ≤ c.args.limit = min_right k (y / x) c.args.limit c.min-k.ensures in
    let grown = few k l.above_den c.args.limit most (omega arith) c.requires.limit in
    let short = mul-le-mul_left {m = l.above_num} {n = l.above_den} k i.above_num_short in
    record {
      below_den_some = omega arith;
      above_den_some = i.above_den_some;
      below_num_short = omega arith;
      above_num_short = i.above_num_short;
      below_den_short = omega arith;
      above_den_short = i.above_den_short;
      unit = omega arith;
      below = run_below c.args.scale c.args.low c.args.ends l.below_num l.below_den l.above_num l.above_den k i.below (omega arith) first;
      above = i.above;
    }

pub loop-below_den-smaller : goal.loop-below_den-smaller
loop-below_den-smaller c =
    let l = c.loop-below_den in
    let i = l.invariant in
    let k = c.min-k-then-high-q.result in
    let x = c.args.high * l.below_den - l.below_num * c.args.scale in
    let y = l.above_num * c.args.scale - c.args.high * l.above_den - c.args.ends in
    let order : l.below_num * c.args.scale < c.args.high * l.below_den =
    under c.args.scale c.args.low c.args.high c.args.ends l.below_num l.below_den c.requires.order i.below_den_some i.below in
    let step : 0 < y / x = some_step x y (omega arith) (omega arith) in
    let some : 0 < k = min_some k (y / x) c.args.limit c.min-k-then-high-q.ensures step (omega arith) in
    let most : k ≤ c.args.limit = min_right k (y / x) c.args.limit c.min-k-then-high-q.ensures in
    let grown = few k l.below_den c.args.limit most (omega arith) c.requires.limit in
    let up = mul-le-mul_left {m = 1} {n = k} l.below_den some in
    omega arith

pub loop-below_den-preserved : goal.loop-below_den-preserved
loop-below_den-preserved c =
    let l = c.loop-below_den in
    let i = l.invariant in
    let k = c.min-k-then-high-q.result in
    let x = c.args.high * l.below_den - l.below_num * c.args.scale in
    let y = l.above_num * c.args.scale - c.args.high * l.above_den - c.args.ends in
    let order : l.below_num * c.args.scale < c.args.high * l.below_den =
    under c.args.scale c.args.low c.args.high c.args.ends l.below_num l.below_den c.requires.order i.below_den_some i.below in
    let first : k ≤ y / x = min_left k (y / x) c.args.limit c.min-k-then-high-q.ensures in
    let most : k ≤ c.args.limit = min_right k (y / x) c.args.limit c.min-k-then-high-q.ensures in
    let grown = few k l.below_den c.args.limit most (omega arith) c.requires.limit in
    let short = mul-le-mul_left {m = l.below_num} {n = l.below_den} k i.below_num_short in
    record {
      below_den_some = i.below_den_some;
      above_den_some = omega arith;
      below_num_short = i.below_num_short;
      above_num_short = omega arith;
      below_den_short = i.below_den_short;
      above_den_short = omega arith;
      unit = omega arith;
      below = i.below;
      above = run_above c.args.scale c.args.high c.args.ends l.below_num l.below_den l.above_num l.above_den k i.above (omega arith) first;
    }
