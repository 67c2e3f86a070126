use Rattle.std.proofs.Common.{◌≡◌, ◌∙◌, sym, ◌<◌, ℕ, Some, true, get_or, length, arith}
use Rattle.case_model.specs.Draft.{is_p_value}
use Rattle.case_model.specs.Sums.{ratio_at, zero_ratio}
use Rattle.typed_numbers.specs.Readings.{reading_of}
use Rattle.trial_rows.proofs.Places.{one_more, all_from_places}
use Rattle.trial_rows.proofs.Readings.{reading_p_value}
use Rattle.trial_rows.proofs.row.read_all.Goals as goal

pub loop-j-preserved : goal.loop-j-preserved
unfolding ratio_at
loop-j-preserved c = one_more zero_ratio (λ k p. reading_of (get_or c.args.doubles.now k 0) ≡ Some p) c.loop-j.p_values c.loop-j.j c.in-Some.p
    (let t = c.loop-j-test.true in omega (arith, t, c.requires, c.loop-j.auto.p_values)) c.loop-j.invariant (sym c.reading.ensures.result ∙ c.in-Some.is)

pub returns-clause-p_values : goal.returns-clause-p_values
unfolding ratio_at
returns-clause-p_values c = λ _.
    let each : (k : ℕ) → k < length c.loop-j.p_values → is_p_value (get_or c.loop-j.p_values k zero_ratio) ≡ true = λ k h.
    reading_p_value (get_or c.args.doubles.now k 0) _ (c.loop-j.invariant k
    (let f = c.loop-j-test.false in omega (arith, h, f, c.requires, c.loop-j.auto.p_values))) in
    all_from_places is_p_value zero_ratio c.loop-j.p_values each
