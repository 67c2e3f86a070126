use Rattle.std.proofs.Common.{◌≡◌, ◌++◌, ◌∷◌, sym, ◌∙◌}
use Rattle.study_sqlite.proofs.Slashes.{front_only, whole_only, pair_only, whole_parts, pair_parts}
use Rattle.study_sqlite.proofs.printed.printed_parts.Goals as goal

pub returns-in_err-num-clause-only : goal.returns-in_err-num-clause-only
returns-in_err-num-clause-only c n d fits den is =
    let front = front_only (λ u. u.now) n d c.args.text.now c.split_slash.result.0.now c.split_slash.result.1 fits
    c.split_slash.ensures.front c.split_slash.ensures.whole is in
    let e = c.in_err-num.ensures.only n fits front in
    absurd (cc)

pub returns-in_err-printed_denominator-in-Some-clause-only :
    goal.returns-in_err-printed_denominator-in-Some-clause-only
returns-in_err-printed_denominator-in-Some-clause-only c n d fits den is =
    let cut : c.args.text.now ≡ c.split_slash.result.0.now ++ 47 ∷ c.in-Some.under.now = rw c.in-Some.is at c.split_slash.ensures.whole in
    let both = pair_only n d c.split_slash.result.0.now c.in-Some.under.now fits c.split_slash.ensures.front (sym cut ∙ is) in
    let e = c.in_err-printed_denominator-in-Some.ensures.only d den both.0 both.2 in
    absurd (cc)

pub returns-in-None-clause-only : goal.returns-in-None-clause-only
returns-in-None-clause-only c n d fits den is =
    let cut : c.args.text.now ≡ c.split_slash.result.0.now = rw c.in-None.is at c.split_slash.ensures.whole in
    let both = whole_only n d c.split_slash.result.0.now c.split_slash.ensures.front (sym cut ∙ is) in
    whole_parts c.in_ok-num.num n d fits (c.in_ok-num.ensures.only n fits both.1) both.0

pub returns-in_ok-printed_denominator-in-Some-clause-only :
    goal.returns-in_ok-printed_denominator-in-Some-clause-only
returns-in_ok-printed_denominator-in-Some-clause-only c n d fits den is =
    let cut : c.args.text.now ≡ c.split_slash.result.0.now ++ 47 ∷ c.in-Some.under.now = rw c.in-Some.is at c.split_slash.ensures.whole in
    let both = pair_only n d c.split_slash.result.0.now c.in-Some.under.now fits c.split_slash.ensures.front (sym cut ∙ is) in
    pair_parts c.in_ok-num.num n c.in_ok-printed_denominator-in-Some.field-0 d fits den
    (c.in_ok-num.ensures.only n fits both.1) (c.in_ok-printed_denominator-in-Some.ensures.only d den both.0 both.2)
