use Rattle.std.proofs.Common.{rules, ap, ◌+◌, ◌∙◌, Ok, Err, length}
use Rattle.std.specs.Prelude.{ok_or}
use Rattle.command_words.specs.Given.{given_content}
use Rattle.command_words.proofs.WholeReadings.{none_studied, no_study, study_given}
use Rattle.command_words.proofs.reading.read_study.Goals as goal

pub returns-in_default : goal.returns-in_default
returns-in_default c = none_studied c.args.words.now c.in_default.ensures.cases

pub returns-then-not-is_study : goal.returns-then-not-is_study
returns-then-not-is_study c = no_study c.args.words.now c.in-Some.first.now c.in-Some.more.now c.as_str.result.now c.in-Some.ensures.cases.0 c.as_str.ensures.value
    (let t = c.if-not-is_study.true in let e = c.is_study.ensures in search rules)

pub returns-in-Some-study : goal.returns-in-Some-study
returns-in-Some-study c =
    ap (λ s. ok_or s (length c.args.words.now + 1)) c.in-Some-study.ensures
    ∙ study_given c.args.words.now c.in-Some.first.now c.in-Some.more.now c.as_str.result.now c.in-Some.ensures.cases.0 c.as_str.ensures.value (Ok (given_content c.in-Ok.given)) (given_content c.new.result)
    (let t = c.if-not-is_study.false in let e = c.is_study.ensures in search rules) c.new.ensures c.in-Ok.ensures

pub returns-in-None : goal.returns-in-None
returns-in-None c =
    ap (λ s. ok_or s (length c.args.words.now + 1)) c.in-None.ensures
    ∙ study_given c.args.words.now c.in-Some.first.now c.in-Some.more.now c.as_str.result.now c.in-Some.ensures.cases.0 c.as_str.ensures.value (Ok (given_content c.in-Ok.given)) (given_content c.new.result)
    (let t = c.if-not-is_study.false in let e = c.is_study.ensures in search rules) c.new.ensures c.in-Ok.ensures

pub returns-in-Err : goal.returns-in-Err
returns-in-Err c = study_given c.args.words.now c.in-Some.first.now c.in-Some.more.now c.as_str.result.now c.in-Some.ensures.cases.0 c.as_str.ensures.value (Err c.in-Err.n) (given_content c.new.result)
    (let t = c.if-not-is_study.false in let e = c.is_study.ensures in search rules) c.new.ensures c.in-Err.ensures
