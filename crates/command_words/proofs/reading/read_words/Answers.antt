use Rattle.std.proofs.Common.{ap, ap₂, ◌∙◌, Ok, Err, length}
use Rattle.command_words.specs.Given.{given_content, forbidden_word}
use Rattle.command_words.proofs.WholeReadings.{asked_by, none_asked, no_verb, asked_given}
use Rattle.command_words.proofs.reading.read_words.Goals as goal

pub returns-in_default : goal.returns-in_default
returns-in_default c = none_asked c.args.words.now c.in_default.ensures.cases

pub returns-in_default-named : goal.returns-in_default-named
returns-in_default-named c = no_verb c.args.words.now c.in-Some.first.now c.in-Some.more.now c.as_str.result.now c.in-Some.ensures.cases.0 c.as_str.ensures.value c.in_default-named.ensures

pub returns-in-Err : goal.returns-in-Err
returns-in-Err c = asked_given c.args.words.now c.in-Some.first.now c.in-Some.more.now c.as_str.result.now c.in-Some.ensures.cases.0 c.as_str.ensures.value c.in-Some-named.verb (Err c.in-Err.n) (given_content c.new.result) c.in-Some-named.ensures c.new.ensures c.in-Err.ensures

pub returns-in_default-command : goal.returns-in_default-command
returns-in_default-command c =
    ap (λ a. asked_by a (length c.args.words.now) (forbidden_word (given_content c.in-Ok.given))) c.in_default-command.ensures
    ∙ asked_given c.args.words.now c.in-Some.first.now c.in-Some.more.now c.as_str.result.now c.in-Some.ensures.cases.0 c.as_str.ensures.value c.in-Some-named.verb (Ok (given_content c.in-Ok.given)) (given_content c.new.result) c.in-Some-named.ensures c.new.ensures c.in-Ok.ensures

pub returns-in-Some-forbidden : goal.returns-in-Some-forbidden
returns-in-Some-forbidden c =
    ap₂ (λ a f. asked_by a (length c.args.words.now) f) c.in-Some-command.ensures c.in-Some-forbidden.ensures
    ∙ asked_given c.args.words.now c.in-Some.first.now c.in-Some.more.now c.as_str.result.now c.in-Some.ensures.cases.0 c.as_str.ensures.value c.in-Some-named.verb (Ok (given_content c.in-Ok.given)) (given_content c.new.result) c.in-Some-named.ensures c.new.ensures c.in-Ok.ensures

pub returns-in-None : goal.returns-in-None
returns-in-None c =
    ap₂ (λ a f. asked_by a (length c.args.words.now) f) c.in-Some-command.ensures c.in-None.ensures
    ∙ asked_given c.args.words.now c.in-Some.first.now c.in-Some.more.now c.as_str.result.now c.in-Some.ensures.cases.0 c.as_str.ensures.value c.in-Some-named.verb (Ok (given_content c.in-Ok.given)) (given_content c.new.result) c.in-Some-named.ensures c.new.ensures c.in-Ok.ensures
