use Rattle.std.proofs.Common.{ap, ◌∙◌, Some, None, map}
use Rattle.std.specs.Prelude.{string_bytes}
use Rattle.command_words.specs.Given.{given_content}
use Rattle.command_words.proofs.PieceSteps.{given_by, none_left, no_value_left, known_text, no_text, pieces_at, value_at}
use Rattle.command_words.proofs.reading.+pieces.Goals as goal

pub returns-in_default : goal.returns-in_default
returns-in_default t c = none_left c.args.verb c.args.at (given_content c.args.given.now) c.args.words.now (given_content c.copied.result) c.copied.ensures c.in_default.ensures.cases

pub returns-in_default-argument : goal.returns-in_default-argument
returns-in_default-argument t c = pieces_at c.args.verb c.args.at (given_content c.args.given.now) c.args.words.now c.in-Some.word.now c.in-Some.more.now c.as_str.result.now
    c.in-Some.ensures.cases.0 c.as_str.ensures.value None _ _ c.parts_of-parts.ensures.name c.parts_of-parts.ensures.text c.in_default-argument.ensures

pub returns-in-Some-with : goal.returns-in-Some-with
returns-in-Some-with t c =
    c.pieces.ensures ∙ (ap (given_by c.args.verb c.args.at (given_content c.args.given.now) 1 (map string_bytes c.in-Some.more.now)) c.in-Some-with.ensures
    ∙ pieces_at c.args.verb c.args.at (given_content c.args.given.now) c.args.words.now c.in-Some.word.now c.in-Some.more.now c.as_str.result.now
    c.in-Some.ensures.cases.0 c.as_str.ensures.value (Some c.in-Some-argument.argument)
    _ _ c.parts_of-parts.ensures.name (known_text c.parts_of-parts.result.text c.in-Some-text.text _ c.in-Some-text.is c.parts_of-parts.ensures.text)
    c.in-Some-argument.ensures)

pub returns-in-None-with : goal.returns-in-None-with
returns-in-None-with t c =
    ap (given_by c.args.verb c.args.at (given_content c.args.given.now) 1 (map string_bytes c.in-Some.more.now)) c.in-None-with.ensures
    ∙ pieces_at c.args.verb c.args.at (given_content c.args.given.now) c.args.words.now c.in-Some.word.now c.in-Some.more.now c.as_str.result.now
    c.in-Some.ensures.cases.0 c.as_str.ensures.value (Some c.in-Some-argument.argument)
    _ _ c.parts_of-parts.ensures.name (known_text c.parts_of-parts.result.text c.in-Some-text.text _ c.in-Some-text.is c.parts_of-parts.ensures.text)
    c.in-Some-argument.ensures

pub returns-in-Some-with-2 : goal.returns-in-Some-with-2
returns-in-Some-with-2 t c =
    c.pieces-in-Some-with-2.ensures ∙ (ap (given_by c.args.verb c.args.at (given_content c.args.given.now) 2 (map string_bytes c.in-Some-split_first.rest.now)) c.in-Some-with-2.ensures
    ∙ (value_at c.args.verb c.args.at (given_content c.args.given.now) c.in-Some.more.now c.in-Some-split_first.text.now c.in-Some-split_first.rest.now
    c.as_str-in-Some-split_first.result.now c.in-Some-split_first.ensures.cases.0 c.as_str-in-Some-split_first.ensures.value c.in-Some-argument.argument
    ∙ pieces_at c.args.verb c.args.at (given_content c.args.given.now) c.args.words.now c.in-Some.word.now c.in-Some.more.now c.as_str.result.now
    c.in-Some.ensures.cases.0 c.as_str.ensures.value (Some c.in-Some-argument.argument)
    _ _ c.parts_of-parts.ensures.name (no_text c.parts_of-parts.result.text _ c.in-None.is c.parts_of-parts.ensures.text) c.in-Some-argument.ensures))

pub returns-in-None-with-2 : goal.returns-in-None-with-2
returns-in-None-with-2 t c =
    ap (given_by c.args.verb c.args.at (given_content c.args.given.now) 2 (map string_bytes c.in-Some-split_first.rest.now)) c.in-None-with-2.ensures
    ∙ (value_at c.args.verb c.args.at (given_content c.args.given.now) c.in-Some.more.now c.in-Some-split_first.text.now c.in-Some-split_first.rest.now
    c.as_str-in-Some-split_first.result.now c.in-Some-split_first.ensures.cases.0 c.as_str-in-Some-split_first.ensures.value c.in-Some-argument.argument
    ∙ pieces_at c.args.verb c.args.at (given_content c.args.given.now) c.args.words.now c.in-Some.word.now c.in-Some.more.now c.as_str.result.now
    c.in-Some.ensures.cases.0 c.as_str.ensures.value (Some c.in-Some-argument.argument)
    _ _ c.parts_of-parts.ensures.name (no_text c.parts_of-parts.result.text _ c.in-None.is c.parts_of-parts.ensures.text) c.in-Some-argument.ensures)

pub returns-in-None-split_first : goal.returns-in-None-split_first
returns-in-None-split_first t c =
    no_value_left c.args.verb c.args.at (given_content c.args.given.now) c.in-Some.more.now c.in-Some-argument.argument c.in-None-split_first.ensures.cases
    ∙ pieces_at c.args.verb c.args.at (given_content c.args.given.now) c.args.words.now c.in-Some.word.now c.in-Some.more.now c.as_str.result.now
    c.in-Some.ensures.cases.0 c.as_str.ensures.value (Some c.in-Some-argument.argument)
    _ _ c.parts_of-parts.ensures.name (no_text c.parts_of-parts.result.text _ c.in-None.is c.parts_of-parts.ensures.text) c.in-Some-argument.ensures
