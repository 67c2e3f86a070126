use Rattle.std.proofs.Common.{ap, ◌∙◌, Some, None}
use Rattle.std.specs.Option.{option_map}
use Rattle.std.specs.List.{before_first}
use Rattle.command_words.specs.WordParts.{is_equals, text_in}
use Rattle.command_words.proofs.PartTexts.{after_hyphens_is, after_equals_is, before_equals_is}
use Rattle.command_words.proofs.word.parts_of.Goals as goal

pub returns-in_default-clause-name : goal.returns-in_default-clause-name
returns-in_default-clause-name c =
    ap (option_map (before_first is_equals)) (after_hyphens_is c.args.word.now None c.in_default.ensures.cases)

pub returns-in_default-clause-text : goal.returns-in_default-clause-text
returns-in_default-clause-text c = ap (text_in c.args.word.now) (after_hyphens_is c.args.word.now None c.in_default.ensures.cases)

pub returns-in-Some-split_once-clause-name : goal.returns-in-Some-split_once-clause-name
returns-in-Some-split_once-clause-name c =
    ap Some (before_equals_is c.in-Some.option.now (Some (c.in-Some-split_once.name, c.in-Some-split_once.text)) c.in-Some-split_once.ensures.cases)
    ∙ ap (option_map (before_first is_equals)) (after_hyphens_is c.args.word.now (Some c.in-Some.option) c.in-Some.ensures.cases)

pub returns-in-Some-split_once-clause-text : goal.returns-in-Some-split_once-clause-text
returns-in-Some-split_once-clause-text c =
    after_equals_is c.in-Some.option.now (Some (c.in-Some-split_once.name, c.in-Some-split_once.text)) c.in-Some-split_once.ensures.cases
    ∙ ap (text_in c.args.word.now) (after_hyphens_is c.args.word.now (Some c.in-Some.option) c.in-Some.ensures.cases)

pub returns-in-None-clause-name : goal.returns-in-None-clause-name
returns-in-None-clause-name c =
    ap Some (before_equals_is c.in-Some.option.now None c.in-None.ensures.cases)
    ∙ ap (option_map (before_first is_equals)) (after_hyphens_is c.args.word.now (Some c.in-Some.option) c.in-Some.ensures.cases)

pub returns-in-None-clause-text : goal.returns-in-None-clause-text
returns-in-None-clause-text c =
    after_equals_is c.in-Some.option.now None c.in-None.ensures.cases
    ∙ ap (text_in c.args.word.now) (after_hyphens_is c.args.word.now (Some c.in-Some.option) c.in-Some.ensures.cases)
