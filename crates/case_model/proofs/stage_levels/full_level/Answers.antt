use Rattle.std.proofs.Common.{lit<, Ok, Err, Result}
use Rattle.field_core.specs.Kind.{or_wide}
use Rattle.field_core.specs.Terms.{Terms}
use Rattle.field_core.specs.View.{terms}
use Rattle.field_core.specs.declared.place.Op.TheVariants.{Mul}
use Rattle.field_core.specs.declared.place.TooWide.{TooWide}
use Rattle.fraction.specs.Written.{written_mul}
use Rattle.case_model.proofs.Products.{product_in_terms, product_value}
use Rattle.case_model.proofs.Thresholds.{level_of, short_within, within_short, product_short, product_fits}
use Rattle.case_model.proofs.Wide.{some_from, none_from}
use Rattle.case_model.proofs.stage_levels.full_level.Goals as goal

pub unreachable-requires : goal.unreachable-requires
unreachable-requires c =
    let f = c.args.fraction.now in
    let a = c.args.alpha.now in
    let x = short_within (terms f) 10000 c.requires.fraction in
    let y = (level_of a c.requires.alpha).short in
    let refused : Path (Result Terms TooWide) (Err c.in-Err.field-0) (or_wide Mul (written_mul (terms f) (terms a))) =
    product_in_terms f a (Err c.in-Err.field-0) c.in-Err.ensures in
    product_fits (terms f) (terms a) 10000 10000 x.num x.den y.num y.den (lit< tt) (none_from Mul c.in-Err.field-0 _ refused)

pub returns-clause-value : goal.returns-clause-value
returns-clause-value c = product_value c.args.fraction.now c.args.alpha.now c.in-Ok.level
    (product_in_terms c.args.fraction.now c.args.alpha.now (Ok c.in-Ok.level) c.in-Ok.ensures)

pub returns-clause-short : goal.returns-clause-short
returns-clause-short c =
    let f = c.args.fraction.now in
    let a = c.args.alpha.now in
    let written : Path (Result Terms TooWide) (Ok (terms c.in-Ok.level)) (or_wide Mul (written_mul (terms f) (terms a))) =
    product_in_terms f a (Ok c.in-Ok.level) c.in-Ok.ensures in
    within_short (terms c.in-Ok.level) 100000000
    (product_short (terms f) (terms a) (terms c.in-Ok.level) 10000 10000 (short_within (terms f) 10000 c.requires.fraction) (level_of a c.requires.alpha).short
    (lit< tt) (some_from Mul (terms c.in-Ok.level) _ written))
