use Rattle.std.proofs.Common.{◌∙◌, ap}
use Rattle.std.specs.Option.{option_map}
use Rattle.fraction.specs.View.{terms_of}
use Rattle.fraction.proofs.DecimalValues.{decimal_read}
use Rattle.fraction.proofs.fraction.Fraction.parse_decimal.Goals as goal

pub returns-clause-decimal : goal.returns-clause-decimal
returns-clause-decimal c d e = ap (option_map terms_of) c.ok.ensures.value ∙ decimal_read d c.args.text.now c.parse.result e c.parse.ensures.value
