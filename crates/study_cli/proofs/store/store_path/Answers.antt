use Rattle.std.proofs.Common.{map, refl, ap, sym}
use Rattle.std.specs.Prelude.{string_bytes}
use Rattle.std.specs.Option.{option_map}
use Rattle.command_words.specs.Asked.{study_asked}
use Rattle.study_cli.proofs.StoreValues.{path_of, no_path, no_study}
use Rattle.study_cli.proofs.store.store_path.Goals as goal

pub returns-in-Ok-clause-path : goal.returns-in-Ok-clause-path
returns-in-Ok-clause-path c = path_of (map string_bytes c.args.words.now) (study_asked c.in-Ok.call) c.in-Ok.call.store (sym c.in-Ok.ensures) refl

pub returns-in-Ok-clause-none : goal.returns-in-Ok-clause-none
returns-in-Ok-clause-none c = λ e path. no_path (map string_bytes c.args.words.now) (study_asked c.in-Ok.call) path (sym c.in-Ok.ensures)
    (ap (option_map (λ path. path.now)) e)

pub returns-in-Err-clause-none : goal.returns-in-Err-clause-none
returns-in-Err-clause-none c = λ e path. no_study (map string_bytes c.args.words.now) c.in-Err.field-0 path (sym c.in-Err.ensures)
