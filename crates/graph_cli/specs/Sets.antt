-- How it is reported that the run of a set of a case is undefined.
use Rattle.std.specs.Prelude.{◌≡◌, ℕ}
use Rattle.field_core.specs.declared.place.WideAt.{WideAt}
use Rattle.graph_cli.specs.declared.trouble.Trouble.{Trouble}
use Rattle.graph_cli.specs.declared.trouble.Trouble.TheVariants as troubles
use Rattle.case_model.specs.Content.{Content}
use Rattle.closed_test.specs.SetRuns.{IsFirstWideSet}
use Rattle.refusals.specs.declared.wide.When.TheVariants.{Set}

-- a refusal names the first set, in the order of sets, whose run is undefined, and the first undefined operation of that run
abbrev pub IsWideSet : Content → Trouble → Type 0
IsWideSet c r = (n : ℕ) × (wide : WideAt) × IsFirstWideSet c n wide × (r ≡ troubles.Wide (Set n) wide)
