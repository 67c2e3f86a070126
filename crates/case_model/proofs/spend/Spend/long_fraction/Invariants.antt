use Rattle.std.proofs.Common.{◌≡◌, not, drop}
use Rattle.case_model.specs.declared.fault.CaseFault.TheVariants.{PartTooLong}
use Rattle.case_model.specs.declared.fault.PartPlace.TheVariants.{Spend}
use Rattle.case_model.specs.declared.spend.Spend.TheVariants.{Shares}
use Rattle.case_model.specs.Draft.{is_short_level}
use Rattle.case_model.specs.CaseFaults.{◌when◌, first_from, long_fraction}
use Rattle.case_model.proofs.spend.Spend.long_fraction.Given as goal

abbrev pub invariant-loop-t : goal.invariant-loop-t
invariant-loop-t l = first_from (λ t f. PartTooLong (Spend l.i t) when not (is_short_level f)) l.t (drop l.t l.fractions) ≡ long_fraction l.i (Shares l.fractions)
