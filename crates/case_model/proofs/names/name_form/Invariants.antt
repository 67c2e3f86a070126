use Rattle.std.proofs.Common.{◌≡◌, not, drop}
use Rattle.case_model.specs.declared.fault.CaseFault.TheVariants.{NameForm}
use Rattle.case_model.specs.Draft.{is_name}
use Rattle.case_model.specs.CaseFaults.{◌when◌, first_from, name_form}
use Rattle.case_model.proofs.names.name_form.Given as goal

abbrev pub invariant-loop-i : goal.invariant-loop-i
invariant-loop-i l = first_from (λ i name. NameForm i when not (is_name name)) l.i (drop l.i l.names) ≡ name_form l.names
