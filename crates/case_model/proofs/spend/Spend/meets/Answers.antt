use Rattle.std.proofs.Common.{sym, ap, subst, ◌∙◌, ◌-◌}
use Rattle.std.specs.Bool.{IsTrue}
use Rattle.fraction.specs.View.{number_of}
use Rattle.case_model.specs.declared.spend.Spend.TheVariants.{Shares, Table}
use Rattle.case_model.specs.Draft.{is_short_level}
use Rattle.case_model.specs.StagedCase.{has_short_fractions}
use Rattle.case_model.specs.StagedTest.{MeetsLevel}
use Rattle.case_model.proofs.DraftTests.{all_each}
use Rattle.case_model.proofs.StageLevels.{meets_tested, never_met, shares_level, no_share, step_level, no_step}
use Rattle.case_model.proofs.spend.Spend.meets.Goals as goal

pub meets_fraction-requires-clause-short : goal.meets_fraction-requires-clause-short
meets_fraction-requires-clause-short c = all_each is_short_level c.as_slice.result.now
    (sym (ap has_short_fractions (c.in-Shares.is ∙ ap Shares (sym c.as_slice.ensures))) ∙ c.requires.spend) (c.args.t - 1) c.in-Some.fraction
    (sym c.in-Some.ensures)

pub returns-in-Some : goal.returns-in-Some
returns-in-Some c =
    let b = c.meets_fraction.result in
    let u = number_of c.args.weight.now in
    let p = number_of c.args.p.now in
    subst (λ l. (IsTrue b → MeetsLevel l u p) × (MeetsLevel l u p → IsTrue b))
    (shares_level c.args.self.now (number_of c.args.alpha.now) c.args.t c.requires.stage u c.as_slice.result.now c.in-Some.fraction
    (c.in-Shares.is ∙ ap Shares (sym c.as_slice.ensures)) c.in-Some.ensures) c.meets_fraction.ensures

pub returns-in-None : goal.returns-in-None
returns-in-None c =
    let u = number_of c.args.weight.now in
    never_met _ u (number_of c.args.p.now)
    (no_share c.args.self.now (number_of c.args.alpha.now) c.args.t c.requires.stage u c.as_slice.result.now
    (c.in-Shares.is ∙ ap Shares (sym c.as_slice.ensures)) c.in-None.ensures)

pub returns-in-Some-table_level : goal.returns-in-Some-table_level
returns-in-Some-table_level c =
    let b = c.meets_level.result in
    let u = number_of c.args.weight.now in
    let p = number_of c.args.p.now in
    let x = c.in-Some-table_level.level in
    subst (λ l. (IsTrue b → MeetsLevel l u p) × (MeetsLevel l u p → IsTrue b))
    (step_level c.args.self.now (number_of c.args.alpha.now) c.args.t c.requires.stage u c.as_slice-in-Table.result.now x
    (c.in-Table.is ∙ ap Table (sym c.as_slice-in-Table.ensures)) c.in-Some-table_level.ensures) (meets_tested (number_of x) u p b c.meets_level.ensures)

pub returns-in-None-table_level : goal.returns-in-None-table_level
returns-in-None-table_level c =
    let u = number_of c.args.weight.now in
    never_met _ u (number_of c.args.p.now)
    (no_step c.args.self.now (number_of c.args.alpha.now) c.args.t c.requires.stage u c.as_slice-in-Table.result.now
    (c.in-Table.is ∙ ap Table (sym c.as_slice-in-Table.ensures)) c.in-None-table_level.ensures)
