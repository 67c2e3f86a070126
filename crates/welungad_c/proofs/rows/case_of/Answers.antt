use Rattle.std.proofs.Common.{◌≡◌, ◌∙◌, refl, sym, subst, true, false}
use Rattle.std.specs.Prelude.{Some}
use Rattle.answers.specs.Stages.{seen_by}
use Rattle.answers.specs.Ways.{StopsIn, over_source}
use Rattle.case_model.specs.CaseView.{content}
use Rattle.command_words.specs.Asked.{text}
use Rattle.graph_cli.specs.Accepted.{accepted}
use Rattle.graph_io.specs.Causes.{Rose}
use Rattle.graph_io.specs.MemorySource.{bytes_left}
use Rattle.welungad_c.specs.RowCalls.{any_case, staged, IsNoCase}
use Rattle.welungad_c.proofs.Cases.{no_case}
use Rattle.welungad_c.proofs.rows.case_of.Goals as goal

pub returns-then-is_unstaged-clause-case : goal.returns-then-is_unstaged-clause-case
returns-then-is_unstaged-clause-case c =
    let k = content c.in-Ok-accepted_case.case in
    record {
      denoted = subst (λ bytes. (accepted text any_case (Some bytes)).Gives k) c.in-Ok.ensures
          (subst (λ needs. (accepted text needs (Some (bytes_left c.in-Ok.source))).Gives k) c.new-needs.ensures c.in-Ok-accepted_case.ensures.ends.0);
      unstaged = c.is_unstaged.ensures.0 c.if-is_unstaged.true;
    }

pub returns-in-Ok-accepted_case-clause-none : goal.returns-in-Ok-accepted_case-clause-none
returns-in-Ok-accepted_case-clause-none c =
    let k = content c.in-Ok-accepted_case.case in
    staged k (subst (λ bytes. (accepted text any_case (Some bytes)).Gives k) c.in-Ok.ensures
    (subst (λ needs. (accepted text needs (Some (bytes_left c.in-Ok.source))).Gives k) c.new-needs.ensures c.in-Ok-accepted_case.ensures.ends.0))
    (λ u. let e : false ≡ true = sym c.if-is_unstaged.false ∙ c.is_unstaged.ensures.1 u in cc) refl

pub returns-clause-none : goal.returns-clause-none
returns-clause-none c =
    let stop = c.in-Err-accepted_case.stop in
    subst (IsNoCase c.args.text.now) (sym c.code.ensures) (no_case c.args.text.now (0 ≡ 0) stop
    (subst (λ bytes. StopsIn (over_source (seen_by content (accepted text any_case (Some bytes))) (Rose 0 0) (0 ≡ 0)) stop) c.in-Ok.ensures
    (subst (λ needs. StopsIn (over_source (seen_by content (accepted text needs (Some (bytes_left c.in-Ok.source)))) (Rose 0 0) (0 ≡ 0)) stop)
    c.new-needs.ensures c.in-Err-accepted_case.ensures.ends)))
