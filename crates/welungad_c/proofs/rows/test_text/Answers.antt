use Rattle.std.proofs.Common.{refl}
use Rattle.case_model.specs.CaseView.{content}
use Rattle.welungad_c.specs.RowCalls.{tested, kept, no_case}
use Rattle.welungad_c.proofs.rows.test_text.Goals as goal

pub returns-in-Ok-test_rows : goal.returns-in-Ok-test_rows
returns-in-Ok-test_rows c = let call = c.in-Ok-test_rows.ensures in
    tested (content c.in-Ok.case) c.in-Ok.ensures.case call.fit call.opening call.rows refl

pub returns-in-Ok : goal.returns-in-Ok
returns-in-Ok c = let call = c.in-Err-test_rows.ensures in
    kept (content c.in-Ok.case) c.in-Ok.ensures.case c.in-Err-test_rows.fault call.fault c.status_of.ensures call.rejected call.statuses

pub returns : goal.returns
returns c = no_case c.in-Err.ensures.none refl refl
