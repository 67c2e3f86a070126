use Rattle.std.proofs.Common.{inl, inr, refl, ap, ◌∙◌, subst, [], Some}
use Rattle.std.specs.Prelude.{Err}
use Rattle.graph_io.specs.RefusedSource as refused
use Rattle.graph_io.specs.MemorySource.{bytes_left, call_count}
use Rattle.answers.specs.Devices.{reading}
use Rattle.program.specs.Requests.{open_file, opening_of}
use Rattle.program.proofs.top.run_program.Goals as goal

pub returns-in-None-clause-run : goal.returns-in-None-clause-run
returns-in-None-clause-run g c = λ asked.
    inr (record {
      from = c.args.opener.now;
      to = c.run_over.new.opener;
      before = Some (bytes_left c.new-nothing.result);
      after = record { left = Some (bytes_left c.run_over.new.file); faults = 0; calls = call_count c.run_over.new.file };
      file = inr (c.file_path.ensures.none c.in-None.is, refl, refl, ap Some (c.new-nothing.ensures.bytes ∙ c.new.ensures), refl);
      done = rw c.from.ensures (c.run_over.ensures.run asked);
    })

pub returns-in-None-clause-study : goal.returns-in-None-clause-study
returns-in-None-clause-study g c = λ asked.
    inr (record {
      from = c.args.opener.now;
      to = c.run_over.new.opener;
      before = Some (bytes_left c.new-nothing.result);
      after = record { left = Some (bytes_left c.run_over.new.file); faults = 0; calls = call_count c.run_over.new.file };
      file = inr (c.file_path.ensures.none c.in-None.is, refl, refl, ap Some (c.new-nothing.ensures.bytes ∙ c.new.ensures), refl);
      done = rw c.from.ensures (c.run_over.ensures.study asked);
    })

pub returns-in-Ok-clause-run : goal.returns-in-Ok-clause-run
returns-in-Ok-clause-run g c = λ asked.
    let file = g.O.File.Source in
    inr (record {
      from = c.open_file.new.self;
      to = c.run_over-status.new.opener;
      before = file.left c.in-Ok.file;
      after = reading file c.run_over-status.new.file;
      file = inl (
        c.in-Some.path.now,
        c.in-Some.ensures.path,
        inl (
          subst (λ r. g.O.Opener.does c.args.opener.now (open_file c.in-Some.path.now (opening_of r)) c.open_file.new.self) c.in-Ok.is
              c.open_file.ensures.requested,
          c.in-Ok.ensures.bytes,
          c.close_file.ensures.requested,
        ),
      );
      done = rw c.from-in-Ok.ensures (c.run_over-status.ensures.run asked);
    })

pub returns-in-Ok-clause-study : goal.returns-in-Ok-clause-study
returns-in-Ok-clause-study g c = λ asked.
    let file = g.O.File.Source in
    inr (record {
      from = c.open_file.new.self;
      to = c.run_over-status.new.opener;
      before = file.left c.in-Ok.file;
      after = reading file c.run_over-status.new.file;
      file = inl (
        c.in-Some.path.now,
        c.in-Some.ensures.path,
        inl (
          subst (λ r. g.O.Opener.does c.args.opener.now (open_file c.in-Some.path.now (opening_of r)) c.open_file.new.self) c.in-Ok.is
              c.open_file.ensures.requested,
          c.in-Ok.ensures.bytes,
          c.close_file.ensures.requested,
        ),
      );
      done = rw c.from-in-Ok.ensures (c.run_over-status.ensures.study asked);
    })

pub returns-in-Err-Refused-clause-run : goal.returns-in-Err-Refused-clause-run
returns-in-Err-Refused-clause-run g c = λ asked.
    inr (record {
      from = c.open_file.new.self;
      to = c.run_over-in-Err-Refused.new.opener;
      before = Some [];
      after = record {
        left = Some [];
        faults = refused.fault_count c.run_over-in-Err-Refused.new.file;
        calls = refused.call_count c.run_over-in-Err-Refused.new.file;
      };
      file = inl (
        c.in-Some.path.now,
        c.in-Some.ensures.path,
        inr (
          subst (λ r. g.O.Opener.does c.args.opener.now (open_file c.in-Some.path.now (opening_of r)) c.open_file.new.self)
              (c.in-Err-Refused.is ∙ ap Err c.in-Err-Refused.field-0-is) c.open_file.ensures.requested,
          c.open_file.ensures.refused (c.in-Err-Refused.is ∙ ap Err c.in-Err-Refused.field-0-is),
          refl,
          refused.each_fails c.run_over-in-Err-Refused.new.file,
          refl,
        ),
      );
      done = rw c.from-in-Err-Refused.ensures (c.run_over-in-Err-Refused.ensures.run asked);
    })

pub returns-in-Err-Refused-clause-study : goal.returns-in-Err-Refused-clause-study
returns-in-Err-Refused-clause-study g c = λ asked.
    inr (record {
      from = c.open_file.new.self;
      to = c.run_over-in-Err-Refused.new.opener;
      before = Some [];
      after = record {
        left = Some [];
        faults = refused.fault_count c.run_over-in-Err-Refused.new.file;
        calls = refused.call_count c.run_over-in-Err-Refused.new.file;
      };
      file = inl (
        c.in-Some.path.now,
        c.in-Some.ensures.path,
        inr (
          subst (λ r. g.O.Opener.does c.args.opener.now (open_file c.in-Some.path.now (opening_of r)) c.open_file.new.self)
              (c.in-Err-Refused.is ∙ ap Err c.in-Err-Refused.field-0-is) c.open_file.ensures.requested,
          c.open_file.ensures.refused (c.in-Err-Refused.is ∙ ap Err c.in-Err-Refused.field-0-is),
          refl,
          refused.each_fails c.run_over-in-Err-Refused.new.file,
          refl,
        ),
      );
      done = rw c.from-in-Err-Refused.ensures (c.run_over-in-Err-Refused.ensures.study asked);
    })
