use Rattle.std.proofs.Common.{subst}
use Rattle.answers.specs.Lines.{no_memory}
use Rattle.welungad_c.specs.Delivery.{Delivers}
use Rattle.welungad_c.specs.UpdateCalls.{replied, memory}
use Rattle.welungad_c.proofs.welungad_update.Goals as goal

pub returns-in-Ok : goal.returns-in-Ok
returns-in-Ok c = replied c.in-Ok.reply.text c.in-Ok.reply.status c.in-Ok.ensures
    (subst (λ text. Delivers text c.in-Ok.reply.status c.args.out.now c.deliver.new.out c.deliver.new.needed c.deliver.result) c.as_slice.ensures c.deliver.ensures)

pub returns-in-Err : goal.returns-in-Err
unfolding no_memory
returns-in-Err c = memory c.deliver-in-Err.ensures
