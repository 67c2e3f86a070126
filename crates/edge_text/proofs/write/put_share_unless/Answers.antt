use Rattle.std.proofs.Common.{◌∙◌, ◌++◌, ap}
use Rattle.std.proofs.lemmas.Result.{on_ok_weaker}
use Rattle.edge_text.proofs.WrittenLines.{share_none, share_some}
use Rattle.edge_text.proofs.write.put_share_unless.Goals as goal

pub returns-then-alone : goal.returns-then-alone
returns-then-alone c = share_none c.args.alone c.args.share.now c.args.text.now c.if-alone.true

pub returns : goal.returns
returns c = on_ok_weaker c.put_share.result (λ e. e ∙ ap (λ t. c.args.text.now ++ t) (share_some c.args.alone c.args.share.now c.if-alone.false))
    c.put_share.ensures
