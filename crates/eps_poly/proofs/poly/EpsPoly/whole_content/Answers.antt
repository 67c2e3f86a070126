use Rattle.std.proofs.Common.{◌∙◌, ap, pos}
use Rattle.std.specs.Int.{w128}
use Rattle.std.proofs.lemmas.Int.{to_z_pos}
use Rattle.eps_poly.proofs.poly.EpsPoly.whole_content.Goals as goal

pub returns : goal.returns
returns c = c.new.ensures ∙ to_z_pos w128 c.content.result c.content.ensures.size ∙ ap pos c.content.ensures.value
