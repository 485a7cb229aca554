use Rattle.std.proofs.Common.{◌∙◌, ap, length}
use Rattle.cip_dict.proofs.KeptRows.{costs_kept}
use Rattle.cip_dict.proofs.dict.Dict.costs_len.Goals as goal

pub returns : goal.returns
returns c = c.kept_len.ensures ∙ ap length (costs_kept c.self.inside.sides.items c.self.inside.standing.items c.self.inside.lists c.self.inside.room c.args.self.now c.self.invariant c.self.view_is)
