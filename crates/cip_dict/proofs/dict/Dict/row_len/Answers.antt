use Rattle.std.proofs.lemmas.Grind.{common_steps}
use Rattle.std.proofs.Common.{◌∙◌, ap, length, arith}
use Rattle.cip_dict.proofs.KeptRows.{row_kept}
use Rattle.cip_dict.proofs.dict.Dict.row_len.Goals as goal

pub returns : goal.returns
returns c =
    c.kept_len.ensures ∙ ap length (row_kept c.self.inside.sides.items c.self.inside.standing.items c.self.inside.lists c.self.inside.room c.args.self.now c.args.i c.index.result.now c.self.invariant c.self.view_is c.requires.within c.requires.basic c.index.ensures)

pub index-requires : goal.index-requires
index-requires c = grind (arith, common_steps)
