use Rattle.std.proofs.lemmas.Grind.{common_steps}
use Rattle.std.proofs.Common.{◌<◌, List, sym, subst, length, arith}
use Rattle.cip_dict.specs.SparseLines.{Kept}
use Rattle.cip_dict.proofs.KeptRows.{row_kept}
use Rattle.cip_dict.proofs.dict.Dict.row_number.Goals as goal

pub number_at-requires : goal.number_at-requires
number_at-requires c =
    subst (λ (es : List Kept). c.args.at < length es) (sym (row_kept c.self.inside.sides.items c.self.inside.standing.items c.self.inside.lists c.self.inside.room c.args.self.now c.args.i c.index.result.now c.self.invariant c.self.view_is c.requires.within c.requires.basic c.index.ensures)) c.requires.there

pub index-requires : goal.index-requires
index-requires c = grind (arith, common_steps)
