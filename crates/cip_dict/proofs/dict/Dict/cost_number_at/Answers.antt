use Rattle.std.proofs.Common.{◌<◌, List, sym, subst, length}
use Rattle.cip_dict.specs.SparseLines.{Kept}
use Rattle.cip_dict.proofs.KeptRows.{costs_kept}
use Rattle.cip_dict.proofs.dict.Dict.cost_number_at.Goals as goal

pub number_at-requires : goal.number_at-requires
number_at-requires c =
    subst (λ (es : List Kept). c.args.at < length es) (sym (costs_kept c.self.inside.sides.items c.self.inside.standing.items c.self.inside.lists c.self.inside.room c.args.self.now c.self.invariant c.self.view_is)) c.requires
