use Rattle.std.proofs.Common.{◌<◌, ◌∙◌, List, ap, sym, subst, length, get_or}
use Rattle.cip_dict.specs.SparseLines.{Kept}
use Rattle.cip_dict.proofs.KeptRows.{costs_kept}
use Rattle.cip_dict.proofs.dict.Dict.cost_at.Goals as goal

pub kept_at-requires : goal.kept_at-requires
kept_at-requires c =
    subst (λ (es : List Kept). c.args.at < length es) (sym (costs_kept c.self.inside.sides.items c.self.inside.standing.items c.self.inside.lists c.self.inside.room c.args.self.now c.self.invariant c.self.view_is)) c.requires

pub returns : goal.returns
returns c = λ d.
    c.kept_at.ensures d ∙ ap (λ (es : List Kept). get_or es c.args.at d) (costs_kept c.self.inside.sides.items c.self.inside.standing.items c.self.inside.lists c.self.inside.room c.args.self.now c.self.invariant c.self.view_is)
