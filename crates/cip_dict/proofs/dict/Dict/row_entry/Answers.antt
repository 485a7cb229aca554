use Rattle.std.proofs.lemmas.Grind.{common_steps}
use Rattle.std.proofs.Common.{◌<◌, ◌∙◌, List, ap, sym, subst, length, get_or, arith}
use Rattle.cip_dict.specs.SparseLines.{Kept}
use Rattle.cip_dict.proofs.KeptRows.{row_kept}
use Rattle.cip_dict.proofs.dict.Dict.row_entry.Goals as goal

pub kept_at-requires : goal.kept_at-requires
kept_at-requires c =
    subst (λ (es : List Kept). c.args.at < length es) (sym (row_kept c.self.inside.sides.items c.self.inside.standing.items c.self.inside.lists c.self.inside.room c.args.self.now c.args.i c.index.result.now c.self.invariant c.self.view_is c.requires.within c.requires.basic c.index.ensures)) c.requires.there

pub returns : goal.returns
returns c = λ d.
    c.kept_at.ensures d ∙ ap (λ (es : List Kept). get_or es c.args.at d) (row_kept c.self.inside.sides.items c.self.inside.standing.items c.self.inside.lists c.self.inside.room c.args.self.now c.args.i c.index.result.now c.self.invariant c.self.view_is c.requires.within c.requires.basic c.index.ensures)

pub index-requires : goal.index-requires
index-requires c = grind (arith, common_steps)
