use Rattle.std.proofs.lemmas.Grind.{common_steps}
use Rattle.std.proofs.Common.{◌<◌, ◌∙◌, List, ap, sym, subst, length, get_or, arith}
use Rattle.cip_rational.specs.Rational.{zeroℚ, lt_test}
use Rattle.cip_dict.specs.SparseLines.{Kept}
use Rattle.cip_dict.proofs.KeptRows.{row_kept}
use Rattle.cip_dict.proofs.dict.Dict.row_sign.Goals as goal

pub sign_at-requires : goal.sign_at-requires
sign_at-requires c =
    subst (λ (es : List Kept). c.args.at < length es) (sym (row_kept c.self.inside.sides.items c.self.inside.standing.items c.self.inside.lists c.self.inside.room c.args.self.now c.args.i c.index.result.now c.self.invariant c.self.view_is c.requires.within c.requires.basic c.index.ensures)) c.requires.there

pub returns-clause-variable : goal.returns-clause-variable
returns-clause-variable c = λ d.
    c.sign_at.ensures.variable d ∙ ap (λ (es : List Kept). (get_or es c.args.at d).0) (row_kept c.self.inside.sides.items c.self.inside.standing.items c.self.inside.lists c.self.inside.room c.args.self.now c.args.i c.index.result.now c.self.invariant c.self.view_is c.requires.within c.requires.basic c.index.ensures)

pub returns-clause-above : goal.returns-clause-above
returns-clause-above c = λ d.
    c.sign_at.ensures.above d ∙ ap (λ (es : List Kept). lt_test zeroℚ (get_or es c.args.at d).1) (row_kept c.self.inside.sides.items c.self.inside.standing.items c.self.inside.lists c.self.inside.room c.args.self.now c.args.i c.index.result.now c.self.invariant c.self.view_is c.requires.within c.requires.basic c.index.ensures)

pub index-requires : goal.index-requires
index-requires c = grind (arith, common_steps)
