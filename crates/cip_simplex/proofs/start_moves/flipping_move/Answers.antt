use Rattle.std.proofs.lemmas.Grind.{common_steps}
use Rattle.std.proofs.Common.{◌≡◌, true, Some, sym, ap, ◌∙◌, arith}
use Rattle.cip_problem.specs.Box.{sides_at}
use Rattle.cip_bland.specs.Dictionary.{stand}
use Rattle.cip_bland.specs.declared.moves.Stand.TheVariants.{Low, High}
use Rattle.cip_simplex.specs.Starts.{stand_for, are_opposite}
use Rattle.cip_simplex.proofs.Begins.{can_flip_over}
use Rattle.cip_simplex.proofs.start_moves.flipping_move.Goals as goal

pub returns-in-Low-High-clause-can : goal.returns-in-Low-High-clause-can
returns-in-Low-High-clause-can c =
    let e : stand c.args.dict.now c.args.v ≡ Some Low = sym c.stand.ensures ∙ c.in_ok-at.was ∙ ap Some c.in-Low-High.is-0 in
    let o : are_opposite Low (stand_for (sides_at c.args.dict.now.sides c.args.v) c.in_ok-to.to) ≡ true =
    ap (are_opposite Low) (ap (λ s. stand_for s c.in_ok-to.to) (sym c.sides.ensures) ∙ sym c.stand_for.ensures ∙ c.in-Low-High.is-1) in
    can_flip_over c.args.dict.now c.args.v Low c.in_ok-to.to c.requires.within c.len-len.ensures.consistent e o

pub returns-in-High-Low-clause-can : goal.returns-in-High-Low-clause-can
returns-in-High-Low-clause-can c =
    let e : stand c.args.dict.now c.args.v ≡ Some High = sym c.stand.ensures ∙ c.in_ok-at.was ∙ ap Some c.in-High-Low.is-0 in
    let o : are_opposite High (stand_for (sides_at c.args.dict.now.sides c.args.v) c.in_ok-to.to) ≡ true =
    ap (are_opposite High) (ap (λ s. stand_for s c.in_ok-to.to) (sym c.sides.ensures) ∙ sym c.stand_for.ensures ∙ c.in-High-Low.is-1) in
    can_flip_over c.args.dict.now c.args.v High c.in_ok-to.to c.requires.within c.len-len.ensures.consistent e o

pub returns-in_default-3-clause-chosen : goal.returns-in_default-3-clause-chosen
returns-in_default-3-clause-chosen c = grind (arith, common_steps)

pub returns-in-Low-High-clause-chosen : goal.returns-in-Low-High-clause-chosen
returns-in-Low-High-clause-chosen c = grind (arith, common_steps)

pub returns-in-High-Low-clause-chosen : goal.returns-in-High-Low-clause-chosen
returns-in-High-Low-clause-chosen c = grind (arith, common_steps)

pub returns-in_err-at-clause-can : goal.returns-in_err-at-clause-can
returns-in_err-at-clause-can c = grind (arith, common_steps)

pub returns-in_err-to-clause-can : goal.returns-in_err-to-clause-can
returns-in_err-to-clause-can c = grind (arith, common_steps)

pub returns-in_default-2 : goal.returns-in_default-2
returns-in_default-2 c = grind (arith, common_steps)

pub returns-in_default : goal.returns-in_default
returns-in_default c = grind (arith, common_steps)

pub sides-requires : goal.sides-requires
sides-requires c = grind (arith, common_steps)

pub stand-requires-2 : goal.stand-requires-2
stand-requires-2 c = grind (arith, common_steps)

pub returns-in_err-to-clause-chosen : goal.returns-in_err-to-clause-chosen
returns-in_err-to-clause-chosen c = grind (arith, common_steps)

pub stand-requires : goal.stand-requires
stand-requires c = grind (arith, common_steps)

pub returns-in_err-at-clause-chosen : goal.returns-in_err-at-clause-chosen
returns-in_err-at-clause-chosen c = grind (arith, common_steps)

pub returns-in_default-3-clause-can : goal.returns-in_default-3-clause-can
returns-in_default-3-clause-can c = grind (arith, common_steps)
