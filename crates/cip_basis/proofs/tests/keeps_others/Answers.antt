use Rattle.std.proofs.lemmas.Grind.{common_steps}
use Rattle.std.proofs.Common.{length, sym, subst, arith}
use Rattle.std.specs.Borrow.{Bor}
use Rattle.cip_problem.specs.Program.{Row}
use Rattle.cip_problem.specs.Activity.{StandsBelow}
use Rattle.cip_basis.proofs.Points.{each_lent}
use Rattle.cip_basis.proofs.tests.keeps_others.Goals as goal

pub keeps_row-requires : goal.keeps_row-requires
keeps_row-requires c =
    let n = length c.args.point.now in
    let each = each_lent (λ row. StandsBelow n row.terms) c.args.rows.now c.requires in
    subst (λ (row : Bor Row). StandsBelow n row.now.terms) (sym c.index-rows-at.is) (each c.loop-at.at c.index-rows-at.result c.loop-at-test.true)

pub returns-then-not-keeps_row : goal.returns-then-not-keeps_row
returns-then-not-keeps_row c = grind (arith, common_steps)

pub loop-at-preserved : goal.loop-at-preserved
loop-at-preserved c = grind (arith, common_steps)

pub returns : goal.returns
returns c = grind (arith, common_steps)

pub bounds-rows-at : goal.bounds-rows-at
bounds-rows-at c = grind (arith, common_steps)

pub offset_bounds-rows-at : goal.offset_bounds-rows-at
offset_bounds-rows-at c = grind (arith, common_steps)
