use Rattle.std.proofs.lemmas.Grind.{common_steps}
use Rattle.std.proofs.Common.{◌∙◌, ◌<◌, List, length, sym, ap, subst, arith}
use Rattle.cip_problem.specs.Program.{Sides, Program}
use Rattle.cip_search.proofs.Pairing.{exact_self}
use Rattle.cip_presolve.proofs.ImpliedSides.{taken_by, columns_same}
use Rattle.cip_presolve.proofs.taking.take_stronger.Goals as goal

pub returns-then-cross-clause-step : goal.returns-then-cross-clause-step
returns-then-cross-clause-step c = exact_self c.args.draft.now

pub returns-then-is_far-clause-step : goal.returns-then-is_far-clause-step
returns-then-is_far-clause-step c = exact_self c.args.draft.now

pub returns-then-is_inside-clause-step : goal.returns-then-is_inside-clause-step
returns-then-is_inside-clause-step c = exact_self c.args.draft.now

pub sides-requires : goal.sides-requires
sides-requires c =
    subst (λ (box : List Sides). c.args.found.column < length box) (sym c.bounds.ensures.bounds) c.requires.inside

pub set_sides-requires-clause-inside : goal.set_sides-requires-clause-inside
set_sides-requires-clause-inside c =
    c.requires.inside

pub set_sides-requires-clause-plain : goal.set_sides-requires-clause-plain
set_sides-requires-clause-plain c =
    c.requires.plain

pub returns-clause-step : goal.returns-clause-step
returns-clause-step c =
    taken_by c.args.draft.now c.set_sides.new.self c.args.found.column c.args.found.sides c.requires c.set_sides.ensures

pub returns-clause-columns : goal.returns-clause-columns
returns-clause-columns c = ap (λ (p : Program). length p.bounds) c.set_sides.ensures ∙ columns_same c.args.draft.now.bounds c.args.found.column c.args.found.sides

pub returns-then-cross-clause-end : goal.returns-then-cross-clause-end
returns-then-cross-clause-end c = grind (arith, common_steps)

pub returns-clause-rows : goal.returns-clause-rows
returns-clause-rows c = grind (arith, common_steps)

pub returns-then-is_inside-clause-columns : goal.returns-then-is_inside-clause-columns
returns-then-is_inside-clause-columns c = grind (arith, common_steps)

pub returns-then-is_inside-clause-rows : goal.returns-then-is_inside-clause-rows
returns-then-is_inside-clause-rows c = grind (arith, common_steps)

pub returns-then-is_far-clause-columns : goal.returns-then-is_far-clause-columns
returns-then-is_far-clause-columns c = grind (arith, common_steps)

pub returns-then-is_far-clause-rows : goal.returns-then-is_far-clause-rows
returns-then-is_far-clause-rows c = grind (arith, common_steps)

pub returns-then-cross-clause-columns : goal.returns-then-cross-clause-columns
returns-then-cross-clause-columns c = grind (arith, common_steps)

pub returns-then-cross-clause-rows : goal.returns-then-cross-clause-rows
returns-then-cross-clause-rows c = grind (arith, common_steps)

pub is_whole-requires : goal.is_whole-requires
is_whole-requires c = c.requires.inside
