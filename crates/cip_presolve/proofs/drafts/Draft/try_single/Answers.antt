use Rattle.std.proofs.lemmas.Grind.{common_steps}
use Rattle.std.proofs.Common.{length, refl, sym, ap, ◌∙◌, arith}
use Rattle.cip_problem.specs.Program.{Program, Row, no_row}
use Rattle.cip_presolve.specs.NarrowedPrograms.{with_row}
use Rattle.cip_presolve.proofs.Singled.{taken_by}
use Rattle.cip_presolve.proofs.Merged.{count_same}
use Rattle.cip_presolve.proofs.drafts.Draft.try_single.Goals as goal
use Rattle.cip_search.proofs.Pairing.{exact_self}

pub returns-in_default-clause-step : goal.returns-in_default-clause-step
returns-in_default-clause-step c = exact_self c.args.self.now

pub returns-in_default-clause-rows : goal.returns-in_default-clause-rows
returns-in_default-clause-rows c = refl

pub returns-then-cross-clause-step : goal.returns-then-cross-clause-step
returns-then-cross-clause-step c = exact_self c.args.self.now

pub returns-then-cross-clause-rows : goal.returns-then-cross-clause-rows
returns-then-cross-clause-rows c = refl

pub returns-then-cross-clause-end : goal.returns-then-cross-clause-end
returns-then-cross-clause-end c = c.in-Some.ensures.none (sym c.cross.ensures ∙ c.if-cross.true)

pub returns-then-is_far-clause-step : goal.returns-then-is_far-clause-step
returns-then-is_far-clause-step c = exact_self c.args.self.now

pub returns-then-is_far-clause-rows : goal.returns-then-is_far-clause-rows
returns-then-is_far-clause-rows c = refl

pub set_sides-requires-clause-inside : goal.set_sides-requires-clause-inside
set_sides-requires-clause-inside c = c.in-Some.ensures.inside

pub set_sides-requires-clause-plain : goal.set_sides-requires-clause-plain
set_sides-requires-clause-plain c = c.in-Some.ensures.plain

pub set_row-requires-clause-inside : goal.set_row-requires-clause-inside
set_row-requires-clause-inside c = omega (arith, ap (λ (p : Program). length p.rows) c.set_sides.ensures, c.requires)

pub returns-clause-step : goal.returns-clause-step
returns-clause-step c =
    taken_by c.args.self.now c.set_row.new.self c.args.number c.in-Some.found.column c.in-Some.found.sides
    c.in-Some.ensures
    (c.set_row.ensures ∙ ap (λ (r : Row). with_row c.set_sides.new.self c.args.number r) c.empty.ensures ∙ ap (λ (p : Program). with_row p c.args.number no_row) c.set_sides.ensures)

pub returns-clause-rows : goal.returns-clause-rows
returns-clause-rows c = ap (λ (p : Program). length p.rows) c.set_row.ensures ∙ count_same _ _ _
    ∙ ap (λ (p : Program). length p.rows) c.set_sides.ensures

pub is_whole-requires : goal.is_whole-requires
is_whole-requires c = grind (arith, common_steps)

pub returns-clause-end : goal.returns-clause-end
returns-clause-end c = grind (arith, common_steps)

pub set_row-requires-clause-stands : goal.set_row-requires-clause-stands
set_row-requires-clause-stands c = grind (arith, common_steps)
