use Rattle.cip_presolve.proofs.Plans.{one_taken, all_taken, taken_plain}
use Rattle.cip_problem.specs.Program.{Sides}
use Rattle.std.proofs.lemmas.Grind.{common_steps}
use Rattle.std.proofs.Common.{arith, List, length, Some, sym, ap, ◌∙◌, None, refl}
use Rattle.cip_presolve.proofs.moves.take_plan.Goals as goal

pub loop-column-init : goal.loop-column-init
loop-column-init c = grind (arith, common_steps)

pub overflow_cast-column-end : goal.overflow_cast-column-end
overflow_cast-column-end c = grind (arith, common_steps)

pub set_sides-requires-clause-inside : goal.set_sides-requires-clause-inside
set_sides-requires-clause-inside c = grind (arith, common_steps)

pub loop-column-preserved : goal.loop-column-preserved
loop-column-preserved c =
    one_taken c.args.plan.now c.args.draft.now c.loop-column.draft c.set_sides.new.self c.loop-column.column
    (Some c.in-Some.value)
    c.loop-column.invariant
    (omega (
      arith,
      c.loop-column-test.true,
      c.len-column-end.ensures,
      ap
          (λ (box : List Sides). length box) c.bounds.ensures.bounds,
    ))
    (sym c.in-Some.is ∙ c.target_at.ensures) c.set_sides.ensures

pub loop-column-preserved-in_default : goal.loop-column-preserved-in_default
loop-column-preserved-in_default c =
    one_taken c.args.plan.now c.args.draft.now c.loop-column.draft c.loop-column.draft c.loop-column.column None
    c.loop-column.invariant
    (omega (
      arith,
      c.loop-column-test.true,
      c.len-column-end.ensures,
      ap
          (λ (box : List Sides). length box) c.bounds.ensures.bounds,
    ))
    (sym c.in_default.is ∙ c.target_at.ensures) refl

pub returns : goal.returns
returns c =
    all_taken c.args.plan.now c.args.draft.now c.loop-column.draft c.loop-column.column c.loop-column.invariant
    (omega (
      arith,
      c.loop-column-test.false,
      c.loop-column.auto.column-end,
      c.len-column-end.ensures,
      ap
          (λ (box : List Sides). length box) c.bounds.ensures.bounds,
    ))

pub set_sides-requires-clause-plain : goal.set_sides-requires-clause-plain
set_sides-requires-clause-plain c =
    taken_plain c.args.plan.now c.args.draft.now c.loop-column.draft c.loop-column.column (Some c.in-Some.value)
    c.loop-column.invariant
    c.requires (sym c.in-Some.is ∙ c.target_at.ensures)
