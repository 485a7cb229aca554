use Rattle.std.proofs.lemmas.Grind.{common_steps}
use Rattle.std.proofs.Common.{arith, sym, ◌∙◌, ap}
use Rattle.cip_domain.proofs.halves.can_halve.Goals.{then-unsigned_abs, else-unsigned_abs}
use Rattle.std.specs.Int.{w128}
use Rattle.std.proofs.lemmas.Bool.{leb-true}
use Rattle.std.proofs.lemmas.Int.{to_z-of_z}
use Rattle.cip_problem.specs.Program.{Sides}
use Rattle.cip_domain.proofs.WholeHalves.{halved}
use Rattle.cip_domain.proofs.halves.can_halve.Goals as goal

pub returns-else-has_low : goal.returns-else-has_low
returns-else-has_low c = grind (arith, common_steps)

pub returns-then-has_low : goal.returns-then-has_low
returns-then-has_low c =
    elim c.if-unsigned_abs.branch [
      | then-unsigned_abs w ↦
          halved c.args.sides c.args.at _ _ _ c.unsigned_abs.result w.has_low.result c.has_high.result
          (ap (λ (sides : Sides). sides.low) c.sides.view_is)
          (ap (λ s. s.1.0) w.sides-inside-is ∙ ap (λ (sides : Sides). sides.high) c.sides.view_is)
          (to_z-of_z w128 c.args.at c.ranges.at) c.unsigned_abs.ensures.value w.if-unsigned_abs.true w.has_low.ensures
          (sym w.value-is ∙ c.if-has_low.true) c.has_high.ensures
      | else-unsigned_abs w ↦
          absurd (omega (arith, leb-true _ _ (sym w.value-is ∙ c.if-has_low.true), w.if-unsigned_abs.false))
    ]
