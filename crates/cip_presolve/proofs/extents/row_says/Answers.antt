use Rattle.cip_presolve.proofs.extents.row_says.Goals.{then-cross-via-then-cross, then-cross-via-else-cross+then-cross-2}
use Rattle.cip_lin.specs.MetSides.{is_past}
use Rattle.cip_problem.specs.Program.{Sides}
use Rattle.std.proofs.Common.{◌∙◌, sym, ap, ap₂}
use Rattle.cip_presolve.proofs.Enclosing.{always, never_high, never_low}
use Rattle.cip_presolve.proofs.extents.row_says.Goals as goal

pub returns-then-is_inside : goal.returns-then-is_inside
returns-then-is_inside c =
    always c.args.bounds.now c.args.row.now c.extent-extent.result c.low.result c.high.result c.low.ensures c.high.ensures c.extent-extent.ensures (sym c.is_inside.ensures ∙ c.if-is_inside.true)

pub returns-then-cross : goal.returns-then-cross
returns-then-cross c =
    elim c.then-cross.branch [
      | then-cross-via-then-cross w ↦
          never_high c.args.bounds.now c.args.row.now c.extent-extent.result c.high.result c.high.ensures
          c.extent-extent.ensures
          (sym (c.cross.ensures ∙ ap₂ is_past (ap (λ (s : Sides). s.low) c.extent.view_is)
          (ap (λ (s : Sides). s.high) c.sides.view_is)) ∙ w.if-cross.true)
      | then-cross-via-else-cross+then-cross-2 w ↦
          never_low c.args.bounds.now c.args.row.now c.extent-extent.result c.low.result c.low.ensures
          c.extent-extent.ensures
          (sym (w.cross-else-cross.ensures ∙ ap₂ is_past
          (ap (λ (s : Sides). s.low) c.sides.view_is) (ap (λ (s : Sides). s.high) c.extent.view_is)) ∙ w.if-cross-2.true)
    ]
