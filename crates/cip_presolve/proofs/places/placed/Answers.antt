use Rattle.std.proofs.Common.{◌++◌, ◌∷◌, [], false, get_or, refl, arith, ap, ◌∙◌}
use Rattle.cip_presolve.specs.WholeParts.{with_wholes}
use Rattle.cip_presolve.proofs.Placed.{one_placed, all_placed, few_behind}
use Rattle.cip_presolve.proofs.places.placed.Goals as goal

pub loop-column-init : goal.loop-column-init
loop-column-init c = record { all = ap (λ t. t ++ with_wholes c.args.takes.now c.args.values.now) c.new-point.ensures.items; few = omega arith }

pub bounds-takes-column : goal.bounds-takes-column
bounds-takes-column c = c.loop-column-test.true

pub place_behind-at-requires : goal.place_behind-at-requires
place_behind-at-requires c = omega (arith, c.loop-column.invariant.few, c.loop-column-test.true)

pub loop-column-preserved : goal.loop-column-preserved
loop-column-preserved c = record {
  all =
      one_placed c.args.takes.now c.args.values.now c.loop-column.point.items _ _ c.loop-column.column c.loop-column.at c.place_behind-at.result (get_or c.args.takes.now c.loop-column.column false) false c.loop-column-test.true refl c.loop-column.invariant.all
      (c.in_ok-push.ensures.items ∙ ap (λ t. c.loop-column.point.items ++ t ∷ []) c.value_taken.ensures) (c.place_behind-at.ensures.place c.args.values.now);
  few = few_behind _ _ _ c.loop-column.invariant.few c.place_behind-at.ensures.within;
}

pub returns : goal.returns
returns c = all_placed c.args.takes.now c.args.values.now c.loop-column.point.items _ c.loop-column.column c.loop-column.at c.loop-column-test.false c.loop-column.invariant.all
