use Rattle.std.proofs.lemmas.Grind.{common_steps}
use Rattle.std.proofs.Common.{◌≡◌, None, refl, sym, ap, ◌∙◌, arith}
use Rattle.cip_bland.specs.Exchange.{CanMove}
use Rattle.cip_bland.specs.declared.moves.Move.TheVariants.{Exchange}
use Rattle.cip_bland.specs.declared.steps.Step.TheVariants.{Makes}
use Rattle.cip_bland.specs.Rule.{next, least_outside}
use Rattle.cip_bland.specs.MoveList.{wide_way_of}
use Rattle.cip_simplex.proofs.Chosen.{can_descend, wide_descent, descent_fits}
use Rattle.cip_simplex.proofs.steps.take_step.Goals as goal
use Rattle.cip_simplex.proofs.steps.take_step.Goals.{in-Repair, in-Improve+in-Ok-Some}

pub returns-in-Crossed : goal.returns-in-Crossed
returns-in-Crossed c = grind (arith, common_steps)

pub returns-in-Infeasible : goal.returns-in-Infeasible
returns-in-Infeasible c = grind (arith, common_steps)

pub returns-in-Err : goal.returns-in-Err
returns-in-Err c = wide_descent c.args.dict.now c.in-Improve.j (rw c.in-Improve.is at c.choose.ensures) c.in-Err.wide c.in-Err.ensures.shortest

pub returns-in-Ok-None : goal.returns-in-Ok-None
returns-in-Ok-None c = grind (arith, common_steps)

pub make-requires : goal.make-requires
make-requires c =
    let facts : CanMove c.args.dict.now c.match-choose.chosen × ((next c.args.dict.now ≡ Makes c.match-choose.chosen) × (wide_way_of c.args.dict.now c.match-choose.chosen (least_outside c.args.dict.now) ≡ None)) =
    elim c.match-choose.branch [
      | in-Repair w ↦
          let h = rw w.in-Repair.is at c.choose.ensures in
          rw w.chosen-is (h.0, (h.1.is_next, ap (wide_way_of c.args.dict.now (Exchange w.in-Repair.i w.in-Repair.j w.in-Repair.to)) h.1.outside))
      | in-Improve+in-Ok-Some w ↦
          let h = rw w.in-Improve.is at c.choose.ensures in
          let way = sym w.in-Ok-Some.field-0-is ∙ w.in-Ok-Some.ensures.shortest.1 in
          rw w.chosen-is (
            can_descend c.args.dict.now w.in-Improve.j h _ w.move_by.result w.in-Ok-Some.ensures.consistent way w.move_by.ensures,
            descent_fits c.args.dict.now w.in-Improve.j h _ w.move_by.result way w.move_by.ensures w.in-Ok-Some.ensures.shortest.0,
          )
    ] in
    facts.0

pub returns-then-branch : goal.returns-then-branch
returns-then-branch c =
    let facts : CanMove c.args.dict.now c.match-choose.chosen × ((next c.args.dict.now ≡ Makes c.match-choose.chosen) × (wide_way_of c.args.dict.now c.match-choose.chosen (least_outside c.args.dict.now) ≡ None)) =
    elim c.match-choose.branch [
      | in-Repair w ↦
          let h = rw w.in-Repair.is at c.choose.ensures in
          rw w.chosen-is (h.0, (h.1.is_next, ap (wide_way_of c.args.dict.now (Exchange w.in-Repair.i w.in-Repair.j w.in-Repair.to)) h.1.outside))
      | in-Improve+in-Ok-Some w ↦
          let h = rw w.in-Improve.is at c.choose.ensures in
          let way = sym w.in-Ok-Some.field-0-is ∙ w.in-Ok-Some.ensures.shortest.1 in
          rw w.chosen-is (
            can_descend c.args.dict.now w.in-Improve.j h _ w.move_by.result w.in-Ok-Some.ensures.consistent way w.move_by.ensures,
            descent_fits c.args.dict.now w.in-Improve.j h _ w.move_by.result way w.move_by.ensures w.in-Ok-Some.ensures.shortest.0,
          )
    ] in
    let made = rw c.if-branch.true at c.in_ok-make.ensures in
    record { is_next = facts.1.0; in_range = rw (facts.1.1, made.0) refl; state = made.1 }

pub returns-else-branch : goal.returns-else-branch
returns-else-branch c =
    let facts : CanMove c.args.dict.now c.match-choose.chosen × ((next c.args.dict.now ≡ Makes c.match-choose.chosen) × (wide_way_of c.args.dict.now c.match-choose.chosen (least_outside c.args.dict.now) ≡ None)) =
    elim c.match-choose.branch [
      | in-Repair w ↦
          let h = rw w.in-Repair.is at c.choose.ensures in
          rw w.chosen-is (h.0, (h.1.is_next, ap (wide_way_of c.args.dict.now (Exchange w.in-Repair.i w.in-Repair.j w.in-Repair.to)) h.1.outside))
      | in-Improve+in-Ok-Some w ↦
          let h = rw w.in-Improve.is at c.choose.ensures in
          let way = sym w.in-Ok-Some.field-0-is ∙ w.in-Ok-Some.ensures.shortest.1 in
          rw w.chosen-is (
            can_descend c.args.dict.now w.in-Improve.j h _ w.move_by.result w.in-Ok-Some.ensures.consistent way w.move_by.ensures,
            descent_fits c.args.dict.now w.in-Improve.j h _ w.move_by.result way w.move_by.ensures w.in-Ok-Some.ensures.shortest.0,
          )
    ] in
    let wide = rw c.if-branch.false at c.in_ok-make.ensures in
    record { move = c.match-choose.chosen; is_next = facts.1.0; out_of_range = rw (facts.1.1, wide.0) refl; state = wide.1 }

pub returns-in-Optimum : goal.returns-in-Optimum
returns-in-Optimum c = grind (arith, common_steps)

pub shortest_way-requires-clause-entering : goal.shortest_way-requires-clause-entering
shortest_way-requires-clause-entering c = grind (arith, common_steps)
