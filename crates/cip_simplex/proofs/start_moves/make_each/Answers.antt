use Rattle.std.proofs.lemmas.Result.{IfOk-from_err}
use Rattle.std.proofs.lemmas.Grind.{common_steps}
use Rattle.std.proofs.Common.{◌≡◌, cond, None, Some, sym, ap, ◌∙◌, subst, arith}
use Rattle.cip_bland.specs.Dictionary.{size}
use Rattle.cip_bland.proofs.ListEnds.{size_after}
use Rattle.cip_simplex.specs.Starts.{Begun, begun_by, flipping_move, entering_move, CanMake}
use Rattle.cip_simplex.proofs.Begins.{begun_next, begun_stops}
use Rattle.cip_simplex.proofs.start_moves.make_each.Goals as goal
use Rattle.cip_simplex.proofs.start_moves.make_each.Goals.{then-flips, else-flips}

pub make-requires : goal.make-requires
make-requires c =
    let can : CanMake c.loop-v.dict c.if-flips.chosen =
    elim c.if-flips.branch [
      | then-flips w ↦ subst (CanMake c.loop-v.dict) (sym w.chosen-is) w.flipping_move-chosen.ensures.can
      | else-flips w ↦ subst (CanMake c.loop-v.dict) (sym w.chosen-is) w.entering_move-chosen.ensures.can
    ] in
    rw c.in-Some.is at can

pub loop-v-preserved : goal.loop-v-preserved
loop-v-preserved c =
    let chosen : c.if-flips.chosen ≡ (cond c.args.flips (flipping_move c.args.start.now) (entering_move c.args.start.now)) c.loop-v.dict c.loop-v.v =
    elim c.if-flips.branch [
      | then-flips w ↦ rw w.if-flips.true (w.chosen-is ∙ w.flipping_move-chosen.ensures.chosen)
      | else-flips w ↦ rw w.if-flips.false (w.chosen-is ∙ w.entering_move-chosen.ensures.chosen)
    ] in
    let b : Begun = record { moves = c.args.moves.now.items; last = c.args.dict.now; wide = None } in
    let before : Begun = record { moves = c.loop-v.moves.items; last = c.loop-v.dict; wide = None } in
    let next : begun_by before (Some c.in-Some.next) ≡ record { moves = c.push.new.self.items; last = c.make.new.dict; wide = None } = grind (arith, common_steps) in
    record {
      variables = ap size (rw c.if-not-branch.false at c.in_ok-make.ensures).1 ∙ size_after c.loop-v.dict c.in-Some.next ∙ c.loop-v.invariant.variables;
      made = begun_next (cond c.args.flips (flipping_move c.args.start.now) (entering_move c.args.start.now)) b c.loop-v.v c.loop-v.moves.items c.loop-v.dict c.if-flips.chosen _ c.loop-v.invariant.made chosen (ap (begun_by before) c.in-Some.is ∙ next);
    }

pub returns-then-not-branch-clause-made : goal.returns-then-not-branch-clause-made
returns-then-not-branch-clause-made c =
    let chosen : c.if-flips.chosen ≡ (cond c.args.flips (flipping_move c.args.start.now) (entering_move c.args.start.now)) c.loop-v.dict c.loop-v.v =
    elim c.if-flips.branch [
      | then-flips w ↦ rw w.if-flips.true (w.chosen-is ∙ w.flipping_move-chosen.ensures.chosen)
      | else-flips w ↦ rw w.if-flips.false (w.chosen-is ∙ w.entering_move-chosen.ensures.chosen)
    ] in
    let b : Begun = record { moves = c.args.moves.now.items; last = c.args.dict.now; wide = None } in
    let before : Begun = record { moves = c.loop-v.moves.items; last = c.loop-v.dict; wide = None } in
    let next : begun_by before (Some c.in-Some.next) ≡ record { moves = c.loop-v.moves.items; last = c.make.new.dict; wide = Some c.in-Some.next } = grind (arith, common_steps) in
    begun_stops (cond c.args.flips (flipping_move c.args.start.now) (entering_move c.args.start.now)) b c.args.n c.loop-v.v c.loop-v.moves.items c.loop-v.moves.items c.loop-v.dict c.make.new.dict c.if-flips.chosen c.in-Some.next c.loop-v-test.true c.loop-v.invariant.made chosen (ap (begun_by before) c.in-Some.is ∙ next)

pub returns-clause-made : goal.returns-clause-made
returns-clause-made c =
    let end : c.loop-v.v ≡ c.args.n = omega arith in
    rw end at c.loop-v.invariant.made

pub returns-clause-variables : goal.returns-clause-variables
returns-clause-variables c = c.loop-v.invariant.variables

pub loop-v-preserved-in_default : goal.loop-v-preserved-in_default
loop-v-preserved-in_default c =
    let chosen : c.if-flips.chosen ≡ (cond c.args.flips (flipping_move c.args.start.now) (entering_move c.args.start.now)) c.loop-v.dict c.loop-v.v =
    elim c.if-flips.branch [
      | then-flips w ↦ rw w.if-flips.true (w.chosen-is ∙ w.flipping_move-chosen.ensures.chosen)
      | else-flips w ↦ rw w.if-flips.false (w.chosen-is ∙ w.entering_move-chosen.ensures.chosen)
    ] in
    let b : Begun = record { moves = c.args.moves.now.items; last = c.args.dict.now; wide = None } in
    let before : Begun = record { moves = c.loop-v.moves.items; last = c.loop-v.dict; wide = None } in
    record {
      variables = c.loop-v.invariant.variables;
      made = begun_next (cond c.args.flips (flipping_move c.args.start.now) (entering_move c.args.start.now)) b c.loop-v.v c.loop-v.moves.items c.loop-v.dict c.if-flips.chosen before c.loop-v.invariant.made chosen (ap (begun_by before) c.in_default.is);
    }

pub returns-then-not-branch-clause-variables : goal.returns-then-not-branch-clause-variables
returns-then-not-branch-clause-variables c = grind (arith, common_steps)

pub entering_move-chosen-requires-clause-long : goal.entering_move-chosen-requires-clause-long
entering_move-chosen-requires-clause-long c = grind (arith, common_steps)

pub flipping_move-chosen-requires-clause-long : goal.flipping_move-chosen-requires-clause-long
flipping_move-chosen-requires-clause-long c = grind (arith, common_steps)

pub entering_move-chosen-requires-clause-entering : goal.entering_move-chosen-requires-clause-entering
entering_move-chosen-requires-clause-entering c = grind (arith, common_steps)

pub flipping_move-chosen-requires-clause-within : goal.flipping_move-chosen-requires-clause-within
flipping_move-chosen-requires-clause-within c = grind (arith, common_steps)

pub entering_move-chosen-requires-clause-few : goal.entering_move-chosen-requires-clause-few
entering_move-chosen-requires-clause-few c = grind (arith, common_steps)

pub overflow_cast-v-else-flips : goal.overflow_cast-v-else-flips
overflow_cast-v-else-flips c = grind (arith, common_steps)

pub overflow_cast-v : goal.overflow_cast-v
overflow_cast-v c = grind (arith, common_steps)

pub loop-v-init : goal.loop-v-init
loop-v-init c = grind (arith, common_steps)

pub returns-in_err-make-clause-variables : goal.returns-in_err-make-clause-variables
returns-in_err-make-clause-variables c = IfOk-from_err c.from_residual.result _ c.from_residual.ensures.0

pub returns-in_err-make-clause-made : goal.returns-in_err-make-clause-made
returns-in_err-make-clause-made c = IfOk-from_err c.from_residual.result _ c.from_residual.ensures.0
