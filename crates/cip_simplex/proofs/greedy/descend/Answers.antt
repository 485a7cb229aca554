use Rattle.std.proofs.lemmas.Result.{IfOk-from_err}
use Rattle.std.proofs.lemmas.Grind.{common_steps}
use Rattle.std.proofs.Common.{IfSome, sym, subst, arith}
use Rattle.cip_bland.specs.StateEnds.{IsEndAt}
use Rattle.cip_bland.specs.Statements.{IsStateOf}
use Rattle.cip_simplex.specs.Reached.{IsEndAnswer}
use Rattle.cip_simplex.proofs.FreeMoves.{begun_state, reached}
use Rattle.cip_simplex.proofs.Held.{end_answered}
use Rattle.cip_simplex.proofs.StartLaws.{state_size}
use Rattle.cip_simplex.proofs.greedy.descend.Goals as goal
use Rattle.cip_simplex.proofs.greedy.descend.Goals.{then-is_none+in_ok-step, else-is_none, in-Some+in_ok-end_answer-in-Some, in-None}

pub descend_to_end-requires : goal.descend_to_end-requires
descend_to_end-requires c = begun_state c.args.lp.now c.args.start.now c.begin_at.new.moves.items c.begin_at.new.dict c.in_ok-wide.wide c.in_ok-wide.ensures.begun

pub end_answer-requires-clause-variables : goal.end_answer-requires-clause-variables
end_answer-requires-clause-variables c =
    let st : IsStateOf c.args.lp.now c.if-is_none.dict =
    elim c.if-is_none.branch [
      | then-is_none+in_ok-step w ↦ subst (IsStateOf c.args.lp.now) (sym w.dict-is) w.in_ok-step.ensures.state
      | else-is_none w ↦ subst (IsStateOf c.args.lp.now) (sym w.dict-is) (begun_state c.args.lp.now c.args.start.now c.begin_at.new.moves.items c.begin_at.new.dict c.in_ok-wide.wide c.in_ok-wide.ensures.begun)
    ] in
    state_size c.args.lp.now c.if-is_none.dict st

pub at-requires : goal.at-requires
at-requires c =
    let st : IsStateOf c.args.lp.now c.if-is_none.dict =
    elim c.if-is_none.branch [
      | then-is_none+in_ok-step w ↦ subst (IsStateOf c.args.lp.now) (sym w.dict-is) w.in_ok-step.ensures.state
      | else-is_none w ↦ subst (IsStateOf c.args.lp.now) (sym w.dict-is) (begun_state c.args.lp.now c.args.start.now c.begin_at.new.moves.items c.begin_at.new.dict c.in_ok-wide.wide c.in_ok-wide.ensures.begun)
    ] in
    omega (arith, state_size c.args.lp.now c.if-is_none.dict st)

pub returns : goal.returns
returns c =
    let st : IsStateOf c.args.lp.now c.if-is_none.dict =
    elim c.if-is_none.branch [
      | then-is_none+in_ok-step w ↦ subst (IsStateOf c.args.lp.now) (sym w.dict-is) w.in_ok-step.ensures.state
      | else-is_none w ↦ subst (IsStateOf c.args.lp.now) (sym w.dict-is) (begun_state c.args.lp.now c.args.start.now c.begin_at.new.moves.items c.begin_at.new.dict c.in_ok-wide.wide c.in_ok-wide.ensures.begun)
    ] in
    let end : IfSome c.if-is_none.step (IsEndAt c.if-is_none.dict) =
    elim c.if-is_none.branch [
      | then-is_none+in_ok-step w ↦ rw (w.step-is, w.dict-is) w.in_ok-step.ensures.end
      | else-is_none w ↦ rw w.step-is tt
    ] in
    let found : IfSome c.match-step.found (IsEndAnswer c.args.lp.now c.if-is_none.dict) =
    elim c.match-step.branch [
      | in-Some+in_ok-end_answer-in-Some w ↦ rw w.found-is (end_answered c.args.lp.now c.if-is_none.dict w.in-Some.step _ c.columns-columns.ensures.solvable.proper st (rw w.in-Some.is at end) w.in_ok-end_answer-in-Some.ensures)
      | in-None w ↦ rw w.found-is tt
    ] in
    reached c.args.lp.now c.if-is_none.dict c.in_ok-last.last c.match-step.found st c.in_ok-last.ensures found

pub end_answer-requires-clause-is_end : goal.end_answer-requires-clause-is_end
end_answer-requires-clause-is_end c = grind (arith, common_steps)

pub begin_at-requires-clause-long : goal.begin_at-requires-clause-long
begin_at-requires-clause-long c = grind (arith, common_steps)

pub begin_at-requires-clause-first : goal.begin_at-requires-clause-first
begin_at-requires-clause-first c = grind (arith, common_steps)

pub begin_at-requires-clause-empty : goal.begin_at-requires-clause-empty
begin_at-requires-clause-empty c = grind (arith, common_steps)

pub returns-in_err-last : goal.returns-in_err-last
returns-in_err-last c = IfOk-from_err c.from_residual-in_err-last.result _ c.from_residual-in_err-last.ensures.0

pub returns-in_err-end_answer-in-Some : goal.returns-in_err-end_answer-in-Some
returns-in_err-end_answer-in-Some c = IfOk-from_err c.from_residual-in_err-end_answer-in-Some.result _ c.from_residual-in_err-end_answer-in-Some.ensures.0
