use Rattle.std.proofs.lemmas.Result.{IfOk-from_err}
use Rattle.std.proofs.lemmas.Grind.{common_steps}
use Rattle.std.proofs.Common.{◌≡◌, ap, sym, subst, inl, ◌∙◌, arith}
use Rattle.cip_problem.specs.WellFormed.{columns}
use Rattle.cip_tree.specs.Nodes.{region_of}
use Rattle.cip_tree.specs.Walks.{IsEntered}
use Rattle.cip_calls.specs.CoreStates.{CoreState, reduced_of, IsTakenUp}
use Rattle.cip_calls.specs.Steps.{aged}
use Rattle.cip_node.proofs.EndLaws.{looked_core}
use Rattle.cip_node.proofs.Looked.{look_empty}
use Rattle.cip_calls.specs.ProposalsJudged.{HaveRoom}
use Rattle.cip_calls.specs.Noted.{IsReady, HasMoreRows}
use Rattle.cip_calls.proofs.PassedOn.{more_same}
use Rattle.cip_solve.specs.NodesReached.{HasMoved}
use Rattle.cip_solve.proofs.Closing.{moved_looked, moved_further}
use Rattle.cip_solve.proofs.Coming.{ran_none}
use Rattle.cip_solve.proofs.processing.begin.Goals as goal

frame_of : (core first second : CoreState) → first ≡ record core { pool = aged core.pool } → second ≡ record first { tree = record first.tree { work = second.tree.work } } → second ≡ looked_core core (aged core.pool) second.tree.work
frame_of core first second e f = f ∙ ap (λ (k : CoreState). looked_core k k.pool second.tree.work) e

pub returns-in_err-enter-clause-moved : goal.returns-in_err-enter-clause-moved
returns-in_err-enter-clause-moved g c =
    let core = c.args.work.now.core in
    let node = c.args.node.now in
    let frame = frame_of core _ c.enter.new.self c.age.ensures.frame c.enter.ensures.frame in
    subst (λ (k : CoreState). HasMoved core node k node) (sym frame)
    (moved_looked core (aged core.pool) c.enter.new.self.tree.work node (subst (λ (k : CoreState). IsTakenUp k node) frame c.enter.ensures.up))

pub returns-in_err-enter-clause-kept : goal.returns-in_err-enter-clause-kept
returns-in_err-enter-clause-kept g c =
    let core = c.args.work.now.core in
    let frame = frame_of core _ c.enter.new.self c.age.ensures.frame c.enter.ensures.frame in
    record {
      space = subst (λ (k : CoreState). HaveRoom c.args.plugins.now.scratches (columns (reduced_of k))) (sym frame) c.requires.room.0;
      sound = c.requires.room.1;
      run = ran_none (g.R.Seated.state c.args.plugins.now.roster);
      rows = more_same (aged core.pool) c.enter.new.self.pool (ap (λ (k : CoreState). k.pool) frame);
    }

pub returns-then-not-branch-clause-moved : goal.returns-then-not-branch-clause-moved
returns-then-not-branch-clause-moved g c =
    let core = c.args.work.now.core in
    let node = c.args.node.now in
    let frame = frame_of core _ c.enter.new.self c.age.ensures.frame c.enter.ensures.frame in
    subst (λ (k : CoreState). HasMoved core node k node) (sym frame)
    (moved_looked core (aged core.pool) c.enter.new.self.tree.work node (subst (λ (k : CoreState). IsTakenUp k node) frame c.enter.ensures.up))

pub returns-then-not-branch-clause-kept : goal.returns-then-not-branch-clause-kept
returns-then-not-branch-clause-kept g c =
    let core = c.args.work.now.core in
    let frame = frame_of core _ c.enter.new.self c.age.ensures.frame c.enter.ensures.frame in
    record {
      space = subst (λ (k : CoreState). HaveRoom c.args.plugins.now.scratches (columns (reduced_of k))) (sym frame) c.requires.room.0;
      sound = c.requires.room.1;
      run = ran_none (g.R.Seated.state c.args.plugins.now.roster);
      rows = more_same (aged core.pool) c.enter.new.self.pool (ap (λ (k : CoreState). k.pool) frame);
    }

pub returns-then-not-branch-clause-reached : goal.returns-then-not-branch-clause-reached
returns-then-not-branch-clause-reached g c =
    let core = c.enter.new.self in
    let node = c.args.node.now in
    look_empty core node (inl (subst (IsEntered core.tree.work (region_of core.tree node)) c.if-not-branch.true c.in_ok-enter.ensures.entered))

pub focus_and_turn-requires : goal.focus_and_turn-requires
focus_and_turn-requires g c =
    let core = c.args.work.now.core in
    let mid = c.enter.new.self in
    let node = c.args.node.now in
    let frame = frame_of core _ mid c.age.ensures.frame c.enter.ensures.frame in
    let entered = subst (IsEntered mid.tree.work (region_of mid.tree node)) c.if-not-branch.false c.in_ok-enter.ensures.entered in
    let ready : IsReady mid node c.args.plugins.now.scratches = record {
      at_work = record { up = c.enter.ensures.up; region = entered };
      room = subst (λ (k : CoreState). HaveRoom c.args.plugins.now.scratches (columns (reduced_of k))) (sym frame) c.requires.room.0;
    } in
    record { ready = (ready, c.requires.room.1) }

pub returns-clause-moved : goal.returns-clause-moved
returns-clause-moved g c =
    let core = c.args.work.now.core in
    let mid = c.enter.new.self in
    let node = c.args.node.now in
    let frame = frame_of core _ mid c.age.ensures.frame c.enter.ensures.frame in
    let first = subst (λ (k : CoreState). HasMoved core node k node) (sym frame)
    (moved_looked core (aged core.pool) mid.tree.work node (subst (λ (k : CoreState). IsTakenUp k node) frame c.enter.ensures.up)) in
    moved_further core mid c.focus_and_turn.new.work.core node node c.focus_and_turn.new.node first c.focus_and_turn.ensures.come.later

pub returns-clause-kept : goal.returns-clause-kept
returns-clause-kept g c =
    let core = c.args.work.now.core in
    let mid = c.enter.new.self in
    let frame = frame_of core _ mid c.age.ensures.frame c.enter.ensures.frame in
    let come = c.focus_and_turn.ensures.come in
    record {
      space = come.ready.room;
      sound = come.sound;
      run = come.run;
      rows = subst (λ (k : CoreState). HasMoreRows k.pool c.focus_and_turn.new.work.core.pool) frame come.rows;
    }

pub enter-requires : goal.enter-requires
enter-requires g c = c.age.ensures.up c.args.node.now c.requires.up

pub returns-clause-reached : goal.returns-clause-reached
returns-clause-reached g c = grind (arith, common_steps)

pub returns-clause-used : goal.returns-clause-used
returns-clause-used g c = grind (arith, common_steps)

pub returns-then-not-branch-clause-used : goal.returns-then-not-branch-clause-used
returns-then-not-branch-clause-used g c = grind (arith, common_steps)

pub returns-in_err-enter-clause-reached : goal.returns-in_err-enter-clause-reached
returns-in_err-enter-clause-reached g c = IfOk-from_err c.from_residual.result _ c.from_residual.ensures.0

pub returns-in_err-enter-clause-used : goal.returns-in_err-enter-clause-used
returns-in_err-enter-clause-used g c = IfOk-from_err c.from_residual.result _ c.from_residual.ensures.0
