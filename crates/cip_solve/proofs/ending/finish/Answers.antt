use Rattle.std.proofs.lemmas.Grind.{common_steps}
use Rattle.std.proofs.Common.{refl, ap, subst, arith}
use Rattle.cip_calls.specs.CoreStates.{CoreState}
use Rattle.cip_calls.proofs.PassedOn.{used_none}
use Rattle.std.proofs.lemmas.Result.{IfOk-weaker, IfOk-from_err}
use Rattle.std.specs.Prelude.{Bool}
use Rattle.cip_rows.specs.RowPools.{Pool}
use Rattle.cip_solve.specs.NodesReached.{IsReached}
use Rattle.cip_solve.proofs.Closing.{emptied_here}
use Rattle.cip_solve.proofs.Coming.{ran_none}
use Rattle.cip_solve.proofs.Using.{by_plugin, ends_empty, ends_leaf, ends_open, ends_place}
use Rattle.cip_solve.proofs.ending.finish.Goals as goal

pub close_empty-requires-clause-empty : goal.close_empty-requires-clause-empty
close_empty-requires-clause-empty g c = subst (IsReached c.args.work.now.core c.args.node) c.in-Empty.is c.requires.reached

pub returns-in-Empty-clause-ended : goal.returns-in-Empty-clause-ended
returns-in-Empty-clause-ended g c =
    emptied_here c.args.work.now.core c.close_empty.new.self c.args.node c.close_empty.ensures.left (subst (IsReached c.args.work.now.core c.args.node) c.in-Empty.is c.requires.reached)

pub returns-in-Empty-clause-kept : goal.returns-in-Empty-clause-kept
returns-in-Empty-clause-kept g c =
    (ap (λ (k : CoreState). k.pool) c.close_empty.ensures.frame, c.requires.sound, ran_none (g.R.Seated.state c.args.plugins.now.roster), refl)

pub end_open-requires-clause-open_ : goal.end_open-requires-clause-open_
end_open-requires-clause-open_ g c = subst (IsReached c.args.work.now.core c.args.node) c.in-Open.is c.requires.reached

pub end_parted-requires-clause-open_ : goal.end_parted-requires-clause-open_
end_parted-requires-clause-open_ g c =
    let reached = subst (IsReached c.args.work.now.core c.args.node) c.in-Place.is c.requires.reached in
    (reached.0, reached.1)

pub end_parted-requires-clause-place : goal.end_parted-requires-clause-place
end_parted-requires-clause-place g c =
    let reached = subst (IsReached c.args.work.now.core c.args.node) c.in-Place.is c.requires.reached in
    reached.2

pub returns-in-Place-clause-used : goal.returns-in-Place-clause-used
returns-in-Place-clause-used g c =
    IfOk-weaker c.end_parted.result _ _
    (λ done some.
    ends_place _ c.in-Place.found c.in-Place.split done _ _ _ _ c.in-Place.is
    (by_plugin done.proposed done.end _ _ _ _ some (used_none (g.R.Seated.state c.args.plugins.now.roster) c.args.plugins.now.judged.items)))
    c.end_parted.ensures.proposed

pub returns-in-Place-clause-kept : goal.returns-in-Place-clause-kept
returns-in-Place-clause-kept g c =
    (c.end_parted.ensures.pool, c.requires.sound, ran_none (g.R.Seated.state c.args.plugins.now.roster), refl)

pub returns-in-Empty-clause-used : goal.returns-in-Empty-clause-used
returns-in-Empty-clause-used g c = ends_empty _ _ _ _ _ _ c.in-Empty.is tt

pub returns-in-Open-clause-used : goal.returns-in-Open-clause-used
returns-in-Open-clause-used g c =
    IfOk-weaker c.end_open.result _ _ (λ done used. ends_open _ c.in-Open.found done _ _ _ _ c.in-Open.is used) c.end_open.ensures.used

pub returns-in-Open-clause-ended : goal.returns-in-Open-clause-ended
returns-in-Open-clause-ended g c = grind (arith, common_steps)

pub returns-in-Open-clause-kept : goal.returns-in-Open-clause-kept
returns-in-Open-clause-kept g c = grind (arith, common_steps)

pub returns-in-Place-clause-ended : goal.returns-in-Place-clause-ended
returns-in-Place-clause-ended g c = grind (arith, common_steps)

pub end_leaf-requires-clause-leaf : goal.end_leaf-requires-clause-leaf
end_leaf-requires-clause-leaf g c = subst (IsReached c.args.work.now.core c.args.node) c.in-Leaf.is c.requires.reached

pub returns-in_err-end-in-Leaf-clause-kept : goal.returns-in_err-end-in-Leaf-clause-kept
returns-in_err-end-in-Leaf-clause-kept g c =
    (ap (λ (rows : Pool × Bool). rows.0) c.end_leaf.ensures.rows, c.requires.sound, ran_none (g.R.Seated.state c.args.plugins.now.roster), refl)

pub returns-in_ok-end-in-Leaf-clause-kept : goal.returns-in_ok-end-in-Leaf-clause-kept
returns-in_ok-end-in-Leaf-clause-kept g c =
    (ap (λ (rows : Pool × Bool). rows.0) c.end_leaf.ensures.rows, c.requires.sound, ran_none (g.R.Seated.state c.args.plugins.now.roster), refl)

pub returns-in_ok-end-in-Leaf-clause-used : goal.returns-in_ok-end-in-Leaf-clause-used
returns-in_ok-end-in-Leaf-clause-used g c = ends_leaf _ _ _ _ _ _ c.in-Leaf.is c.in_ok-end-in-Leaf.ensures.kind

pub returns-in_ok-end-in-Leaf-clause-ended : goal.returns-in_ok-end-in-Leaf-clause-ended
returns-in_ok-end-in-Leaf-clause-ended g c = grind (arith, common_steps)

pub end_open-requires-clause-up : goal.end_open-requires-clause-up
end_open-requires-clause-up g c = grind (arith, common_steps)

pub end_parted-requires-clause-up : goal.end_parted-requires-clause-up
end_parted-requires-clause-up g c = grind (arith, common_steps)

pub end_leaf-requires-clause-up : goal.end_leaf-requires-clause-up
end_leaf-requires-clause-up g c = grind (arith, common_steps)

pub end_open-requires-clause-sound : goal.end_open-requires-clause-sound
end_open-requires-clause-sound g c = grind (arith, common_steps)

pub end_leaf-requires-clause-given : goal.end_leaf-requires-clause-given
end_leaf-requires-clause-given g c = grind (arith, common_steps)

pub close_empty-requires-clause-up : goal.close_empty-requires-clause-up
close_empty-requires-clause-up g c = grind (arith, common_steps)

pub returns-in_err-end-in-Leaf-clause-used : goal.returns-in_err-end-in-Leaf-clause-used
returns-in_err-end-in-Leaf-clause-used g c = IfOk-from_err c.from_residual.result _ c.from_residual.ensures.0
