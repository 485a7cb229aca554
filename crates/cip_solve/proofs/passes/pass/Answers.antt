use Rattle.std.proofs.lemmas.Result.{IfOk-from_err}
use Rattle.std.proofs.lemmas.Grind.{common_steps}
use Rattle.std.proofs.Common.{◌≢◌, ◌∷◌, [], ◌∙◌, sym, subst, arith}
use Rattle.cip_plugin.specs.Calls.{Propagate, Separate, Search}
use Rattle.cip_node_rules.specs.declared.looks.Looked.TheVariants.{Empty, Open}
use Rattle.cip_calls.proofs.PassedOn.{come_further, used_further}
use Rattle.cip_node.specs.Bounding.{IsBounded}
use Rattle.cip_node.proofs.Looked.{open_after}
use Rattle.cip_solve.specs.NodesReached.{IsOpenBounded, IsSeen}
use Rattle.cip_solve.proofs.passes.pass.Goals as goal

pub returns-in-Empty-clause-reached : goal.returns-in-Empty-clause-reached
returns-in-Empty-clause-reached g c = subst (IsSeen c.narrow.new.core c.narrow.new.node) c.in-Empty.is c.in_ok-narrow.ensures.seen

pub returns-in-Leaf-clause-reached : goal.returns-in-Leaf-clause-reached
returns-in-Leaf-clause-reached g c = subst (IsSeen c.narrow.new.core c.narrow.new.node) c.in-Leaf.is c.in_ok-narrow.ensures.seen

open_not_empty : Open ≢ Empty
open_not_empty e = cc

pub returns-in-Empty-clause-come : goal.returns-in-Empty-clause-come
returns-in-Empty-clause-come g c = c.narrow.ensures.come

pub returns-in-Leaf-clause-come : goal.returns-in-Leaf-clause-come
returns-in-Leaf-clause-come g c = c.narrow.ensures.come

pub returns-in_err-separate-in-Open-clause-come : goal.returns-in_err-separate-in-Open-clause-come
returns-in_err-separate-in-Open-clause-come g c = come_further _ _ _ _ _ _ _ _ _ _ _ _ _ c.narrow.ensures.come c.separate.ensures.come

pub returns-in-Empty-2-clause-come : goal.returns-in-Empty-2-clause-come
returns-in-Empty-2-clause-come g c = come_further _ _ _ _ _ _ _ _ _ _ _ _ _ c.narrow.ensures.come c.separate.ensures.come

pub returns-in-Empty-2-clause-reached : goal.returns-in-Empty-2-clause-reached
returns-in-Empty-2-clause-reached g c = subst (IsBounded c.separate.new.work.core c.separate.new.node) c.in-Empty-2.is c.in_ok-separate-in-Open.ensures.bounded

pub improve-requires-clause-open_ : goal.improve-requires-clause-open_
improve-requires-clause-open_ g c = (
  open_after c.narrow.new.core c.separate.new.work.core c.narrow.new.node c.separate.new.node c.separate.ensures.come.later c.separate.ensures.region
      (subst (IsSeen c.narrow.new.core c.narrow.new.node) c.in-Open.is c.in_ok-narrow.ensures.seen),
  subst (IsBounded c.separate.new.work.core c.separate.new.node) c.in-Open-2.is c.in_ok-separate-in-Open.ensures.bounded,
)

pub returns-in-Err-clause-come : goal.returns-in-Err-clause-come
returns-in-Err-clause-come g c = come_further _ _ _ _ _ _ _ _ _ _ _ _ _ (come_further _ _ _ _ _ _ _ _ _ _ _ _ _ c.narrow.ensures.come c.separate.ensures.come) c.improve.ensures.come

pub returns-in-Ok-clause-come : goal.returns-in-Ok-clause-come
returns-in-Ok-clause-come g c = come_further _ _ _ _ _ _ _ _ _ _ _ _ _ (come_further _ _ _ _ _ _ _ _ _ _ _ _ _ c.narrow.ensures.come c.separate.ensures.come) c.improve.ensures.come

pub returns-in-Ok-clause-used : goal.returns-in-Ok-clause-used
returns-in-Ok-clause-used g c =
    let first = c.in_ok-narrow.ensures.used (λ e. open_not_empty (sym c.in-Open.is ∙ e)) in
    used_further (Propagate ∷ []) (Separate ∷ Search ∷ []) _ _ _ _ _ _ c.narrow.ensures.come.sound.settled first
    (used_further (Separate ∷ []) (Search ∷ []) _ _ _ _ _ _ c.separate.ensures.come.sound.settled
    (c.in_ok-separate-in-Open.ensures.used (subst IsOpenBounded (sym c.in-Open-2.is) tt)) c.in-Ok.ensures.used)

pub returns-in-Ok-clause-reached : goal.returns-in-Ok-clause-reached
returns-in-Ok-clause-reached g c = c.improve.ensures.open_

pub separate-requires : goal.separate-requires
separate-requires g c = record { ready = (c.narrow.ensures.come.ready, c.narrow.ensures.come.sound) }

pub returns-in-Err-clause-used : goal.returns-in-Err-clause-used
returns-in-Err-clause-used g c = grind (arith, common_steps)

pub returns-in-Err-clause-reached : goal.returns-in-Err-clause-reached
returns-in-Err-clause-reached g c = grind (arith, common_steps)

pub returns-in-Empty-2-clause-used : goal.returns-in-Empty-2-clause-used
returns-in-Empty-2-clause-used g c = grind (arith, common_steps)

pub narrow-requires : goal.narrow-requires
narrow-requires g c = record { ready = c.requires.ready }

pub returns-in-Leaf-clause-used : goal.returns-in-Leaf-clause-used
returns-in-Leaf-clause-used g c = grind (arith, common_steps)

pub returns-in-Empty-clause-used : goal.returns-in-Empty-clause-used
returns-in-Empty-clause-used g c = grind (arith, common_steps)

pub improve-requires-clause-ready : goal.improve-requires-clause-ready
improve-requires-clause-ready g c = (c.separate.ensures.come.ready, c.separate.ensures.come.sound)

pub returns-in_err-narrow-clause-reached : goal.returns-in_err-narrow-clause-reached
returns-in_err-narrow-clause-reached g c = IfOk-from_err c.from_residual.result _ c.from_residual.ensures.0

pub returns-in_err-narrow-clause-used : goal.returns-in_err-narrow-clause-used
returns-in_err-narrow-clause-used g c = IfOk-from_err c.from_residual.result _ c.from_residual.ensures.0

pub returns-in_err-separate-in-Open-clause-reached : goal.returns-in_err-separate-in-Open-clause-reached
returns-in_err-separate-in-Open-clause-reached g c = IfOk-from_err c.from_residual-in_err-separate-in-Open.result _ c.from_residual-in_err-separate-in-Open.ensures.0

pub returns-in_err-separate-in-Open-clause-used : goal.returns-in_err-separate-in-Open-clause-used
returns-in_err-separate-in-Open-clause-used g c = IfOk-from_err c.from_residual-in_err-separate-in-Open.result _ c.from_residual-in_err-separate-in-Open.ensures.0

pub returns-in_err-narrow-clause-come : goal.returns-in_err-narrow-clause-come
returns-in_err-narrow-clause-come g c = c.narrow.ensures.come
