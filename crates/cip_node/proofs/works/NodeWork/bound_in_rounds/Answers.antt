use Rattle.cip_node.specs.Bounding.{IsBounded}
use Rattle.cip_core.specs.CoreStates.{CoreState}
use Rattle.std.proofs.lemmas.Grind.{common_steps}
use Rattle.std.proofs.Common.{◌∙◌, refl, arith, sym, subst}
use Rattle.cip_core.proofs.Relations.{later_at_itself, later_at_further}
use Rattle.cip_node.proofs.works.NodeWork.bound_in_rounds.Goals as goal

pub returns-in_err-last-clause-later : goal.returns-in_err-last-clause-later
returns-in_err-last-clause-later c = later_at_further _ _ _ _ _ _ c.loop.invariant.later c.bound.ensures.later

pub returns-then-not-add_rows-clause-later : goal.returns-then-not-add_rows-clause-later
returns-then-not-add_rows-clause-later c =
    later_at_further _ _ _ _ _ _ c.loop.invariant.later (later_at_further _ _ _ _ _ _ c.bound.ensures.later c.add_rows.ensures.later)

pub loop-init : goal.loop-init
loop-init c = record {
  later = later_at_itself c.args.self.now.core c.args.node.now c.requires;
  region = refl;
  rows = refl;
}

pub returns-clause-later : goal.returns-clause-later
returns-clause-later c = later_at_further _ _ _ _ _ _ c.loop.invariant.later c.bound-2.ensures.later

pub loop-preserved : goal.loop-preserved
loop-preserved c = record {
  later = later_at_further _ _ _ _ _ _ c.loop.invariant.later (later_at_further _ _ _ _ _ _ c.bound.ensures.later c.add_rows.ensures.later);
  region = c.add_rows.ensures.region ∙ c.bound.ensures.region ∙ c.loop.invariant.region;
  rows = c.add_rows.ensures.rows ∙ c.bound.ensures.rows ∙ c.loop.invariant.rows;
}

pub returns-then-not-add_rows-clause-region : goal.returns-then-not-add_rows-clause-region
returns-then-not-add_rows-clause-region c = c.add_rows.ensures.region ∙ c.bound.ensures.region ∙ c.loop.invariant.region

pub returns-then-not-add_rows-clause-rows : goal.returns-then-not-add_rows-clause-rows
returns-then-not-add_rows-clause-rows c = c.add_rows.ensures.rows ∙ c.bound.ensures.rows ∙ c.loop.invariant.rows

pub returns-clause-region : goal.returns-clause-region
returns-clause-region c = grind (arith, common_steps)

pub returns-clause-rows : goal.returns-clause-rows
returns-clause-rows c = grind (arith, common_steps)

pub returns-in_err-last-clause-region : goal.returns-in_err-last-clause-region
returns-in_err-last-clause-region c = c.bound.ensures.region ∙ c.loop.invariant.region

pub returns-in_err-last-clause-rows : goal.returns-in_err-last-clause-rows
returns-in_err-last-clause-rows c = c.bound.ensures.rows ∙ c.loop.invariant.rows

pub returns-clause-bounded : goal.returns-clause-bounded
returns-clause-bounded c = grind (arith, common_steps)

pub bound-requires-2 : goal.bound-requires-2
bound-requires-2 c = grind (arith, common_steps)

pub bound-requires : goal.bound-requires
bound-requires c = grind (arith, common_steps)

pub returns-then-not-add_rows-clause-bounded : goal.returns-then-not-add_rows-clause-bounded
returns-then-not-add_rows-clause-bounded c =
    subst (λ (k : CoreState). IsBounded k c.bound.new.node c.in_ok-last.last) (sym (c.add_rows.ensures.none c.if-not-add_rows.true))
    c.in_ok-last.ensures.bounded

pub add_rows-requires : goal.add_rows-requires
add_rows-requires c = c.bound.ensures.later.at_work
