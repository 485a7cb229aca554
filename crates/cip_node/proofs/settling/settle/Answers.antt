use Rattle.std.proofs.lemmas.Grind.{common_steps}
use Rattle.std.proofs.Common.{◌≡◌, None, length, ◌∙◌, sym, ap, subst, arith}
use Rattle.cip_problem.specs.Log.{Parked}
use Rattle.cip_leaf.specs.LeafAnswers.{IsBest, IsLeafAnswer, shown_as}
use Rattle.cip_problem.specs.Points.{IsFeasible}
use Rattle.cip_model.specs.Rays.{IsShownRay}
use Rattle.cip_model.specs.Verdicts.{verdict_of}
use Rattle.cip_tree.specs.Nodes.{box_of, shown}
use Rattle.cip_core.specs.CoreStates.{CoreState, reduced_of, held_of}
use Rattle.cip_core.specs.Steps.{HasLeft, IsTried}
use Rattle.cip_core.proofs.CoreSteps.{with_tree}
use Rattle.cip_node.specs.NodeEnds.{HasEnded}
use Rattle.cip_node.specs.SolvedLeaves.{leaf_of}
use Rattle.cip_node.specs.declared.ends.NodeEnd.TheVariants as by
use Rattle.cip_node.proofs.EndLaws.{ended_here, none_kept, none_now, emptied, solved_ended, aside_ended, endless_ended}
use Rattle.cip_node.proofs.LeafSettled.{none_there, best_after, wide_back, wide_stuck, feasible_back, long_point, work_node_of, back_of}
use Rattle.cip_node.proofs.settling.settle.Goals as goal

pub offer_at-answer-requires-clause-values : goal.offer_at-answer-requires-clause-values
offer_at-answer-requires-clause-values c =
    let core = c.args.core.now in
    let r = subst (IsLeafAnswer core.program (leaf_of c.args.solved)) c.in-Best.is c.requires.solved.answer in
    ap length c.as_slice.ensures.value ∙ long_point core.program (leaf_of c.args.solved) c.in-Best.point.items c.is_sound.ensures.formed c.requires.solved.there.is_leaf r.is_point

pub offer_at-answer-requires-clause-found : goal.offer_at-answer-requires-clause-found
offer_at-answer-requires-clause-found c =
    let core = c.args.core.now in
    let r = subst (IsLeafAnswer core.program (leaf_of c.args.solved)) c.in-Best.is c.requires.solved.answer in
    ap (verdict_of core.program) c.as_slice.ensures.value ∙ r.found

pub close_empty-requires-clause-empty : goal.close_empty-requires-clause-empty
close_empty-requires-clause-empty c =
    let core = c.args.core.now in
    let mid = c.offer_at-answer.new.self in
    let r = subst (IsLeafAnswer core.program (leaf_of c.args.solved)) c.in-Best.is c.requires.solved.answer in
    let b = subst (λ p. IsBest core.program (leaf_of c.args.solved) p c.in-Best.cost) (sym c.as_slice.ensures.value) r in
    none_now core mid c.args.node c.args.node c.offer_at-answer.ensures.later
    (best_after core mid c.args.node (leaf_of c.args.solved) c.as_slice.result.now c.in-Best.cost c.offer_at-answer.result c.requires.at_work.up c.requires.solved.there b c.offer_at-answer.ensures.offered c.offer_at-answer.ensures.later.later)

pub close_empty-requires-in-NoPoint-clause-empty : goal.close_empty-requires-in-NoPoint-clause-empty
close_empty-requires-in-NoPoint-clause-empty c =
    let core = c.args.core.now in
    none_there core.program (reduced_of core) core.steps (held_of core) (shown core.tree c.args.node) (leaf_of c.args.solved) (back_of core c.args.node c.requires.at_work.up) (work_node_of core c.args.node c.requires.at_work.up) c.requires.solved.there
    (subst (IsLeafAnswer core.program (leaf_of c.args.solved)) c.in-NoPoint.is c.requires.solved.answer)

pub offer-answer-requires-clause-values : goal.offer-answer-requires-clause-values
offer-answer-requires-clause-values c =
    let core = c.args.core.now in
    let r = subst (IsLeafAnswer core.program (leaf_of c.args.solved)) c.in-Unbounded.is c.requires.solved.answer in
    ap length c.as_slice-in-Unbounded.ensures.value ∙ long_point core.program (leaf_of c.args.solved) c.in-Unbounded.point.items c.is_sound.ensures.formed c.requires.solved.there.is_leaf r.is_point

pub returns-in-Best-clause-ended : goal.returns-in-Best-clause-ended
returns-in-Best-clause-ended c =
    let core = c.args.core.now in
    let mid = c.offer_at-answer.new.self in
    let r = subst (IsLeafAnswer core.program (leaf_of c.args.solved)) c.in-Best.is c.requires.solved.answer in
    let b = subst (λ p. IsBest core.program (leaf_of c.args.solved) p c.in-Best.cost) (sym c.as_slice.ensures.value) r in
    solved_ended core mid c.close_empty.new.self c.args.node (leaf_of c.args.solved) c.in-Best.point.items c.offer_at-answer.ensures.later c.close_empty.ensures.left c.requires.solved.there r.is_point
    (best_after core mid c.args.node (leaf_of c.args.solved) c.as_slice.result.now c.in-Best.cost c.offer_at-answer.result c.requires.at_work.up c.requires.solved.there b c.offer_at-answer.ensures.offered c.offer_at-answer.ensures.later.later)

pub returns-in-NoPoint-clause-ended : goal.returns-in-NoPoint-clause-ended
returns-in-NoPoint-clause-ended c =
    let core = c.args.core.now in
    let new = c.close_empty-in-NoPoint.new.self in
    let left = c.close_empty-in-NoPoint.ensures.left in
    emptied core new c.args.node left
    (none_kept core new (box_of core.tree c.args.node) left.later
    (none_there core.program (reduced_of core) core.steps (held_of core) (shown core.tree c.args.node) (leaf_of c.args.solved) (back_of core c.args.node c.requires.at_work.up) (work_node_of core c.args.node c.requires.at_work.up) c.requires.solved.there
    (subst (IsLeafAnswer core.program (leaf_of c.args.solved)) c.in-NoPoint.is c.requires.solved.answer)))

pub park-requires-clause-stuck : goal.park-requires-clause-stuck
park-requires-clause-stuck c =
    let core = c.args.core.now in
    let r = subst (IsLeafAnswer core.program (leaf_of c.args.solved)) c.in-Wide.is c.requires.solved.answer in
    wide_stuck core.program (reduced_of core) core.steps (shown core.tree c.args.node) (leaf_of c.args.solved) (shown_as c.in-Wide.shown) c.requires.solved.there r

pub returns-in-Wide-clause-ended : goal.returns-in-Wide-clause-ended
returns-in-Wide-clause-ended c =
    let core = c.args.core.now in
    let node = c.args.node in
    let r = subst (IsLeafAnswer core.program (leaf_of c.args.solved)) c.in-Wide.is c.requires.solved.answer in
    let left = subst (λ (k : CoreState). HasLeft core k node Parked) c.park.ensures.frame c.park.ensures.left in
    subst (λ (k : CoreState). HasEnded core k node None (by.Parked c.args.solved.values c.args.solved.on c.bound-bound.result c.in-Wide.shown)) (sym c.park.ensures.frame)
    (ended_here core (with_tree core c.park.new.self.tree) node None (by.Parked c.args.solved.values c.args.solved.on c.bound-bound.result c.in-Wide.shown) left.later left.few
    (aside_ended core c.park.new.self.tree node (leaf_of c.args.solved) c.bound-bound.result c.in-Wide.shown left c.bound-bound.ensures
    (wide_back core.program (reduced_of core) core.steps (shown core.tree node) (leaf_of c.args.solved) (shown_as c.in-Wide.shown) c.requires.solved.there r)) tt)

pub returns-in-Unbounded-clause-ended : goal.returns-in-Unbounded-clause-ended
returns-in-Unbounded-clause-ended c =
    let core = c.args.core.now in
    let node = c.args.node in
    let mid = c.offer-answer.new.self in
    let new = c.park_endless.new.self in
    let point = c.in-Unbounded.point.items in
    let r = subst (IsLeafAnswer core.program (leaf_of c.args.solved)) c.in-Unbounded.is c.requires.solved.answer in
    let program : new.program ≡ core.program = c.park_endless.ensures.later.program ∙ c.offer-answer.ensures.later.later.program in
    let tried = subst (IsTried mid.program (held_of mid)) c.as_slice-in-Unbounded.ensures.value c.offer-answer.ensures.offered.tried in
    endless_ended core mid new node (by.Ray c.in-Unbounded.point c.in-Unbounded.ray) c.offer-answer.ensures.later c.park_endless.ensures.later c.park_endless.ensures.ids (record {
      entry = c.park_endless.ensures.entry;
      logged = c.park_endless.ensures.logged;
      feasible = subst (λ p. IsFeasible p point) (sym program) (feasible_back core.program (leaf_of c.args.solved) point c.is_sound.ensures.formed c.requires.solved.there.is_leaf r.is_point);
      shown_ray = subst (λ p. IsShownRay p point c.in-Unbounded.ray.items) (sym program) r.shown;
      tried = subst (λ (k : CoreState). IsTried k.program (held_of k) point) (sym c.park_endless.ensures.frame) tried;
    })

pub close_empty-requires-in-NoPoint-clause-up : goal.close_empty-requires-in-NoPoint-clause-up
close_empty-requires-in-NoPoint-clause-up c = c.requires.at_work.up

pub offer-answer-requires-clause-at_work : goal.offer-answer-requires-clause-at_work
offer-answer-requires-clause-at_work c = c.requires.at_work

pub offer_at-answer-requires-clause-at_work : goal.offer_at-answer-requires-clause-at_work
offer_at-answer-requires-clause-at_work c = c.requires.at_work

pub park-requires-clause-up : goal.park-requires-clause-up
park-requires-clause-up c = c.requires.at_work.up

pub returns-in-Best-clause-rows : goal.returns-in-Best-clause-rows
returns-in-Best-clause-rows c = grind (arith, common_steps)

pub returns-in-Unbounded-clause-rows : goal.returns-in-Unbounded-clause-rows
returns-in-Unbounded-clause-rows c = grind (arith, common_steps)

pub returns-in-Wide-clause-rows : goal.returns-in-Wide-clause-rows
returns-in-Wide-clause-rows c = grind (arith, common_steps)

pub returns-in-NoPoint-clause-rows : goal.returns-in-NoPoint-clause-rows
returns-in-NoPoint-clause-rows c = grind (arith, common_steps)

pub close_empty-requires-clause-up : goal.close_empty-requires-clause-up
close_empty-requires-clause-up c = c.offer_at-answer.ensures.later.at_work.up

pub park_endless-requires : goal.park_endless-requires
park_endless-requires c = c.offer-answer.ensures.later.at_work.up

pub returns-in-Best-clause-kind : goal.returns-in-Best-clause-kind
returns-in-Best-clause-kind c = grind (arith, common_steps)

pub returns-in-Unbounded-clause-kind : goal.returns-in-Unbounded-clause-kind
returns-in-Unbounded-clause-kind c = grind (arith, common_steps)

pub returns-in-NoPoint-clause-kind : goal.returns-in-NoPoint-clause-kind
returns-in-NoPoint-clause-kind c = grind (arith, common_steps)

pub returns-in-Wide-clause-kind : goal.returns-in-Wide-clause-kind
returns-in-Wide-clause-kind c = grind (arith, common_steps)
