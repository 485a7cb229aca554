use Rattle.std.proofs.lemmas.Result.{MatchResult-from_err}
use Rattle.std.proofs.lemmas.Grind.{common_steps}
use Rattle.std.proofs.Common.{◌≡◌, ◌+◌, IfSome, length, false, true, ◌∙◌, sym, ap, subst, arith, to_z, of_z}
use mir.Syntax.{w128}
use Rattle.std.proofs.lemmas.Int.{ints}
use Rattle.cip_problem.specs.Log.{Split, Closed, matters}
use Rattle.cip_tree.specs.Nodes.{region_of}
use Rattle.cip_domain.specs.Changes.{Region}
use Rattle.cip_core.specs.CoreStates.{CoreState, reduced_of, held_of}
use Rattle.cip_core.specs.KeptNodes.{farthest}
use Rattle.cip_core.specs.SplitPlaces.{IsSplitPlace}
use Rattle.cip_core.specs.Steps.{HasLeft}
use Rattle.cip_core.proofs.CoreSteps.{work_long}
use Rattle.cip_node.specs.Bounding.{point_of, IsSplitBy}
use Rattle.cip_node.specs.NodeEnds.{HasEnded}
use Rattle.cip_node.specs.SameRows.{rows_of}
use Rattle.cip_node.specs.declared.ends.NodeEnd.TheVariants as by
use Rattle.cip_node.proofs.EndLaws.{pruned_ended, halved_ended}
use Rattle.cip_node.proofs.Ruled.{core_place, place_within, not_settled}
use Rattle.cip_node.proofs.works.NodeWork.branch.Goals as goal

pub close_pruned-requires-clause-up : goal.close_pruned-requires-clause-up
close_pruned-requires-clause-up c = c.requires.up.0

pub close_pruned-requires-clause-passed : goal.close_pruned-requires-clause-passed
close_pruned-requires-clause-passed c =
    let core = c.args.self.now.core in
    sym (c.matters.ensures ∙ ap (λ h. matters h c.bound.result) c.held_cost.ensures ∙ ap (matters (held_of core)) c.bound.ensures) ∙ c.if-not-matters.true

pub returns-then-not-matters-clause-rows : goal.returns-then-not-matters-clause-rows
returns-then-not-matters-clause-rows c = ap rows_of c.close_pruned.ensures.frame

pub place_by-requires-clause-values : goal.place_by-requires-clause-values
place_by-requires-clause-values c =
    subst (λ (r : Region). IfSome (point_of c.args.found.now) (λ values. length values ≡ length r.box)) (sym c.requires.open_.full.region) c.requires.found.long

pub split-requires-clause-at_work : goal.split-requires-clause-at_work
split-requires-clause-at_work c = record { up = c.requires.up.0; region = c.requires.open_.full.region }

pub split-requires-clause-given : goal.split-requires-clause-given
split-requires-clause-given c = c.requires.given

pub split-requires-clause-wholes : goal.split-requires-clause-wholes
split-requires-clause-wholes c = c.requires.open_.full.wholes

pub returns-in_err-low-in-Some-clause-rows : goal.returns-in_err-low-in-Some-clause-rows
returns-in_err-low-in-Some-clause-rows c = ap rows_of c.split.ensures.frame

pub returns-clause-rows : goal.returns-clause-rows
returns-clause-rows c = ap rows_of c.in_ok-low-in-Some.ensures.frame

pub split-requires-clause-place : goal.split-requires-clause-place
split-requires-clause-place c =
    let core = c.args.self.now.core in
    let node = c.args.node in
    let at = c.in-Some.field-0.at in
    let column = c.in-Some.field-0.col in
    let e : to_z w128 (of_z w128 at) ≡ at = omega (arith, ints) in
    let place = core_place core node (point_of c.args.found.now) column at c.is_sound.ensures.reduced c.requires.up.0 c.requires.open_.full.region c.in-Some.ensures in
    (c.requires.up.1, place_within (reduced_of core).integral (region_of core.tree node) (farthest core.tree.ids + 1) column at place, subst (IsSplitPlace (reduced_of core).integral (region_of core.tree node) (farthest core.tree.ids + 1) column) (sym e) place)

pub returns-then-not-matters-clause-ended : goal.returns-then-not-matters-clause-ended
returns-then-not-matters-clause-ended c =
    let core = c.args.self.now.core in
    let node = c.args.node in
    let passed : matters (held_of core) node.bound ≡ false = sym (c.matters.ensures ∙ ap (λ h. matters h c.bound.result) c.held_cost.ensures ∙ ap (matters (held_of core)) c.bound.ensures) ∙ c.if-not-matters.true in
    subst (λ (k : CoreState). HasEnded core k node c.args.found.now.mark by.Pruned) (sym c.close_pruned.ensures.frame)
    (pruned_ended core c.close_pruned.new.self.tree node c.args.found.now c.requires.found (subst (λ (k : CoreState). HasLeft core k node Closed) c.close_pruned.ensures.frame c.close_pruned.ensures.left) passed)

pub returns-clause-ended : goal.returns-clause-ended
returns-clause-ended c =
    let core = c.args.self.now.core in
    let node = c.args.node in
    let at = c.in-Some.field-0.at in
    let column = c.in-Some.field-0.col in
    let low = c.in_ok-low-in-Some.low in
    let high = c.in_ok-low-in-Some.high in
    let e : to_z w128 (of_z w128 at) ≡ at = omega (arith, ints) in
    let matter : matters (held_of core) node.bound ≡ true = sym (c.matters.ensures ∙ ap (λ h. matters h c.bound.result) c.held_cost.ensures ∙ ap (matters (held_of core)) c.bound.ensures) ∙ c.if-not-matters.false in
    let rule = subst (λ (r : Region). IsSplitBy (reduced_of core).integral r (point_of c.args.found.now) column at) c.requires.open_.full.region c.in-Some.ensures in
    let left = subst (λ z. HasLeft core c.split.new.self node (Split column z low high)) e c.in_ok-low-in-Some.ensures.split in
    subst (λ (k : CoreState). HasEnded core k node c.args.found.now.mark (by.Split low high)) (sym c.in_ok-low-in-Some.ensures.frame)
    (halved_ended core c.split.new.self.tree node c.args.found.now c.requires.found column at low high (subst (λ (k : CoreState). HasLeft core k node (Split column at low high)) c.in_ok-low-in-Some.ensures.frame left) matter rule)

pub place_by-requires-clause-columns : goal.place_by-requires-clause-columns
place_by-requires-clause-columns c =
    work_long c.args.self.now.core c.args.node c.is_sound.ensures.reduced (record { up = c.requires.up.0; region = c.requires.open_.full.region })

pub unreachable-unreachable : goal.unreachable-unreachable
unreachable-unreachable c = grind (arith, common_steps)

pub unreachable-requires : goal.unreachable-requires
unreachable-requires c =
    let core = c.args.self.now.core in
    not_settled (reduced_of core).integral core.tree.work (region_of core.tree c.args.node) c.requires.open_.full.region c.requires.open_.open_ c.in-None.ensures

pub returns-in_err-low-in-Some-clause-ended : goal.returns-in_err-low-in-Some-clause-ended
returns-in_err-low-in-Some-clause-ended c =
    MatchResult-from_err c.from_residual.result _ _ c.from_residual.ensures.0 (λ _. c.in_err-low-in-Some.ensures.split)
