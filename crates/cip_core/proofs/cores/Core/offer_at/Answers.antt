use Rattle.std.proofs.lemmas.Grind.{common_steps}
use Rattle.std.proofs.Common.{◌≡◌, ◌∷◌, [], ◌∙◌, length, sym, ap, subst, arith}
use Rattle.cip_problem.specs.WellFormed.{columns}
use Rattle.cip_model.specs.Meaning.{VerdictHolds}
use Rattle.cip_model.specs.Verdicts.{verdict_of}
use Rattle.cip_model.specs.declared.verdicts.Verdict.TheVariants.{Feasible}
use Rattle.cip_model.proofs.Meaning.Point.{verdict_holds}
use Rattle.cip_tree.specs.Nodes.{shown}
use Rattle.cip_core.specs.CoreStates.{CoreState, reduced_of, way_of, IsAtWork, IsFitted}
use Rattle.cip_core.specs.CutoffRow.{cutoff_side, with_high}
use Rattle.cip_core.specs.KeptNodes.{cost_held}
use Rattle.cip_core.specs.Later.{IsLaterAt}
use Rattle.cip_core.specs.Steps.{IsOffered, IsTrimmed}
use Rattle.cip_core.proofs.HeldAfter.{kept_after, no_dearer_after, holding_after, room_after, tried_after, known_answer, known_after}
use Rattle.cip_core.proofs.CoreSteps.{later_offered, sound_offered, fitted_offered}
use Rattle.cip_core.proofs.cores.Core.offer_at.Goals as goal

pub returns-clause-offered : goal.returns-clause-offered
returns-clause-offered c =
    let core : CoreState = record { program = c.self.inside.program.now; reduced = c.self.inside.reduced.now; steps = c.self.inside.steps.now; pool = c.self.inside.pool; tree = c.self.inside.tree; incumbent = c.self.inside.incumbent; touched = c.self.inside.touched } in
    let same : core ≡ c.args.self.now = c.self.view_is in
    let node = c.args.node.now in
    let point = c.args.point.now in
    let formed = c.columns-columns.ensures.formed in
    let values = subst (λ (o : CoreState). length point ≡ columns o.program) (sym same) c.requires.values in
    let found = subst (λ (o : CoreState). verdict_of o.program point ≡ Feasible c.args.cost) (sym same) c.requires.found in
    let holding = c.offer_at-answer.new.self in
    let answer = c.offer_at-answer.result in
    let holds = verdict_holds core.program point formed values in
    let is_answer = (known_answer core.program core.incumbent holding answer point c.args.cost formed values found c.offer_at-answer.ensures.answer c.offer_at-answer.ensures.after) in
    let is_after = (known_after core.program core.incumbent holding answer point c.args.cost formed values found c.offer_at-answer.ensures.answer c.offer_at-answer.ensures.after) in
    let feasible = (holding_after core.program core.incumbent holding answer point (subst (VerdictHolds core.program point) found holds).0 is_after c.self.invariant.0.is_held.feasible) in
    let cheaper = no_dearer_after core.program core.incumbent holding answer point (verdict_of core.program point) holds is_answer is_after in
    subst (λ (o : CoreState). IsOffered o (record core { tree = c.let_go.new.tree; incumbent = holding }) point answer) same (record {
      tried = tried_after core.program core.incumbent holding answer point holds is_answer is_after;
      is_answer = is_answer;
      after = is_after;
      trimmed = subst (IsTrimmed core.tree c.let_go.new.tree) c.cost_of-held_now.ensures c.let_go.ensures;
    })

pub returns-clause-later : goal.returns-clause-later
returns-clause-later c =
    let core : CoreState = record { program = c.self.inside.program.now; reduced = c.self.inside.reduced.now; steps = c.self.inside.steps.now; pool = c.self.inside.pool; tree = c.self.inside.tree; incumbent = c.self.inside.incumbent; touched = c.self.inside.touched } in
    let same : core ≡ c.args.self.now = c.self.view_is in
    let node = c.args.node.now in
    let point = c.args.point.now in
    let formed = c.columns-columns.ensures.formed in
    let values = subst (λ (o : CoreState). length point ≡ columns o.program) (sym same) c.requires.values in
    let found = subst (λ (o : CoreState). verdict_of o.program point ≡ Feasible c.args.cost) (sym same) c.requires.found in
    let holding = c.offer_at-answer.new.self in
    let answer = c.offer_at-answer.result in
    let holds = verdict_holds core.program point formed values in
    let is_answer = (known_answer core.program core.incumbent holding answer point c.args.cost formed values found c.offer_at-answer.ensures.answer c.offer_at-answer.ensures.after) in
    let is_after = (known_after core.program core.incumbent holding answer point c.args.cost formed values found c.offer_at-answer.ensures.answer c.offer_at-answer.ensures.after) in
    let feasible = (holding_after core.program core.incumbent holding answer point (subst (VerdictHolds core.program point) found holds).0 is_after c.self.invariant.0.is_held.feasible) in
    let cheaper = no_dearer_after core.program core.incumbent holding answer point (verdict_of core.program point) holds is_answer is_after in
    let at_work = subst (λ (o : CoreState). IsAtWork o node) (sym same) c.requires.at_work in
    let tree = c.let_go.new.tree in
    let trimmed = subst (IsTrimmed core.tree tree) c.cost_of-held_now.ensures c.let_go.ensures in
    let kept = kept_after core.program (reduced_of core) (way_of core) core.tree (shown core.tree node ∷ []) core.incumbent holding answer point (verdict_of core.program point) holds is_answer is_after feasible at_work.up.nodes.kept in
    subst (λ (o : CoreState). IsLaterAt o node (record core { tree = tree; incumbent = holding }) node) same (later_offered core node holding tree at_work cheaper trimmed kept)

pub invariant_of-self : goal.invariant_of-self
invariant_of-self c =
    let core : CoreState = record { program = c.self.inside.program.now; reduced = c.self.inside.reduced.now; steps = c.self.inside.steps.now; pool = c.self.inside.pool; tree = c.self.inside.tree; incumbent = c.self.inside.incumbent; touched = c.self.inside.touched } in
    let same : core ≡ c.args.self.now = c.self.view_is in
    let node = c.args.node.now in
    let point = c.args.point.now in
    let formed = c.columns-columns.ensures.formed in
    let values = subst (λ (o : CoreState). length point ≡ columns o.program) (sym same) c.requires.values in
    let found = subst (λ (o : CoreState). verdict_of o.program point ≡ Feasible c.args.cost) (sym same) c.requires.found in
    let holding = c.offer_at-answer.new.self in
    let answer = c.offer_at-answer.result in
    let holds = verdict_holds core.program point formed values in
    let is_answer = (known_answer core.program core.incumbent holding answer point c.args.cost formed values found c.offer_at-answer.ensures.answer c.offer_at-answer.ensures.after) in
    let is_after = (known_after core.program core.incumbent holding answer point c.args.cost formed values found c.offer_at-answer.ensures.answer c.offer_at-answer.ensures.after) in
    let feasible = (holding_after core.program core.incumbent holding answer point (subst (VerdictHolds core.program point) found holds).0 is_after c.self.invariant.0.is_held.feasible) in
    let cheaper = no_dearer_after core.program core.incumbent holding answer point (verdict_of core.program point) holds is_answer is_after in
    let room = room_after core.program core.incumbent holding answer point is_after c.self.invariant.0.is_held.room in
    let side = c.side_of-side.ensures ∙ ap (λ h. cutoff_side core.reduced h) c.cost_of-held_now.ensures in (
      sound_offered core c.let_go.new.tree holding (record { feasible = feasible; room = room }) cheaper c.self.invariant.0,
      subst (λ k. IsFitted core.reduced (cost_held holding) k c.self.inside.whole_costs (length c.self.inside.scratch.row.entries))
          (sym (c.set_side.ensures ∙ ap (with_high c.self.inside.cutoff) side))
          (fitted_offered core.reduced (cost_held core.incumbent) (cost_held holding) c.self.inside.cutoff c.self.inside.whole_costs (length c.self.inside.scratch.row.entries) c.self.invariant.1),
    )

pub offer_at-answer-requires : goal.offer_at-answer-requires
offer_at-answer-requires c = grind (arith, common_steps)

pub returns-clause-frame : goal.returns-clause-frame
returns-clause-frame c = grind (arith, common_steps)
