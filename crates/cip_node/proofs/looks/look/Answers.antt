use Rattle.std.proofs.lemmas.Grind.{common_steps}
use Rattle.std.proofs.Common.{◌∙◌, inl, length, sym, ap, subst, arith}
use Rattle.cip_problem.specs.Program.{Program}
use Rattle.cip_tree.specs.Nodes.{region_of}
use Rattle.cip_tree.specs.Walks.{IsEntered}
use Rattle.cip_node_rules.specs.BoxLooks.{IsBoxLook}
use Rattle.cip_core.specs.CoreStates.{IsAtWork}
use Rattle.cip_core.proofs.CoreSteps.{work_long}
use Rattle.cip_node.proofs.Looked.{look_entered}
use Rattle.cip_node.proofs.looks.look.Goals as goal

pub look_at-requires-clause-long : goal.look_at-requires-clause-long
look_at-requires-clause-long c =
    let core = c.enter.new.self in
    let node = c.args.node.now in
    let e = subst (IsEntered core.tree.work (region_of core.tree node)) c.if-not-branch.false c.in_ok-enter.ensures.entered in
    let w : IsAtWork core node = record { up = c.in_ok-enter.ensures.up; region = e } in
    let formed = c.is_sound.ensures.reduced in
    ap length (c.whole.ensures.whole ∙ ap (λ (p : Program). p.integral) c.reduced-reduced.ensures) ∙ formed.integral ∙ sym (work_long core node formed w) ∙ sym (ap length c.bounds.ensures)

pub returns-then-not-branch-clause-look : goal.returns-then-not-branch-clause-look
returns-then-not-branch-clause-look c =
    let core = c.enter.new.self in
    inl (subst (IsEntered core.tree.work (region_of core.tree c.args.node.now)) c.if-not-branch.true c.in_ok-enter.ensures.entered)

pub returns-clause-look : goal.returns-clause-look
returns-clause-look c =
    let core = c.enter.new.self in
    let node = c.args.node.now in
    let e = subst (IsEntered core.tree.work (region_of core.tree node)) c.if-not-branch.false c.in_ok-enter.ensures.entered in
    look_entered core node c.look_at.result e
    (subst (λ i. IsBoxLook i core.tree.work.box core.tree.work.choices c.look_at.result) (c.whole.ensures.whole ∙ ap (λ (p : Program). p.integral) c.reduced-reduced.ensures)
    (subst (λ b. IsBoxLook c.whole.result.now b core.tree.work.choices c.look_at.result) c.bounds.ensures
    (subst (λ o. IsBoxLook c.whole.result.now c.bounds.result.now o c.look_at.result) c.choices.ensures c.look_at.ensures)))

pub look_at-requires-clause-columns : goal.look_at-requires-clause-columns
look_at-requires-clause-columns c = grind (arith, common_steps)

pub returns-clause-up : goal.returns-clause-up
returns-clause-up c = grind (arith, common_steps)

pub returns-clause-frame : goal.returns-clause-frame
returns-clause-frame c = grind (arith, common_steps)

pub returns-then-not-branch-clause-up : goal.returns-then-not-branch-clause-up
returns-then-not-branch-clause-up c = grind (arith, common_steps)

pub returns-then-not-branch-clause-frame : goal.returns-then-not-branch-clause-frame
returns-then-not-branch-clause-frame c = grind (arith, common_steps)

pub returns-in_err-enter-clause-frame : goal.returns-in_err-enter-clause-frame
returns-in_err-enter-clause-frame c = grind (arith, common_steps)
