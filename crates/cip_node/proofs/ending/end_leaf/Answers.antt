use Rattle.std.proofs.lemmas.Grind.{common_steps}
use Rattle.std.proofs.Common.{◌≡◌, length, sym, ap, ◌∙◌, subst, arith}
use Rattle.cip_problem.specs.Program.{Program}
use Rattle.cip_problem.specs.WellFormed.{columns}
use Rattle.cip_domain.specs.Changes.{Region}
use Rattle.cip_core.specs.StepsBack.{StepsTaken}
use Rattle.cip_tree.specs.Nodes.{box_of, choices_of, shown}
use Rattle.cip_core.specs.CoreStates.{reduced_of, IsReducedBy, IsAtWork}
use Rattle.cip_core.proofs.CoreSteps.{work_long}
use Rattle.cip_leaf.specs.LeafAnswers.{IsLeafAnswer}
use Rattle.cip_node.specs.LeavesBack.{IsOnlyLeafBack}
use Rattle.cip_node.specs.SolvedLeaves.{leaf_of, HasOneLeaf}
use Rattle.cip_node.proofs.LeafSettled.{work_node_of, work_within}
use Rattle.cip_node.proofs.ending.end_leaf.Goals as goal

pub solve_leaf-requires-clause-one : goal.solve_leaf-requires-clause-one
solve_leaf-requires-clause-one c =
    let core = c.args.core.now in
    let node = c.args.node in
    let box : c.bounds.result.now ≡ box_of core.tree node = c.bounds.ensures ∙ ap (λ (r : Region). r.box) c.requires.leaf.full.region in
    let choices : c.choices.result.now ≡ choices_of core.tree node = c.choices.ensures ∙ ap (λ (r : Region). r.choices) c.requires.leaf.full.region in
    let w : IsAtWork core node = record { up = c.requires.up; region = c.requires.leaf.full.region } in
    subst (λ (p : Program). HasOneLeaf p c.bounds.result.now c.choices.result.now) (sym c.reduced-reduced.ensures)
    (subst (λ b. HasOneLeaf (reduced_of core) b c.choices.result.now) (sym box)
    (subst (HasOneLeaf (reduced_of core) (box_of core.tree node)) (sym choices) (record {
      wholes = c.requires.leaf.full.wholes;
      settled = c.requires.leaf.settled;
      within = work_within core node c.requires.up;
      still_open = (work_node_of core node c.requires.up).still_open;
      long = subst (λ b. length b ≡ columns (reduced_of core)) (ap (λ (r : Region). r.box) c.requires.leaf.full.region) (work_long core node c.is_sound.ensures.reduced w);
    })))

pub solve_leaf-requires-clause-back : goal.solve_leaf-requires-clause-back
solve_leaf-requires-clause-back c =
    let core = c.args.core.now in
    subst (λ (p : Program). IsReducedBy p c.reduced-reduced.result.now c.steps.result.now) (sym c.program-program.ensures)
    (subst (λ (r : Program). IsReducedBy core.program r c.steps.result.now) (sym c.reduced-reduced.ensures)
    (subst (λ (s : StepsTaken). IsReducedBy core.program (reduced_of core) s) (sym c.steps.ensures) c.is_sound.ensures.sound.back))

pub settle-requires-clause-solved : goal.settle-requires-clause-solved
settle-requires-clause-solved c =
    let core = c.args.core.now in
    let solved = c.in-Ok.solved in
    let node = shown core.tree c.args.node in
    record {
      there = subst (λ (p : Program). IsOnlyLeafBack p (reduced_of core) core.steps node (leaf_of solved)) c.program-program.ensures
          (subst (λ (r : Program). IsOnlyLeafBack c.program-program.result.now r core.steps node (leaf_of solved)) c.reduced-reduced.ensures
          (subst (λ (s : StepsTaken). IsOnlyLeafBack c.program-program.result.now c.reduced-reduced.result.now s node (leaf_of solved)) c.steps.ensures
          (c.in-Ok.ensures.there node (sym (c.bounds.ensures ∙ ap (λ (r : Region). r.box) c.requires.leaf.full.region)) (sym (c.choices.ensures ∙ ap (λ (r : Region). r.choices) c.requires.leaf.full.region)))));
      answer = subst (λ (p : Program). IsLeafAnswer p (leaf_of solved) solved.answer) c.program-program.ensures c.in-Ok.ensures.answer;
    }

pub go_back-requires-clause-given : goal.go_back-requires-clause-given
go_back-requires-clause-given c = c.requires.given

pub go_back-requires-clause-up : goal.go_back-requires-clause-up
go_back-requires-clause-up c = c.requires.up

pub returns-in-Err-clause-rows : goal.returns-in-Err-clause-rows
returns-in-Err-clause-rows c = grind (arith, common_steps)

pub returns-in-Err-clause-ended : goal.returns-in-Err-clause-ended
returns-in-Err-clause-ended c = c.go_back.ensures.back

pub returns-in-Ok-clause-kind : goal.returns-in-Ok-clause-kind
returns-in-Ok-clause-kind c = c.settle.ensures.kind

pub returns-in-Ok-clause-ended : goal.returns-in-Ok-clause-ended
returns-in-Ok-clause-ended c = c.settle.ensures.ended

pub returns-in-Ok-clause-rows : goal.returns-in-Ok-clause-rows
returns-in-Ok-clause-rows c = c.settle.ensures.rows

pub settle-requires-clause-at_work : goal.settle-requires-clause-at_work
settle-requires-clause-at_work c = record { up = c.requires.up; region = c.requires.leaf.full.region }
