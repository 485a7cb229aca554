use Rattle.std.proofs.lemmas.Grind.{common_steps}
use Rattle.std.proofs.Common.{length, refl, sym, ap, ◌∙◌, subst, arith}
use Rattle.cip_tree.specs.Entries as tree
use Rattle.cip_endings.specs.AnswerOf.{answer_of}
use Rattle.cip_solve.specs.FirstStops.{StopsFirst}
use Rattle.cip_solve.specs.Logs.{entries_of}
use Rattle.cip_solve.specs.Solved.{IsSolvedBy}
use Rattle.cip_solve.proofs.BegunLaws.{infeasible_at_once, infeasible_by, unsearched_by}
use Rattle.cip_solve.proofs.FirstLaws.{first_of_none}
use Rattle.cip_solve.proofs.KitLaws.{left_alone, kit_same, nobody_called}
use Rattle.cip_solve.proofs.solving.solve.Goals as goal

pub returns-in-Err-clause-solved : goal.returns-in-Err-clause-solved
returns-in-Err-clause-solved g c =
    unsearched_by c.args.program.now c.args.options.now.nodes c.args.options.now.gap c.args.options.now.presolve _ _ _ _ (ap tree.entries_of c.clear.ensures.items) c.clear-2.ensures.items
    (c.unsearched.ensures.solved c.args.options.now.nodes c.args.options.now.gap)

pub returns-in-Err-clause-kit : goal.returns-in-Err-clause-kit
returns-in-Err-clause-kit g c = nobody_called _ c.args.options.now.trace _ _ _ (ap tree.entries_of c.clear.ensures.items) c.unsearched.ensures.trace

pub returns-in-Err-clause-nodes : goal.returns-in-Err-clause-nodes
returns-in-Err-clause-nodes g c = c.unsearched.ensures.nodes ∙ sym (ap length (ap tree.entries_of c.clear.ensures.items))

pub returns-in-Err-clause-first : goal.returns-in-Err-clause-first
returns-in-Err-clause-first g c =
    subst (StopsFirst c.args.program.now c.args.options.now.gap) (sym (ap tree.entries_of c.clear.ensures.items)) (c.unsearched.ensures.first c.args.options.now.gap)

pub reduced_for-requires : goal.reduced_for-requires
reduced_for-requires g c = grind (arith, common_steps)

pub returns-in-Ok-None-clause-solved : goal.returns-in-Ok-None-clause-solved
returns-in-Ok-None-clause-solved g c =
    let told = rw c.in-Ok-None.field-0-is at c.in-Ok-None.ensures in
    infeasible_by c.args.program.now c.args.options.now.nodes c.args.options.now.gap c.args.options.now.presolve _ _ _ _ told.0 (ap tree.entries_of c.clear.ensures.items) c.clear-2.ensures.items
    (infeasible_at_once c.args.program.now c.root_bound-root.result c.args.options.now.nodes c.args.options.now.gap _ c.root_bound-root.ensures.root told.1)

pub returns-in-Ok-None-clause-nodes : goal.returns-in-Ok-None-clause-nodes
returns-in-Ok-None-clause-nodes g c = sym (ap length (ap tree.entries_of c.clear.ensures.items))

pub returns-in-Ok-None-clause-first : goal.returns-in-Ok-None-clause-first
returns-in-Ok-None-clause-first g c =
    subst (StopsFirst c.args.program.now c.args.options.now.gap) (sym (ap tree.entries_of c.clear.ensures.items)) (record {
      start = c.root_bound-root.result;
      root = c.root_bound-root.ensures.root;
      first = first_of_none c.args.program.now c.root_bound-root.result c.args.options.now.gap;
    })

pub returns-in-Ok-None-clause-kit : goal.returns-in-Ok-None-clause-kit
returns-in-Ok-None-clause-kit g c = nobody_called _ c.args.options.now.trace _ _ _ (ap tree.entries_of c.clear.ensures.items) refl

pub returns-then-goes_alone-clause-solved : goal.returns-then-goes_alone-clause-solved
returns-then-goes_alone-clause-solved g c =
    let can = rw c.in-Ok-Some.field-0-is at c.in-Ok-Some.ensures in
    c.solve_by-answer.ensures.solved c.args.options.now.presolve _ can.same (λ e. refl)

pub returns-then-goes_alone-clause-nodes : goal.returns-then-goes_alone-clause-nodes
returns-then-goes_alone-clause-nodes g c = c.solve_by-answer.ensures.nodes

pub returns-then-goes_alone-clause-first : goal.returns-then-goes_alone-clause-first
returns-then-goes_alone-clause-first g c = c.solve_by-answer.ensures.first

pub returns-then-goes_alone-clause-kit : goal.returns-then-goes_alone-clause-kit
returns-then-goes_alone-clause-kit g c =
    kit_same c.args.options.now.trace (entries_of c.solve_by-answer.new.log) _ _ c.solve_by-answer.result.trace _ _ (sym c.if-goes_alone.true ∙ c.goes_alone.ensures) (left_alone c.args.options.now.trace (entries_of c.solve_by-answer.new.log) _ _ c.solve_by-answer.ensures.trace)

pub returns-else-goes_alone-clause-solved : goal.returns-else-goes_alone-clause-solved
returns-else-goes_alone-clause-solved g c =
    subst (λ alone. IsSolvedBy c.args.program.now c.args.options.now.nodes c.args.options.now.gap c.args.options.now.presolve alone (entries_of c.solve_with-answer.new.log) c.solve_with-answer.new.log.marks.items (answer_of c.solve_with-answer.result))
    (sym c.if-goes_alone.false ∙ c.goes_alone.ensures) c.solve_with-answer.ensures.solved

pub returns-else-goes_alone-clause-nodes : goal.returns-else-goes_alone-clause-nodes
returns-else-goes_alone-clause-nodes g c = c.solve_with-answer.ensures.nodes

pub returns-else-goes_alone-clause-first : goal.returns-else-goes_alone-clause-first
returns-else-goes_alone-clause-first g c = c.solve_with-answer.ensures.first

pub returns-else-goes_alone-clause-kit : goal.returns-else-goes_alone-clause-kit
returns-else-goes_alone-clause-kit g c =
    kit_same c.args.options.now.trace (entries_of c.solve_with-answer.new.log) _ _ c.solve_with-answer.result.trace _ _ (sym c.if-goes_alone.false ∙ c.goes_alone.ensures) c.solve_with-answer.ensures.kit

pub solve_by-answer-requires-clause-near : goal.solve_by-answer-requires-clause-near
solve_by-answer-requires-clause-near g c =
    let can = rw c.in-Ok-Some.field-0-is at c.in-Ok-Some.ensures in
    can.near

pub solve_by-answer-requires-clause-back : goal.solve_by-answer-requires-clause-back
solve_by-answer-requires-clause-back g c =
    let can = rw c.in-Ok-Some.field-0-is at c.in-Ok-Some.ensures in
    can.back

pub solve_by-answer-requires-clause-some : goal.solve_by-answer-requires-clause-some
solve_by-answer-requires-clause-some g c = c.requires.some

pub solve_by-answer-requires-clause-ready : goal.solve_by-answer-requires-clause-ready
solve_by-answer-requires-clause-ready g c = tt

pub solve_with-answer-requires-clause-near : goal.solve_with-answer-requires-clause-near
solve_with-answer-requires-clause-near g c =
    let can = rw c.in-Ok-Some.field-0-is at c.in-Ok-Some.ensures in
    can.near

pub solve_with-answer-requires-clause-back : goal.solve_with-answer-requires-clause-back
solve_with-answer-requires-clause-back g c =
    let can = rw c.in-Ok-Some.field-0-is at c.in-Ok-Some.ensures in
    can.back

pub solve_with-answer-requires-clause-same : goal.solve_with-answer-requires-clause-same
solve_with-answer-requires-clause-same g c =
    let can = rw c.in-Ok-Some.field-0-is at c.in-Ok-Some.ensures in
    can.same

pub solve_with-answer-requires-clause-some : goal.solve_with-answer-requires-clause-some
solve_with-answer-requires-clause-some g c = c.requires.some

pub solve_with-answer-requires-clause-few : goal.solve_with-answer-requires-clause-few
solve_with-answer-requires-clause-few g c = c.requires.few

pub goes_alone-requires : goal.goes_alone-requires
goes_alone-requires g c = omega arith
