use Rattle.std.proofs.lemmas.Grind.{common_steps}
use Rattle.cip_solve.proofs.Serving.{served_none}
use Rattle.cip_solve.specs.SplitsServed.{splits_in, HasServed}
use Rattle.std.proofs.Common.{◌∙◌, ap, sym, subst, length, arith}
use Rattle.cip_problem.specs.Program.{Program}
use Rattle.cip_problem.specs.WellFormed.{columns}
use Rattle.cip_tree.specs.Entries as tree
use Rattle.cip_endings.specs.AnswerOf.{answer_of}
use Rattle.cip_solve.specs.FirstStops.{StopsFirst}
use Rattle.cip_solve.specs.Logs.{entries_of}
use Rattle.cip_solve.specs.PresolvedPrograms.{IsUnchanged}
use Rattle.cip_solve.specs.Solved.{IsSolvedBy}
use Rattle.cip_solve.proofs.BegunLaws.{unsearched_by}
use Rattle.cip_solve.proofs.solving.solve_by.Goals as goal

pub search_from-requires-clause-root : goal.search_from-requires-clause-root
search_from-requires-clause-root g c = c.in-Ok.ensures.root

pub search_from-requires-clause-back : goal.search_from-requires-clause-back
search_from-requires-clause-back g c = c.in-Ok.ensures.back

pub search_from-requires-clause-point : goal.search_from-requires-clause-point
search_from-requires-clause-point g c = c.in-Ok.ensures.point ∙ sym (ap columns c.in-Ok.ensures.program_is)

pub search_from-requires-clause-ready : goal.search_from-requires-clause-ready
search_from-requires-clause-ready g c = subst (λ (r : Program). g.W.Works.is_ready c.args.works.now (columns r)) (sym c.in-Ok.ensures.back.reduced_is) c.requires.ready

pub returns-in-Ok-clause-solved : goal.returns-in-Ok-clause-solved
returns-in-Ok-clause-solved g c = λ presolve alone p q.
    let log = c.search_from.new.log in
    let of_program = c.in-Ok.ensures.program_is in
    subst (λ (p : Program). IsSolvedBy p c.args.options.now.nodes c.args.options.now.gap presolve alone (entries_of log) log.marks.items (answer_of c.search_from.result))
    of_program (c.search_from.ensures.solved presolve alone (λ e. subst (λ (of : Program). IsUnchanged of c.args.presolved.now) (sym of_program) (p e)) q)

pub returns-in-Ok-clause-first : goal.returns-in-Ok-clause-first
returns-in-Ok-clause-first g c =
    subst (λ (p : Program). StopsFirst p c.args.options.now.gap (entries_of c.search_from.new.log)) c.in-Ok.ensures.program_is c.search_from.ensures.first

pub returns-in-Ok-clause-asked : goal.returns-in-Ok-clause-asked
returns-in-Ok-clause-asked g c = (
  subst (λ (r : Program). g.W.Works.is_ready c.search_from.new.works (columns r)) c.in-Ok.ensures.back.reduced_is c.search_from.ensures.asked.0,
  c.search_from.ensures.asked.1,
)

pub returns-in-Err-clause-solved : goal.returns-in-Err-clause-solved
returns-in-Err-clause-solved g c = λ presolve alone p q.
    unsearched_by c.args.program.now c.args.options.now.nodes c.args.options.now.gap presolve alone _ _ _ (ap tree.entries_of c.clear.ensures.items) c.clear-2.ensures.items
    (c.unsearched.ensures.solved c.args.options.now.nodes c.args.options.now.gap)

pub returns-in-Err-clause-asked : goal.returns-in-Err-clause-asked
returns-in-Err-clause-asked g c =
    let a = g.W.Works.state c.args.works.now in
    (c.requires.ready, subst (λ l. HasServed (splits_in l) a a) (sym (ap tree.entries_of c.clear.ensures.items)) (served_none a))

pub returns-in-Err-clause-first : goal.returns-in-Err-clause-first
returns-in-Err-clause-first g c = subst (StopsFirst c.args.program.now c.args.options.now.gap) (sym (ap tree.entries_of c.clear.ensures.items)) (c.unsearched.ensures.first c.args.options.now.gap)

pub returns-in-Err-clause-nodes : goal.returns-in-Err-clause-nodes
returns-in-Err-clause-nodes g c = c.unsearched.ensures.nodes ∙ sym (ap length (ap tree.entries_of c.clear.ensures.items))

pub search_from-requires-clause-some : goal.search_from-requires-clause-some
search_from-requires-clause-some g c = omega arith

pub returns-in-Ok-clause-nodes : goal.returns-in-Ok-clause-nodes
returns-in-Ok-clause-nodes g c = grind (arith, common_steps)

pub returns-in-Ok-clause-trace : goal.returns-in-Ok-clause-trace
returns-in-Ok-clause-trace g c = grind (arith, common_steps)

pub returns-in-Err-clause-trace : goal.returns-in-Err-clause-trace
returns-in-Err-clause-trace g c = grind (arith, common_steps)

pub begun_with-requires-clause-back : goal.begun_with-requires-clause-back
begun_with-requires-clause-back g c = grind (arith, common_steps)
