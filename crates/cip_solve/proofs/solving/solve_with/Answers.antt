use Rattle.std.proofs.lemmas.Grind.{common_steps}
use Rattle.std.proofs.Common.{◌∙◌, ap, false, inl, refl, sym, subst, true≢false, length, arith}
use Rattle.cip_problem.specs.Program.{Program}
use Rattle.cip_problem.specs.WellFormed.{columns}
use Rattle.cip_tree.specs.Entries as tree
use Rattle.cip_endings.specs.AnswerOf.{answer_of}
use Rattle.cip_solve.specs.ProposalsJudged.{HaveRoom}
use Rattle.cip_solve.specs.FirstStops.{StopsFirst}
use Rattle.cip_solve.specs.Logs.{entries_of}
use Rattle.cip_solve.specs.PresolvedPrograms.{IsUnchanged}
use Rattle.cip_solve.specs.Solved.{IsSolvedBy}
use Rattle.cip_solve.proofs.BegunLaws.{unsearched_by}
use Rattle.cip_solve.proofs.KitLaws.{room_there, kit_told}
use Rattle.cip_solve.proofs.solving.solve_with.Goals as goal

pub returns-in_default-clause-solved : goal.returns-in_default-clause-solved
returns-in_default-clause-solved g c =
    unsearched_by c.args.program.now c.args.options.now.nodes c.args.options.now.gap c.args.options.now.presolve false _ _ _ (ap tree.entries_of c.clear.ensures.items) c.clear-2.ensures.items
    (c.unsearched.ensures.solved c.args.options.now.nodes c.args.options.now.gap)

pub returns-in_default-begun_with-clause-solved : goal.returns-in_default-begun_with-clause-solved
returns-in_default-begun_with-clause-solved g c =
    unsearched_by c.args.program.now c.args.options.now.nodes c.args.options.now.gap c.args.options.now.presolve false _ _ _ (ap tree.entries_of c.clear.ensures.items) c.clear-2.ensures.items
    (c.unsearched-in_default-begun_with.ensures.solved c.args.options.now.nodes c.args.options.now.gap)

pub returns-in_default-ask-clause-solved : goal.returns-in_default-ask-clause-solved
returns-in_default-ask-clause-solved g c =
    unsearched_by c.args.program.now c.args.options.now.nodes c.args.options.now.gap c.args.options.now.presolve false _ _ _ (ap tree.entries_of c.clear.ensures.items) c.clear-2.ensures.items
    (c.unsearched-in_default-ask.ensures.solved c.args.options.now.nodes c.args.options.now.gap)

pub search_from-answer-requires-clause-root : goal.search_from-answer-requires-clause-root
search_from-answer-requires-clause-root g c = c.in-Ok-begun_with.ensures.root

pub search_from-answer-requires-clause-back : goal.search_from-answer-requires-clause-back
search_from-answer-requires-clause-back g c = c.in-Ok-begun_with.ensures.back

pub search_from-answer-requires-clause-point : goal.search_from-answer-requires-clause-point
search_from-answer-requires-clause-point g c = c.in-Ok-begun_with.ensures.point ∙ sym (ap columns c.in-Ok-begun_with.ensures.program_is)

pub search_from-answer-requires-clause-ready : goal.search_from-answer-requires-clause-ready
search_from-answer-requires-clause-ready g c = (
  subst (λ (r : Program). HaveRoom c.new-2.result.scratches (columns r)) (sym c.in-Ok-begun_with.ensures.back.reduced_is) (rw c.new-2.ensures.scratches c.in-Ok.ensures),
  rw c.new-2.ensures.roster c.in-Ok-ask.ensures.sound,
)

pub end-trace-requires-clause-room : goal.end-trace-requires-clause-room
end-trace-requires-clause-room g c = room_there _ _ _ _ _ (rw (sym c.new-2.ensures.roster) at c.in-Ok-ask.ensures.room) c.search_from-answer.ensures.asked.1

pub returns-clause-solved : goal.returns-clause-solved
returns-clause-solved g c =
    let log = c.search_from-answer.new.log in
    let of_program = c.in-Ok-begun_with.ensures.program_is in
    subst (λ (p : Program). IsSolvedBy p c.args.options.now.nodes c.args.options.now.gap c.args.options.now.presolve false (entries_of log) log.marks.items (answer_of c.search_from-answer.result))
    of_program (c.search_from-answer.ensures.solved c.args.options.now.presolve false (λ e. subst (λ (p : Program). IsUnchanged p c.args.presolved.now) (sym of_program) (c.requires.same e)) (λ e. absurd (true≢false (sym e))))

pub returns-clause-nodes : goal.returns-clause-nodes
returns-clause-nodes g c = c.search_from-answer.ensures.nodes

pub returns-clause-first : goal.returns-clause-first
returns-clause-first g c = subst (λ (p : Program). StopsFirst p c.args.options.now.gap (entries_of c.search_from-answer.new.log)) c.in-Ok-begun_with.ensures.program_is c.search_from-answer.ensures.first

pub returns-clause-kit : goal.returns-clause-kit
returns-clause-kit g c = kit_told _ _ _ _ _ _ refl (inl (record {
  between = _;
  begun = _;
  left = _;
  begins = (rw (sym c.new-2.ensures.roster) at c.in-Ok-ask.ensures.begun);
  served = c.search_from-answer.ensures.asked.1;
  ends = c.end-trace.ensures.ended;
}))

pub end-trace-requires-clause-sound : goal.end-trace-requires-clause-sound
end-trace-requires-clause-sound g c = c.search_from-answer.ensures.asked.0.1

pub returns-in_default-clause-first : goal.returns-in_default-clause-first
returns-in_default-clause-first g c =
    subst (StopsFirst c.args.program.now c.args.options.now.gap) (sym (ap tree.entries_of c.clear.ensures.items)) (c.unsearched.ensures.first c.args.options.now.gap)

pub returns-in_default-begun_with-clause-first : goal.returns-in_default-begun_with-clause-first
returns-in_default-begun_with-clause-first g c =
    subst (StopsFirst c.args.program.now c.args.options.now.gap) (sym (ap tree.entries_of c.clear.ensures.items)) (c.unsearched-in_default-begun_with.ensures.first c.args.options.now.gap)

pub returns-in_default-ask-clause-first : goal.returns-in_default-ask-clause-first
returns-in_default-ask-clause-first g c =
    subst (StopsFirst c.args.program.now c.args.options.now.gap) (sym (ap tree.entries_of c.clear.ensures.items)) (c.unsearched-in_default-ask.ensures.first c.args.options.now.gap)

pub returns-in_default-clause-nodes : goal.returns-in_default-clause-nodes
returns-in_default-clause-nodes g c = c.unsearched.ensures.nodes ∙ sym (ap length (ap tree.entries_of c.clear.ensures.items))

pub returns-in_default-begun_with-clause-nodes : goal.returns-in_default-begun_with-clause-nodes
returns-in_default-begun_with-clause-nodes g c = c.unsearched-in_default-begun_with.ensures.nodes ∙ sym (ap length (ap tree.entries_of c.clear.ensures.items))

pub returns-in_default-ask-clause-nodes : goal.returns-in_default-ask-clause-nodes
returns-in_default-ask-clause-nodes g c = c.unsearched-in_default-ask.ensures.nodes ∙ sym (ap length (ap tree.entries_of c.clear.ensures.items))

pub search_from-answer-requires-clause-some : goal.search_from-answer-requires-clause-some
search_from-answer-requires-clause-some g c = omega arith

pub returns-in_default-clause-kit : goal.returns-in_default-clause-kit
returns-in_default-clause-kit g c = grind (arith, common_steps)

pub returns-in_default-begun_with-clause-kit : goal.returns-in_default-begun_with-clause-kit
returns-in_default-begun_with-clause-kit g c = grind (arith, common_steps)

pub returns-in_default-ask-clause-kit : goal.returns-in_default-ask-clause-kit
returns-in_default-ask-clause-kit g c = grind (arith, common_steps)
