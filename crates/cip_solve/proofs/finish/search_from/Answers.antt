use Rattle.std.proofs.lemmas.Grind.{common_steps}
use Rattle.std.proofs.Common.{◌≡◌, ◌∙◌, IfSome, ap, length, sym, subst, arith}
use Rattle.cip_problem.specs.Program.{Program}
use Rattle.cip_problem.specs.Log.{Node}
use Rattle.cip_problem.specs.Points.{IsLowerBound}
use Rattle.cip_problem.specs.WellFormed.{columns}
use Rattle.cip_search.specs.SeenLogs.{log_seen}
use Rattle.cip_tree.specs.Entries as tree
use Rattle.cip_endings.specs.AnswerOf.{answer_of}
use Rattle.cip_solve.specs.Answered.{IsAnswered}
use Rattle.cip_solve.specs.Logs.{entries_of, renamed}
use Rattle.cip_solve.specs.Searching.{IsWritten}
use Rattle.cip_solve.specs.SplitsServed.{splits_in, HasServed}
use Rattle.cip_solve.proofs.BegunLaws.{written_begun}
use Rattle.cip_solve.proofs.SeenLaws.{length_seen}
use Rattle.cip_solve.proofs.SolvedLaws.{solved_by, stops_first, splits_seen}
use Rattle.cip_solve.proofs.finish.search_from.Goals as goal

pub explore-stop-requires-clause-written : goal.explore-stop-requires-clause-written
explore-stop-requires-clause-written g c =
    let core = c.args.begun.work.core in
    subst (IsWritten core) (sym c.new.ensures.items) (written_begun core c.requires.root.empty)

pub answer_at-answer-requires-clause-point : goal.answer_at-answer-requires-clause-point
answer_at-answer-requires-clause-point g c = c.requires.point ∙ ap columns (sym c.explore-stop.ensures.same.0.program)

pub returns-clause-solved : goal.returns-clause-solved
returns-clause-solved g c = λ presolve alone p q.
    let same = c.explore-stop.ensures.same in
    let core = c.explore-stop.new.self.work.core in
    let after = c.rename.new.self in
    let taken : entries_of after ≡ log_seen (renamed c.args.presolved.now.kept.items) (tree.entries_of c.take_log.result.items) =
    subst (λ numbers. entries_of after ≡ log_seen (renamed numbers) (tree.entries_of c.take_log.result.items)) c.as_slice.ensures.value c.rename.ensures.taken in
    solved_by c.args.begun.work.core c.explore-stop.new.self.work.core c.args.presolved.now c.requires.root c.requires.back same.0
    g.W.Works.asks presolve alone c.args.options.now.nodes c.args.options.now.gap (tree.entries_of c.take_log.result.items) (entries_of after) c.explore-stop.new.self.marks.items after.marks.items (answer_of c.answer_at-answer.result)
    same.1 c.explore-stop.ensures.written c.take_log.ensures.entries
    (λ kept seen. subst (λ log. IsAnswered core.program core.tree.root.bound c.args.options.now.nodes c.args.options.now.gap (log_seen kept log) c.explore-stop.new.self.marks.items (answer_of c.answer_at-answer.result)) (sym c.take_log.ensures.entries)
    (c.answer_at-answer.ensures.right kept c.explore-stop.new.self.marks.items seen (record {
      some = c.requires.some;
      most = c.explore-stop.ensures.most;
      lower = subst (λ (p : Program). IfSome core.tree.root.bound (IsLowerBound p)) (sym same.0.program)
          (subst (λ (r : Node). IfSome r.bound (IsLowerBound c.args.begun.work.core.program)) (sym same.0.root) c.requires.root.lower);
      told = c.explore-stop.ensures.written.told;
    })))
    taken (ap (λ m. m.items) c.rename.ensures.marks) p q

pub returns-clause-nodes : goal.returns-clause-nodes
returns-clause-nodes g c =
    c.answer_at-answer.ensures.nodes ∙ ap length (sym c.take_log.ensures.entries) ∙ (sym (length_seen (renamed c.as_slice.result.now) (tree.entries_of c.take_log.result.items)) ∙ ap length (sym c.rename.ensures.taken))

pub returns-clause-first : goal.returns-clause-first
returns-clause-first g c =
    let after = c.rename.new.self in
    let taken : entries_of after ≡ log_seen (renamed c.args.presolved.now.kept.items) (tree.entries_of c.take_log.result.items) =
    subst (λ numbers. entries_of after ≡ log_seen (renamed numbers) (tree.entries_of c.take_log.result.items)) c.as_slice.ensures.value c.rename.ensures.taken in
    stops_first c.args.begun.work.core c.explore-stop.new.self.work.core c.args.presolved.now c.requires.root c.requires.back c.explore-stop.ensures.same.0
    c.args.options.now.gap (tree.entries_of c.take_log.result.items) (entries_of after) c.take_log.ensures.entries taken c.explore-stop.ensures.first

pub returns-clause-asked : goal.returns-clause-asked
returns-clause-asked g c =
    let asked = c.explore-stop.ensures.asked in
    let splits : splits_in (entries_of c.rename.new.self) ≡ splits_in c.explore-stop.new.self.work.core.tree.log =
    ap splits_in c.rename.ensures.taken ∙ (splits_seen (renamed c.as_slice.result.now) (tree.entries_of c.take_log.result.items) ∙ ap splits_in c.take_log.ensures.entries) in (
      subst (λ (r : Program). g.W.Works.is_ready c.explore-stop.new.works (columns r)) c.explore-stop.ensures.same.0.reduced asked.0,
      subst (λ n. HasServed n (g.W.Works.state c.args.works.now) (g.W.Works.state c.explore-stop.new.works)) (sym splits) asked.1,
    )

pub explore-stop-requires-clause-standing : goal.explore-stop-requires-clause-standing
explore-stop-requires-clause-standing g c = grind (arith, common_steps)

pub answer_at-answer-requires-clause-stop : goal.answer_at-answer-requires-clause-stop
answer_at-answer-requires-clause-stop g c = grind (arith, common_steps)

pub returns-clause-untraced : goal.returns-clause-untraced
returns-clause-untraced g c = grind (arith, common_steps)

pub explore-stop-requires-clause-plain : goal.explore-stop-requires-clause-plain
explore-stop-requires-clause-plain g c = grind (arith, common_steps)

pub explore-stop-requires-clause-empty : goal.explore-stop-requires-clause-empty
explore-stop-requires-clause-empty g c = grind (arith, common_steps)

pub explore-stop-requires-clause-ready : goal.explore-stop-requires-clause-ready
explore-stop-requires-clause-ready g c = grind (arith, common_steps)
