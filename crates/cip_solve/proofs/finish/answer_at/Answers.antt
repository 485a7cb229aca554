use Rattle.std.proofs.lemmas.Grind.{common_steps}
use Rattle.std.proofs.Common.{◌≡◌, ◌∙◌, [], MatchOption, ℕ, List, IfSome, length, Option, true, false, ap, sym, subst, arith}
use Rattle.std.proofs.lemmas.List.{length-map}
use Rattle.cip_rational.specs.Rational.{ℚ}
use Rattle.cip_problem.specs.Program.{Program}
use Rattle.cip_problem.specs.Log.{Entry}
use Rattle.cip_incumbent.specs.HeldPoint.{Holding}
use Rattle.cip_search.specs.SeenLogs.{log_seen}
use Rattle.cip_tree.specs.Entries.{entry_of}
use Rattle.cip_tree.specs.Moves.{IsLeastBound}
use Rattle.cip_tree.specs.Nodes.{Nodes}
use Rattle.cip_solve.specs.Mark.{Mark}
use Rattle.cip_solve.specs.CoreStates.{reduced_of, way_of}
use Rattle.cip_solve.specs.KeptNodes.{cost_held}
use Rattle.cip_endings.specs.AnswerOf.{answer_of}
use Rattle.cip_endings.specs.Ended.TheVariants.{Gap}
use Rattle.cip_endings.specs.LeastBounds.{capped, least_of, bound_held, flat}
use Rattle.cip_endings.specs.Gaps.{reaches_gap}
use Rattle.cip_endings.specs.Ends.{EndsBy}
use Rattle.cip_endings.specs.Worst.{worst_bound}
use Rattle.cip_solve.specs.Answered.{IsAnswered}
use Rattle.cip_solve.specs.Searching.{IsEndless, StopsEndless, IsWithin, CanBeSeen}
use Rattle.cip_solve.specs.Stopping.{BestIs}
use Rattle.cip_solve.specs.Stops.{StopsAt}
use Rattle.cip_solve.proofs.FinishLaws.{held_room, refused_right, still_right}
use Rattle.cip_solve.proofs.finish.answer_at.Goals as goal

pub returns-in-Still-clause-right : goal.returns-in-Still-clause-right
returns-in-Still-clause-right c = λ kept marks seen within.
    let core = c.args.core.now in
    let worst = c.args.worst in
    let asked = c.args.options.now.gap in
    let waiting = c.bound-waiting.result in
    let open_ = subst (λ (t : Nodes). MatchOption waiting (t.open_ ≡ []) (λ b. IsLeastBound b t.open_)) c.tree-tree.ensures c.bound-waiting.ensures in
    let held = c.cost_of-held.ensures ∙ ap cost_held c.incumbent-incumbent.ensures in
    still_right core.program (reduced_of core) (way_of core) kept c.args.options.now.nodes asked marks core.tree core.incumbent worst waiting c.held_of.result c.flat-bound.result c.ended_at-ended.result seen
    (subst (StopsAt core c.args.options.now.nodes asked worst) c.in-Still.is c.requires.stop) within open_
    (c.flat-bound.ensures ∙ ap flat (c.least_left.ensures ∙ ap (λ h. least_of (bound_held h) (least_of waiting (worst_bound worst))) held))
    (subst (λ h. reaches_gap asked h c.flat-bound.result ≡ true → c.ended_at-ended.result ≡ Gap) held c.ended_at-ended.ensures.near)
    (subst (λ h. reaches_gap asked h c.flat-bound.result ≡ false → EndsBy h waiting worst c.ended_at-ended.result) held c.ended_at-ended.ensures.far)
    (subst (λ (h : Holding). BestIs h.best c.held_of.result) c.incumbent-incumbent.ensures c.held_of.ensures)

pub endless_answer-requires : goal.endless_answer-requires
endless_answer-requires c =
    let core = c.args.core.now in
    let stops = subst (StopsAt core c.args.options.now.nodes c.args.options.now.gap c.args.worst) c.in-Endless.is c.requires.stop in
    subst (λ (p : Program). IsEndless p c.in-Endless.point.items c.in-Endless.ray.items) (sym c.program.ensures) stops.falls

pub returns-in-Endless-clause-right : goal.returns-in-Endless-clause-right
returns-in-Endless-clause-right c = λ kept marks seen within.
    let core = c.args.core.now in
    let point = c.in-Endless.point.items in
    let ray = c.in-Endless.ray.items in
    let result = c.endless_answer.result in
    let right = subst (λ (p : Program). (reduced : Program) (kept : ℕ → ℕ) (start : Option ℚ) (budget : ℕ) (asked : Option ℚ) (log : List Entry) (marks : List (ℕ × Mark)) → CanBeSeen p reduced kept → StopsEndless p reduced start log point ray → IsWithin p reduced start budget log marks → IsAnswered p start budget asked (log_seen kept log) marks (answer_of result)) c.program.ensures c.endless_answer.ensures.right in
    right (reduced_of core) kept core.tree.root.bound c.args.options.now.nodes c.args.options.now.gap core.tree.log marks seen
    (subst (StopsAt core c.args.options.now.nodes c.args.options.now.gap c.args.worst) c.in-Endless.is c.requires.stop) within

pub returns-in-NoMemory-clause-right : goal.returns-in-NoMemory-clause-right
returns-in-NoMemory-clause-right c = λ kept marks seen within.
    let core = c.args.core.now in
    let held = c.cost_of.ensures ∙ ap cost_held c.incumbent-incumbent.ensures in
    refused_right core.program (reduced_of core) (way_of core) kept core.tree.root.bound c.args.options.now.nodes c.args.options.now.gap marks core.tree core.incumbent c.held_of-in-NoMemory.result c.in-NoMemory.bound c.capped.result seen
    (subst (StopsAt core c.args.options.now.nodes c.args.options.now.gap c.args.worst) c.in-NoMemory.is c.requires.stop) c.is_sound.ensures.sound.is_held within
    (subst (λ (h : Holding). BestIs h.best c.held_of-in-NoMemory.result) c.incumbent-incumbent.ensures c.held_of-in-NoMemory.ensures)
    (c.capped.ensures ∙ ap (λ h. capped h c.in-NoMemory.bound) held)

pub held_of-requires : goal.held_of-requires
held_of-requires c =
    let core = c.args.core.now in
    subst (λ (h : Holding). IfSome h.best (λ held. length held.point ≡ length c.args.point.items)) (sym c.incumbent-incumbent.ensures)
    (held_room core.program core.incumbent (length c.args.point.items) c.is_sound.ensures.formed c.is_sound.ensures.sound.is_held c.requires.point)

pub held_of-requires-in-NoMemory : goal.held_of-requires-in-NoMemory
held_of-requires-in-NoMemory c =
    let core = c.args.core.now in
    subst (λ (h : Holding). IfSome h.best (λ held. length held.point ≡ length c.args.point.items)) (sym c.incumbent-incumbent.ensures)
    (held_room core.program core.incumbent (length c.args.point.items) c.is_sound.ensures.formed c.is_sound.ensures.sound.is_held c.requires.point)

pub returns-in-Still-clause-nodes : goal.returns-in-Still-clause-nodes
returns-in-Still-clause-nodes c = sym (length-map c.log.result.now entry_of) ∙ ap length c.log.ensures.entries ∙ ap (λ (t : Nodes). length t.log) c.tree-tree.ensures

pub returns-in-Endless-clause-nodes : goal.returns-in-Endless-clause-nodes
returns-in-Endless-clause-nodes c = c.endless_answer.ensures.nodes ∙ sym (length-map c.log.result.now entry_of) ∙ ap length c.log.ensures.entries ∙ ap (λ (t : Nodes). length t.log) c.tree-tree.ensures

pub returns-in-NoMemory-clause-nodes : goal.returns-in-NoMemory-clause-nodes
returns-in-NoMemory-clause-nodes c = sym (length-map c.log.result.now entry_of) ∙ ap length c.log.ensures.entries ∙ ap (λ (t : Nodes). length t.log) c.tree-tree.ensures

pub returns-in-Endless-clause-untraced : goal.returns-in-Endless-clause-untraced
returns-in-Endless-clause-untraced c = grind (arith, common_steps)

pub returns-in-Still-clause-untraced : goal.returns-in-Still-clause-untraced
returns-in-Still-clause-untraced c = grind (arith, common_steps)

pub returns-in-NoMemory-clause-untraced : goal.returns-in-NoMemory-clause-untraced
returns-in-NoMemory-clause-untraced c = grind (arith, common_steps)
