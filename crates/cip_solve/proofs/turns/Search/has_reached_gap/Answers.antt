use Rattle.std.proofs.Common.{◌≡◌, ◌∙◌, [], MatchOption, ap, sym, subst, true≢false}
use Rattle.cip_tree.specs.Moves.{IsLeastBound}
use Rattle.cip_tree.specs.Nodes.{Nodes}
use Rattle.cip_solve.specs.CoreStates.{reduced_of, way_of}
use Rattle.cip_endings.specs.LeastBounds.{least_of, bound_held, flat}
use Rattle.cip_endings.specs.Gaps.{reaches_gap}
use Rattle.cip_endings.specs.Worst.{worst_bound}
use Rattle.cip_solve.proofs.FirstLaws.{none_asked, far_there}
use Rattle.cip_solve.proofs.OpenBounds.{near_there}
use Rattle.cip_solve.proofs.turns.Search.has_reached_gap.Goals as goal

pub returns-clause-reached : goal.returns-clause-reached
returns-clause-reached c = λ e.
    let core = c.args.self.now.work.core in
    let worst = c.args.self.now.worst in
    let waiting = subst (λ (t : Nodes). MatchOption c.bound.result (t.open_ ≡ []) (λ b. IsLeastBound b t.open_)) c.tree.ensures c.bound.ensures in
    near_there core.program (reduced_of core) (way_of core) core.tree.root.bound c.args.asked.now core.tree core.incumbent worst c.bound.result c.flat-bound.result c.requires waiting
    (c.flat-bound.ensures ∙ ap flat (c.least_left.ensures ∙ ap (λ h. least_of (bound_held h) (least_of c.bound.result (worst_bound worst))) c.held_cost-held.ensures))
    (ap (λ h. reaches_gap c.args.asked.now h c.flat-bound.result) (sym c.held_cost-held.ensures) ∙ (sym c.reaches_gap.ensures ∙ e))

pub returns-clause-short : goal.returns-clause-short
returns-clause-short c = λ e.
    let core = c.args.self.now.work.core in
    let worst = c.args.self.now.worst in
    let waiting = subst (λ (t : Nodes). MatchOption c.bound.result (t.open_ ≡ []) (λ b. IsLeastBound b t.open_)) c.tree.ensures c.bound.ensures in
    far_there core.program (reduced_of core) (way_of core) core.tree.root.bound c.args.asked.now core.tree core.incumbent worst c.bound.result c.flat-bound.result c.requires waiting
    (c.flat-bound.ensures ∙ ap flat (c.least_left.ensures ∙ ap (λ h. least_of (bound_held h) (least_of c.bound.result (worst_bound worst))) c.held_cost-held.ensures))
    (ap (λ h. reaches_gap c.args.asked.now h c.flat-bound.result) (sym c.held_cost-held.ensures) ∙ (sym c.reaches_gap.ensures ∙ e))

pub returns-then-is_none-clause-short : goal.returns-then-is_none-clause-short
returns-then-is_none-clause-short c = λ e. none_asked c.args.asked.now c.is_none.result c.args.self.now.work.core.tree c.args.self.now.work.core.incumbent c.is_none.ensures c.if-is_none.true

pub returns-then-is_none-clause-reached : goal.returns-then-is_none-clause-reached
returns-then-is_none-clause-reached c = λ e. absurd (true≢false (sym e))
