use Rattle.std.proofs.Common.{subst}
use Rattle.std.specs.Prelude.{MatchOption, ◌≡◌, []}
use Rattle.cip_tree.specs.Moves.{IsLeastBound}
use Rattle.cip_tree.proofs.Orders.{least_shown}
use Rattle.cip_tree.proofs.trees.Tree.bound.Goals as goal

pub returns : goal.returns
returns c =
    subst (λ t. MatchOption c.least.result (t.open_ ≡ []) (λ bound. IsLeastBound bound t.open_)) c.self.view_is
    (least_shown c.self.inside.root c.self.inside.kept.slots c.self.inside.queue.nodes c.least.result c.least.ensures)
