use Rattle.std.proofs.Common.{subst}
use Rattle.std.specs.Prelude.{All, ◌≡◌, true}
use Rattle.cip_tree.specs.Queue.{is_below}
use Rattle.cip_tree.proofs.Queues.{all_below}
use Rattle.cip_tree.proofs.queue.Queue.reaches.Goals as goal

pub returns : goal.returns
returns c = λ e. subst (λ q. All (λ node. is_below c.args.cost node ≡ true) q.nodes) c.self.view_is (all_below c.args.cost c.self.inside.most _ c.stays.result c.stays.ensures c.self.invariant.most_is e)
