use Rattle.std.proofs.lemmas.Grind.{common_steps}
use Rattle.cip_tree.specs.Nodes.{node_in}
use Rattle.std.proofs.Common.{All, subst, arith}
use Rattle.cip_tree.specs.Entries.{entries_of}
use Rattle.cip_tree.specs.Nodes.{Nodes}
use Rattle.cip_tree.specs.Searched.{IsOpenIn}
use Rattle.cip_tree.proofs.Tracking.{all_open}
use Rattle.cip_tree.proofs.trees.Tree.open_count.Goals as goal

pub returns-clause-logged : goal.returns-clause-logged
returns-clause-logged c =
    subst (λ (t : Nodes). All (IsOpenIn t.root t.log) t.open_) c.self.view_is
    (all_open (node_in c.self.inside.root 0 c.self.inside.root_bound) c.self.inside.whole.items c.self.inside.kept.slots c.self.inside.ids (entries_of c.self.inside.log.items) c.self.invariant.2 c.self.inside.queue.nodes c.self.invariant.0.waiting)

pub returns-clause-count : goal.returns-clause-count
returns-clause-count c = grind (arith, common_steps)
