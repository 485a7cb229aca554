use Rattle.std.proofs.Common.{ap, subst}
use Rattle.cip_tree.specs.Nodes.{Nodes}
use Rattle.cip_tree.specs.Searched.{IsSearched}
use Rattle.cip_tree.proofs.trees.Tree.take_log.Goals as goal

pub returns-clause-entries : goal.returns-clause-entries
returns-clause-entries c = ap (λ (t : Nodes). t.log) c.self.view_is

pub returns-clause-searched : goal.returns-clause-searched
returns-clause-searched c = subst (λ (t : Nodes). IsSearched t.integral t.root t.log) c.self.view_is
    c.self.invariant.2.searched
