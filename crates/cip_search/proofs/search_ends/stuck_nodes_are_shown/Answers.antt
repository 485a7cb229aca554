use Rattle.cip_search.specs.WideLeaf.{IsWideLeaf}
use Rattle.cip_search.proofs.Leading as law
use Rattle.cip_search.proofs.search_ends.stuck_nodes_are_shown.Goals as goal

pub returns : goal.returns
returns c = λ program reduced way start. law.shown_node program reduced way start IsWideLeaf
