-- The bound that the log gave a node, after steps of its work.
use Rattle.std.proofs.Common.{◌≡◌, Option, sym, ap, ◌∙◌}
use Rattle.cip_rational.specs.Rational.{ℚ}
use Rattle.cip_problem.specs.Log.{Node, node_of}
use Rattle.cip_search.specs.Searched.{nodes_given}
use Rattle.cip_tree.specs.Nodes.{TakenNode}
use Rattle.cip_core.specs.CoreStates.{CoreState, reduced_of, IsGivenBound}
use Rattle.cip_core.specs.Later.{IsLaterAt}

pub given_later : (old mid : CoreState) (node has : TakenNode) (bound : Option ℚ) → IsLaterAt old node mid has → IsGivenBound old node.number bound → IsGivenBound mid has.number bound
given_later old mid node has bound l h = λ given e.
    let same : nodes_given (reduced_of mid) mid.tree.root.bound mid.tree.log ≡ nodes_given (reduced_of old) old.tree.root.bound old.tree.log =
    ap (λ p. nodes_given p mid.tree.root.bound mid.tree.log) l.later.reduced
    ∙ ap (λ (r : Node). nodes_given (reduced_of old) r.bound mid.tree.log) l.later.root
    ∙ ap (nodes_given (reduced_of old) old.tree.root.bound) l.log in
    h given (sym (ap (λ ns. node_of ns has.number) same ∙ ap (node_of (nodes_given (reduced_of old) old.tree.root.bound old.tree.log)) l.narrower.number) ∙ e)
