use Rattle.std.proofs.Common.{length, IfOk, subst, sym}
use Rattle.cip_cert.specs.Lent.{lent_of}
use Rattle.cip_lagrange.specs.TreeOutcomes.{node_in}
use Rattle.cip_lagrange.specs.TreeMeaning.{TreeFollows}
use Rattle.cip_lagrange.proofs.FollowedTrees.{tree_follows}
use Rattle.cip_lagrange.proofs.calls.tree_bound.Goals as goal

pub returns-clause-follows : goal.returns-clause-follows
returns-clause-follows c =
    subst (λ o. IfOk o (TreeFollows (lent_of c.args.rows.now) c.args.rows.now.whole.now c.args.costs.now
    (node_in c.args.region.now)))
    (sym c.bound_at.ensures.steps)
    (tree_follows (lent_of c.args.rows.now) c.args.rows.now.whole.now c.args.costs.now
    (length c.args.scratch.now.row.entries) 1 c.args.tree.now (node_in c.args.region.now) c.requires.fits
    c.requires.room c.requires.costs c.requires.flags)
