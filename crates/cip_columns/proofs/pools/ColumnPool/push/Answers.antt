use Rattle.std.proofs.Common.{◌∙◌, ◌++◌, ◌∷◌, [], List, length, ap, arith}
use Rattle.cip_columns.specs.PoolPoints.{PoolPoint}
use Rattle.cip_columns.proofs.Chains.{pool_after}
use Rattle.cip_columns.proofs.pools.ColumnPool.push.Goals as goal

pub invariant_of-self-2 : goal.invariant_of-self-2
invariant_of-self-2 c =
    pool_after c.self.inside.points.items c.self.inside.firsts.items c.self.inside.links.items c.args.block
    c.args.values.items c.args.group c.len-id.result c.index.result.now c.new.result
    c.push_reserved.new.self.items c.push.new.self.items
    c.requires.group c.requires.below (omega (arith, c.requires.room, ap length c.self.view_is))
    (omega (arith, c.len-id.ensures, c.self.inside.points.ok.0)) c.new.ensures
    (c.push_reserved.ensures.items ∙ ap (λ (xs : List PoolPoint). xs ++ c.new.result ∷ []) c.reserve.ensures.items)
    c.index.ensures c.in_ok-push.ensures.items c.self.invariant
