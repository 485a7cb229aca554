use Rattle.cip_pricing.proofs.Trees.{split_bound, node_point}
use Rattle.cip_pricing.proofs.trees_bound.Goals as goal

pub returns : goal.returns
returns c = record {
  split = split_bound;
  block = λ program blocks box block node costs point bound e f h p. h point
      (node_point program blocks box block node point e f p);
  none = λ program blocks box block node costs point e f h p. h point
      (node_point program blocks box block node point e f p);
}
