use Rattle.std.proofs.Common.{◌≡◌, drop}
use Rattle.cip_master.specs.ShownSums.{prices_added}
use Rattle.cip_master.proofs.lowering.add_prices.Given as goal

abbrev pub invariant-loop-price : goal.invariant-loop-price
invariant-loop-price l = prices_added (drop l.price-index l.prices) l.sum ≡ prices_added l.prices l.fn.start
