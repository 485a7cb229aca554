-- The order in which plugins are called, in plain terms.
use Rattle.std.specs.Ordering.{int_cmp, nat_cmp}
use Rattle.std.specs.declared.cmp.Ordering.{Ordering}
use Rattle.std.specs.declared.cmp.Ordering.TheVariants.{Less, Equal, Greater}
use Rattle.cip_plugin.specs.declared.keys.Key.{Key}

-- the first of two comparisons decides, where it tells the two apart
abbrev pub decided_by : Ordering → Ordering → Ordering
decided_by Less other = Less
decided_by Equal other = other
decided_by Greater other = Greater

-- who has a higher priority comes first, and of equal ones who has the lower number
abbrev pub rank_order : Key → Key → Ordering
rank_order a b = decided_by (int_cmp b.rank.0 a.rank.0) (nat_cmp a.id b.id)
