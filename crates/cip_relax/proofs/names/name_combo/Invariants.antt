use Rattle.std.proofs.Common.{◌≡◌}
use Rattle.cip_relax.specs.NodeRows.{named_multiple}
use Rattle.cip_relax.proofs.Lists.{first_mapped}
use Rattle.cip_relax.proofs.names.name_combo.Given as goal

abbrev pub invariant-loop-at : goal.invariant-loop-at
invariant-loop-at l = record {
  rows : l.combo.rows.items ≡ first_mapped (named_multiple l.own l.ids) l.at l.fn.combo.rows.items;
  lows : l.combo.lows.items ≡ l.fn.combo.lows.items;
  highs : l.combo.highs.items ≡ l.fn.combo.highs.items;
}
