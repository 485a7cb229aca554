use Rattle.std.proofs.Common.{◌≡◌, ◌+◌, ◌≤◌, ◌++◌, length, map, vec_len, vec_capacity}
use Rattle.std.specs.Prelude.{not, filter}
use Rattle.std.specs.Vec.Iter.{drain_items}
use Rattle.cip_solve.specs.Kits.{is_off}
use Rattle.cip_solve.proofs.aside.part.Given as goal

abbrev pub invariant-loop-plugin : goal.invariant-loop-plugin
invariant-loop-plugin g l = record {
  kept : l.kept.items ++ filter (λ plugin. not (is_off (map (λ name. name.now) l.names) (g.P.Tells.who plugin))) (drain_items l.plugin-iterator)
      ≡ l.initial.kept.items ++ filter (λ plugin. not (is_off (map (λ name. name.now) l.names) (g.P.Tells.who plugin))) (drain_items l.initial.plugin-iterator);
  spent : l.spent.items ++ map g.P.Leaves.left (filter (λ plugin. is_off (map (λ name. name.now) l.names) (g.P.Tells.who plugin)) (drain_items l.plugin-iterator))
      ≡ l.initial.spent.items ++ map g.P.Leaves.left (filter (λ plugin. is_off (map (λ name. name.now) l.names) (g.P.Tells.who plugin)) (drain_items l.initial.plugin-iterator));
  room : vec_len l.kept + length (drain_items l.plugin-iterator) ≤ vec_capacity l.kept;
  spare : vec_len l.spent + length (drain_items l.plugin-iterator) ≤ vec_capacity l.spent;
}
