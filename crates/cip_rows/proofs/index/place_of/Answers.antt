use Rattle.std.proofs.lemmas.Grind.{common_steps}
use Rattle.std.proofs.Common.{ltb, rules, of_calls, ltb-true, ltb-false, arith}
use Rattle.std.proofs.lemmas.Fn.{always_returns_same}
use Rattle.std.proofs.lemmas.List.Sorted.{IsPartitionedBy-ltb}
use Rattle.cip_cert.specs.declared.rows.PoolRow.{PoolRow}
use Rattle.cip_rows.proofs.IndexedRows.{no_such_id, rising_by}
use Rattle.cip_rows.proofs.index.place_of.Goals as goal
use Rattle.cip_rows.proofs.index.place_of.Goals.{else-place-rows-via-then-place-rows+else-rows-place, else-place-rows-via-else-place-rows}
use Rattle.cip_cert.proofs.Pools.{other_default}

pub returns-else-place-rows : goal.returns-else-place-rows
returns-else-place-rows c =
    let parted = c.partition_point-place.ensures.partitioned (λ (x : PoolRow). ltb x.id c.args.id) (always_returns_same _ _ _ (λ a r f h. search (rules, of_calls))) (IsPartitionedBy-ltb (λ (x : PoolRow). x.id) c.args.rows.now c.args.id (rising_by _ c.requires)) in
    no_such_id c.args.rows.now c.args.id c.partition_point-place.result c.requires (λ k d z l. ltb-true _ _ (parted.0 k d z l)) (λ k d z l. ltb-false _ _ (parted.1 k d z l))
    (elim c.else-place-rows.branch [
      | else-place-rows-via-then-place-rows+else-rows-place w ↦ other_default _ _ _ w.index-rows-place.result w.if-rows-place.false
      | else-place-rows-via-else-place-rows w ↦ λ d l. absurd (omega (arith, l, w.if-place-rows.false))
    ])

pub returns-then-rows-place : goal.returns-then-rows-place
returns-then-rows-place c = grind (arith, common_steps)

pub bounds-rows-place : goal.bounds-rows-place
bounds-rows-place c = grind (arith, common_steps)

pub bounds-rows-place-then-place-rows : goal.bounds-rows-place-then-place-rows
bounds-rows-place-then-place-rows c = grind (arith, common_steps)

pub offset_bounds-rows-place : goal.offset_bounds-rows-place
offset_bounds-rows-place c = grind (arith, common_steps)
