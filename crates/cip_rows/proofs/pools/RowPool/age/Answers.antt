use Rattle.std.proofs.lemmas.Grind.{common_steps}
use Rattle.std.proofs.Common.{◌≡◌, ◌-◌, ◌∙◌, ap, sym, subst, take, drop, arith, length, rules, nat_le, List, Contains}
use Rattle.std.specs.Prelude.{All}
use Rattle.std.proofs.lemmas.List.Elements.{All-drop}
use Rattle.std.proofs.lemmas.Fn.{filter_same}
use Rattle.cip_cert.specs.declared.rows.PoolRow.{PoolRow}
use Rattle.cip_rows.specs.declared.index.Entry.{Entry}
use Rattle.cip_rows.specs.RowIndex.{IsIndex, entry_of}
use Rattle.cip_rows.specs.RowPools.{Pool, IsSoundPool}
use Rattle.cip_rows.proofs.IndexedRows.{index_last}
use Rattle.cip_rows.proofs.KeptRows.{turned, last_kept}
use Rattle.cip_rows.proofs.pools.RowPool.age.Goals as goal

pub invariant_of-self : goal.invariant_of-self
invariant_of-self c =
    let pool : Pool = record { columns = c.self.inside.columns; rows = c.self.inside.rows.items; next = c.self.inside.next } in
    let same : c.len-count.result ≡ length c.self.inside.rows.items = omega (arith, c.len-count.ensures, c.self.inside.rows.ok.0) in
    let rows : c.truncate.new.self.items ≡ drop (length c.self.inside.rows.items - 4096) c.self.inside.rows.items = c.truncate.ensures.items ∙ ap (take 4096) c.rotate_left.ensures.items ∙ turned 4096 c.len-count.result c.self.inside.rows.items same c.if-count-le-KEPT_POOL_ROWS.false in
    let kept : IsSoundPool (record { columns = pool.columns; rows = c.truncate.new.self.items; next = pool.next }) = subst (λ (xs : List PoolRow). IsSoundPool (record { columns = pool.columns; rows = xs; next = pool.next })) (sym rows) (last_kept pool (length c.self.inside.rows.items - 4096) c.self.invariant.0) in
    let covers : All (λ r. Contains c.self.inside.entries.items (entry_of r)) c.truncate.new.self.items = subst (λ (xs : List PoolRow). All (λ r. Contains c.self.inside.entries.items (entry_of r)) xs) (sym rows) (All-drop (λ r. Contains c.self.inside.entries.items (entry_of r)) (length c.self.inside.rows.items - 4096) c.self.inside.rows.items c.self.invariant.1.covers) in
    (kept, subst (IsIndex c.truncate.new.self.items) (sym (filter_same _ (λ (entry : Entry). nat_le c.index.result.now.id entry.id) _ (λ x b f' k. search rules) _ _ c.retain.ensures.filtered)) (index_last _ _ _ c.index.result.now c.self.invariant.1 kept.rising covers c.index.ensures))

pub returns : goal.returns
returns c =
    let same : c.len-count.result ≡ length c.self.inside.rows.items = omega (arith, c.len-count.ensures, c.self.inside.rows.ok.0) in
    rw (← c.self.view_is) (ap (λ (rows : List PoolRow). record { columns = c.self.inside.columns; rows = rows; next = c.self.inside.next }) (c.truncate.ensures.items ∙ ap (take 4096) c.rotate_left.ensures.items ∙ turned 4096 c.len-count.result c.self.inside.rows.items same c.if-count-le-KEPT_POOL_ROWS.false))

pub returns-then-count-le-KEPT_POOL_ROWS : goal.returns-then-count-le-KEPT_POOL_ROWS
returns-then-count-le-KEPT_POOL_ROWS c = grind (arith, common_steps)

pub index-requires : goal.index-requires
index-requires c = grind (arith, common_steps)

pub overflow_sub-count : goal.overflow_sub-count
overflow_sub-count c = grind (arith, common_steps)

pub rotate_left-requires : goal.rotate_left-requires
rotate_left-requires c = grind (arith, common_steps)
