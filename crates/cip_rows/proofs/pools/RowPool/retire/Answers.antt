use Rattle.std.proofs.Common.{◌≡◌, ◌==◌, not, refl, rules, filter, sym, subst, subst₂, List}
use Rattle.std.proofs.lemmas.Fn.{filter_same}
use Rattle.cip_cert.specs.declared.rows.PoolRow.{PoolRow}
use Rattle.cip_rows.specs.declared.index.Entry.{Entry}
use Rattle.cip_rows.specs.RowIndex.{IsIndex}
use Rattle.cip_rows.specs.RowPools.{Pool, IsSoundPool}
use Rattle.cip_rows.proofs.IndexedRows.{index_retired}
use Rattle.cip_rows.proofs.KeptRows.{some_kept}
use Rattle.cip_rows.proofs.pools.RowPool.retire.Goals as goal

pub invariant_of-self : goal.invariant_of-self
invariant_of-self c =
    let pool : Pool = record { columns = c.self.inside.columns; rows = c.self.inside.rows.items; next = c.self.inside.next } in
    let rows : c.retain.new.self.items ≡ filter (λ (kept : PoolRow). not (kept.id == c.args.id)) c.self.inside.rows.items = filter_same _ (λ (kept : PoolRow). not (kept.id == c.args.id)) _ (λ x b f' k. search rules) _ _ c.retain.ensures.filtered in (
      subst (λ (xs : List PoolRow). IsSoundPool (record { columns = pool.columns; rows = xs; next = pool.next })) (sym rows) (some_kept pool (λ (kept : PoolRow). not (kept.id == c.args.id)) c.self.invariant.0),
      subst₂ IsIndex (sym rows) (sym (filter_same _ (λ (entry : Entry). not (entry.id == c.args.id)) _ (λ x b f' k. search rules) _ _ c.retain-2.ensures.filtered)) (index_retired _ _ c.args.id c.self.invariant.1),
    )

pub returns : goal.returns
returns c = rw (filter_same _ (λ (kept : PoolRow). not (kept.id == c.args.id)) _ (λ x b f' k. search rules) _ _ c.retain.ensures.filtered, ← c.self.view_is) refl
