use Rattle.std.proofs.Common.{◌≡◌, not, refl, rules, sym, subst, subst₂, List}
use Rattle.std.proofs.lemmas.Fn.{filter_same}
use Rattle.cip_cert.specs.declared.rows.PoolRow.{PoolRow}
use Rattle.cip_rows.specs.declared.index.Entry.{Entry}
use Rattle.cip_cert.specs.Resting.{released}
use Rattle.cip_rows.specs.RowIndex.{IsIndex}
use Rattle.cip_rows.specs.RowPools.{Pool, IsSoundPool}
use Rattle.cip_rows.proofs.IndexedRows.{index_released}
use Rattle.cip_rows.proofs.KeptRows.{some_kept}
use Rattle.cip_rows.proofs.pools.RowPool.release.Goals as goal

pub invariant_of-self : goal.invariant_of-self
invariant_of-self c =
    let pool : Pool = record { columns = c.self.inside.columns; rows = c.self.inside.rows.items; next = c.self.inside.next } in
    let rows : c.retain.new.self.items ≡ released c.self.inside.rows.items = filter_same _ (λ (kept : PoolRow). not kept.rests) _ (λ x b f' k. search rules) _ _ c.retain.ensures.filtered in (
      subst (λ (xs : List PoolRow). IsSoundPool (record { columns = pool.columns; rows = xs; next = pool.next })) (sym rows) (some_kept pool (λ (kept : PoolRow). not kept.rests) c.self.invariant.0),
      subst₂ IsIndex (sym rows) (sym (filter_same _ (λ (entry : Entry). not entry.rests) _ (λ x b f' k. search rules) _ _ c.retain-2.ensures.filtered)) (index_released _ _ c.self.invariant.1),
    )

pub returns : goal.returns
returns c = rw (filter_same _ (λ (kept : PoolRow). not kept.rests) _ (λ x b f' k. search rules) _ _ c.retain.ensures.filtered, ← c.self.view_is) refl
