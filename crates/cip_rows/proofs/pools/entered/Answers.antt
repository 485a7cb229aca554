use Rattle.std.proofs.lemmas.Grind.{common_steps}
use Rattle.std.proofs.Common.{◌<◌, ◌≤◌, sym, subst, length, List, arith}
use Rattle.std.specs.List.{AllWithin}
use Rattle.cip_rows.specs.declared.index.Entry.{Entry}
use Rattle.cip_rows.specs.RowIndex.{IsEntered, AreSorted}
use Rattle.cip_rows.proofs.IndexedRows as index
use Rattle.cip_rows.proofs.KeptRows.{has_place}
use Rattle.cip_rows.proofs.pools.entered.Goals as goal

pub first_from-place-requires : goal.first_from-place-requires
first_from-place-requires c = subst AreSorted (sym c.as_slice.ensures.value) c.requires

pub returns-in-Ok-clause-rows : goal.returns-in-Ok-clause-rows
returns-in-Ok-clause-rows c = c.reserve.ensures.items

pub returns-in-Err-clause-rows : goal.returns-in-Err-clause-rows
returns-in-Err-clause-rows c = c.reserve.ensures.items

pub returns-in-Ok-clause-entered : goal.returns-in-Ok-clause-entered
returns-in-Ok-clause-entered c =
    let read = c.as_slice.ensures.value in (
      c.in_ok-copy.ensures,
      has_place _ _ c.in_ok-reserve.ensures.ok,
      subst (IsEntered c.args.entries.now.items c.args.entry) (sym c.in-Ok.ensures.items)
          (index.entered c.args.entries.now.items c.args.entry c.first_from-place.result c.requires
          (subst (λ (xs : List Entry). c.first_from-place.result ≤ length xs) read c.first_from-place.ensures.within)
          (subst (λ (xs : List Entry). AllWithin (λ (e : Entry). e.print < c.args.entry.print) xs 0 c.first_from-place.result) read c.first_from-place.ensures.before)
          (subst (λ (xs : List Entry). AllWithin (λ (e : Entry). c.args.entry.print ≤ e.print) xs c.first_from-place.result (length xs)) read c.first_from-place.ensures.after)),
    )

pub returns-in-Err-clause-entered : goal.returns-in-Err-clause-entered
returns-in-Err-clause-entered c = c.in-Err.ensures.items

pub insert-requires : goal.insert-requires
insert-requires c = grind (arith, common_steps)

pub returns-in_err-reserve-clause-rows : goal.returns-in_err-reserve-clause-rows
returns-in_err-reserve-clause-rows c = grind (arith, common_steps)
