use Rattle.cip_dict.specs.Pivots.{absent_by}
use Rattle.cip_bland.specs.Operations.{entry_place}
use Rattle.cip_dict.proofs.LineEntries.{substituted_as}
use Rattle.std.proofs.lemmas.Grind.{common_steps}
use Rattle.std.proofs.Common.{◌∙◌, refl, length, arith, suc, ◌==◌}
use Rattle.cip_bland.specs.Exchange.{substituted}
use Rattle.cip_bland.specs.MoveOperations.{substituted_operations}
use Rattle.cip_dict.specs.Lists.{basic_in}
use Rattle.cip_dict.specs.SparseLines.{entry_on, IsNext}
use Rattle.cip_dict.proofs.Places.{place_zero}
use Rattle.cip_dict.proofs.KeptLoops.{pass_gap, keep_more, are_kept, substituted_gap}
use Rattle.cip_dict.proofs.MoveFaults.{fault_at}
use Rattle.cip_dict.proofs.lines.substitute_entries.Goals as goal

pub loop-k-init : goal.loop-k-init
loop-k-init c =
    let next : IsNext c.args.row.now c.args.new.now 0 0 0 c.next_variable-k.result = c.next_variable-k.ensures.next 0 (omega arith) (place_zero c.args.row.now) (place_zero c.args.new.now) in
    let begun = pass_gap 0 c.next_variable-k.result
    (substituted_operations c.args.line (basic_in c.args.pivot.now.standing.now) c.args.pivot.now.leaving c.args.pivot.now.entering c.args.pivot.now.inverse (entry_on c.args.new.now) (entry_on c.args.row.now))
    (substituted (basic_in c.args.pivot.now.standing.now) c.args.pivot.now.leaving c.args.pivot.now.entering c.args.pivot.now.inverse (entry_on c.args.new.now) (entry_on c.args.row.now))
    c.clear.new.self.items next.order refl c.clear.ensures.items
    (λ m a b. substituted_gap c.args.line (basic_in c.args.pivot.now.standing.now) c.args.pivot.now.leaving c.args.pivot.now.entering c.args.pivot.now.inverse (entry_on c.args.new.now) (entry_on c.args.row.now) m c.requires.leaving (next.row_none m a b) (next.new_none m a b)) in
    record { within = c.next_variable-k.ensures.within; row_place = next.row_place; new_place = next.new_place; fits = begun.0; written = begun.1 }

pub loop-k-preserved : goal.loop-k-preserved
loop-k-preserved c =
    let next : IsNext c.args.row.now c.args.new.now c.place_past-here.result c.place_past-there.result (suc c.loop-k.k) c.next_variable-k-in-loop-k.result =
    c.next_variable-k-in-loop-k.ensures.next (suc c.loop-k.k) (omega arith) c.place_past-here.ensures c.place_past-there.ensures in
    let here = c.in-Ok.ensures.written _ _ (substituted_as (entry_place c.args.line c.loop-k.k) (c.loop-k.k == c.args.pivot.now.leaving) (absent_by c.args.pivot.now c.loop-k.k) c.args.pivot.now.inverse c.entry_from-a.result (entry_on c.args.row.now c.loop-k.k) c.args.b (entry_on c.args.row.now c.args.pivot.now.entering) c.entry_from-c.result (entry_on c.args.new.now c.loop-k.k) c.substituted_entry.result c.entry_from-a.ensures c.requires.on c.entry_from-c.ensures c.substituted_entry.ensures) in
    let more = keep_more c.loop-k.k c.next_variable-k-in-loop-k.result
    (substituted_operations c.args.line (basic_in c.args.pivot.now.standing.now) c.args.pivot.now.leaving c.args.pivot.now.entering c.args.pivot.now.inverse (entry_on c.args.new.now) (entry_on c.args.row.now))
    (substituted (basic_in c.args.pivot.now.standing.now) c.args.pivot.now.leaving c.args.pivot.now.entering c.args.pivot.now.inverse (entry_on c.args.new.now) (entry_on c.args.row.now))
    c.loop-k.out.items c.keep_formed.new.out.items next.order c.loop-k.invariant.fits here.0 c.loop-k.invariant.written here.1
    (λ m a b. substituted_gap c.args.line (basic_in c.args.pivot.now.standing.now) c.args.pivot.now.leaving c.args.pivot.now.entering c.args.pivot.now.inverse (entry_on c.args.new.now) (entry_on c.args.row.now) m c.requires.leaving (next.row_none m a b) (next.new_none m a b)) in
    record { within = c.next_variable-k-in-loop-k.ensures.within; row_place = next.row_place; new_place = next.new_place; fits = more.0; written = more.1 }

pub returns-in-Err-clause-written : goal.returns-in-Err-clause-written
returns-in-Err-clause-written c =
    fault_at (length c.args.pivot.now.standing.now) c.loop-k.k _ c.in-Err.fault (omega arith) c.loop-k.invariant.fits
    (c.in-Err.ensures.written _ _ (substituted_as (entry_place c.args.line c.loop-k.k) (c.loop-k.k == c.args.pivot.now.leaving) (absent_by c.args.pivot.now c.loop-k.k) c.args.pivot.now.inverse c.entry_from-a.result (entry_on c.args.row.now c.loop-k.k) c.args.b (entry_on c.args.row.now c.args.pivot.now.entering) c.entry_from-c.result (entry_on c.args.new.now c.loop-k.k) c.substituted_entry.result c.entry_from-a.ensures c.requires.on c.entry_from-c.ensures c.substituted_entry.ensures))

pub returns-in-Err-clause-kept : goal.returns-in-Err-clause-kept
returns-in-Err-clause-kept c = are_kept c.loop-k.k (length c.args.pivot.now.standing.now) _ _ (c.in-Err.ensures.left ∙ c.loop-k.invariant.written) c.loop-k.invariant.within

pub returns-clause-kept : goal.returns-clause-kept
returns-clause-kept c = are_kept c.loop-k.k (length c.args.pivot.now.standing.now) _ _ c.loop-k.invariant.written c.loop-k.invariant.within

pub next_variable-k-requires-clause-row_kept : goal.next_variable-k-requires-clause-row_kept
next_variable-k-requires-clause-row_kept c = c.requires.row_kept

pub next_variable-k-requires-clause-new_kept : goal.next_variable-k-requires-clause-new_kept
next_variable-k-requires-clause-new_kept c = c.requires.new_kept

pub entry_from-a-requires-clause-kept : goal.entry_from-a-requires-clause-kept
entry_from-a-requires-clause-kept c = (length c.args.pivot.now.standing.now, c.requires.row_kept)

pub entry_from-a-requires-clause-at : goal.entry_from-a-requires-clause-at
entry_from-a-requires-clause-at c = c.loop-k.invariant.row_place

pub entry_from-c-requires-clause-kept : goal.entry_from-c-requires-clause-kept
entry_from-c-requires-clause-kept c = (length c.args.pivot.now.standing.now, c.requires.new_kept)

pub entry_from-c-requires-clause-at : goal.entry_from-c-requires-clause-at
entry_from-c-requires-clause-at c = c.loop-k.invariant.new_place

pub place_past-here-requires-clause-kept : goal.place_past-here-requires-clause-kept
place_past-here-requires-clause-kept c = (length c.args.pivot.now.standing.now, c.requires.row_kept)

pub place_past-here-requires-clause-at : goal.place_past-here-requires-clause-at
place_past-here-requires-clause-at c = c.loop-k.invariant.row_place

pub place_past-there-requires-clause-kept : goal.place_past-there-requires-clause-kept
place_past-there-requires-clause-kept c = (length c.args.pivot.now.standing.now, c.requires.new_kept)

pub place_past-there-requires-clause-at : goal.place_past-there-requires-clause-at
place_past-there-requires-clause-at c = c.loop-k.invariant.new_place

pub next_variable-k-requires-in-loop-k-clause-row_kept : goal.next_variable-k-requires-in-loop-k-clause-row_kept
next_variable-k-requires-in-loop-k-clause-row_kept c = c.requires.row_kept

pub next_variable-k-requires-in-loop-k-clause-new_kept : goal.next_variable-k-requires-in-loop-k-clause-new_kept
next_variable-k-requires-in-loop-k-clause-new_kept c = c.requires.new_kept

pub loop-k-smaller : goal.loop-k-smaller
loop-k-smaller c = grind (arith, common_steps)

pub returns-clause-written : goal.returns-clause-written
returns-clause-written c = grind (arith, common_steps)

pub substituted_entry-requires : goal.substituted_entry-requires
substituted_entry-requires c = grind (arith, common_steps)

pub overflow_cast-len : goal.overflow_cast-len
overflow_cast-len c = grind (arith, common_steps)
