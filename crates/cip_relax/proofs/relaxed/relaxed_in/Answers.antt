use Rattle.std.proofs.Common.{sym, List, None, length, subst, arith}
use Rattle.std.proofs.lemmas.Grind.{common_steps}
use Rattle.cip_relax.proofs.Ready.{ids_lent, relaxed_lent, rows_fit}
use Rattle.cip_relax.proofs.Room.{same_room, room_stays}
use Rattle.cip_relax.specs.Guessing.{IsGuessed}
use Rattle.cip_relax.specs.Solving.{SaysRight}
use Rattle.cip_relax.specs.NodeRows.{usable_rows}
use Rattle.cip_search.specs.Relaxation.{relaxation}
use Rattle.cip_cert.specs.declared.rows.PoolRow.{PoolRow}
use Rattle.cip_cert.specs.Lent.{Lent}
use Rattle.cip_relax.proofs.relaxed.relaxed_in.Goals as goal

pub overflow_add-variables : goal.overflow_add-variables
overflow_add-variables c = grind (arith, common_steps)

pub by_guess-requires-clause-pool : goal.by_guess-requires-clause-pool
by_guess-requires-clause-pool c = grind (arith, common_steps)

pub by_guess-requires-clause-columns : goal.by_guess-requires-clause-columns
by_guess-requires-clause-columns c = grind (arith, common_steps)

pub by_guess-requires-clause-others : goal.by_guess-requires-clause-others
by_guess-requires-clause-others c = grind (arith, common_steps)

pub by_guess-requires-clause-room : goal.by_guess-requires-clause-room
by_guess-requires-clause-room c = grind (arith, common_steps)

pub returns-in-Err-clause-relaxed : goal.returns-in-Err-clause-relaxed
returns-in-Err-clause-relaxed c = grind (arith, common_steps)

pub returns-in-Err-solved-clause-relaxed : goal.returns-in-Err-solved-clause-relaxed
returns-in-Err-solved-clause-relaxed c = grind (arith, common_steps)

pub judged-relaxed-requires-clause-columns : goal.judged-relaxed-requires-clause-columns
judged-relaxed-requires-clause-columns c = c.requires.columns

pub judged-relaxed-requires-clause-fits : goal.judged-relaxed-requires-clause-fits
judged-relaxed-requires-clause-fits c =
    rows_fit c.args.program.now c.args.usable.now.pool.now (length c.args.usable.now.bounds.now)
    c.rows-in-Ok-solved.result.now c.rows-in-Ok-solved-2.result.now c.requires.columns c.requires.pool
    c.rows-in-Ok-solved.ensures.rows c.rows-in-Ok-solved-2.ensures.rows
    c.rows-in-Ok-solved.ensures.formed c.rows-in-Ok-solved-2.ensures.kept

pub judged-relaxed-requires-clause-solved : goal.judged-relaxed-requires-clause-solved
judged-relaxed-requires-clause-solved c =
    let box = c.args.usable.now.bounds.now in
    subst (λ (rows : List PoolRow). SaysRight (relaxation c.args.program.now (usable_rows box rows) box)
    c.in-Ok-solved.found) (sym c.rows-in-Ok-solved-2.ensures.rows) c.in-Ok-solved.ensures

pub returns-in-Err-clause-room : goal.returns-in-Err-clause-room
returns-in-Err-clause-room c = c.by_guess.ensures.room

pub returns-in-Err-solved-clause-room : goal.returns-in-Err-solved-clause-room
returns-in-Err-solved-clause-room c = c.by_guess.ensures.room

pub returns-in-Ok-clause-room : goal.returns-in-Ok-clause-room
returns-in-Ok-clause-room c = c.by_guess.ensures.room

pub returns-in_err-relaxed-clause-room : goal.returns-in_err-relaxed-clause-room
returns-in_err-relaxed-clause-room c = c.by_guess.ensures.room

pub solved-requires-clause-pool : goal.solved-requires-clause-pool
solved-requires-clause-pool c = c.requires.pool

pub solved-requires-clause-columns : goal.solved-requires-clause-columns
solved-requires-clause-columns c = c.requires.columns

pub solved-requires-clause-others : goal.solved-requires-clause-others
solved-requires-clause-others c = c.requires.others

pub returns-in-Ok-clause-relaxed : goal.returns-in-Ok-clause-relaxed
returns-in-Ok-clause-relaxed c =
    let lent : Lent = record { own = c.args.program.now.rows; pool = c.args.usable.now.pool.now.rows; cutoff = None } in
    subst (IsGuessed c.args.program.now lent c.args.usable.now.bounds.now (length c.args.scratch.now.row.entries))
    c.in-Shown.is c.in_ok-relaxed.ensures.guessed

pub judged-relaxed-requires-clause-room : goal.judged-relaxed-requires-clause-room
judged-relaxed-requires-clause-room c =
    room_stays (length c.args.usable.now.bounds.now) (length c.args.scratch.now.row.entries)
    (length c.by_guess.new.scratch.row.entries) c.by_guess.ensures.room c.requires.room

pub returns-in-Ok-solved-clause-room : goal.returns-in-Ok-solved-clause-room
returns-in-Ok-solved-clause-room c =
    same_room (length c.args.scratch.now.row.entries) (length c.by_guess.new.scratch.row.entries)
    (length c.judged-relaxed.new.scratch.row.entries) c.judged-relaxed.ensures.room c.by_guess.ensures.room

pub judged-relaxed-requires-clause-ids : goal.judged-relaxed-requires-clause-ids
judged-relaxed-requires-clause-ids c =
    ids_lent c.args.usable.now.bounds.now c.args.usable.now.ids.items c.as_slice-ids.result.now
    c.args.usable.now.pool.now.rows c.rows-in-Ok-solved-2.result.now
    c.as_slice-ids.ensures.value c.requires.ids c.rows-in-Ok-solved-2.ensures.rows

pub returns-in-Ok-solved-clause-relaxed : goal.returns-in-Ok-solved-clause-relaxed
returns-in-Ok-solved-clause-relaxed c =
    let program = c.args.program.now in
    let box = c.args.usable.now.bounds.now in
    let pool = c.args.usable.now.pool.now.rows in
    let lent : Lent = record { own = program.rows; pool = pool; cutoff = None } in
    let wide = length c.args.scratch.now.row.entries in
    c.with_beside.ensures program lent box wide
    (relaxed_lent program box c.rows-in-Ok-solved.result.now pool c.rows-in-Ok-solved-2.result.now wide
    (length c.by_guess.new.scratch.row.entries) c.judged-relaxed.result
    c.rows-in-Ok-solved.ensures.rows c.rows-in-Ok-solved-2.ensures.rows c.by_guess.ensures.room
    c.judged-relaxed.ensures.relaxed)
    (subst (IsGuessed program lent box wide) c.in-Beside.is c.in_ok-relaxed.ensures.guessed)
