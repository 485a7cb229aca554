use Rattle.std.proofs.lemmas.Result.{IfOk-from_err}
use Rattle.std.proofs.Common.{length, None, subst}
use Rattle.cip_relax.proofs.Room.{same_room, room_stays}
use Rattle.cip_cert.specs.Lent.{Lent}
use Rattle.cip_relax.specs.Guessing.{IsGuessed}
use Rattle.cip_relax.specs.NodeRows.{usable_rows}
use Rattle.cip_relax.proofs.Ready.{rows_lent, is_ready}
use Rattle.cip_relax.proofs.Rounding.{same_program}
use Rattle.cip_relax.proofs.guessing.by_guess.Goals as goal

pub returns-in-Beside-clause-guessed : goal.returns-in-Beside-clause-guessed
returns-in-Beside-clause-guessed c =
    let program = c.args.program.now in
    let box = c.args.usable.now.bounds.now in
    let lent : Lent = record { own = program.rows; pool = c.args.usable.now.pool.now.rows; cutoff = None } in
    let others = rows_lent c.args.usable.now.rows.items c.as_slice.result.now
    (usable_rows c.args.usable.now.bounds.now c.args.usable.now.pool.now.rows) c.as_slice.ensures.value
    c.requires.others in
    let same = same_program program lent box c.rows.result.now c.as_slice.result.now c.costs.result.now c.rows.ensures.rows others c.costs.ensures.costs in
    let columns = length c.args.scratch.now.row.entries in
    let beside = subst (IsGuessed program lent box columns) c.in-Beside.is
    (c.in_ok-beside.ensures.guessed lent box columns same) in
    c.guessed_anew.ensures.guessed lent box columns same beside

pub returns-in-Shown-clause-guessed : goal.returns-in-Shown-clause-guessed
returns-in-Shown-clause-guessed c =
    let program = c.args.program.now in
    let box = c.args.usable.now.bounds.now in
    let lent : Lent = record { own = program.rows; pool = c.args.usable.now.pool.now.rows; cutoff = None } in
    let others = rows_lent c.args.usable.now.rows.items c.as_slice.result.now
    (usable_rows c.args.usable.now.bounds.now c.args.usable.now.pool.now.rows) c.as_slice.ensures.value
    c.requires.others in
    let same = same_program program lent box c.rows.result.now c.as_slice.result.now c.costs.result.now c.rows.ensures.rows others c.costs.ensures.costs in
    subst (IsGuessed program lent box (length c.args.scratch.now.row.entries)) c.in-Shown.is
    (c.in_ok-beside.ensures.guessed lent box (length c.args.scratch.now.row.entries) same)

pub show-requires-clause-ready : goal.show-requires-clause-ready
show-requires-clause-ready c =
    is_ready _ c.args.program.now c.args.usable.now.pool.now c.requires.columns c.requires.pool
    c.rows.ensures.rows c.rows-2.ensures.rows c.costs.ensures.costs
    (rows_lent c.args.usable.now.rows.items c.as_slice.result.now
    (usable_rows c.args.usable.now.bounds.now c.args.usable.now.pool.now.rows) c.as_slice.ensures.value
    c.requires.others)
    c.rows.ensures.formed c.rows-2.ensures.kept

pub weighed_or_rounded-requires-clause-ready : goal.weighed_or_rounded-requires-clause-ready
weighed_or_rounded-requires-clause-ready c =
    is_ready _ c.args.program.now c.args.usable.now.pool.now c.requires.columns c.requires.pool
    c.rows.ensures.rows c.rows-2.ensures.rows c.costs.ensures.costs
    (rows_lent c.args.usable.now.rows.items c.as_slice.result.now
    (usable_rows c.args.usable.now.bounds.now c.args.usable.now.pool.now.rows) c.as_slice.ensures.value
    c.requires.others)
    c.rows.ensures.formed c.rows-2.ensures.kept

pub guessed_anew-requires-clause-ready : goal.guessed_anew-requires-clause-ready
guessed_anew-requires-clause-ready c =
    is_ready _ c.args.program.now c.args.usable.now.pool.now c.requires.columns c.requires.pool
    c.rows.ensures.rows c.rows-2.ensures.rows c.costs.ensures.costs
    (rows_lent c.args.usable.now.rows.items c.as_slice.result.now
    (usable_rows c.args.usable.now.bounds.now c.args.usable.now.pool.now.rows) c.as_slice.ensures.value
    c.requires.others)
    c.rows.ensures.formed c.rows-2.ensures.kept

pub returns-in_err-beside-clause-guessed : goal.returns-in_err-beside-clause-guessed
returns-in_err-beside-clause-guessed c =
    IfOk-from_err c.from_residual-in_err-beside.result _ c.from_residual-in_err-beside.ensures.0

pub returns-in_err-shown-clause-guessed : goal.returns-in_err-shown-clause-guessed
returns-in_err-shown-clause-guessed c = IfOk-from_err c.from_residual.result _ c.from_residual.ensures.0

pub returns-in_err-shown-clause-room : goal.returns-in_err-shown-clause-room
returns-in_err-shown-clause-room c = c.show.ensures.room

pub weighed_or_rounded-requires-clause-shown : goal.weighed_or_rounded-requires-clause-shown
weighed_or_rounded-requires-clause-shown c = c.in_ok-shown.ensures.shown

pub show-requires-clause-room : goal.show-requires-clause-room
show-requires-clause-room c = c.requires.room

pub returns-in-Beside-clause-room : goal.returns-in-Beside-clause-room
returns-in-Beside-clause-room c =
    same_room (length c.args.scratch.now.row.entries) (length c.weighed_or_rounded.new.scratch.row.entries)
    (length c.guessed_anew.new.scratch.row.entries) c.guessed_anew.ensures.room
    (same_room (length c.args.scratch.now.row.entries) (length c.show.new.scratch.row.entries)
    (length c.weighed_or_rounded.new.scratch.row.entries) c.weighed_or_rounded.ensures.room c.show.ensures.room)

pub returns-in-Shown-clause-room : goal.returns-in-Shown-clause-room
returns-in-Shown-clause-room c =
    same_room (length c.args.scratch.now.row.entries) (length c.show.new.scratch.row.entries)
    (length c.weighed_or_rounded.new.scratch.row.entries) c.weighed_or_rounded.ensures.room c.show.ensures.room

pub returns-in_err-beside-clause-room : goal.returns-in_err-beside-clause-room
returns-in_err-beside-clause-room c =
    same_room (length c.args.scratch.now.row.entries) (length c.show.new.scratch.row.entries)
    (length c.weighed_or_rounded.new.scratch.row.entries) c.weighed_or_rounded.ensures.room c.show.ensures.room

pub weighed_or_rounded-requires-clause-room : goal.weighed_or_rounded-requires-clause-room
weighed_or_rounded-requires-clause-room c =
    room_stays (length c.args.usable.now.bounds.now) (length c.args.scratch.now.row.entries)
    (length c.show.new.scratch.row.entries) c.show.ensures.room c.requires.room

pub guessed_anew-requires-clause-room : goal.guessed_anew-requires-clause-room
guessed_anew-requires-clause-room c =
    room_stays (length c.args.usable.now.bounds.now) (length c.show.new.scratch.row.entries)
    (length c.weighed_or_rounded.new.scratch.row.entries) c.weighed_or_rounded.ensures.room
    (room_stays (length c.args.usable.now.bounds.now) (length c.args.scratch.now.row.entries)
    (length c.show.new.scratch.row.entries) c.show.ensures.room c.requires.room)
