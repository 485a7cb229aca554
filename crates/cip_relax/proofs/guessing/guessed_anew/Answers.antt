use Rattle.std.proofs.Common.{length, arith}
use Rattle.std.proofs.lemmas.Grind.{common_steps}
use Rattle.cip_relax.proofs.Room.{same_room, room_stays}
use Rattle.cip_relax.proofs.guessing.guessed_anew.Goals as goal

pub returns-in-Ok-Beside-clause-guessed : goal.returns-in-Ok-Beside-clause-guessed
returns-in-Ok-Beside-clause-guessed c = λ lent box columns same beside.
    let other = rw c.in-Ok-Beside.field-0-is at (c.in-Ok-Beside.ensures.guessed lent box columns same) in
    record { point = beside.point; bound = c.greater_bound-bound.ensures.shows c.args.program.now lent box beside.bound other.bound }

pub returns-in-Ok-Shown-clause-guessed : goal.returns-in-Ok-Shown-clause-guessed
returns-in-Ok-Shown-clause-guessed c = λ lent box columns same beside.
    rw c.in-Ok-Shown.field-0-is at (c.in-Ok-Shown.ensures.guessed lent box columns same)

pub returns-in-Err-clause-guessed : goal.returns-in-Err-clause-guessed
returns-in-Err-clause-guessed c = grind (arith, common_steps)

pub weighed_or_rounded-requires-clause-shown : goal.weighed_or_rounded-requires-clause-shown
weighed_or_rounded-requires-clause-shown c = grind (arith, common_steps)

pub show_anew-requires-clause-room : goal.show_anew-requires-clause-room
show_anew-requires-clause-room c = grind (arith, common_steps)

pub show_anew-requires-clause-ready : goal.show_anew-requires-clause-ready
show_anew-requires-clause-ready c = grind (arith, common_steps)

pub returns-then-not-are_both-clause-guessed : goal.returns-then-not-are_both-clause-guessed
returns-then-not-are_both-clause-guessed c = grind (arith, common_steps)

pub returns-in_default-clause-guessed : goal.returns-in_default-clause-guessed
returns-in_default-clause-guessed c = grind (arith, common_steps)

pub returns-then-not-are_both-clause-room : goal.returns-then-not-are_both-clause-room
returns-then-not-are_both-clause-room c = grind (arith, common_steps)

pub returns-in_default-clause-room : goal.returns-in_default-clause-room
returns-in_default-clause-room c = c.show_anew.ensures.room

pub weighed_or_rounded-requires-clause-ready : goal.weighed_or_rounded-requires-clause-ready
weighed_or_rounded-requires-clause-ready c = c.requires.ready

pub weighed_or_rounded-requires-clause-room : goal.weighed_or_rounded-requires-clause-room
weighed_or_rounded-requires-clause-room c =
    room_stays (length c.args.problem.now.bounds.now) (length c.args.scratch.now.row.entries)
    (length c.show_anew.new.scratch.row.entries) c.show_anew.ensures.room c.requires.room

pub returns-in-Ok-Beside-clause-room : goal.returns-in-Ok-Beside-clause-room
returns-in-Ok-Beside-clause-room c =
    same_room (length c.args.scratch.now.row.entries) (length c.show_anew.new.scratch.row.entries)
    (length c.weighed_or_rounded.new.scratch.row.entries) c.weighed_or_rounded.ensures.room c.show_anew.ensures.room

pub returns-in-Ok-Shown-clause-room : goal.returns-in-Ok-Shown-clause-room
returns-in-Ok-Shown-clause-room c =
    same_room (length c.args.scratch.now.row.entries) (length c.show_anew.new.scratch.row.entries)
    (length c.weighed_or_rounded.new.scratch.row.entries) c.weighed_or_rounded.ensures.room c.show_anew.ensures.room

pub returns-in-Err-clause-room : goal.returns-in-Err-clause-room
returns-in-Err-clause-room c =
    same_room (length c.args.scratch.now.row.entries) (length c.show_anew.new.scratch.row.entries)
    (length c.weighed_or_rounded.new.scratch.row.entries) c.weighed_or_rounded.ensures.room c.show_anew.ensures.room
