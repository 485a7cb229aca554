use Rattle.std.proofs.lemmas.Grind.{common_steps}
use Rattle.std.proofs.Common.{refl, arith}
use Rattle.cip_roster.proofs.Keeping.{noted_some}
use Rattle.cip_roster.proofs.turns.note_unless.Goals as goal

pub returns-then-nothing-clause-run : goal.returns-then-nothing-clause-run
returns-then-nothing-clause-run g c = rw c.if-nothing.true refl

pub returns-clause-run : goal.returns-clause-run
returns-clause-run g c =
    rw c.if-nothing.false (noted_some _ _ c.args.id c.args.word c.requires.note c.requires.seat c.note.ensures.seats
    c.note.ensures.places c.note.ensures.names c.note.ensures.kept c.note.ensures.lines)

pub returns-clause-rankings : goal.returns-clause-rankings
returns-clause-rankings g c = grind (arith, common_steps)

pub returns-clause-seats : goal.returns-clause-seats
returns-clause-seats g c = grind (arith, common_steps)

pub returns-clause-room : goal.returns-clause-room
returns-clause-room g c = grind (arith, common_steps)

pub note-requires : goal.note-requires
note-requires g c = grind (arith, common_steps)

pub returns-then-nothing-clause-room : goal.returns-then-nothing-clause-room
returns-then-nothing-clause-room g c = grind (arith, common_steps)
