use Rattle.std.proofs.lemmas.Grind.{common_steps}
use Rattle.std.proofs.Common.{◌∙◌, arith}
use Rattle.cip_plugin.specs.declared.stages.Stage.TheVariants as stages
use Rattle.cip_roster.proofs.Turning.{begun, stands_same, stands_some}
use Rattle.cip_roster.proofs.turns.begin.Goals as goal

pub note_unless-requires-clause-seat : goal.note_unless-requires-clause-seat
note_unless-requires-clause-seat g c =
    stands_some stages.Begun (g.R.Seated.state c.init-first.new.self) c.args.id c.init-first.ensures.at

pub init_solve-second-requires-clause-at : goal.init_solve-second-requires-clause-at
init_solve-second-requires-clause-at g c =
    stands_same stages.Begun (g.R.Seated.state c.init-first.new.self) (g.R.Seated.state c.note_unless.new.roster)
    c.args.id c.note_unless.ensures.seats c.init-first.ensures.at

pub note_unless-requires-2-clause-seat : goal.note_unless-requires-2-clause-seat
note_unless-requires-2-clause-seat g c =
    stands_some stages.Playing (g.R.Seated.state c.init_solve-second.new.self) c.args.id c.init_solve-second.ensures.at

pub returns-clause-run : goal.returns-clause-run
returns-clause-run g c = (
  (c.init-first.result, c.init_solve-second.result),
  begun (g.R.Seated.state c.args.roster.now) (g.R.Seated.state c.init-first.new.self)
      (g.R.Seated.state c.note_unless.new.roster) (g.R.Seated.state c.init_solve-second.new.self)
      (g.R.Seated.state c.note_unless-2.new.roster) c.args.id c.init-first.result c.init_solve-second.result
      c.init-first.ensures.run c.note_unless.ensures.run c.init_solve-second.ensures.run
      c.note_unless-2.ensures.run,
)

pub returns-clause-at : goal.returns-clause-at
returns-clause-at g c =
    stands_same stages.Playing (g.R.Seated.state c.init_solve-second.new.self)
    (g.R.Seated.state c.note_unless-2.new.roster) c.args.id c.note_unless-2.ensures.seats
    c.init_solve-second.ensures.at

pub returns-clause-room : goal.returns-clause-room
returns-clause-room g c =
    omega (
      arith,
      c.init-first.ensures.room,
      c.note_unless.ensures.room,
      c.init_solve-second.ensures.room,
      c.note_unless-2.ensures.room,
    )

pub returns-clause-rankings : goal.returns-clause-rankings
returns-clause-rankings g c =
    c.note_unless-2.ensures.rankings ∙ c.init_solve-second.ensures.rankings ∙ c.note_unless.ensures.rankings
    ∙ c.init-first.ensures.rankings

pub note_unless-requires-2-clause-room : goal.note_unless-requires-2-clause-room
note_unless-requires-2-clause-room g c = grind (arith, common_steps)

pub init_solve-second-requires-clause-room : goal.init_solve-second-requires-clause-room
init_solve-second-requires-clause-room g c = grind (arith, common_steps)

pub note_unless-requires-clause-room : goal.note_unless-requires-clause-room
note_unless-requires-clause-room g c = grind (arith, common_steps)

pub init-first-requires-clause-at : goal.init-first-requires-clause-at
init-first-requires-clause-at g c = grind (arith, common_steps)

pub init-first-requires-clause-room : goal.init-first-requires-clause-room
init-first-requires-clause-room g c = grind (arith, common_steps)
