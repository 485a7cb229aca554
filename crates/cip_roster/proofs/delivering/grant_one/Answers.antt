use Rattle.std.proofs.lemmas.Grind.{common_steps}
use Rattle.std.proofs.Common.{arith}
use Rattle.cip_events.specs.declared.words.Word.TheVariants as say
use Rattle.cip_roster.proofs.Granting.{noted_fault, took_granted, took_note}
use Rattle.cip_roster.proofs.delivering.grant_one.Goals as goal

pub returns-in-Ok-clause-took : goal.returns-in-Ok-clause-took
returns-in-Ok-clause-took g c =
    took_granted c.args.id c.args.view.now.node c.args.wish (g.R.Seated.state c.args.roster.now)
    (g.R.Seated.state c.wish.new.roster) c.args.queue.now c.wish.new.queue c.in-Ok.ensures.came c.in-Ok.ensures.queue

pub returns-in_default-clause-took : goal.returns-in_default-clause-took
returns-in_default-clause-took g c =
    took_note c.args.id c.args.view.now.node c.args.wish c.in-Err.fault (g.R.Seated.state c.args.roster.now)
    (g.R.Seated.state c.wish.new.roster) (g.R.Seated.state c.refused.new.roster) c.args.queue.now c.wish.new.queue
    c.refused.result c.in-Err.ensures.came
    (noted_fault c.args.id c.in-Err.fault (say.Refused c.name.result) (g.R.Seated.state c.wish.new.roster)
    (g.R.Seated.state c.refused.new.roster) c.refused.result c.in_default.not-NoMemory c.name.ensures
    c.refused.ensures.noted)
    c.in-Err.ensures.queue

pub refused-requires : goal.refused-requires
refused-requires g c = grind (arith, common_steps)

pub returns-in-NoMemory-clause-err : goal.returns-in-NoMemory-clause-err
returns-in-NoMemory-clause-err g c = grind (arith, common_steps)

pub returns-in-NoMemory-clause-sound : goal.returns-in-NoMemory-clause-sound
returns-in-NoMemory-clause-sound g c = grind (arith, common_steps)

pub returns-in_default-clause-err : goal.returns-in_default-clause-err
returns-in_default-clause-err g c = grind (arith, common_steps)

pub returns-in_default-clause-sound : goal.returns-in_default-clause-sound
returns-in_default-clause-sound g c = grind (arith, common_steps)

pub returns-in-Ok-clause-sound : goal.returns-in-Ok-clause-sound
returns-in-Ok-clause-sound g c = grind (arith, common_steps)

pub wish-requires : goal.wish-requires
wish-requires g c = grind (arith, common_steps)

pub returns-in-NoMemory-clause-took : goal.returns-in-NoMemory-clause-took
returns-in-NoMemory-clause-took g c = grind (arith, common_steps)

pub returns-in-Ok-clause-err : goal.returns-in-Ok-clause-err
returns-in-Ok-clause-err g c = grind (arith, common_steps)
