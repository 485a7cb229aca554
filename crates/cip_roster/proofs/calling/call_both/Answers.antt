use Rattle.std.proofs.lemmas.Grind.{common_steps}
use Rattle.std.proofs.Common.{arith}
use Rattle.cip_roster.proofs.Delivery.{ran_same}
use Rattle.cip_roster.proofs.OneEvent.{where_failed}
use Rattle.cip_roster.proofs.calling.call_both.Goals as goal

pub call_one-requires-clause-sound : goal.call_one-requires-clause-sound
call_one-requires-clause-sound g c = c.requires.sound

pub call_one-requires-clause-fits : goal.call_one-requires-clause-fits
call_one-requires-clause-fits g c = c.requires.fits

pub call_kind-requires-clause-sound : goal.call_kind-requires-clause-sound
call_kind-requires-clause-sound g c = c.call_one.ensures.sound

pub call_kind-requires-clause-fits : goal.call_kind-requires-clause-fits
call_kind-requires-clause-fits g c = c.requires.handlers

pub returns-in_default-clause-sound : goal.returns-in_default-clause-sound
returns-in_default-clause-sound g c = c.call_one.ensures.sound

pub returns-in_default-clause-called : goal.returns-in_default-clause-called
returns-in_default-clause-called g c = tt

pub returns-in_default-clause-err : goal.returns-in_default-clause-err
returns-in_default-clause-err g c =
    ran_same (g.R.Seated.state c.args.roster.now) (g.R.Seated.state c.call_one.new.roster)
    (where_failed _ c.call_one.result c.in_default.not-Ok c.call_one.ensures.err)

pub returns-in-Ok-call_kind-clause-sound : goal.returns-in-Ok-call_kind-clause-sound
returns-in-Ok-call_kind-clause-sound g c = c.call_kind.ensures.sound

pub returns-in-Ok-call_kind-clause-called : goal.returns-in-Ok-call_kind-clause-called
returns-in-Ok-call_kind-clause-called g c = record {
  between = g.R.Seated.state c.call_one.new.roster;
  some = c.in-Ok.given.items;
  first = c.in-Ok.ensures.called;
  second = c.in-Ok-call_kind.ensures.called;
}

pub returns-in-Ok-call_kind-clause-err : goal.returns-in-Ok-call_kind-clause-err
returns-in-Ok-call_kind-clause-err g c = tt

pub returns-in-Err-clause-sound : goal.returns-in-Err-clause-sound
returns-in-Err-clause-sound g c = c.call_kind.ensures.sound

pub returns-in-Err-clause-called : goal.returns-in-Err-clause-called
returns-in-Err-clause-called g c = tt

pub returns-in-Err-clause-err : goal.returns-in-Err-clause-err
returns-in-Err-clause-err g c = grind (arith, common_steps)
