use Rattle.std.proofs.lemmas.Grind.{common_steps}
use Rattle.std.proofs.Common.{refl, arith}
use Rattle.cip_events.specs.declared.words.Word.TheVariants as say
use Rattle.cip_calls.proofs.Noting.{noted_none, noted_by, judged_entry}
use Rattle.cip_calls.proofs.plugins.Plugins.finish.Goals as goal

pub returns-in_err-put_if-clause-noted : goal.returns-in_err-put_if-clause-noted
returns-in_err-put_if-clause-noted g c = noted_none (g.R.Seated.state c.args.self.now.roster)

pub returns-in_err-put_if-clause-judged : goal.returns-in_err-put_if-clause-judged
returns-in_err-put_if-clause-judged g c = judged_entry c.args.id c.args.came.now _ _ c.push_reserved.ensures.items

pub returns-in-Refused-clause-noted : goal.returns-in-Refused-clause-noted
returns-in-Refused-clause-noted g c =
    noted_by c.note_refused.result _ _ c.args.id (say.Refused c.name.result) c.note_refused.ensures.noted c.note_refused.ensures.same

pub returns-in-Refused-clause-judged : goal.returns-in-Refused-clause-judged
returns-in-Refused-clause-judged g c = judged_entry c.args.id c.args.came.now _ _ c.push_reserved.ensures.items

pub returns-in_default-clause-noted : goal.returns-in_default-clause-noted
returns-in_default-clause-noted g c = noted_none (g.R.Seated.state c.args.self.now.roster)

pub returns-in_default-clause-judged : goal.returns-in_default-clause-judged
returns-in_default-clause-judged g c = judged_entry c.args.id c.args.came.now _ _ c.push_reserved.ensures.items

pub returns-in_default-clause-sound : goal.returns-in_default-clause-sound
returns-in_default-clause-sound g c = c.requires.sound

pub note_refused-requires-clause-sound : goal.note_refused-requires-clause-sound
note_refused-requires-clause-sound g c = c.requires.sound

pub returns-in-Refused-clause-sound : goal.returns-in-Refused-clause-sound
returns-in-Refused-clause-sound g c = c.note_refused.ensures.sound

pub returns-in-Refused-clause-scratches : goal.returns-in-Refused-clause-scratches
returns-in-Refused-clause-scratches g c = refl

pub returns-in_err-put_if-clause-sound : goal.returns-in_err-put_if-clause-sound
returns-in_err-put_if-clause-sound g c = c.requires.sound

pub returns-in_default-clause-scratches : goal.returns-in_default-clause-scratches
returns-in_default-clause-scratches g c = refl

pub returns-in_err-put_if-clause-scratches : goal.returns-in_err-put_if-clause-scratches
returns-in_err-put_if-clause-scratches g c = refl

pub push_reserved-requires : goal.push_reserved-requires
push_reserved-requires g c = grind (arith, common_steps)

pub note_refused-requires-clause-seat : goal.note_refused-requires-clause-seat
note_refused-requires-clause-seat g c = c.requires.seat
