use Rattle.std.proofs.lemmas.Grind.{common_steps}
use Rattle.std.proofs.Common.{◌≡◌, ◌∙◌, [], ◌∷◌, ◌++◌, cond, ap, arith, sym}
use Rattle.cip_events.specs.declared.words.Word.{Word}
use Rattle.cip_plugin.specs.declared.stages.Stage.TheVariants as stages
use Rattle.cip_plugin.specs.Steps.{IsTurned, line, switch_word}
use Rattle.cip_plugin.proofs.Joining.{turned_once}
use Rattle.cip_roster.proofs.Sitting.{on_there, sat_there, seat_within, stage_there, stands_there}
use Rattle.cip_roster.proofs.single.RosterSteps.switch.Goals as goal
use Rattle.cip_roster.proofs.single.RosterSteps.switch.Goals.{then-on, else-on}

pub index_mut-requires : goal.index_mut-requires
index_mut-requires g c =
    seat_within _ c.args.self.now.slots.items c.args.id _ c.requires.at.seat c.args.self.now.slots.ok.0
    c.requires.at.at

pub turn-requires-clause-playing : goal.turn-requires-clause-playing
turn-requires-clause-playing g c =
    stage_there _ c.args.self.now.slots.items c.args.id c.index_mut.result.now c.requires.at.seat stages.Playing
    c.requires.at.at c.index_mut.ensures.value c.requires.at.stands

pub turn-requires-clause-other : goal.turn-requires-clause-other
turn-requires-clause-other g c =
    on_there _ c.args.self.now.slots.items c.args.id c.index_mut.result.now c.requires.at.seat _ c.requires.at.at
    c.index_mut.ensures.value c.requires.other

pub returns-clause-run : goal.returns-clause-run
returns-clause-run g c =
    let word : c.if-on.word ≡ switch_word c.args.on = elim c.if-on.branch [
      | then-on w ↦ w.word-is ∙ ap switch_word (sym w.if-on.true)
      | else-on w ↦ w.word-is ∙ ap switch_word (sym w.if-on.false)
    ] in
    turned_once _ _ c.args.id c.args.on
    (sat_there _ (IsTurned c.args.on) _ c.args.id c.index_mut.result.now c.turn.new.self c.requires.at.seat _
    c.requires.at.at c.index_mut.ensures.value c.note.ensures.seats c.turn.ensures.turned)
    c.note.ensures.places c.note.ensures.names c.note.ensures.kept (c.note.ensures.lines ∙ ap (λ (w : Word).
    cond c.args.self.now.kept (c.args.self.now.lines.items ++ line c.args.id w ∷ [])
    c.args.self.now.lines.items) word)

pub returns-clause-at : goal.returns-clause-at
returns-clause-at g c =
    stands_there _ c.args.self.now.slots.items c.args.id c.turn.new.self c.requires.at.seat _ stages.Playing
    c.requires.at.at c.note.ensures.seats c.turn.ensures.stage

pub note-requires : goal.note-requires
note-requires g c = omega arith

pub returns-clause-rankings : goal.returns-clause-rankings
returns-clause-rankings g c = grind (arith, common_steps)

pub returns-clause-room : goal.returns-clause-room
returns-clause-room g c = omega arith

pub overflow_cast-id : goal.overflow_cast-id
overflow_cast-id g c = grind (arith, common_steps)
