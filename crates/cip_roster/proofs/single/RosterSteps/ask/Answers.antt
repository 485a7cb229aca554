use Rattle.std.proofs.lemmas.Grind.{common_steps}
use Rattle.std.proofs.Common.{◌≡◌, ◌∙◌, List, Some, map, [], ◌∷◌, ◌++◌, cond, ap, refl, arith}
use Rattle.std.specs.Prelude.{slice_get}
use Rattle.cip_events.specs.declared.words.Word.{Word}
use Rattle.cip_plugin.specs.Calls.{Asked}
use Rattle.cip_plugin.specs.Answers.{answer}
use Rattle.cip_plugin.specs.Asking.{answer_of, ask_of, asks}
use Rattle.cip_plugin.specs.Seats.{Seat, is_on}
use Rattle.cip_plugin.specs.Steps.{IsCalled, line}
use Rattle.cip_plugin.proofs.Joining.{called_once}
use Rattle.cip_roster.proofs.Sitting.{asked_turn, sat_behind, seat_there, seat_within}
use Rattle.cip_roster.proofs.single.RosterSteps.ask.Goals as goal

pub returns-clause-run : goal.returns-clause-run
returns-clause-run g c =
    let there : slice_get (map _ c.note.new.self.slots.items) c.args.id ≡ Some c.requires.ready.seat =
    ap (λ (seats : List Seat). slice_get seats c.args.id) c.note.ensures.seats ∙ c.requires.ready.at in
    let same = seat_there _ c.note.new.self.slots.items c.args.id c.index_mut.result.now c.requires.ready.seat
    there c.index_mut.ensures.value in
    called_once _ _ c.args.id (Asked (ask_of c.args.question) (answer c.ask.result answer_of))
    (sat_behind _ (IsCalled (Asked (ask_of c.args.question) (answer c.ask.result answer_of)))
    c.args.self.now.slots.items c.note.new.self.slots.items c.args.id c.index_mut.result.now _ c.requires.ready.seat _
    c.note.ensures.seats c.requires.ready.at c.index_mut.ensures.value refl
    (record {
      turn = asked_turn _ _ (ask_of c.args.question)
          (ap (λ (s : Seat). asks s.who.kind (ask_of c.args.question)) same ∙ c.requires.ready.fits)
          (ap is_on same ∙ c.requires.ready.on);
      heard = c.ask.ensures.heard;
      kind = c.ask.ensures.kind;
      same = refl;
    }))
    c.note.ensures.places c.note.ensures.names c.note.ensures.kept (c.note.ensures.lines ∙ ap (λ (w : Word).
    cond c.args.self.now.kept (c.args.self.now.lines.items ++ line c.args.id w ∷ [])
    c.args.self.now.lines.items) c.word_for.ensures)

pub index_mut-requires : goal.index_mut-requires
index_mut-requires g c =
    seat_within _ c.note.new.self.slots.items c.args.id _ c.requires.ready.seat c.note.new.self.slots.ok.0
    (ap (λ (seats : List Seat). slice_get seats c.args.id) c.note.ensures.seats ∙ c.requires.ready.at)

pub ask-requires : goal.ask-requires
ask-requires g c =
    ap (λ (s : Seat). asks s.who.kind (ask_of c.args.question)) (seat_there _ c.note.new.self.slots.items c.args.id
    c.index_mut.result.now c.requires.ready.seat
    (ap (λ (seats : List Seat). slice_get seats c.args.id) c.note.ensures.seats ∙ c.requires.ready.at)
    c.index_mut.ensures.value) ∙ c.requires.ready.fits

pub note-requires : goal.note-requires
note-requires g c = omega arith

pub returns-clause-room : goal.returns-clause-room
returns-clause-room g c = grind (arith, common_steps)

pub returns-clause-rankings : goal.returns-clause-rankings
returns-clause-rankings g c = grind (arith, common_steps)
