use Rattle.std.proofs.lemmas.Grind.{common_steps}
use Rattle.std.proofs.Common.{◌∙◌, arith, subst, sym}
use Rattle.cip_plugin.specs.Asking.{ask_of}
use Rattle.cip_plugin.specs.Seats.{State}
use Rattle.cip_roster.specs.KeptRankings.{IsRanking}
use Rattle.cip_roster.proofs.Ranking.{is_next, next_can}
use Rattle.cip_roster.proofs.StillRanked.{sound_with}
use Rattle.cip_roster.proofs.Turning.{sound_more, turned_sound}
use Rattle.cip_roster.proofs.nexts.call_next.Goals as goal

pub turn-requires-clause-ready : goal.turn-requires-clause-ready
turn-requires-clause-ready g c =
    let next = is_next c.args.kind (g.R.Seated.state c.args.roster.now) (g.R.Seated.state c.ranked.new.roster) c.args.after
    c.key.result c.first_behind-found.result c.in-Ok.keys.items c.as_slice.result.now c.ranked.ensures.state
    c.in-Ok.ensures.ranking c.as_slice.ensures.value c.key.ensures c.first_behind-found.ensures in
    next_can c.args.kind (ask_of c.args.question) (g.R.Seated.state c.args.roster.now)
    (g.R.Seated.state c.reserve_turns.new.self) c.args.after c.first_behind-found.result c.in-Some.key c.requires.fits
    next c.in-Some.is (c.reserve_turns.ensures.state ∙ c.keep_ranking.ensures.state ∙ c.ranked.ensures.state)

pub returns-clause-sound : goal.returns-clause-sound
returns-clause-sound g c =
    let sound =
    sound_with c.args.kind c.in-Ok.keys (g.R.Seated.state c.ranked.new.roster)
    (g.R.Seated.state c.keep_ranking.new.self) (g.R.Seated.room c.ranked.new.roster)
    (g.R.Seated.room c.keep_ranking.new.self) c.keep_ranking.ensures.state c.keep_ranking.ensures.lines
    c.keep_ranking.ensures.more
    (subst (λ (s : State). IsRanking c.args.kind s.seats c.in-Ok.keys.items) (sym c.ranked.ensures.state)
    c.in-Ok.ensures.ranking)
    c.ranked.ensures.sound in
    turned_sound c.in-Some.key.id (ask_of c.args.question) (g.R.Seated.state c.keep_ranking.new.self)
    (g.R.Seated.state c.reserve_turns.new.self) (g.R.Seated.state c.turn.new.roster) c.turn.result
    (g.R.Seated.room c.keep_ranking.new.self) (g.R.Seated.room c.reserve_turns.new.self)
    (g.R.Seated.room c.turn.new.roster) c.reserve_turns.ensures.state sound c.turn.ensures.turn
    c.in-Ok-reserve_turns.ensures.room c.turn.ensures.room
    (c.turn.ensures.rankings ∙ c.reserve_turns.ensures.rankings)

pub turn-requires-clause-room : goal.turn-requires-clause-room
turn-requires-clause-room g c = omega (arith, c.in-Ok-reserve_turns.ensures.room)

pub returns-clause-err : goal.returns-clause-err
returns-clause-err g c = tt

pub returns-clause-called : goal.returns-clause-called
returns-clause-called g c =
    let next = is_next c.args.kind (g.R.Seated.state c.args.roster.now) (g.R.Seated.state c.ranked.new.roster) c.args.after
    c.key.result c.first_behind-found.result c.in-Ok.keys.items c.as_slice.result.now c.ranked.ensures.state
    c.in-Ok.ensures.ranking c.as_slice.ensures.value c.key.ensures c.first_behind-found.ensures in
    let same = c.reserve_turns.ensures.state ∙ c.keep_ranking.ensures.state ∙ c.ranked.ensures.state in
    grind (arith, common_steps, next, same)

pub returns-in_default-clause-err : goal.returns-in_default-clause-err
returns-in_default-clause-err g c = c.ranked.ensures.state

pub returns-in_default-clause-sound : goal.returns-in_default-clause-sound
returns-in_default-clause-sound g c = c.ranked.ensures.sound

pub returns-in_default-found-clause-called : goal.returns-in_default-found-clause-called
returns-in_default-found-clause-called g c =
    let next = is_next c.args.kind (g.R.Seated.state c.args.roster.now) (g.R.Seated.state c.ranked.new.roster) c.args.after
    c.key.result c.first_behind-found.result c.in-Ok.keys.items c.as_slice.result.now c.ranked.ensures.state
    c.in-Ok.ensures.ranking c.as_slice.ensures.value c.key.ensures c.first_behind-found.ensures in
    let same = c.keep_ranking.ensures.state ∙ c.ranked.ensures.state in
    grind (arith, common_steps, next, same)

pub returns-in_default-found-clause-sound : goal.returns-in_default-found-clause-sound
returns-in_default-found-clause-sound g c =
    sound_with c.args.kind c.in-Ok.keys (g.R.Seated.state c.ranked.new.roster)
    (g.R.Seated.state c.keep_ranking.new.self) (g.R.Seated.room c.ranked.new.roster)
    (g.R.Seated.room c.keep_ranking.new.self) c.keep_ranking.ensures.state c.keep_ranking.ensures.lines
    c.keep_ranking.ensures.more
    (subst (λ (s : State). IsRanking c.args.kind s.seats c.in-Ok.keys.items) (sym c.ranked.ensures.state)
    c.in-Ok.ensures.ranking)
    c.ranked.ensures.sound

pub returns-in_default-reserve_turns-clause-err : goal.returns-in_default-reserve_turns-clause-err
returns-in_default-reserve_turns-clause-err g c =
    c.reserve_turns.ensures.state ∙ c.keep_ranking.ensures.state ∙ c.ranked.ensures.state

pub returns-in_default-reserve_turns-clause-sound : goal.returns-in_default-reserve_turns-clause-sound
returns-in_default-reserve_turns-clause-sound g c =
    let sound =
    sound_with c.args.kind c.in-Ok.keys (g.R.Seated.state c.ranked.new.roster)
    (g.R.Seated.state c.keep_ranking.new.self) (g.R.Seated.room c.ranked.new.roster)
    (g.R.Seated.room c.keep_ranking.new.self) c.keep_ranking.ensures.state c.keep_ranking.ensures.lines
    c.keep_ranking.ensures.more
    (subst (λ (s : State). IsRanking c.args.kind s.seats c.in-Ok.keys.items) (sym c.ranked.ensures.state)
    c.in-Ok.ensures.ranking)
    c.ranked.ensures.sound in
    sound_more (g.R.Seated.state c.keep_ranking.new.self) (g.R.Seated.state c.reserve_turns.new.self)
    (g.R.Seated.room c.keep_ranking.new.self) (g.R.Seated.room c.reserve_turns.new.self) c.reserve_turns.ensures.state
    c.reserve_turns.ensures.grows c.reserve_turns.ensures.rankings sound

pub returns-in_default-reserve_turns-clause-called : goal.returns-in_default-reserve_turns-clause-called
returns-in_default-reserve_turns-clause-called g c = grind (arith, common_steps)

pub ranked-requires : goal.ranked-requires
ranked-requires g c = grind (arith, common_steps)

pub returns-in_default-found-clause-err : goal.returns-in_default-found-clause-err
returns-in_default-found-clause-err g c = grind (arith, common_steps)

pub returns-in_default-clause-called : goal.returns-in_default-clause-called
returns-in_default-clause-called g c = grind (arith, common_steps)
