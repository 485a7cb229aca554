use Rattle.std.proofs.Common.{List, length, All, ap, arith, subst, sym, ◌∙◌}
use Rattle.cip_plugin.specs.Asking.{ask_of}
use Rattle.cip_plugin.specs.declared.keys.Key.{Key}
use Rattle.cip_plugin.specs.Calling.{ids_of}
use Rattle.cip_roster.specs.Turns.{CanBeAsked, handed}
use Rattle.cip_roster.proofs.Ranking.{ranked_can}
use Rattle.cip_roster.proofs.StillRanked.{sound_with}
use Rattle.cip_roster.proofs.Turning.{all_behind, called_kind, called_ranked, called_sound, sound_more}
use Rattle.cip_roster.proofs.calling.call_kind.Goals as goal

pub call-requires-clause-ready : goal.call-requires-clause-ready
call-requires-clause-ready g c =
    subst (λ (keys : List Key). All (λ k. CanBeAsked (g.R.Seated.state c.reserve_turns.new.self)
    (ask_of c.args.question) k.id) keys)
    (sym c.as_slice.ensures.value)
    (all_behind c.in-Ok.keys.items (ask_of c.args.question) (g.R.Seated.state c.args.roster.now)
    (g.R.Seated.state c.reserve_turns.new.self) (c.reserve_turns.ensures.state ∙ c.ranked.ensures.state)
    (ranked_can c.args.kind (ask_of c.args.question) (g.R.Seated.state c.args.roster.now) c.in-Ok.keys.items
    c.requires.fits c.in-Ok.ensures.ranking.permutation))

pub returns-clause-sound : goal.returns-clause-sound
returns-clause-sound g c =
    let same = c.reserve_turns.ensures.state ∙ c.ranked.ensures.state in
    sound_with c.args.kind c.in-Ok.keys (g.R.Seated.state c.call.new.roster)
    (g.R.Seated.state c.keep_ranking.new.self) (g.R.Seated.room c.call.new.roster)
    (g.R.Seated.room c.keep_ranking.new.self) c.keep_ranking.ensures.state c.keep_ranking.ensures.lines
    c.keep_ranking.ensures.more
    (called_ranked c.args.kind (ids_of c.as_slice.result.now) (ask_of c.args.question)
    (g.R.Seated.state c.args.roster.now) (g.R.Seated.state c.reserve_turns.new.self)
    (g.R.Seated.state c.call.new.roster) (handed c.reserve.new.self.items c.call.new.given.items)
    c.in-Ok.keys.items same c.call.ensures.called c.in-Ok.ensures.ranking)
    (called_sound (ids_of c.as_slice.result.now) (ask_of c.args.question) (g.R.Seated.state c.ranked.new.roster)
    (g.R.Seated.state c.reserve_turns.new.self) (g.R.Seated.state c.call.new.roster)
    (handed c.reserve.new.self.items c.call.new.given.items) (g.R.Seated.room c.ranked.new.roster)
    (g.R.Seated.room c.reserve_turns.new.self) (g.R.Seated.room c.call.new.roster) (length c.as_slice.result.now)
    c.reserve_turns.ensures.state c.ranked.ensures.sound c.call.ensures.called
    (omega (
      arith,
      c.in-Ok-reserve_turns.ensures.room,
      c.len-count.ensures,
      ap (λ (xs : List Key). length xs)
          c.as_slice.ensures.value,
      c.as_slice.ensures.len,
    ))
    c.call.ensures.room (c.call.ensures.rankings ∙ c.reserve_turns.ensures.rankings))

pub returns-clause-called : goal.returns-clause-called
returns-clause-called g c =
    called_kind c.args.kind (ask_of c.args.question) (g.R.Seated.state c.args.roster.now)
    (g.R.Seated.state c.reserve_turns.new.self) (g.R.Seated.state c.call.new.roster)
    (g.R.Seated.state c.keep_ranking.new.self) c.in-Ok.keys.items c.as_slice.result.now c.args.given.now.items
    c.reserve.new.self.items c.call.new.given.items (c.reserve_turns.ensures.state ∙ c.ranked.ensures.state)
    c.keep_ranking.ensures.state c.reserve.ensures.items c.as_slice.ensures.value c.in-Ok.ensures.ranking
    c.call.ensures.kept c.call.ensures.called

pub call-requires-clause-lines : goal.call-requires-clause-lines
call-requires-clause-lines g c =
    omega (
      arith,
      c.in-Ok-reserve_turns.ensures.room,
      c.len-count.ensures,
      ap (λ (xs : List Key). length xs) c.as_slice.ensures.value,
      c.as_slice.ensures.len,
    )

pub call-requires-clause-room : goal.call-requires-clause-room
call-requires-clause-room g c =
    omega (
      arith,
      c.in-Ok-reserve.ensures.ok,
      c.len-count.ensures,
      ap (λ (xs : List Key). length xs) c.as_slice.ensures.value,
      c.as_slice.ensures.len,
    )

pub returns-in_default-clause-sound : goal.returns-in_default-clause-sound
returns-in_default-clause-sound g c = c.ranked.ensures.sound

pub returns-in_default-clause-called : goal.returns-in_default-clause-called
returns-in_default-clause-called g c = tt

pub returns-in_default-clause-err : goal.returns-in_default-clause-err
returns-in_default-clause-err g c = c.ranked.ensures.state

pub returns-in_default-reserve-clause-sound : goal.returns-in_default-reserve-clause-sound
returns-in_default-reserve-clause-sound g c = c.ranked.ensures.sound

pub returns-in_default-reserve-clause-called : goal.returns-in_default-reserve-clause-called
returns-in_default-reserve-clause-called g c = tt

pub returns-in_default-reserve-clause-err : goal.returns-in_default-reserve-clause-err
returns-in_default-reserve-clause-err g c = c.ranked.ensures.state

pub returns-in_default-reserve_turns-clause-sound : goal.returns-in_default-reserve_turns-clause-sound
returns-in_default-reserve_turns-clause-sound g c =
    sound_more (g.R.Seated.state c.ranked.new.roster) (g.R.Seated.state c.reserve_turns.new.self)
    (g.R.Seated.room c.ranked.new.roster) (g.R.Seated.room c.reserve_turns.new.self) c.reserve_turns.ensures.state
    c.reserve_turns.ensures.grows c.reserve_turns.ensures.rankings c.ranked.ensures.sound

pub returns-in_default-reserve_turns-clause-called : goal.returns-in_default-reserve_turns-clause-called
returns-in_default-reserve_turns-clause-called g c = tt

pub returns-in_default-reserve_turns-clause-err : goal.returns-in_default-reserve_turns-clause-err
returns-in_default-reserve_turns-clause-err g c = c.reserve_turns.ensures.state ∙ c.ranked.ensures.state

pub returns-clause-err : goal.returns-clause-err
returns-clause-err g c = tt
