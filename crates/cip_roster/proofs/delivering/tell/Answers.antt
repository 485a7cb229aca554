use Rattle.std.proofs.lemmas.Grind.{common_steps}
use Rattle.std.proofs.Common.{◌∙◌, List, subst, sym, arith}
use Rattle.std.specs.Prelude.{OnErr, OnOk}
use Rattle.cip_plugin.specs.declared.kinds.Kind.TheVariants as kinds
use Rattle.cip_plugin.specs.declared.keys.Key.{Key}
use Rattle.cip_plugin.specs.Seats.{State}
use Rattle.cip_roster.specs.KeptRankings.{IsRanking}
use Rattle.cip_roster.specs.Wished.{Ran, WasTold}
use Rattle.cip_roster.proofs.Delivery.{ran_same}
use Rattle.cip_roster.proofs.StillRanked.{sound_with}
use Rattle.cip_roster.proofs.delivering.tell.Goals as goal

pub tell_each-requires-clause-sound : goal.tell_each-requires-clause-sound
tell_each-requires-clause-sound g c =
    sound_with kinds.EventHandler c.in-Ok.keys (g.R.Seated.state c.ranked.new.roster)
    (g.R.Seated.state c.keep_ranking.new.self) (g.R.Seated.room c.ranked.new.roster)
    (g.R.Seated.room c.keep_ranking.new.self) c.keep_ranking.ensures.state c.keep_ranking.ensures.lines
    c.keep_ranking.ensures.more
    (subst (λ (s : State). IsRanking kinds.EventHandler s.seats c.in-Ok.keys.items) (sym c.ranked.ensures.state)
    c.in-Ok.ensures.ranking)
    c.ranked.ensures.sound

pub tell_each-requires-clause-ranking : goal.tell_each-requires-clause-ranking
tell_each-requires-clause-ranking g c =
    subst (λ (keys : List Key). IsRanking kinds.EventHandler (g.R.Seated.state c.keep_ranking.new.self).seats keys)
    (sym (c.as_slice-2.ensures.value ∙ c.in-Ok-from_slice.ensures.items ∙ c.as_slice.ensures.value))
    (subst (λ (s : State). IsRanking kinds.EventHandler s.seats c.in-Ok.keys.items)
    (sym (c.keep_ranking.ensures.state ∙ c.ranked.ensures.state)) c.in-Ok.ensures.ranking)

pub returns-in_default-clause-sound : goal.returns-in_default-clause-sound
returns-in_default-clause-sound g c = c.ranked.ensures.sound

pub returns-in_default-clause-err : goal.returns-in_default-clause-err
returns-in_default-clause-err g c =
    ran_same (g.R.Seated.state c.args.roster.now) (g.R.Seated.state c.ranked.new.roster) c.ranked.ensures.state

pub returns-in_default-from_slice-clause-sound : goal.returns-in_default-from_slice-clause-sound
returns-in_default-from_slice-clause-sound g c = c.ranked.ensures.sound

pub returns-in_default-from_slice-clause-err : goal.returns-in_default-from_slice-clause-err
returns-in_default-from_slice-clause-err g c =
    ran_same (g.R.Seated.state c.args.roster.now) (g.R.Seated.state c.ranked.new.roster) c.ranked.ensures.state

pub returns-clause-told : goal.returns-clause-told
returns-clause-told g c =
    subst (λ (s : State). OnOk c.tell_each.result (WasTold c.args.view.now.node c.args.event s
    (g.R.Seated.state c.tell_each.new.roster) c.args.queue.now c.tell_each.new.queue))
    (c.keep_ranking.ensures.state ∙ c.ranked.ensures.state) c.tell_each.ensures.told

pub returns-clause-err : goal.returns-clause-err
returns-clause-err g c =
    subst (λ (s : State). OnErr c.tell_each.result (Ran s (g.R.Seated.state c.tell_each.new.roster)))
    (c.keep_ranking.ensures.state ∙ c.ranked.ensures.state) c.tell_each.ensures.err

pub returns-clause-sound : goal.returns-clause-sound
returns-clause-sound g c = c.tell_each.ensures.sound

pub returns-in_default-from_slice-clause-told : goal.returns-in_default-from_slice-clause-told
returns-in_default-from_slice-clause-told g c = grind (arith, common_steps)

pub ranked-requires : goal.ranked-requires
ranked-requires g c = grind (arith, common_steps)

pub returns-in_default-clause-told : goal.returns-in_default-clause-told
returns-in_default-clause-told g c = grind (arith, common_steps)
