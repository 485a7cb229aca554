use Rattle.std.proofs.lemmas.Grind.{common_steps}
use Rattle.std.proofs.Common.{◌≡◌, ◌∷◌, ◌∙◌, ◌≤◌, List, arith, ap, length, map, refl, rules, subst, sym, vec_len}
use Rattle.std.proofs.lemmas.List.{drop_all}
use Rattle.std.specs.Vec.Iter.{drain_items, drain_kept, drain_lender}
use Rattle.cip_events.specs.Names.{shown_name}
use Rattle.cip_plugin.specs.Who.{Who}
use Rattle.cip_roster.specs.Begun.{AreSeated}
use Rattle.cip_roster.proofs.Beginning.{seating_more, seating_names, seating_none, seating_seats}
use Rattle.cip_roster.proofs.Moving.{whole_range}
use Rattle.cip_roster.proofs.starting.seat_all.Goals as goal

pub loop-plugin-init : goal.loop-plugin-init
loop-plugin-init g c = record {
  so_far = seating_none _ (g.R.Seated.state c.args.roster.now) c.requires.first c.requires.unnamed;
  room = refl;
  spare = search rules;
}

pub loop-plugin-preserved : goal.loop-plugin-preserved
loop-plugin-preserved g c =
    let split : drain_items c.loop-plugin.plugin-iterator ≡ c.in-Some.plugin ∷ drain_items c.next.new.self =
    c.in-Some.ensures.steps.0 in
    record {
      so_far = seating_more g.P.Tells.who (drain_items c.loop-plugin.plugin-iterator) (drain_items c.next.new.self)
          c.in-Some.plugin _ (g.R.Seated.state c.args.roster.now) (g.R.Seated.state c.loop-plugin.roster)
          (g.R.Seated.state c.seat.new.self) c.loop-plugin.invariant.so_far split c.seat.ensures.seats
          c.seat.ensures.names
          c.seat.ensures.places c.seat.ensures.lines c.seat.ensures.kept;
      room = rw c.seat.ensures.room c.loop-plugin.invariant.room;
      spare = omega (arith, c.seat.ensures.spare, c.loop-plugin.invariant.spare, ap length split);
    }

pub seat-requires : goal.seat-requires
seat-requires g c =
    let split : drain_items c.loop-plugin.plugin-iterator ≡ c.in-Some.plugin ∷ drain_items c.next.new.self =
    c.in-Some.ensures.steps.0 in
    omega (arith, c.loop-plugin.invariant.spare, ap length split)

pub returns-clause-seats : goal.returns-clause-seats
returns-clause-seats g c =
    let fits : length c.args.plugins.now.items ≤ vec_len c.args.plugins.now = omega (arith, c.args.plugins.now.ok.0) in
    let from : drain_items c.into_iter-plugin-iterator.result ≡ c.args.plugins.now.items =
    ap (λ it. drain_items it) c.into_iter-plugin-iterator.ensures.into_iter_gives ∙ c.drain-plugin-items.ensures.rest
    ∙ whole_range c.args.plugins.now.items (vec_len c.args.plugins.now) fits in
    subst (λ (whos : List Who). AreSeated whos (g.R.Seated.state c.loop-plugin.roster).seats)
    (ap (map g.P.Tells.who) from)
    (seating_seats _ _ (g.R.Seated.state c.args.roster.now) (g.R.Seated.state c.loop-plugin.roster)
    (ap (map g.P.Tells.who) c.in-None.ensures.steps.0) c.loop-plugin.invariant.so_far)

pub returns-clause-names : goal.returns-clause-names
returns-clause-names g c =
    let fits : length c.args.plugins.now.items ≤ vec_len c.args.plugins.now = omega (arith, c.args.plugins.now.ok.0) in
    let from : drain_items c.into_iter-plugin-iterator.result ≡ c.args.plugins.now.items =
    ap (λ it. drain_items it) c.into_iter-plugin-iterator.ensures.into_iter_gives ∙ c.drain-plugin-items.ensures.rest
    ∙ whole_range c.args.plugins.now.items (vec_len c.args.plugins.now) fits in
    seating_names _ _ (g.R.Seated.state c.args.roster.now) (g.R.Seated.state c.loop-plugin.roster)
    (ap (map g.P.Tells.who) c.in-None.ensures.steps.0) c.loop-plugin.invariant.so_far
    ∙ ap (λ (whos : List Who). map (λ (who : Who). shown_name who.label) whos) (ap (map g.P.Tells.who) from)

pub returns-clause-places : goal.returns-clause-places
returns-clause-places g c = c.loop-plugin.invariant.so_far.places

pub returns-clause-lines : goal.returns-clause-lines
returns-clause-lines g c = c.loop-plugin.invariant.so_far.lines

pub returns-clause-kept : goal.returns-clause-kept
returns-clause-kept g c = c.loop-plugin.invariant.so_far.kept

pub returns-clause-room : goal.returns-clause-room
returns-clause-room g c = c.loop-plugin.invariant.room

pub returns-clause-none : goal.returns-clause-none
returns-clause-none g c =
    let drained = c.drain-plugin-items.ensures in
    let yielded = rw c.into_iter-plugin-iterator.ensures.into_iter_gives at c.loop-plugin.yielded_by in
    let stays = drained.stays _ _ yielded in
    let last = c.in-None.ensures.steps.1 in
    let fits : length c.args.plugins.now.items ≤ vec_len c.args.plugins.now = omega (arith, c.args.plugins.now.ok.0) in
    let left = c.drop-plugin-iterator.ensures.items ∙ ap (λ it. drain_kept it) last ∙ stays.1 ∙ drained.kept
    ∙ drop_all _ c.args.plugins.now.items fits in
    let lent = ap (λ it. drain_lender it) last ∙ stays.0 ∙ drained.same_reference in
    ap (λ v. v.items) (c.plugins-1.given.1 (sym lent)) ∙ left

pub loop-plugin-init-derived : goal.loop-plugin-init-derived
loop-plugin-init-derived g c = grind (arith, common_steps)

pub loop-plugin-preserved-derived : goal.loop-plugin-preserved-derived
loop-plugin-preserved-derived g c = grind (arith, common_steps)

pub drain-plugin-items-requires-clause-not_exhausted : goal.drain-plugin-items-requires-clause-not_exhausted
drain-plugin-items-requires-clause-not_exhausted g c = grind (arith, common_steps)

pub drain-plugin-items-requires-clause-in_bounds : goal.drain-plugin-items-requires-clause-in_bounds
drain-plugin-items-requires-clause-in_bounds g c = grind (arith, common_steps)

pub drain-plugin-items-requires-clause-start_le_end : goal.drain-plugin-items-requires-clause-start_le_end
drain-plugin-items-requires-clause-start_le_end g c = grind (arith, common_steps)
