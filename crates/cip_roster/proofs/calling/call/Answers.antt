use Rattle.std.proofs.lemmas.Grind.{common_steps}
use Rattle.std.proofs.Common.{ℕ, List, None, Some, append-nil, pos, arith, refl, subst, sym, ◌∙◌, get_or, take_all}
use Rattle.cip_plugin.specs.Asking.{ask_of}
use Rattle.cip_plugin.specs.declared.keys.Key.{Key}
use Rattle.cip_plugin.specs.Calling.{Called, ids_of}
use Rattle.cip_roster.specs.Turns.{handed}
use Rattle.cip_roster.proofs.Turning.{SoFar, all_still, ids_next, so_far_more, so_far_none}
use Rattle.cip_roster.proofs.calling.call.Goals as goal
use Rattle.cip_roster.proofs.calling.call.Goals.{in-None, in-Some}

pub loop-key-preserved : goal.loop-key-preserved
loop-key-preserved g c =
    let d : Key = record { rank = record { 0 = pos 0 }; id = 0 } in
    elim c.match-turn.branch [
      | in-None w ↦
          rw w.given-is (record {
            so_far = subst (λ (ids : List ℕ). SoFar (ask_of c.args.question) ids (g.R.Seated.state c.args.roster.now)
                (g.R.Seated.state c.turn.new.roster) c.args.given.now.items c.loop-key.given.items)
                (sym (ids_next c.args.keys.now c.loop-key.key-index d c.loop-key-test.true))
                (so_far_more (ask_of c.args.question) _ (g.R.Seated.state c.args.roster.now)
                (g.R.Seated.state c.loop-key.roster) (g.R.Seated.state c.turn.new.roster) c.args.given.now.items
                c.loop-key.given.items c.loop-key.given.items (get_or c.args.keys.now c.loop-key.key-index d).id None
                c.loop-key.invariant.so_far w.in-None.ensures.turn (sym (append-nil c.loop-key.given.items)));
            ready = all_still c.args.keys.now (get_or c.args.keys.now c.loop-key.key-index d).id
                (ask_of c.args.question) (g.R.Seated.state c.loop-key.roster) (g.R.Seated.state c.turn.new.roster)
                None w.in-None.ensures.turn c.loop-key.invariant.ready;
            lines = omega (arith, c.loop-key.invariant.lines, c.turn.ensures.room);
            length = omega (arith, c.loop-key.invariant.length);
            capacity = c.loop-key.invariant.capacity;
            rankings = c.turn.ensures.rankings ∙ c.loop-key.invariant.rankings;
          })
      | in-Some w ↦
          rw w.given-is (record {
            so_far = subst (λ (ids : List ℕ). SoFar (ask_of c.args.question) ids (g.R.Seated.state c.args.roster.now)
                (g.R.Seated.state c.turn.new.roster) c.args.given.now.items w.push_reserved.new.self.items)
                (sym (ids_next c.args.keys.now c.loop-key.key-index d c.loop-key-test.true))
                (so_far_more (ask_of c.args.question) _ (g.R.Seated.state c.args.roster.now)
                (g.R.Seated.state c.loop-key.roster) (g.R.Seated.state c.turn.new.roster) c.args.given.now.items
                c.loop-key.given.items w.push_reserved.new.self.items (get_or c.args.keys.now c.loop-key.key-index d).id (Some w.in-Some.brought)
                c.loop-key.invariant.so_far w.in-Some.ensures.turn w.push_reserved.ensures.items);
            ready = all_still c.args.keys.now (get_or c.args.keys.now c.loop-key.key-index d).id
                (ask_of c.args.question) (g.R.Seated.state c.loop-key.roster) (g.R.Seated.state c.turn.new.roster)
                (Some w.in-Some.brought) w.in-Some.ensures.turn c.loop-key.invariant.ready;
            lines = omega (arith, c.loop-key.invariant.lines, c.turn.ensures.room);
            length = omega (arith, c.loop-key.invariant.length, w.push_reserved.ensures.len);
            capacity = omega (arith, w.push_reserved.ensures.capacity, c.loop-key.invariant.capacity);
            rankings = c.turn.ensures.rankings ∙ c.loop-key.invariant.rankings;
          })
    ]

pub loop-key-init : goal.loop-key-init
loop-key-init g c = record {
  so_far = so_far_none (ask_of c.args.question) (g.R.Seated.state c.args.roster.now) c.args.given.now.items;
  ready = c.requires.ready;
  lines = omega arith;
  length = omega arith;
  capacity = refl;
  rankings = refl;
}

pub turn-requires-clause-ready : goal.turn-requires-clause-ready
turn-requires-clause-ready g c =
    c.loop-key.invariant.ready c.loop-key.key-index (record { rank = record { 0 = pos 0 }; id = 0 }) c.loop-key-test.true

pub turn-requires-clause-room : goal.turn-requires-clause-room
turn-requires-clause-room g c =
    omega (arith, c.requires.lines, c.loop-key.invariant.lines, c.loop-key-test.true)

pub push_reserved-requires : goal.push_reserved-requires
push_reserved-requires g c =
    omega (
      arith,
      c.requires.room,
      c.loop-key.invariant.length,
      c.loop-key.invariant.capacity,
      c.loop-key-test.true,
    )

pub returns-clause-called : goal.returns-clause-called
returns-clause-called g c =
    subst (λ (keys : List Key). Called (ids_of keys) (ask_of c.args.question) (g.R.Seated.state c.args.roster.now)
    (g.R.Seated.state c.loop-key.roster) (handed c.args.given.now.items c.loop-key.given.items))
    (take_all c.loop-key.key-index c.args.keys.now c.loop-key-test.false) c.loop-key.invariant.so_far.called

pub returns-clause-kept : goal.returns-clause-kept
returns-clause-kept g c = c.loop-key.invariant.so_far.kept

pub returns-clause-room : goal.returns-clause-room
returns-clause-room g c = omega (arith, c.loop-key.invariant.lines)

pub returns-clause-rankings : goal.returns-clause-rankings
returns-clause-rankings g c = c.loop-key.invariant.rankings

pub offset_bounds-keys-key-index : goal.offset_bounds-keys-key-index
offset_bounds-keys-key-index g c = grind (arith, common_steps)
