use Rattle.std.proofs.lemmas.Grind.{common_steps}
use Rattle.std.proofs.Common.{◌≡◌, ◌∙◌, ◌++◌, ap, length, arith}
use Rattle.cip_dict.specs.State.{state}
use Rattle.cip_dict.proofs.first.first_lists.Goals as goal

pub returns-in-Ok-room_for : goal.returns-in-Ok-room_for
returns-in-Ok-room_for c =
    let e = c.settle_lists.ensures in
    let same : state (c.args.system.now.columns.now ++ c.args.system.now.rows.now) c.args.standing.now c.settle_lists.new.lists ≡ state (c.args.system.now.columns.now ++ c.args.system.now.rows.now) c.args.standing.now c.in-Ok.lists =
    λ k. record {
      sides = c.args.system.now.columns.now ++ c.args.system.now.rows.now;
      standing = c.args.standing.now;
      rows = e.rows k;
      costs = e.costs k;
      values = e.values k;
      cost = e.cost k;
    } in (
      c.in-Ok.ensures.0,
      same ∙ c.in-Ok.ensures.1,
      record {
        rows = rw e.rows c.in-Ok.ensures.2.rows;
        costs = ap length e.costs ∙ c.in-Ok.ensures.2.costs;
        values = ap length e.values ∙ c.in-Ok.ensures.2.values;
      },
      c.in-Ok-room_for.ensures,
    )

pub lists_for-requires-clause-within : goal.lists_for-requires-clause-within
lists_for-requires-clause-within c = grind (arith, common_steps)

pub lists_for-requires-clause-costs_long : goal.lists_for-requires-clause-costs_long
lists_for-requires-clause-costs_long c = grind (arith, common_steps)

pub lists_for-requires-clause-few : goal.lists_for-requires-clause-few
lists_for-requires-clause-few c = grind (arith, common_steps)

pub lists_for-requires-clause-stands : goal.lists_for-requires-clause-stands
lists_for-requires-clause-stands c = grind (arith, common_steps)
