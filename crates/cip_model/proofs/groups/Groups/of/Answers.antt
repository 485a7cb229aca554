use Rattle.std.proofs.lemmas.Grind.{common_steps}
use Rattle.std.proofs.Common.{◌<◌, ap, take, ◌∙◌, arith}
use Rattle.cip_model.specs.NumberLists.{lists_of}
use Rattle.cip_model.proofs.GroupLaws.{grouped_first, step_none, step_some, below_at, many}
use Rattle.cip_model.proofs.groups.Groups.of.Goals as goal
use Rattle.cip_model.proofs.groups.Groups.of.Goals.{in-None+in_ok-push-in-None, in-Some+in_ok-put-in-Some}

pub loop-number-init : goal.loop-number-init
loop-number-init c = record { groups = c.in_ok-groups.ensures ∙ grouped_first c.args.count; rest = c.new-rest.ensures.items }

pub put-requires : goal.put-requires
put-requires c =
    let below : c.in-Some.group < c.args.count = below_at c.args.count c.loop-number.number c.in-Some.group c.args.owners.now c.requires.below c.loop-number-test.true c.in-Some.is in
    let count = many c.args.count c.loop-number.groups.items (take c.loop-number.number c.args.owners.now) c.loop-number.invariant.groups in
    omega (arith, below, count, c.loop-number.groups.ok.0)

pub loop-number-preserved : goal.loop-number-preserved
loop-number-preserved c =
    elim c.match-owner.branch [
      | in-None+in_ok-push-in-None w ↦
          (let told = step_none c.args.count c.args.owners.now c.loop-number.number (lists_of c.loop-number.groups.items) (lists_of c.match-owner.groups.items) c.loop-number.rest.items c.match-owner.rest.items c.loop-number-test.true w.in-None.is c.loop-number.invariant.groups c.loop-number.invariant.rest
          (ap (λ g. lists_of g.items) w.groups-is) (ap (λ r. r.items) w.rest-is ∙ w.in_ok-push-in-None.ensures.items) in
          record { groups = told.0; rest = told.1 })
      | in-Some+in_ok-put-in-Some w ↦
          (let told = step_some c.args.count c.args.owners.now c.loop-number.number w.in-Some.group (lists_of c.loop-number.groups.items) (lists_of c.match-owner.groups.items) c.loop-number.rest.items c.match-owner.rest.items c.loop-number-test.true w.in-Some.is
          (below_at c.args.count c.loop-number.number w.in-Some.group c.args.owners.now c.requires.below c.loop-number-test.true w.in-Some.is) c.loop-number.invariant.groups c.loop-number.invariant.rest
          (ap (λ g. lists_of g.items) w.groups-is ∙ w.in_ok-put-in-Some.ensures) (ap (λ r. r.items) w.rest-is) in
          record { groups = told.0; rest = told.1 })
    ]

pub returns : goal.returns
returns c = grind (arith, common_steps)

pub overflow_cast-number-in-Some : goal.overflow_cast-number-in-Some
overflow_cast-number-in-Some c = grind (arith, common_steps)

pub bounds-owners-number : goal.bounds-owners-number
bounds-owners-number c = grind (arith, common_steps)

pub overflow_cast-number : goal.overflow_cast-number
overflow_cast-number c = grind (arith, common_steps)

pub offset_bounds-owners-number : goal.offset_bounds-owners-number
offset_bounds-owners-number c = grind (arith, common_steps)
