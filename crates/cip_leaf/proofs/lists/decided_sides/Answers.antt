use Rattle.std.proofs.lemmas.Grind.{common_steps}
use Rattle.std.proofs.Common.{subst, ◌≡◌, ◌+◌, ◌<◌, ◌≤◌, [], ◌∷◌, ◌++◌, length, slice_get, ap, ◌∙◌, arith, rules}
use Rattle.cip_lin.specs.ChoiceParts.{own_if_open}
use Rattle.cip_problem.specs.Box.{sides_at}
use Rattle.cip_problem.specs.Choices.{choice_at, decided_box}
use Rattle.cip_leaf.specs.Building.{sides_made, made_more}
use Rattle.cip_leaf.proofs.DecidedSides.{made_few, sides_more, sides_end}
use Rattle.cip_leaf.proofs.lists.decided_sides.Goals as goal

pub loop-column-preserved : goal.loop-column-preserved
loop-column-preserved c =
    let choices = c.args.choices.now in
    let box = c.args.bounds.now in
    let on = c.args.on.now in
    let column = c.loop-column.column in
    let own = own_if_open (choice_at choices column) in
    let found = c.entry_at-is_on.result in
    let l : column < length box = subst (λ n. column < n) c.len-column-end.ensures c.loop-column-test.true in
    let e : found ≡ slice_get on c.loop-column.taken = c.entry_at-is_on.ensures in
    let o : c.own-own.result ≡ own = c.own-own.ensures ∙ ap own_if_open c.at.ensures in
    let m : c.made_sides.result ≡ sides_made own found (sides_at box column) = c.made_sides.ensures ∙ (ap (λ t. sides_made t found c.sides.result) o ∙ ap (sides_made own found) c.sides.ensures) in
    let p : c.push.new.self ≡ c.loop-column.decided ++ c.made_sides.result ∷ [] = c.in_ok-push.ensures.ok in
    let f : c.taken_behind-taken.result ≡ c.loop-column.taken + made_more own found = c.taken_behind-taken.ensures ∙ ap (λ t. c.loop-column.taken + made_more t found) o in
    let few = made_few own found in
    record {
      rest = rw (p, m) (sides_more column c.loop-column.taken c.taken_behind-taken.result choices box c.loop-column.decided on (decided_box choices box on) found l e f c.loop-column.invariant.rest);
      few = omega (arith, few, f, c.loop-column.invariant.few);
    }

pub returns : goal.returns
returns c =
    let l : length c.args.bounds.now ≤ c.loop-column.column = search rules in
    sides_end c.loop-column.column c.args.choices.now c.args.bounds.now c.loop-column.decided _ _ l c.loop-column.invariant.rest

pub loop-column-init : goal.loop-column-init
loop-column-init c = grind (arith, common_steps)

pub sides-requires : goal.sides-requires
sides-requires c = omega arith

pub taken_behind-taken-requires : goal.taken_behind-taken-requires
taken_behind-taken-requires c = grind (arith, common_steps)

pub overflow_cast-column-end : goal.overflow_cast-column-end
overflow_cast-column-end c = grind (arith, common_steps)

pub same-decided : goal.same-decided
same-decided c = grind (arith, common_steps)
