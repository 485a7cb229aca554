use Rattle.std.proofs.lemmas.Grind.{common_steps}
use Rattle.std.proofs.Common.{◌≡◌, true, rules, arith}
use Rattle.cip_bland.specs.Dictionary.{is_basic, entry}
use Rattle.cip_simplex.proofs.Shortest.{zero_by, nonzero_by, zero_entry}
use Rattle.cip_simplex.proofs.ways.way_to.Goals as goal

pub returns-then-not-has_entry : goal.returns-then-not-has_entry
returns-then-not-has_entry c =
    let basic : is_basic c.args.dict.now c.args.v ≡ true = search rules in
    zero_entry c.args.dict.now c.args.j c.args.v c.if-v-j.false basic
    (zero_by (entry c.args.dict.now c.args.v c.args.j) c.has_entry.result c.has_entry.ensures c.if-not-has_entry.true)

pub basic_way-requires-clause-nonzero : goal.basic_way-requires-clause-nonzero
basic_way-requires-clause-nonzero c = nonzero_by (entry c.args.dict.now c.args.v c.args.j) c.has_entry.result c.has_entry.ensures c.if-not-has_entry.false

pub basic_way-requires-clause-entering : goal.basic_way-requires-clause-entering
basic_way-requires-clause-entering c = omega arith

pub basic_way-requires-clause-leaving : goal.basic_way-requires-clause-leaving
basic_way-requires-clause-leaving c = omega arith

pub has_entry-requires-clause-on : goal.has_entry-requires-clause-on
has_entry-requires-clause-on c = omega arith

pub has_entry-requires-clause-within : goal.has_entry-requires-clause-within
has_entry-requires-clause-within c = omega arith

pub returns-then-is_some : goal.returns-then-is_some
returns-then-is_some c = grind (arith, common_steps)

pub returns-then-v-j : goal.returns-then-v-j
returns-then-v-j c = grind (arith, common_steps)

pub basic_way-requires-clause-apart : goal.basic_way-requires-clause-apart
basic_way-requires-clause-apart c = grind (arith, common_steps)

pub basic_way-requires-clause-basic : goal.basic_way-requires-clause-basic
basic_way-requires-clause-basic c = grind (arith, common_steps)

pub stand-requires : goal.stand-requires
stand-requires c = grind (arith, common_steps)

pub own_way-requires-clause-within : goal.own_way-requires-clause-within
own_way-requires-clause-within c = grind (arith, common_steps)

pub has_entry-requires-clause-basic : goal.has_entry-requires-clause-basic
has_entry-requires-clause-basic c = grind (arith, common_steps)

pub basic_way-requires-clause-falls : goal.basic_way-requires-clause-falls
basic_way-requires-clause-falls c = grind (arith, common_steps)

pub returns : goal.returns
returns c = grind (arith, common_steps)

pub own_way-requires-clause-falls : goal.own_way-requires-clause-falls
own_way-requires-clause-falls c = grind (arith, common_steps)
