use Rattle.std.proofs.lemmas.Grind.{common_steps}
use Rattle.std.proofs.Common.{arith}
use Rattle.cip_dict.proofs.Places.{next_of}
use Rattle.cip_dict.proofs.kept.next_variable.Goals as goal

pub returns-then-first-second-clause-next : goal.returns-then-first-second-clause-next
returns-then-first-second-clause-next c =
    next_of c.args.len c.args.row.now c.args.new.now c.args.here c.args.there c.variable_at-first.result c.variable_at-second.result c.variable_at-first.result
    c.requires.row_kept c.variable_at-first.ensures.first c.variable_at-first.ensures.last
    c.requires.new_kept c.variable_at-second.ensures.first c.variable_at-second.ensures.last
    (omega arith) (omega (arith, c.if-first-second.true)) (λ from a b. a)

pub returns-else-first-second-clause-next : goal.returns-else-first-second-clause-next
returns-else-first-second-clause-next c =
    next_of c.args.len c.args.row.now c.args.new.now c.args.here c.args.there c.variable_at-first.result c.variable_at-second.result c.variable_at-second.result
    c.requires.row_kept c.variable_at-first.ensures.first c.variable_at-first.ensures.last
    c.requires.new_kept c.variable_at-second.ensures.first c.variable_at-second.ensures.last
    (omega (arith, c.if-first-second.false)) (omega arith) (λ from a b. b)

pub returns-then-first-second-clause-within : goal.returns-then-first-second-clause-within
returns-then-first-second-clause-within c = grind (arith, common_steps)

pub returns-else-first-second-clause-within : goal.returns-else-first-second-clause-within
returns-else-first-second-clause-within c = grind (arith, common_steps)

pub variable_at-second-requires : goal.variable_at-second-requires
variable_at-second-requires c = grind (arith, common_steps)

pub variable_at-first-requires : goal.variable_at-first-requires
variable_at-first-requires c = grind (arith, common_steps)
