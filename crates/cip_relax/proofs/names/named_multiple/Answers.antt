use Rattle.std.proofs.Common.{◌-◌, Some, length, refl, arith}
use Rattle.std.proofs.lemmas.Option.{slice_get_read, slice_get_past}
use Rattle.std.proofs.lemmas.Grind.{common_steps}
use Rattle.cip_relax.proofs.Naming.{named_behind, unnamed_behind}
use Rattle.cip_relax.proofs.names.named_multiple.Goals as goal

pub returns-then-place-own : goal.returns-then-place-own
returns-then-place-own c = grind (arith, common_steps)

pub returns-in_default : goal.returns-in_default
returns-in_default c = grind (arith, common_steps)

pub overflow_cast-place : goal.overflow_cast-place
overflow_cast-place c = grind (arith, common_steps)

pub get-requires : goal.get-requires
get-requires c = grind (arith, common_steps)

pub returns-in-Some : goal.returns-in-Some
returns-in-Some c =
    named_behind c.args.own c.args.ids.now c.args.multiple c.in-Own.number (Some c.in-Some.id.now) c.in-Own.is
    c.if-place-own.false
    (slice_get_read c.args.ids.now (length c.args.ids.now) (c.in-Own.number - c.args.own) c.in-Some.id.now refl
    c.in-Some.ensures.lookup.3.0 c.in-Some.ensures.lookup.1)

pub returns-in-None : goal.returns-in-None
returns-in-None c =
    unnamed_behind c.args.own c.args.ids.now c.args.multiple c.in-Own.number c.in-Own.is c.if-place-own.false
    (slice_get_past c.args.ids.now (c.in-Own.number - c.args.own) c.in-None.ensures.lookup.3)
