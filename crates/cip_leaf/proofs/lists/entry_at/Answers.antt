use Rattle.std.proofs.lemmas.Option.{slice_get_read, slice_get_past}
use Rattle.std.proofs.lemmas.Grind.{common_steps}
use Rattle.std.proofs.Common.{length, refl, sym, arith}
use Rattle.cip_leaf.proofs.lists.entry_at.Goals as goal

pub get-requires : goal.get-requires
get-requires c = grind (arith, common_steps)

pub returns-in-Some : goal.returns-in-Some
returns-in-Some c =
    sym (slice_get_read c.args.on.now (length c.args.on.now) c.args.at c.in-Some.is_on.now refl c.in-Some.ensures.lookup.3.0 c.in-Some.ensures.lookup.1)

pub returns-in-None : goal.returns-in-None
returns-in-None c = sym (slice_get_past c.args.on.now c.args.at c.in-None.ensures.lookup.3)
