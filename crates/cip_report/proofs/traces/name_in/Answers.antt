use Rattle.std.proofs.lemmas.Grind.{common_steps}
use Rattle.std.proofs.Common.{◌∙◌, refl, sym, ap, arith}
use Rattle.std.proofs.lemmas.Option.{slice_get_past, slice_get_read}
use Rattle.cip_report.specs.Traces.{name_or_mark}
use Rattle.cip_report.proofs.traces.name_in.Goals as goal

pub get-requires : goal.get-requires
get-requires c = grind (arith, common_steps)

pub returns-in-Some : goal.returns-in-Some
returns-in-Some c =
    c.as_bytes.ensures ∙ sym (ap name_or_mark (slice_get_read c.args.names.now _ c.args.id c.in-Some.name.now refl c.in-Some.ensures.lookup.3.0 c.in-Some.ensures.lookup.1))

pub returns-in-None : goal.returns-in-None
returns-in-None c = sym (ap name_or_mark (slice_get_past c.args.names.now c.args.id c.in-None.ensures.lookup.3))
