use Rattle.std.proofs.Common.{sym, ◌∙◌}
use Rattle.cip_lp.proofs.LastBytes.{last_ends, none_ends}
use Rattle.cip_lp.proofs.lp_text.ends_with.Goals as goal

pub returns-in-Some : goal.returns-in-Some
returns-in-Some c =
    c.ends_before.ensures ∙ sym (last_ends c.args.bytes.now c.in-Some.last.now c.args.byte (sym c.in-Some.ensures.value))

pub returns-in-None : goal.returns-in-None
returns-in-None c = sym (none_ends c.args.bytes.now c.args.byte (sym c.in-None.ensures.value))
