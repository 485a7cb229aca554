use Rattle.std.proofs.Common.{◌∙◌, false, ap, length}
use Rattle.std.proofs.lemmas.List.{length-replicate}
use Rattle.cip_rational.specs.Rational.{zeroℚ}
use Rattle.cip_dict.proofs.Begun.{empty_has_rows}
use Rattle.cip_dict.proofs.first.room_for.Goals as goal

pub returns : goal.returns
returns c = record {
  entering = ap length c.zeros-entering.ensures ∙ length-replicate (length c.args.standing.now) zeroℚ;
  rows = empty_has_rows c.args.standing.now c.in-Ok.rows.items c.in-Ok.ensures;
  changed = ap length c.in_ok-changed.ensures ∙ length-replicate (length c.args.standing.now) false;
  costs = ap length c.zeros-costs.ensures ∙ length-replicate (length c.args.standing.now) zeroℚ;
  values = ap length c.in_ok-values.ensures ∙ length-replicate (length c.args.standing.now) c.zero.result;
}
