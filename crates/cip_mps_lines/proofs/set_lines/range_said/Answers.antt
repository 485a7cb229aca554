use Rattle.std.proofs.Common.{ap, ◌∙◌}
use Rattle.cip_text_rules.specs.MpsSayings.{RangeLine}
use Rattle.cip_mps_lines.specs.FirstWords.{texts}
use Rattle.cip_mps_lines.proofs.SetLines.{values_told, range_told}
use Rattle.cip_mps_lines.proofs.set_lines.range_said.Goals as goal

pub returns-in-None : goal.returns-in-None
returns-in-None c =
    ap (values_told RangeLine c.args.place.now.set_name) c.in-None.ensures ∙ range_told c.args.place.now.set_name (texts c.args.words.now)

pub returns-in-Some : goal.returns-in-Some
returns-in-Some c =
    c.range_of_set.ensures ∙ ap (values_told RangeLine c.args.place.now.set_name) c.in-Some.ensures ∙ range_told c.args.place.now.set_name (texts c.args.words.now)
