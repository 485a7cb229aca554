use Rattle.std.proofs.Common.{ap, ◌∙◌}
use Rattle.cip_text_rules.specs.MpsSayings.{RightSideLine}
use Rattle.cip_mps_lines.specs.FirstWords.{texts}
use Rattle.cip_mps_lines.proofs.SetLines.{values_told, right_side_told}
use Rattle.cip_mps_lines.proofs.set_lines.right_side_said.Goals as goal

pub returns-in-None : goal.returns-in-None
returns-in-None c =
    ap (values_told RightSideLine c.args.place.now.set_name) c.in-None.ensures ∙ right_side_told c.args.place.now.set_name (texts c.args.words.now)

pub returns-in-Some : goal.returns-in-Some
returns-in-Some c =
    c.right_side_of_set.ensures ∙ ap (values_told RightSideLine c.args.place.now.set_name) c.in-Some.ensures ∙ right_side_told c.args.place.now.set_name (texts c.args.words.now)
