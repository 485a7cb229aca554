use Rattle.std.proofs.lemmas.Grind.{common_steps}
use Rattle.std.proofs.Common.{◌∙◌, arith}
use Rattle.cip_text.specs.TextLines.{fields_left}
use Rattle.cip_mps_lines.proofs.FieldCuts.{fields_first}
use Rattle.cip_mps_lines.proofs.sayings.said.Goals as goal

pub returns : goal.returns
returns c =
    let place = c.args.place.now in
    rw c.if-line.false (c.fields_said.ensures ∙ rw (c.as_slice.ensures, c.first_of-words.ensures) (fields_first place.part place (fields_left c.args.line.now.fields)))

pub returns-then-line : goal.returns-then-line
returns-then-line c = grind (arith, common_steps)
