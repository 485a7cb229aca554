use Rattle.std.proofs.lemmas.Grind.{common_steps}
use Rattle.std.proofs.Common.{◌≡◌, arith}
use Rattle.cip_text.specs.TextLines.{fields_left}
use Rattle.cip_text_rules.specs.PointRules.{BadLine, line_said}
use Rattle.cip_input.proofs.point_lines.PointLines.take_line.Goals as goal

pub returns-in_default-clause-read : goal.returns-in_default-clause-read
returns-in_default-clause-read c = grind (arith, common_steps)

pub returns-in_default-next_field-clause-read : goal.returns-in_default-next_field-clause-read
returns-in_default-next_field-clause-read c =
    let bad : line_said (fields_left c.in-Some.fields) ≡ BadLine = grind (arith, common_steps) in
    grind (arith, common_steps, bad)

pub returns-in_default-next_field-2-clause-read : goal.returns-in_default-next_field-2-clause-read
returns-in_default-next_field-2-clause-read c =
    let bad : line_said (fields_left c.in-Some.fields) ≡ BadLine = grind (arith, common_steps) in
    grind (arith, common_steps, bad)

pub returns-in-Some-next_field-3-clause-read : goal.returns-in-Some-next_field-3-clause-read
returns-in-Some-next_field-3-clause-read c =
    let bad : line_said (fields_left c.in-Some.fields) ≡ BadLine = grind (arith, common_steps) in
    grind (arith, common_steps, bad)

pub returns-in_default-clause-kinds : goal.returns-in_default-clause-kinds
returns-in_default-clause-kinds c = grind (arith, common_steps)

pub returns-in_default-clause-same : goal.returns-in_default-clause-same
returns-in_default-clause-same c = grind (arith, common_steps)

pub returns-in_default-next_field-clause-kinds : goal.returns-in_default-next_field-clause-kinds
returns-in_default-next_field-clause-kinds c = grind (arith, common_steps)

pub returns-in_default-next_field-clause-same : goal.returns-in_default-next_field-clause-same
returns-in_default-next_field-clause-same c = grind (arith, common_steps)

pub returns-in_default-next_field-2-clause-kinds : goal.returns-in_default-next_field-2-clause-kinds
returns-in_default-next_field-2-clause-kinds c = grind (arith, common_steps)

pub returns-in_default-next_field-2-clause-same : goal.returns-in_default-next_field-2-clause-same
returns-in_default-next_field-2-clause-same c = grind (arith, common_steps)

pub returns-in-Some-next_field-3-clause-kinds : goal.returns-in-Some-next_field-3-clause-kinds
returns-in-Some-next_field-3-clause-kinds c = grind (arith, common_steps)

pub returns-in-Some-next_field-3-clause-same : goal.returns-in-Some-next_field-3-clause-same
returns-in-Some-next_field-3-clause-same c = grind (arith, common_steps)

pub returns-in-None-clause-kinds : goal.returns-in-None-clause-kinds
returns-in-None-clause-kinds c = grind (arith, common_steps)

pub returns-in-None-clause-same : goal.returns-in-None-clause-same
returns-in-None-clause-same c = grind (arith, common_steps)

pub returns-in-None-clause-read : goal.returns-in-None-clause-read
returns-in-None-clause-read c = grind (arith, common_steps)
