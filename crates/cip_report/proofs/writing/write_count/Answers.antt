use Rattle.std.proofs.lemmas.Grind.{common_steps}
use Rattle.std.proofs.Common.{◌≡◌, ◌∙◌, sym, arith, rules}
use Rattle.std.specs.Prelude.{decimal}
use Rattle.cip_rational.specs.NumberText.{natural_text}
use Rattle.cip_rational.proofs.NumberText.{natural_text_decimal}
use Rattle.cip_report.proofs.writing.write_count.Goals as goal

pub returns-clause-taken : goal.returns-clause-taken
returns-clause-taken g c =
    let digits : c.as_bytes.result.now ≡ decimal c.args.count = search rules in
    let text : c.as_bytes.result.now ≡ natural_text c.args.count = digits ∙ sym (natural_text_decimal c.args.count (omega arith)) in
    rw text at c.write_line.ensures.taken

pub returns-clause-faults : goal.returns-clause-faults
returns-clause-faults g c = grind (arith, common_steps)
