use Rattle.std.proofs.lemmas.Grind.{common_steps}
use Rattle.std.proofs.Common.{◌≡◌, ap, sym, ◌∙◌, true, false, arith}
use Rattle.cip_text_rules.specs.MpsState.{is_zero_value}
use Rattle.cip_text_rules.proofs.Told.{zero_is_zero}
use Rattle.cip_lp.proofs.form.append.Goals as goal

pub unreachable-requires-in-Err-ZeroTerm : goal.unreachable-requires-in-Err-ZeroTerm
unreachable-requires-in-Err-ZeroTerm c =
    let fault = rw c.in-Err-ZeroTerm.field-0-is at c.in-Err-ZeroTerm.ensures in
    let zero : is_zero_value c.number.inside.value ≡ true = ap is_zero_value fault.1.2 ∙ zero_is_zero in
    let no : is_zero_value c.number.inside.value ≡ false = sym c.is_zero.ensures ∙ c.if-is_zero.false in
    cc

pub returns-in-Ok : goal.returns-in-Ok
returns-in-Ok c = grind (arith, common_steps)

pub returns-then-is_zero : goal.returns-then-is_zero
returns-then-is_zero c = grind (arith, common_steps)

pub unreachable-requires : goal.unreachable-requires
unreachable-requires c = grind (arith, common_steps)

pub unreachable-unreachable : goal.unreachable-unreachable
unreachable-unreachable c = grind (arith, common_steps)

pub unreachable-unreachable-in-Err-ZeroTerm : goal.unreachable-unreachable-in-Err-ZeroTerm
unreachable-unreachable-in-Err-ZeroTerm c = grind (arith, common_steps)

pub returns-in-Err-NoMemory : goal.returns-in-Err-NoMemory
returns-in-Err-NoMemory c = grind (arith, common_steps)
