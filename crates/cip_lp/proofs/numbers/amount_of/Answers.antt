use Rattle.std.proofs.Common.{sym, subst, refl, lit<, lit≤}
use Rattle.cip_rational.specs.Rational.{ℚ}
use Rattle.cip_rational.specs.Numeral.{NotANumber, TooFine}
use Rattle.cip_lp.specs.LpAmounts.{amount_shown}
use Rattle.cip_lp.specs.LpNumbers.{IsAmount}
use Rattle.cip_lp.proofs.ValueLaws.{amount_read, no_amount_read}
use Rattle.cip_lp.proofs.numbers.amount_of.Goals as goal

pub returns-in-Ok : goal.returns-in-Ok
returns-in-Ok c =
    subst (λ (value : ℚ). IsAmount c.args.minus c.args.text.now (amount_shown value)) (sym c.signed.ensures)
    (amount_read c.args.minus c.args.text.now c.in-Ok.value c.in-Ok.ensures)

pub returns-in-Err-Huge : goal.returns-in-Err-Huge
returns-in-Err-Huge c =
    let fault = rw c.in-Err-Huge.field-0-is at c.in-Err-Huge.ensures in
    no_amount_read c.args.text.now _ 4 fault refl refl (lit< tt) (lit≤ tt)

pub returns-in-Err-TooFine : goal.returns-in-Err-TooFine
returns-in-Err-TooFine c =
    let fault = rw c.in-Err-TooFine.field-0-is at c.in-Err-TooFine.ensures in
    no_amount_read c.args.text.now TooFine 5 fault refl refl (lit< tt) (lit≤ tt)

pub returns-in-Err-NotANumber : goal.returns-in-Err-NotANumber
returns-in-Err-NotANumber c =
    let fault = rw c.in-Err-NotANumber.field-0-is at c.in-Err-NotANumber.ensures in
    no_amount_read c.args.text.now NotANumber 5 fault refl refl (lit< tt) (lit≤ tt)
