use Rattle.std.proofs.lemmas.Grind.{common_steps}
use Rattle.std.proofs.Common.{subst, arith}
use Rattle.std.specs.Fmt.{HasWritten}
use Rattle.cip_frac.proofs.TextParts.{shown_whole, shown_quotient}
use Rattle.cip_frac.proofs.text.FracDisplay.fmt.Goals as goal

pub returns-then-denominator-eq1-clause-writes : goal.returns-then-denominator-eq1-clause-writes
returns-then-denominator-eq1-clause-writes g c plain ok =
    subst (λ bytes. HasWritten g.W.Write.write_str_gives c.args.f.now bytes c.write.new.self)
    (shown_whole c.args.self.now _ _ c.terms-numerator.ensures.over c.terms-numerator.ensures.under c.terms-numerator.ensures.lowest c.if-denominator-eq1.true)
    (c.write.ensures.writes plain ok)

pub returns-else-denominator-eq1-clause-writes : goal.returns-else-denominator-eq1-clause-writes
returns-else-denominator-eq1-clause-writes g c plain ok =
    subst (λ bytes. HasWritten g.W.Write.write_str_gives c.args.f.now bytes c.write-else-denominator-eq1.new.self)
    (shown_quotient c.args.self.now _ _ c.terms-numerator.ensures.over c.terms-numerator.ensures.under c.terms-numerator.ensures.lowest c.if-denominator-eq1.false)
    (c.write-else-denominator-eq1.ensures.writes plain ok)

pub returns-else-denominator-eq1-clause-styled : goal.returns-else-denominator-eq1-clause-styled
returns-else-denominator-eq1-clause-styled g c = grind (arith, common_steps)

pub returns-then-denominator-eq1-clause-styled : goal.returns-then-denominator-eq1-clause-styled
returns-then-denominator-eq1-clause-styled g c = grind (arith, common_steps)
