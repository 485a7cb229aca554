use Rattle.std.proofs.Common.{◌∙◌}
use Rattle.cip_frac.proofs.Fields.{numerator_field, denominator_is, kept_lowest}
use Rattle.cip_frac.proofs.fraction.Frac.terms.Goals as goal

pub returns-clause-over : goal.returns-clause-over
returns-clause-over c = rw c.get.ensures (numerator_field c.self.inside.numerator c.self.inside.denominator c.args.self c.self.invariant c.self.view_is)

pub returns-clause-under : goal.returns-clause-under
returns-clause-under c = c.get-2.ensures ∙ denominator_is c.self.inside.numerator c.self.inside.denominator c.args.self c.self.invariant c.self.view_is

pub returns-clause-lowest : goal.returns-clause-lowest
returns-clause-lowest c = kept_lowest _ _ _ _ c.get.ensures c.get-2.ensures c.self.invariant
