use Rattle.std.proofs.Common.{sym, subst, arith}
use Rattle.std.proofs.lemmas.List.{get_or_past}
use Rattle.cip_problem.specs.Program.{Plain}
use Rattle.cip_domain.specs.Narrowing.{ArePlainPast}
use Rattle.cip_cert_tests.proofs.tree_splits.region_with.Goals as goal

pub returns-clause-past : goal.returns-clause-past
returns-clause-past c =
    subst ArePlainPast (sym c.new.ensures)
    (λ column l. get_or_past c.args.choices column Plain (omega (arith, c.requires, l)))
