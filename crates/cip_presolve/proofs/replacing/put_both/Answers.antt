use Rattle.std.proofs.lemmas.Grind.{common_steps}
use Rattle.std.proofs.Common.{arith}
use Rattle.cip_presolve.proofs.TermsPut.{under_ok}
use Rattle.cip_presolve.proofs.RowsReplaced.{other_way}
use Rattle.cip_presolve.proofs.replacing.put_both.Goals as goal

pub returns-else-own-other : goal.returns-else-own-other
returns-else-own-other c =
    under_ok _ (λ a. other_way c.args.new.now _ c.args.own c.args.other c.args.terms.now a) c.put_all-else-own-other.ensures

pub returns-then-own-other : goal.returns-then-own-other
returns-then-own-other c = grind (arith, common_steps)
