use Rattle.std.proofs.lemmas.Grind.{common_steps}
use Rattle.std.proofs.Common.{length, sym, subst, arith}
use Rattle.cip_problem.specs.Program.{Program}
use Rattle.cip_problem.specs.Activity.{StandsBelow}
use Rattle.cip_presolve.specs.DraftInside.{shown}
use Rattle.cip_presolve.proofs.Drafted.{row_set}
use Rattle.cip_presolve.proofs.drafts.Draft.set_row.Goals as goal

pub invariant_of-self : goal.invariant_of-self
invariant_of-self c =
    row_set (shown c.self.inside) c.args.number c.args.row c.self.invariant
    (subst (λ (p : Program). StandsBelow (length p.bounds) c.args.row.terms) (sym c.self.view_is) c.requires.stands)

pub index_mut-requires : goal.index_mut-requires
index_mut-requires c = grind (arith, common_steps)

pub returns : goal.returns
returns c = grind (arith, common_steps)
