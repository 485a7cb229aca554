use Rattle.cip_presolve.proofs.PartsRead.{item_shown}
use Rattle.cip_problem.specs.Program.{Program}
use Rattle.std.proofs.lemmas.Grind.{common_steps}
use Rattle.std.proofs.Common.{arith, ap}
use Rattle.cip_presolve.proofs.drafts.Draft.row.Goals as goal

pub returns-clause-stands : goal.returns-clause-stands
returns-clause-stands c = grind (arith, common_steps)

pub index-requires : goal.index-requires
index-requires c = grind (arith, common_steps)

pub returns-clause-row : goal.returns-clause-row
returns-clause-row c =
    item_shown c.self.inside.rows.items c.args.self.now.rows c.args.number c.index.result.now
    (ap (λ (p : Program). p.rows) c.self.view_is)
    c.requires c.index.ensures
