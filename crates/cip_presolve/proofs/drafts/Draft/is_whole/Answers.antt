use Rattle.cip_presolve.proofs.PartsRead.{column_shown}
use Rattle.cip_problem.specs.Program.{Program}
use Rattle.std.proofs.lemmas.Grind.{common_steps}
use Rattle.std.proofs.Common.{arith, ap}
use Rattle.cip_presolve.proofs.drafts.Draft.is_whole.Goals as goal

pub index-requires : goal.index-requires
index-requires c = grind (arith, common_steps)

pub returns : goal.returns
returns c =
    column_shown c.self.inside.whole.items c.args.self.now.integral c.self.inside.bounds c.args.self.now.bounds
    c.args.column
    c.index.result.now (ap (λ (p : Program). p.integral) c.self.view_is)
    (ap (λ (p : Program). p.bounds) c.self.view_is)
    c.self.invariant.integral c.requires c.index.ensures
