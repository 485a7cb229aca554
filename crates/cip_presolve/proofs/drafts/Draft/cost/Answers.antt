use Rattle.cip_presolve.proofs.PartsRead.{value_shown}
use Rattle.cip_problem.specs.Program.{Program}
use Rattle.std.proofs.Common.{ap}
use Rattle.cip_presolve.proofs.drafts.Draft.cost.Goals as goal

pub returns : goal.returns
returns c =
    value_shown c.self.inside.costs.items c.args.self.now.costs c.self.inside.bounds c.args.self.now.bounds
    c.args.column
    c.index.result.now (ap (λ (p : Program). p.costs) c.self.view_is) (ap (λ (p : Program). p.bounds) c.self.view_is)
    c.self.invariant.costs c.requires c.index.ensures
