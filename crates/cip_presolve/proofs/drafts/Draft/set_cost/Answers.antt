use Rattle.cip_presolve.specs.NarrowedPrograms.{with_cost}
use Rattle.cip_problem.specs.Program.{Program}
use Rattle.std.proofs.Common.{ap, length, arith}
use Rattle.cip_presolve.proofs.drafts.Draft.set_cost.Goals as goal

pub returns : goal.returns
returns c = ap (λ (p : Program). with_cost p c.args.column c.args.cost c.args.constant) c.self.view_is

pub index_mut-requires : goal.index_mut-requires
index_mut-requires c =
    omega (
      arith,
      c.requires,
      ap (λ (p : Program). length p.bounds) c.self.view_is,
      c.self.invariant.costs,
      c.self.inside.costs.ok.0,
    )
