use Rattle.std.proofs.lemmas.Grind.{common_steps}
use Rattle.std.proofs.Common.{sym, ap, subst, arith}
use Rattle.cip_search.proofs.Pairing.{exact_self}
use Rattle.cip_presolve.specs.Forms.{Form}
use Rattle.cip_presolve.specs.Taken.{IsImplied}
use Rattle.cip_presolve.proofs.row_steps.take_sides.Goals as goal

pub take_stronger-requires : goal.take_stronger-requires
take_stronger-requires c =
    subst (λ n. IsImplied c.args.draft.now n c.in-Some.sides) (sym (ap (λ (f : Form). f.source) c.form.view_is)) c.in-Some.ensures

pub returns-in_default-clause-step : goal.returns-in_default-clause-step
returns-in_default-clause-step c = exact_self c.args.draft.now

pub source_sides-requires-clause-there : goal.source_sides-requires-clause-there
source_sides-requires-clause-there c = grind (arith, common_steps)

pub source_sides-requires-clause-substitute : goal.source_sides-requires-clause-substitute
source_sides-requires-clause-substitute c = grind (arith, common_steps)
