use Rattle.std.proofs.Common.{◌∙◌, sym, subst, true≢false}
use Rattle.cip_presolve.specs.Presolving.{PresolveIsRight}
use Rattle.cip_solve.proofs.Reduced.{itself_searched}
use Rattle.cip_solve.proofs.reducing.reduced_for.Goals as goal

pub returns-in-NoPoint : goal.returns-in-NoPoint
returns-in-NoPoint c = (c.if-presolve.true, subst (PresolveIsRight c.args.program.now) c.in-NoPoint.is c.in_ok-presolve.ensures)

pub returns : goal.returns
returns c = itself_searched c.args.presolve c.args.program.now c.in_ok-same.field-0 c.requires c.in_ok-same.ensures.pair c.in_ok-same.ensures.unchanged

pub returns-then-has_near_columns : goal.returns-then-has_near_columns
returns-then-has_near_columns c = record {
  back = subst (PresolveIsRight c.args.program.now) c.in-Reduced.is c.in_ok-presolve.ensures;
  near = c.has_near_columns.ensures c.if-has_near_columns.true;
  same = λ e. absurd (true≢false (sym c.if-presolve.true ∙ e));
}
