use Rattle.std.proofs.lemmas.Grind.{common_steps}
use Rattle.cip_lin.proofs.BuiltRows.{none_built, more_built, fault_built, more_terms}
use Rattle.std.proofs.Common.{◌≡◌, ap, subst, take, arith}
use Rattle.cip_lin.specs.RowFaults.{CanStandAfter, IsAppendFault}
use Rattle.cip_lin.proofs.rows.Row.build.Goals as goal

pub loop-term-init : goal.loop-term-init
loop-term-init c = (c.empty-row.ensures, none_built c.args.terms.now)

pub loop-term-preserved : goal.loop-term-preserved
loop-term-preserved c =
    let front : c.loop-term.row.terms ≡ take c.loop-term.term-index c.args.terms.now = ap (λ r. r.terms) c.loop-term.invariant.0 in (
      more_terms c.loop-term.term-index c.args.terms.now c.term-item.result c.loop-term-test.true c.term-item.is c.args.low c.args.high c.loop-term.row c.append.new.self c.loop-term.invariant.0 c.in-Ok.ensures.0,
      more_built c.loop-term.term-index c.args.terms.now c.term-item.result c.loop-term-test.true c.term-item.is c.loop-term.invariant.1 (subst (λ ts. CanStandAfter ts c.term-item.result) front c.in-Ok.ensures.1),
    )

pub returns-in-Err : goal.returns-in-Err
returns-in-Err c =
    let front : c.loop-term.row.terms ≡ take c.loop-term.term-index c.args.terms.now = ap (λ r. r.terms) c.loop-term.invariant.0 in
    fault_built c.loop-term.term-index c.args.terms.now c.term-item.result c.loop-term-test.true c.term-item.is c.in-Err.fault c.loop-term.invariant.1 (subst (λ ts. IsAppendFault ts c.term-item.result c.in-Err.fault) front c.in-Err.ensures.1)

pub returns : goal.returns
returns c = grind (arith, common_steps)

pub offset_bounds-terms-term-index : goal.offset_bounds-terms-term-index
offset_bounds-terms-term-index c = grind (arith, common_steps)
