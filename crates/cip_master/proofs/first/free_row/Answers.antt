use Rattle.std.proofs.Common.{◌<◌, List, length, get_or, ap, ◌∙◌, subst, arith}
use Rattle.cip_problem.specs.Program.{Term}
use Rattle.cip_master.proofs.FreeTerms.{free_next}
use Rattle.cip_master.proofs.first.free_row.Goals as goal

pub loop-term-preserved : goal.loop-term-preserved
loop-term-preserved c =
    let inside : c.loop-term.term-index < length c.terms-terms.result.now = omega arith in
    free_next c.args.owners.now c.args.places.now c.args.row.now c.loop-term.own c.put_free.new.own
    c.loop-term.term-index c.term-item.result
    (subst (λ (ts : List Term). c.loop-term.term-index < length ts) c.terms-terms.ensures.terms inside)
    (c.term-item.is
    ∙ ap (λ (ts : List Term). get_or ts c.loop-term.term-index c.term-item.result) c.terms-terms.ensures.terms)
    c.loop-term.invariant c.in-Ok.ensures
