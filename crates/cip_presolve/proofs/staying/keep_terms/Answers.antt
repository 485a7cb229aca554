use Rattle.cip_presolve.proofs.PartsRead.{same_number}
use Rattle.std.proofs.lemmas.Grind.{common_steps}
use Rattle.std.proofs.Common.{ap, arith}
use Rattle.cip_problem.specs.Program.{Term}
use Rattle.cip_presolve.proofs.StayingColumns.{term_in, all_kept, term_but}
use Rattle.cip_presolve.proofs.staying.keep_terms.Goals as goal

pub loop-term-preserved : goal.loop-term-preserved
loop-term-preserved c =
    term_in c.args.forms.now.items c.loop-term.forms.items c.keep_column.new.forms.items c.args.but c.args.terms.now c.loop-term.term-index c.term.inside.col c.term-item.result
    c.loop-term.invariant c.loop-term-test.true c.term-item.is (ap (λ (t : Term). t.column) c.term.view_is) c.keep_column.ensures.fewer c.keep_column.ensures.stays

pub returns-clause-terms : goal.returns-clause-terms
returns-clause-terms c = all_kept c.args.forms.now.items c.loop-term.forms.items c.args.but c.args.terms.now c.loop-term.term-index c.loop-term.invariant c.loop-term-test.false

pub keep_column-requires : goal.keep_column-requires
keep_column-requires c = grind (arith, common_steps)

pub offset_bounds-terms-term-index : goal.offset_bounds-terms-term-index
offset_bounds-terms-term-index c = grind (arith, common_steps)

pub returns-clause-fewer : goal.returns-clause-fewer
returns-clause-fewer c = grind (arith, common_steps)

pub loop-term-init : goal.loop-term-init
loop-term-init c = grind (arith, common_steps)

pub loop-term-preserved-then-eq : goal.loop-term-preserved-then-eq
loop-term-preserved-then-eq c =
    term_but c.args.forms.now.items c.loop-term.forms.items c.args.but c.args.terms.now c.loop-term.term-index
    c.term.inside.col
    c.term-item.result c.loop-term.invariant c.loop-term-test.true c.term-item.is
    (ap (λ (t : Term). t.column) c.term.view_is)
    (same_number c.args.but c.term.inside.col c.eq.result c.eq.ensures c.if-eq.true)
