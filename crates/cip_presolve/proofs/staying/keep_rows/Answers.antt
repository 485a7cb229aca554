use Rattle.std.proofs.lemmas.Grind.{common_steps}
use Rattle.std.proofs.Common.{List, Option, IfSome, length, sym, subst, arith}
use Rattle.cip_problem.specs.Program.{Term}
use Rattle.cip_problem.specs.Activity.{StandsBelow}
use Rattle.cip_presolve.specs.Forms.{Form}
use Rattle.cip_presolve.specs.SpentRows.{IsSpentBy, TermsInBut}
use Rattle.cip_presolve.proofs.StayingColumns.{no_rows, next_row, row_kept_by, row_within, rows_fewer, all_rows_kept}
use Rattle.cip_presolve.proofs.staying.keep_rows.Goals as goal

pub loop-row-init : goal.loop-row-init
loop-row-init c = no_rows c.args.forms.now.items c.args.rows.now

pub keep_terms-requires : goal.keep_terms-requires
keep_terms-requires c =
    subst (λ (ts : List Term). StandsBelow (length c.loop-row.forms.items) ts) (sym c.terms.ensures.terms)
    (row_within _ _ _ _ _ c.loop-row.invariant c.requires c.loop-row-test.true c.row-item.is)

pub loop-row-preserved : goal.loop-row-preserved
loop-row-preserved c =
    next_row _ _ _ _ _ _ c.loop-row.invariant c.loop-row-test.true c.row-item.is c.keep_terms.ensures.fewer
    (row_kept_by c.loop-row.forms.items c.keep_terms.new.forms.items c.row-item.result c.spent_column-but.result
    (subst (λ (fs : List (Option Form)). IfSome c.spent_column-but.result (IsSpentBy fs c.row-item.result)) c.as_slice.ensures.value c.spent_column-but.ensures)
    c.keep_terms.ensures.fewer
    (subst (λ (ts : List Term). TermsInBut c.keep_terms.new.forms.items c.spent_column-but.result ts) c.terms.ensures.terms c.keep_terms.ensures.terms))

pub returns-clause-fewer : goal.returns-clause-fewer
returns-clause-fewer c = rows_fewer _ _ _ _ c.loop-row.invariant

pub returns-clause-rows : goal.returns-clause-rows
returns-clause-rows c = all_rows_kept _ _ _ _ c.loop-row.invariant c.loop-row-test.false

pub offset_bounds-rows-row-index : goal.offset_bounds-rows-row-index
offset_bounds-rows-row-index c = grind (arith, common_steps)
