use Rattle.std.proofs.lemmas.Grind.{common_steps}
use Rattle.std.proofs.Common.{List, length, sym, subst, arith}
use Rattle.std.specs.Prelude.{All}
use Rattle.cip_problem.specs.Program.{Row}
use Rattle.cip_problem.specs.Activity.{StandsBelow}
use Rattle.cip_presolve.specs.SpentRows.{RowsGo}
use Rattle.cip_presolve.proofs.StayingColumns.{may_fewer, sources_later, rows_stand, rows_go}
use Rattle.cip_presolve.proofs.leaving.forms_out.Goals as goal

pub keep_rows-requires : goal.keep_rows-requires
keep_rows-requires c =
    subst (λ (rs : List Row). All (λ row. StandsBelow (length c.keep_sources.new.forms.items) row.terms) rs) (sym c.rows.ensures)
    (rows_stand c.args.draft.now _ _ c.bounds-bounds.ensures.formed c.add_forms.ensures c.keep_sources.ensures.fewer)

pub returns-clause-may : goal.returns-clause-may
returns-clause-may c =
    may_fewer c.args.draft.now _ _ _ c.add_forms.ensures c.keep_sources.ensures.fewer c.keep_rows.ensures.fewer

pub returns-clause-sources : goal.returns-clause-sources
returns-clause-sources c = sources_later _ _ c.keep_rows.ensures.fewer c.keep_sources.ensures.sources

pub returns-clause-rows : goal.returns-clause-rows
returns-clause-rows c =
    subst (λ (rs : List Row). RowsGo c.keep_rows.new.forms.items rs) c.rows.ensures (rows_go _ _ c.keep_rows.ensures.rows)

pub returns-in_default-add_forms-clause-may : goal.returns-in_default-add_forms-clause-may
returns-in_default-add_forms-clause-may c = grind (arith, common_steps)

pub returns-in_default-add_forms-clause-rows : goal.returns-in_default-add_forms-clause-rows
returns-in_default-add_forms-clause-rows c = grind (arith, common_steps)

pub returns-in_default-add_forms-clause-sources : goal.returns-in_default-add_forms-clause-sources
returns-in_default-add_forms-clause-sources c = grind (arith, common_steps)
