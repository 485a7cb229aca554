use Rattle.cip_bland.specs.Tables.{each}
use Rattle.cip_simplex.specs.LpEntries.{row_entries, entry_of}
use Rattle.cip_bland.specs.ProgramState.{terms_at}
use Rattle.cip_problem.specs.RowTerms.{AreTerms}
use Rattle.cip_problem.specs.Program.{Row}
use borrow.Author.Count.{below_more}
use Rattle.cip_simplex.proofs.Listed.{parts_more}
use Rattle.std.proofs.lemmas.Result.{IfOk-from_err}
use Rattle.std.proofs.lemmas.Grind.{common_steps}
use Rattle.std.proofs.Common.{arith, ◌≡◌, ℕ, ◌∙◌, ap, map, subst, length}
use Rattle.cip_simplex.proofs.begin.gather.Goals as goal

pub loop-r-init : goal.loop-r-init
loop-r-init c = grind (arith, common_steps)

pub returns-clause-entries : goal.returns-clause-entries
returns-clause-entries c =
    let end : c.loop-r.r ≡ length c.args.lp.now.rows = omega (arith, c.loop-r-test.false, c.loop-r.auto.r-end, c.row_count-r-end.ensures.rows) in
    (c.loop-r.invariant.entries ∙ ap (λ n. each n (row_entries c.args.lp.now.rows)) end, λ r l. c.loop-r.invariant.valid r (omega (arith, l, end)))

pub returns-clause-sides : goal.returns-clause-sides
returns-clause-sides c = grind (arith, common_steps)

pub loop-r-preserved : goal.loop-r-preserved
loop-r-preserved c =
    let terms : c.terms.result.now ≡ terms_at c.args.lp.now.rows c.loop-r.r = c.terms.ensures.terms ∙ ap (λ (row : Row). row.terms) c.row-row.ensures in
    record {
      entries = parts_more (row_entries c.args.lp.now.rows) c.loop-r.r c.loop-r.entries.items c.put_entries.new.entries.items _ c.loop-r.invariant.entries c.in_ok-put_entries.ensures (ap (map (entry_of c.loop-r.r)) terms);
      valid = below_more (λ (k : ℕ). AreTerms (terms_at c.args.lp.now.rows k)) c.loop-r.r c.loop-r.invariant.valid (subst (λ (row : Row). AreTerms row.terms) c.row-row.ensures c.terms.ensures.valid);
      sides = grind (arith, common_steps);
    }

pub row-row-requires : goal.row-row-requires
row-row-requires c = grind (arith, common_steps)

pub overflow_cast-r : goal.overflow_cast-r
overflow_cast-r c = grind (arith, common_steps)

pub returns-in_err-put_entries-clause-entries : goal.returns-in_err-put_entries-clause-entries
returns-in_err-put_entries-clause-entries c = IfOk-from_err c.from_residual.result _ c.from_residual.ensures.0

pub returns-in_err-put_entries-clause-sides : goal.returns-in_err-put_entries-clause-sides
returns-in_err-put_entries-clause-sides c = IfOk-from_err c.from_residual.result _ c.from_residual.ensures.0
