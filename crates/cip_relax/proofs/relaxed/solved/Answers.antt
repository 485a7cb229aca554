use Rattle.std.proofs.lemmas.Grind.{common_steps}
use Rattle.std.proofs.Common.{◌≡◌, ◌++◌, List, map, subst, sym, ap, ◌∙◌, arith}
use Rattle.std.specs.Borrow.{Bor}
use Rattle.cip_rational.specs.Rational.{ℚ}
use Rattle.cip_problem.specs.Program.{Row}
use Rattle.cip_simplex.specs.LpShape.{joined, IsSolvable}
use Rattle.cip_relax.specs.NodeRows.{usable_rows}
use Rattle.cip_relax.proofs.Solvable.{solvable}
use Rattle.cip_relax.proofs.relaxed.solved.Goals as goal

pub with_others-lp-requires : goal.with_others-lp-requires
with_others-lp-requires c =
    let own = c.args.program.now.rows in
    let box = c.args.usable.now.bounds.now in
    let pool = c.args.usable.now.pool.now in
    let others = ap (λ rows. map (λ (row : Bor Row). row.now) rows) c.as_slice-others.ensures.value ∙ c.requires.others in
    let same : joined c.rows.result.now c.as_slice-others.result.now ≡ own ++ usable_rows box pool.rows = ap (λ (rows : List Row). joined rows c.as_slice-others.result.now) c.rows.ensures.rows ∙ ap (λ (more : List Row). own ++ more) others in
    subst (λ (costs : List ℚ). IsSolvable (record { rows = joined c.rows.result.now c.as_slice-others.result.now; bounds = box; costs = costs })) (sym c.costs.ensures.costs)
    (solvable c.args.program.now box pool (joined c.rows.result.now c.as_slice-others.result.now) c.columns-columns.ensures.formed c.requires.columns c.requires.pool c.rows-rows.ensures.kept same)

pub returns : goal.returns
returns c = grind (arith, common_steps)
