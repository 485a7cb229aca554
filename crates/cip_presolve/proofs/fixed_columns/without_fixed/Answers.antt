use Rattle.std.proofs.lemmas.Grind.{common_steps}
use Rattle.std.proofs.Common.{◌≡◌, List, [], length, refl, sym, ap, ◌∙◌, subst, arith}
use Rattle.cip_rational.specs.Rational.{zeroℚ}
use Rattle.cip_problem.specs.Program.{Term, Row}
use Rattle.cip_problem.specs.Activity.{StandsBelow}
use Rattle.cip_search.specs.RowSteps.{side_less}
use Rattle.cip_presolve.specs.RowReading.{fixed_from, free_terms}
use Rattle.cip_presolve.proofs.FixedColumns.{left_row, free_stands}
use Rattle.cip_presolve.proofs.fixed_columns.without_fixed.Goals as goal

pub returns-then-whole : goal.returns-then-whole
returns-then-whole c =
    let k = rw c.if-whole.true at c.in-Ok.ensures in
    let none : c.empty-left.result.terms ≡ [] = ap (λ (r : Row). r.terms) c.empty-left.ensures in
    let terms : c.append_free.new.row.terms ≡ free_terms c.args.row.now.terms c.args.bounds.now = ap (λ (r : Row). r.terms) k ∙ rw (none, c.terms-2.ensures.terms) refl in
    let shift : c.in-Some.shift ≡ fixed_from zeroℚ c.args.row.now.terms c.args.bounds.now = rw (← c.terms.ensures.terms) c.in-Some.ensures in
    let low : c.append_free.new.row.low ≡ side_less c.args.row.now.low c.in-Some.shift = ap (λ (r : Row). r.low) k ∙ ap (λ (r : Row). r.low) c.empty-left.ensures ∙ rw (← c.low.ensures) c.in-Some-less.ensures in
    let high : c.append_free.new.row.high ≡ side_less c.args.row.now.high c.in-Some.shift = ap (λ (r : Row). r.high) k ∙ ap (λ (r : Row). r.high) c.empty-left.ensures ∙ rw (← c.high.ensures) c.in-Some-less-2.ensures in
    left_row c.args.bounds.now c.args.row.now c.append_free.new.row c.in-Some.shift shift terms low high
    (subst (λ (ts : List Term). StandsBelow (length c.args.bounds.now) ts) (sym terms) (free_stands (length c.args.bounds.now) c.args.row.now.terms c.args.bounds.now c.requires))

pub append_free-requires : goal.append_free-requires
append_free-requires c = grind (arith, common_steps)

pub fixed_sum-requires : goal.fixed_sum-requires
fixed_sum-requires c = grind (arith, common_steps)

pub returns : goal.returns
returns c = grind (arith, common_steps)
