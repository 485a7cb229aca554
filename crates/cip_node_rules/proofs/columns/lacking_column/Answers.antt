use Rattle.std.proofs.lemmas.Grind.{common_steps}
use Rattle.std.proofs.Common.{true, false, arith, ℕ, subst}
use Rattle.cip_problem.specs.Box.{no_sides, sides_at}
use Rattle.cip_problem.specs.Wholes.{HasWhole}
use Rattle.cip_problem.specs.Program.{Sides}
use Rattle.std.proofs.Common.{◌≡◌, Bool}
use Rattle.cip_problem.proofs.Zips.{zip_from}
use borrow.Author.Count.{below_more}
use Rattle.cip_node_rules.specs.OpenColumns.{is_whole_at}
use Rattle.cip_node_rules.proofs.columns.lacking_column.Goals as goal

pub returns : goal.returns
returns c =
    zip_from (λ (whole : Bool) (sides : Sides). whole ≡ true → HasWhole sides) c.args.whole.now c.args.bounds.now false no_sides c.requires.long
    (λ k l. c.loop-column.invariant k (omega (arith, l)))

pub loop-column-preserved : goal.loop-column-preserved
loop-column-preserved c =
    let column = c.loop-column.column in
    below_more (λ (k : ℕ). is_whole_at c.args.whole.now k ≡ true → HasWhole (sides_at c.args.bounds.now k)) column
    c.loop-column.invariant (λ e. subst HasWhole c.sides.ensures (c.if-lacks_whole.ensures e))

pub sides-requires : goal.sides-requires
sides-requires c = grind (arith, common_steps)

pub loop-column-init : goal.loop-column-init
loop-column-init c = grind (arith, common_steps)

pub returns-then-lacks_whole : goal.returns-then-lacks_whole
returns-then-lacks_whole c = grind (arith, common_steps)

pub bounds-whole-column : goal.bounds-whole-column
bounds-whole-column c = grind (arith, common_steps)

pub overflow_cast-column : goal.overflow_cast-column
overflow_cast-column c = grind (arith, common_steps)

pub overflow_cast-column-end : goal.overflow_cast-column-end
overflow_cast-column-end c = grind (arith, common_steps)
