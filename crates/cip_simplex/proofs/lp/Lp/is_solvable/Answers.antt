use Rattle.std.proofs.lemmas.Bool.{true≢false, le-ltb}
use Rattle.cip_simplex.proofs.Solvable.{stands_more, solvable_by}
use Rattle.std.proofs.lemmas.Grind.{common_steps}
use Rattle.std.proofs.Common.{arith, length, sym, ap, ◌∙◌, refl, ltb, ◌-◌, ◌≡◌, true, ◌<◌, ◌^◌}
use Rattle.cip_simplex.proofs.lp.Lp.is_solvable.Goals as goal
use Rattle.cip_simplex.proofs.lp.Lp.is_solvable.Goals.{then-len, else-len}

pub returns-then-not-stands_below : goal.returns-then-not-stands_below
returns-then-not-stands_below c = grind (arith, common_steps)

pub loop-row-init : goal.loop-row-init
loop-row-init c = grind (arith, common_steps)

pub returns-then-not-few : goal.returns-then-not-few
returns-then-not-few c = grind (arith, common_steps)

pub offset_bounds-rows-row-index : goal.offset_bounds-rows-row-index
offset_bounds-rows-row-index c = grind (arith, common_steps)

pub overflow_sub-few : goal.overflow_sub-few
overflow_sub-few c = grind (arith, common_steps)

pub loop-row-preserved : goal.loop-row-preserved
loop-row-preserved c =
    stands_more (length c.args.bounds.now) c.len-in-loop-row.result c.args.rows.now c.loop-row.row-index c.row-item.result c.terms.result.now c.loop-row.invariant c.loop-row-test.true c.row-item.is c.terms.ensures.terms c.len-in-loop-row.ensures (c.if-not-stands_below.ensures.0 refl)

pub returns : goal.returns
returns c =
    let few : length c.args.bounds.now < 2 ^ 32 =
    elim c.if-len.branch [
      | then-len w ↦ omega (arith, w.if-len.true, c.len.ensures)
      | else-len w ↦ absurd (true≢false (sym c.if-not-few.false ∙ w.few-is ∙ le-ltb c.len.result 4294967296 w.if-len.false))
    ] in
    let room : ltb (length c.args.rows.now) (2 ^ 32 - length c.args.bounds.now) ≡ true =
    elim c.if-len.branch [
      | then-len w ↦ sym (w.few-is ∙ ap (λ n. ltb (length c.args.rows.now) (2 ^ 32 - n)) w.len-then-len.ensures) ∙ c.if-not-few.false
      | else-len w ↦ absurd (true≢false (sym c.if-not-few.false ∙ w.few-is ∙ le-ltb c.len.result 4294967296 w.if-len.false))
    ] in
    ((λ _. solvable_by c.args.rows.now c.args.bounds.now c.args.costs.now c.loop-row.row-index (c.if-costs-len.false ∙ c.len-else-not-few.ensures) c.loop-row.invariant c.loop-row-test.false few room), λ _. refl)
