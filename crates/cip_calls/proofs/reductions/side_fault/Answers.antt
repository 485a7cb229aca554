use Rattle.std.proofs.lemmas.Grind.{common_steps}
use Rattle.std.proofs.Common.{◌<◌, length, sym, ap, ◌∙◌, subst, arith}
use Rattle.cip_calls.proofs.reductions.side_fault.Goals as goal

pub bounds-whole-col : goal.bounds-whole-col
bounds-whole-col c =
    subst (λ n. c.args.col < n) (sym (ap length c.whole.ensures.whole ∙ c.whole.ensures.formed.integral ∙ sym c.columns.ensures.count)) c.if-col-columns.false

pub returns : goal.returns
returns c = grind (arith, common_steps)

pub returns-then-unsigned_abs-2 : goal.returns-then-unsigned_abs-2
returns-then-unsigned_abs-2 c = grind (arith, common_steps)

pub returns-then-col-columns : goal.returns-then-col-columns
returns-then-col-columns c = grind (arith, common_steps)
