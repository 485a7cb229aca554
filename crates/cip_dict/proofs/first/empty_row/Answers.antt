use Rattle.std.proofs.lemmas.Grind.{common_steps}
use Rattle.std.proofs.Common.{◌≡◌, ◌∙◌, Bool, cond, length, replicate, sym, ap, arith}
use Rattle.cip_rational.specs.Rational.{zeroℚ}
use Rattle.cip_dict.specs.Row.{row_length}
use Rattle.cip_dict.specs.SparseLines.{dense}
use Rattle.cip_dict.specs.WholeLines.{over}
use Rattle.cip_dict.proofs.Dense.{dense_none}
use Rattle.cip_dict.proofs.first.empty_row.Goals as goal

pub returns-then-is_basic : goal.returns-then-is_basic
returns-then-is_basic c = grind (arith, common_steps)

pub returns-else-is_basic : goal.returns-else-is_basic
returns-else-is_basic c =
    let len : 0 ≡ row_length c.args.standing.now c.args.v = ap (λ (b : Bool). cond b (length c.args.standing.now) 0) c.if-is_basic.ensures in
    ap (λ ws. dense 0 (over 1 ws)) c.new-else-is_basic.ensures.items ∙ sym (dense_none 0) ∙ ap (λ n. replicate n zeroℚ) len

pub invariant_of-result : goal.invariant_of-result
invariant_of-result c = grind (arith, common_steps)
