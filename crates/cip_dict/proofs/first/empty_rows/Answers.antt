use Rattle.cip_dict.specs.Row.{row_length}
use Rattle.cip_rational.specs.Rational.{ℚ, zeroℚ}
use Rattle.cip_bland.specs.Tables.{table}
use Rattle.std.proofs.lemmas.Grind.{common_steps}
use Rattle.std.proofs.Common.{◌∙◌, ◌++◌, ◌∷◌, [], sym, ap₂, arith, ◌≡◌, ap, length, List, replicate}
use Rattle.cip_dict.proofs.Grown.{table_none, table_more}
use Rattle.cip_dict.proofs.first.empty_rows.Goals as goal

pub loop-v-init : goal.loop-v-init
loop-v-init c = c.emptied-rows.ensures ∙ table_none _

pub loop-v-preserved : goal.loop-v-preserved
loop-v-preserved c = c.in-Ok.ensures.items ∙ ap₂ (λ xs x. xs ++ x ∷ []) c.loop-v.invariant c.empty_row-row.ensures ∙ sym (table_more c.loop-v.v _)

pub empty_row-row-requires : goal.empty_row-row-requires
empty_row-row-requires c = grind (arith, common_steps)

pub returns-in_default : goal.returns-in_default
returns-in_default c = grind (arith, common_steps)

pub returns : goal.returns
returns c =
    let end : c.loop-v.v ≡ length c.args.standing.now = omega arith in
    c.loop-v.invariant ∙ ap (λ n. table {X = List ℚ} n (λ v. replicate (row_length c.args.standing.now v) zeroℚ)) end
