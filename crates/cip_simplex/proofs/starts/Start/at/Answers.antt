use Rattle.cip_bland.specs.Dictionary.{size, stand}
use Rattle.cip_bland.specs.Tables.{table}
use Rattle.std.proofs.lemmas.Grind.{common_steps}
use Rattle.std.proofs.Common.{◌∙◌, ◌++◌, ◌∷◌, [], sym, ap₂, arith, ◌≡◌, ap}
use Rattle.cip_dict.proofs.Grown.{table_none, table_more}
use Rattle.cip_simplex.proofs.starts.Start.at.Goals as goal

pub loop-v-init : goal.loop-v-init
loop-v-init c = c.in_ok-standing.ensures.items ∙ table_none _

pub loop-v-preserved : goal.loop-v-preserved
loop-v-preserved c = c.in_ok-push.ensures.items ∙ ap₂ (λ xs x. xs ++ x ∷ []) c.loop-v.invariant c.stand.ensures ∙ sym (table_more c.loop-v.v _)

pub stand-requires : goal.stand-requires
stand-requires c = grind (arith, common_steps)

pub overflow_cast-v : goal.overflow_cast-v
overflow_cast-v c = grind (arith, common_steps)

pub returns : goal.returns
returns c =
    let end : c.loop-v.v ≡ size c.args.dict.now = omega (arith, c.loop-v-test.false, c.loop-v.auto.v-end, c.len-v-end.ensures.variables) in
    c.loop-v.invariant ∙ ap (λ n. table n (stand c.args.dict.now)) end
