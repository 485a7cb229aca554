use Rattle.cip_dict.specs.FirstLists.{stand_in}
use Rattle.cip_bland.specs.Tables.{table}
use Rattle.std.proofs.lemmas.Grind.{common_steps}
use Rattle.std.proofs.Common.{◌∙◌, ◌++◌, ◌∷◌, [], sym, ap₂, arith, ◌≡◌, ap}
use Rattle.cip_dict.proofs.Grown.{table_none, table_more}
use Rattle.cip_dict.proofs.first.first_stands.Goals as goal

pub loop-v-init : goal.loop-v-init
loop-v-init c = c.emptied-standing.ensures ∙ table_none _

pub loop-v-preserved : goal.loop-v-preserved
loop-v-preserved c = c.in-Ok.ensures.items ∙ ap₂ (λ xs x. xs ++ x ∷ []) c.loop-v.invariant c.stand_of.ensures ∙ sym (table_more c.loop-v.v _)

pub returns-in_default : goal.returns-in_default
returns-in_default c = grind (arith, common_steps)

pub returns : goal.returns
returns c =
    let end : c.loop-v.v ≡ c.args.n = omega (arith, c.loop-v-test.false, c.loop-v.auto.v-end) in
    c.loop-v.invariant ∙ ap (λ n. table n (stand_in c.args.columns.now)) end
