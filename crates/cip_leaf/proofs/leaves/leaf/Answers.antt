use Rattle.std.proofs.lemmas.Grind.{common_steps}
use Rattle.std.proofs.Common.{arith}
use Rattle.cip_leaf.proofs.ChoicesMade.{leaf_answer}
use Rattle.cip_leaf.proofs.leaves.leaf.Goals as goal

pub returns : goal.returns
returns c =
    let formed = c.columns-columns.ensures.formed in
    let e = c.new-decided.ensures in
    leaf_answer c.args.program.now (record { values = c.args.wholes.now; on = c.args.on.now }) c.values_answer.result formed c.requires.each (rw e at c.values_answer.ensures)

pub values_answer-requires : goal.values_answer-requires
values_answer-requires c = grind (arith, common_steps)

pub new-decided-requires : goal.new-decided-requires
new-decided-requires c = grind (arith, common_steps)
