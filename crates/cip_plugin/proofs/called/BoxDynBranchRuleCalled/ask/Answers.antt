use Rattle.std.proofs.Common.{refl, rules, arith}
use Rattle.std.proofs.lemmas.Grind.{common_steps}
use Rattle.cip_plugin.proofs.Objects.{lives_on, heard_same}
use Rattle.cip_plugin.proofs.Asked.{branch_rule_is_asked}
use Rattle.cip_plugin.proofs.called.BoxDynBranchRuleCalled.ask.Goals as goal

pub returns-in_Ok-split-in-Branch : goal.returns-in_Ok-split-in-Branch
returns-in_Ok-split-in-Branch g c =
    rw c.in-Branch.is (heard_same (λ i x. (goal.BranchRule-dyn g (i, x)).Plugin.told x) _
    (c.args.self.now.vtable, c.args.self.now.value) (search rules) c.in_Ok-split-in-Branch.ensures)

pub returns-in_Err-split-in-Branch : goal.returns-in_Err-split-in-Branch
returns-in_Err-split-in-Branch g c =
    rw c.in-Branch.is (heard_same (λ i x. (goal.BranchRule-dyn g (i, x)).Plugin.told x) _
    (c.args.self.now.vtable, c.args.self.now.value) (search rules) c.in_Err-split-in-Branch.ensures)

pub unreachable-requires : goal.unreachable-requires
unreachable-requires g c = branch_rule_is_asked c.args.question c.requires c.in_default.not-Branch

pub widen_unique-branch : goal.widen_unique-branch
widen_unique-branch g c = grind (arith, common_steps)

pub back_relent_following-self : goal.back_relent_following-self
back_relent_following-self g c = grind (arith, common_steps)

pub unreachable-unreachable : goal.unreachable-unreachable
unreachable-unreachable g c = grind (arith, common_steps)

pub branch-split-requires : goal.branch-split-requires
branch-split-requires g c = λ k. (refl, lives_on k.0 _)
