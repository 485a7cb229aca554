use Rattle.std.proofs.lemmas.Grind.{common_steps}
use Rattle.std.proofs.Common.{arith}
use Rattle.std.proofs.lemmas.Result.{IfOk-weaker}
use Rattle.cip_plugin.specs.Calls.{Branch, Enforce}
use Rattle.cip_plugin.specs.declared.kinds.Kind.TheVariants as kinds
use Rattle.cip_calls.proofs.Calling.{next_seated, rules, enforcers}
use Rattle.cip_calls.proofs.Waiting.{next_turn}
use Rattle.cip_calls.proofs.rosters.RosterAsks.ask_next.Goals as goal

pub returns-in-Split-clause-asked : goal.returns-in-Split-clause-asked
returns-in-Split-clause-asked g c =
    rw c.in-Split.is (IfOk-weaker _ _ _ (λ gave h. next_turn kinds.BranchRule Branch _ _ _ gave rules h) c.call_rules.ensures.called)

pub returns-in-Split-clause-seated : goal.returns-in-Split-clause-seated
returns-in-Split-clause-seated g c = IfOk-weaker _ _ _ (λ gave h. next_seated kinds.BranchRule Branch _ _ _ gave h) c.call_rules.ensures.called

pub returns-in-Verdict-clause-asked : goal.returns-in-Verdict-clause-asked
returns-in-Verdict-clause-asked g c =
    rw c.in-Verdict.is (IfOk-weaker _ _ _ (λ gave h. next_turn kinds.ConsHandler Enforce _ _ _ gave enforcers h) c.call_enforcers.ensures.called)

pub returns-in-Verdict-clause-seated : goal.returns-in-Verdict-clause-seated
returns-in-Verdict-clause-seated g c = IfOk-weaker _ _ _ (λ gave h. next_seated kinds.ConsHandler Enforce _ _ _ gave h) c.call_enforcers.ensures.called

pub returns-in-Verdict-clause-sound : goal.returns-in-Verdict-clause-sound
returns-in-Verdict-clause-sound g c = c.call_enforcers.ensures.sound

pub returns-in-Split-clause-sound : goal.returns-in-Split-clause-sound
returns-in-Split-clause-sound g c = c.call_rules.ensures.sound

pub returns-in-Verdict-clause-err : goal.returns-in-Verdict-clause-err
returns-in-Verdict-clause-err g c = grind (arith, common_steps)

pub returns-in-Split-clause-err : goal.returns-in-Split-clause-err
returns-in-Split-clause-err g c = grind (arith, common_steps)

pub call_enforcers-requires : goal.call_enforcers-requires
call_enforcers-requires g c = grind (arith, common_steps)

pub call_rules-requires : goal.call_rules-requires
call_rules-requires g c = grind (arith, common_steps)
