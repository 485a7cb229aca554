use Rattle.std.proofs.lemmas.Grind.{common_steps}
use Rattle.std.proofs.Common.{arith}
use Rattle.cip_lp.specs.LpTexts.{stage_of}
use Rattle.cip_lp.proofs.LpAnswers.{closes}
use Rattle.cip_lp.proofs.lp_text.LpText.close.Goals as goal

pub returns-clause-outcome : goal.returns-clause-outcome
returns-clause-outcome c = λ text h.
    let then = c.read_rest.new.self in
    closes c.taken_texts_come_out.ensures text c.args.self.now then.fault (stage_of then) c.last_line-last.result c.fault_at_end.result c.requires h c.last_line-last.ensures.line c.in_ok-read_rest.ensures.read c.fault_at_end.ensures.fault

pub fault_at_end-requires : goal.fault_at_end-requires
fault_at_end-requires c = grind (arith, common_steps)

pub returns-clause-kinds : goal.returns-clause-kinds
returns-clause-kinds c = grind (arith, common_steps)
