use Rattle.std.proofs.lemmas.Grind.{common_steps}
use Rattle.std.proofs.Common.{arith}
use Rattle.cip_lp.proofs.lp_text.keep_last.Goals as goal

pub returns : goal.returns
returns c = grind (arith, common_steps)

pub returns-then-is_line_feed : goal.returns-then-is_line_feed
returns-then-is_line_feed c = grind (arith, common_steps)
