use Rattle.std.proofs.Common.{◌∙◌}
use Rattle.cip_lp.specs.LpStages.{where_of}
use Rattle.cip_lp.proofs.ReadLaws.{misplaced, yes, no, out_of_order}
use Rattle.cip_lp.proofs.statements.Statements.open.Goals as goal

pub returns-then-not-may_end : goal.returns-then-not-may_end
returns-then-not-may_end c =
    misplaced c.args.self.now _ _ (where_of c.args.self.now)
    (no _ _ _ c.if-is_out_of_order.ensures ∙ no _ _ _ c.if-not-may_end.ensures)

pub returns-then-is_out_of_order : goal.returns-then-is_out_of_order
returns-then-is_out_of_order c =
    out_of_order c.args.self.now _ _ (where_of c.args.self.now) (yes _ _ _ c.if-is_out_of_order.ensures)
