use Rattle.cip_lp.proofs.KeptLaws.{many_said, long_said, column_said}
use Rattle.cip_lp.proofs.draft.LpDraft.mention.Goals as goal

pub returns : goal.returns
returns c =
    column_said c.args.self.now c.make_column.new.self c.args.name.now c.find_column-column.result
    c.find_column-column.ensures.number
    c.if-is_column_too_many.ensures c.if-is_long.ensures c.in_ok-make_column.ensures.ok

pub returns-then-is_long : goal.returns-then-is_long
returns-then-is_long c =
    long_said c.args.self.now c.args.name.now c.find_column-column.result c.find_column-column.ensures.number
    c.if-is_column_too_many.ensures c.if-is_long.ensures

pub returns-then-is_column_too_many : goal.returns-then-is_column_too_many
returns-then-is_column_too_many c =
    many_said c.args.self.now c.args.name.now c.find_column-column.result c.find_column-column.ensures.number
    c.if-is_column_too_many.ensures
