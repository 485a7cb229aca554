use Rattle.std.proofs.Common.{◌+◌, sym, arith}
use Rattle.std.proofs.lemmas.Bool.{lt-ltb}
use Rattle.cip_node_rules.specs.RowRules.{most_multiples}
use Rattle.cip_node_rules.proofs.Entries.{long_test}
use Rattle.cip_node_rules.proofs.lengths.are_too_many.Goals as goal

pub returns-then-rows-gt-MOST_MULTIPLES : goal.returns-then-rows-gt-MOST_MULTIPLES
returns-then-rows-gt-MOST_MULTIPLES c =
    sym (lt-ltb most_multiples (c.args.rows + c.args.lows + c.args.highs) (omega (arith, c.if-rows-gt-MOST_MULTIPLES.true)))

pub returns-then-lows-rows : goal.returns-then-lows-rows
returns-then-lows-rows c =
    sym (lt-ltb most_multiples (c.args.rows + c.args.lows + c.args.highs) (omega (arith, c.if-lows-rows.true)))

pub overflow_sub-result-2 : goal.overflow_sub-result-2
overflow_sub-result-2 c = c.if-lows-rows.false

pub returns : goal.returns
returns c =
    long_test c.args.rows c.args.lows c.args.highs c.if-rows-gt-MOST_MULTIPLES.false c.if-lows-rows.false
