use Rattle.cip_text.specs.TextLines.{left}
use Rattle.cip_text.proofs.OneLine.{record_is}
use Rattle.cip_text.proofs.one_line.record_of.Goals as goal

pub returns : goal.returns
returns c =
    record_is c.args.comment c.args.line.now c.next_line.result (left c.lines-records.result) (left c.next_line.new.self) c.requires c.lines-records.ensures c.next_line.ensures
