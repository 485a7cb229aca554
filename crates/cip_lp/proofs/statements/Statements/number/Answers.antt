use Rattle.cip_lp.specs.LpStages.{where_of}
use Rattle.cip_lp.proofs.ReadLaws.{numberless, numbered}
use Rattle.cip_lp.proofs.statements.Statements.number.Goals as goal

pub returns-in-Ok : goal.returns-in-Ok
returns-in-Ok c = numbered c.args.self.now c.args.minus c.args.text.now c.in-Ok.amount c.args.given c.args.stage
    c.in-Ok.ensures

pub returns-in-Err : goal.returns-in-Err
returns-in-Err c = numberless c.args.self.now _ (where_of c.args.self.now) c.args.text.now _ c.in-Err.kind
    c.in-Err.ensures
