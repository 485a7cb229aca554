use Rattle.cip_lp.specs.LpStages.{where_of}
use Rattle.cip_lp.proofs.ReadLaws.{misplaced, read_as, yes, no}
use Rattle.cip_lp.proofs.statements.Statements.second_term.Goals as goal

pub returns-then-is_equality : goal.returns-then-is_equality
returns-then-is_equality c = misplaced c.args.self.now _ _ (where_of c.args.self.now)
    (yes _ _ _ c.if-is_equality.ensures)

pub returns : goal.returns
returns c = read_as c.term.result c.args.self.now c.term.new.self _ _ (no _ _ _ c.if-is_equality.ensures) c.term.ensures
