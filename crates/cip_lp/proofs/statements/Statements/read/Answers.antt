use Rattle.std.proofs.Common.{ap, ◌∙◌, not}
use Rattle.cip_lp.specs.LpStages.{where_of}
use Rattle.cip_lp.proofs.ReadLaws.{misplaced, read_as, taken_as, yes, no, bad_token, out_of_order, refused, read_token, part_read, cost_read_in}
use Rattle.cip_lp.specs.declared.line_tokens.Token.TheVariants.{Bad, Opening, OutsideSection}
use Rattle.cip_lp.specs.declared.words.LpPart.TheVariants.{NoPart, Constraints, Bounds, Generals, Binaries, End}
use Rattle.cip_lp.proofs.statements.Statements.read.Goals as goal

pub returns-in-Constraints : goal.returns-in-Constraints
returns-in-Constraints c =
    read_as c.read_row.result c.args.self.now c.read_row.new.self _ _
    (part_read c.args.self.now c.args.token Constraints c.in-Constraints.is c.in_default.not-Bad
    c.in_default.not-Opening c.in_default.not-OutsideSection) c.read_row.ensures

pub returns-in-Bounds : goal.returns-in-Bounds
returns-in-Bounds c =
    read_as c.read_bound.result c.args.self.now c.read_bound.new.self _ _
    (part_read c.args.self.now c.args.token Bounds c.in-Bounds.is c.in_default.not-Bad c.in_default.not-Opening
    c.in_default.not-OutsideSection) c.read_bound.ensures

pub returns-in-Generals : goal.returns-in-Generals
returns-in-Generals c =
    read_as c.read_whole.result c.args.self.now c.read_whole.new.self _ _
    (part_read c.args.self.now c.args.token Generals c.in-Generals.is c.in_default.not-Bad c.in_default.not-Opening
    c.in_default.not-OutsideSection) c.read_whole.ensures

pub returns-in-Binaries : goal.returns-in-Binaries
returns-in-Binaries c =
    read_as c.read_whole-in-Binaries.result c.args.self.now c.read_whole-in-Binaries.new.self _ _
    (part_read c.args.self.now c.args.token Binaries c.in-Binaries.is c.in_default.not-Bad c.in_default.not-Opening
    c.in_default.not-OutsideSection) c.read_whole-in-Binaries.ensures

pub returns-in-Minimize : goal.returns-in-Minimize
returns-in-Minimize c =
    read_as c.read_cost.result c.args.self.now c.read_cost.new.self _ _
    (cost_read_in c.args.self.now c.args.token c.in-Minimize.is c.in_default.not-Bad c.in_default.not-Opening
    c.in_default.not-OutsideSection)
    c.read_cost.ensures

pub returns-in-NoPart : goal.returns-in-NoPart
returns-in-NoPart c =
    out_of_order c.args.self.now _ _ (where_of c.args.self.now)
    (part_read c.args.self.now c.args.token NoPart c.in-NoPart.is c.in_default.not-Bad c.in_default.not-Opening
    c.in_default.not-OutsideSection)

pub returns-in-End : goal.returns-in-End
returns-in-End c =
    out_of_order c.args.self.now _ _ (where_of c.args.self.now)
    (part_read c.args.self.now c.args.token End c.in-End.is c.in_default.not-Bad c.in_default.not-Opening
    c.in_default.not-OutsideSection)

pub returns-in-Bad : goal.returns-in-Bad
returns-in-Bad c = bad_token c.args.self.now _ _ (where_of c.args.self.now)
    (read_token c.args.self.now c.args.token Bad c.in-Bad.is)

pub returns-in-Opening : goal.returns-in-Opening
returns-in-Opening c =
    taken_as c.args.self.now c.open.new.self c.open.result _ _
    (read_token c.args.self.now c.args.token (Opening c.in-Opening.part) c.in-Opening.is)
    c.open.ensures

pub returns-else-may_end : goal.returns-else-may_end
returns-else-may_end c =
    misplaced c.args.self.now _ _ (where_of c.args.self.now)
    (read_token c.args.self.now c.args.token OutsideSection c.in-OutsideSection.is
    ∙ no _ _ _ (ap not c.if-not-is_past.ensures) ∙ no _ _ _ c.if-may_end.ensures)

pub returns-then-may_end : goal.returns-then-may_end
returns-then-may_end c =
    refused c.args.self.now _ _ (where_of c.args.self.now)
    (read_token c.args.self.now c.args.token OutsideSection c.in-OutsideSection.is
    ∙ no _ _ _ (ap not c.if-not-is_past.ensures) ∙ yes _ _ _ c.if-may_end.ensures)

pub returns-then-not-is_past : goal.returns-then-not-is_past
returns-then-not-is_past c =
    out_of_order c.args.self.now _ _ (where_of c.args.self.now)
    (read_token c.args.self.now c.args.token OutsideSection c.in-OutsideSection.is
    ∙ yes _ _ _ (ap not c.if-not-is_past.ensures))
