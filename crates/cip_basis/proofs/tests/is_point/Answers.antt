use Rattle.std.proofs.lemmas.Grind.{common_steps}
use Rattle.std.proofs.Common.{◌≡◌, true, length, sym, ◌∙◌, rules, arith}
use Rattle.cip_basis.specs.PointTests.{keeps_box, keeps_rows}
use Rattle.cip_basis.specs.Shown.{lent_rows}
use Rattle.cip_basis.proofs.Points.{own_stand, others_stand, tested}
use Rattle.cip_basis.proofs.tests.is_point.Goals as goal

pub keeps_rows-requires : goal.keeps_rows-requires
keeps_rows-requires c = own_stand c.args.problem.now (length c.args.point.now) c.requires.long c.requires.ready

pub keeps_others-requires : goal.keeps_others-requires
keeps_others-requires c = others_stand c.args.problem.now (length c.args.point.now) c.requires.long c.requires.ready

pub returns : goal.returns
returns c e =
    let problem = c.args.problem.now in
    let point = c.args.point.now in
    let box : keeps_box problem.bounds.now point ≡ true = search rules in
    let own : keeps_rows problem.own.now point ≡ true = search rules in
    let others : keeps_rows (lent_rows problem.others.now) point ≡ true = sym c.keeps_others.ensures ∙ e in
    tested problem point box own others

pub returns-then-not-keeps_rows : goal.returns-then-not-keeps_rows
returns-then-not-keeps_rows c = grind (arith, common_steps)

pub returns-then-not-keeps_box : goal.returns-then-not-keeps_box
returns-then-not-keeps_box c = grind (arith, common_steps)

pub keeps_box-requires : goal.keeps_box-requires
keeps_box-requires c = grind (arith, common_steps)
