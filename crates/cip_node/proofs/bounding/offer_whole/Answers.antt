use Rattle.std.proofs.lemmas.Grind.{common_steps}
use Rattle.std.proofs.Common.{◌≢◌, Err, ◌∙◌, ap, subst, arith}
use Rattle.cip_problem.specs.Program.{Program}
use Rattle.cip_problem.specs.Points.{AreWhole}
use Rattle.cip_core.specs.PostsolveFault.TheVariants.{NoMemory}
use Rattle.cip_core.specs.Steps.{IsTriedBack}
use Rattle.cip_core.proofs.Relations.{later_at_itself}
use Rattle.cip_node.proofs.Fractional.{fractional_tried}
use Rattle.cip_node.proofs.NodeBound.{on_ok, offered_region}
use Rattle.cip_node.proofs.bounding.offer_whole.Goals as goal

pub returns-then-not-are_whole-clause-later : goal.returns-then-not-are_whole-clause-later
returns-then-not-are_whole-clause-later c = later_at_itself c.args.core.now c.args.node.now c.requires.at_work

pub returns-then-not-are_whole-clause-tried : goal.returns-then-not-are_whole-clause-tried
returns-then-not-are_whole-clause-tried c =
    let core = c.args.core.now in
    fractional_tried core c.args.point.now c.is_sound.ensures.formed c.is_sound.ensures.reduced c.is_sound.ensures.sound c.requires.values
    (subst (λ w. ¬ AreWhole w c.args.point.now) (c.whole.ensures.whole ∙ ap (λ (p : Program). p.integral) c.reduced-reduced.ensures) c.if-not-are_whole.ensures)

pub returns-clause-later : goal.returns-clause-later
returns-clause-later c = c.offer_back.ensures.later

pub returns-clause-tried : goal.returns-clause-tried
returns-clause-tried c =
    on_ok c.passed_over.result (c.offer_back.result ≢ Err NoMemory) (IsTriedBack c.offer_back.new.self c.args.point.now) c.offer_back.ensures.tried c.passed_over.ensures.ok

pub returns-clause-region : goal.returns-clause-region
returns-clause-region c =
    offered_region c.args.core.now c.offer_back.new.self c.args.node.now c.args.point.now c.offer_back.result c.requires.at_work c.offer_back.ensures.later.at_work c.offer_back.ensures.offered

pub returns-clause-frame : goal.returns-clause-frame
returns-clause-frame c = c.offer_back.ensures.frame

pub are_whole-requires : goal.are_whole-requires
are_whole-requires c = grind (arith, common_steps)

pub offer_back-requires-clause-at_work : goal.offer_back-requires-clause-at_work
offer_back-requires-clause-at_work c = grind (arith, common_steps)

pub offer_back-requires-clause-values : goal.offer_back-requires-clause-values
offer_back-requires-clause-values c = omega arith

pub returns-then-not-are_whole-clause-frame : goal.returns-then-not-are_whole-clause-frame
returns-then-not-are_whole-clause-frame c = grind (arith, common_steps)

pub returns-then-not-are_whole-clause-region : goal.returns-then-not-are_whole-clause-region
returns-then-not-are_whole-clause-region c = grind (arith, common_steps)
