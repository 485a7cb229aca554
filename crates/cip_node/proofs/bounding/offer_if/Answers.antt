use Rattle.cip_core.specs.Steps.{IsTriedBack}
use Rattle.cip_rational.specs.Rational.{ℚ}
use Rattle.std.proofs.lemmas.Grind.{common_steps}
use Rattle.std.proofs.Common.{arith, List, Option, IfSome, IfOk, Vec, Global, sym, subst}
use Rattle.cip_core.proofs.Relations.{later_at_itself}
use Rattle.cip_node.proofs.bounding.offer_if.Goals as goal

pub returns-in-None-clause-later : goal.returns-in-None-clause-later
returns-in-None-clause-later c = later_at_itself c.args.core.now c.args.node.now c.requires.at_work

pub offer_whole-requires-clause-values : goal.offer_whole-requires-clause-values
offer_whole-requires-clause-values c = grind (arith, common_steps)

pub returns-in-None-clause-tried : goal.returns-in-None-clause-tried
returns-in-None-clause-tried c = grind (arith, common_steps)

pub returns-in-Some-clause-region : goal.returns-in-Some-clause-region
returns-in-Some-clause-region c = grind (arith, common_steps)

pub returns-in-Some-clause-frame : goal.returns-in-Some-clause-frame
returns-in-Some-clause-frame c = grind (arith, common_steps)

pub returns-in-Some-clause-later : goal.returns-in-Some-clause-later
returns-in-Some-clause-later c = grind (arith, common_steps)

pub offer_whole-requires-clause-at_work : goal.offer_whole-requires-clause-at_work
offer_whole-requires-clause-at_work c = grind (arith, common_steps)

pub returns-in-None-clause-frame : goal.returns-in-None-clause-frame
returns-in-None-clause-frame c = grind (arith, common_steps)

pub returns-in-None-clause-region : goal.returns-in-None-clause-region
returns-in-None-clause-region c = grind (arith, common_steps)

pub returns-in-Some-clause-tried : goal.returns-in-Some-clause-tried
returns-in-Some-clause-tried c =
    let new = c.offer_whole.new.core in
    subst (λ (o : Option (Vec ℚ Global)). IfOk c.offer_whole.result (λ _. IfSome o (λ values. IsTriedBack new values.items))) (sym c.in-Some.is)
    (subst (λ (v : List ℚ). IfOk c.offer_whole.result (λ _. IsTriedBack new v)) c.as_slice.ensures.value c.offer_whole.ensures.tried)
