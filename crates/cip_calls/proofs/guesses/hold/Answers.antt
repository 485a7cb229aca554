use Rattle.cip_calls.proofs.ComingBack.{taken_by}
use Rattle.cip_core.specs.Steps.{IsOffered}
use Rattle.cip_core.specs.HeldPoint.{offered}
use Rattle.cip_calls.specs.GuessesJudged.{costs_less, judged_as}
use Rattle.std.proofs.lemmas.Grind.{common_steps}
use Rattle.std.proofs.Common.{◌≡◌, sym, ap, ◌∙◌, arith, true, false, subst}
use Rattle.cip_tree.specs.Nodes.{Nodes}
use Rattle.cip_core.specs.CoreStates.{held_of}
use Rattle.cip_core.proofs.CoreSteps.{trimmed_is}
use Rattle.cip_core.proofs.Relations.{later_at_itself}
use Rattle.cip_calls.proofs.guesses.hold.Goals as goal

pub returns-then-not-is_cheaper-clause-later : goal.returns-then-not-is_cheaper-clause-later
returns-then-not-is_cheaper-clause-later c = later_at_itself c.args.core.now c.args.node.now c.requires.at_work

pub returns-clause-region : goal.returns-clause-region
returns-clause-region c =
    let old = c.args.core.now in
    let new = c.offer_at-taken.new.self in
    let work : new.tree.work ≡ old.tree.work = ap (λ (n : Nodes). n.work) (trimmed_is old.tree new.tree (held_of new) c.offer_at-taken.ensures.offered.trimmed) in
    sym c.offer_at-taken.ensures.later.at_work.region ∙ work ∙ c.requires.at_work.region

pub offer_at-taken-requires-clause-values : goal.offer_at-taken-requires-clause-values
offer_at-taken-requires-clause-values c = c.requires.values

pub offer_at-taken-requires-clause-at_work : goal.offer_at-taken-requires-clause-at_work
offer_at-taken-requires-clause-at_work c = c.requires.at_work

pub offer_at-taken-requires-clause-found : goal.offer_at-taken-requires-clause-found
offer_at-taken-requires-clause-found c = c.requires.found

pub returns-then-not-is_cheaper-clause-answer : goal.returns-then-not-is_cheaper-clause-answer
returns-then-not-is_cheaper-clause-answer c =
    sym (ap judged_as (taken_by c.args.core.now.incumbent.best c.args.cost false
    (sym c.if-not-is_cheaper.true ∙ c.is_cheaper.ensures ∙ ap (costs_less c.args.cost) c.held_cost.ensures)))

pub returns-clause-answer : goal.returns-clause-answer
returns-clause-answer c =
    sym (ap judged_as (taken_by c.args.core.now.incumbent.best c.args.cost true
    (sym c.if-not-is_cheaper.false ∙ c.is_cheaper.ensures ∙ ap (costs_less c.args.cost) c.held_cost.ensures)))

pub returns-clause-frame : goal.returns-clause-frame
returns-clause-frame c = grind (arith, common_steps)

pub returns-clause-later : goal.returns-clause-later
returns-clause-later c = grind (arith, common_steps)

pub returns-then-not-is_cheaper-clause-frame : goal.returns-then-not-is_cheaper-clause-frame
returns-then-not-is_cheaper-clause-frame c = grind (arith, common_steps)

pub returns-then-not-is_cheaper-clause-after : goal.returns-then-not-is_cheaper-clause-after
returns-then-not-is_cheaper-clause-after c = grind (arith, common_steps)

pub returns-then-not-is_cheaper-clause-region : goal.returns-then-not-is_cheaper-clause-region
returns-then-not-is_cheaper-clause-region c = grind (arith, common_steps)

pub returns-clause-after : goal.returns-clause-after
returns-clause-after c =
    let core = c.args.core.now in
    let answer =
    c.offer_at-taken.ensures.offered.is_answer ∙ ap (offered core.incumbent.best) c.requires.found
    ∙ taken_by core.incumbent.best c.args.cost true
    (sym c.if-not-is_cheaper.false ∙ c.is_cheaper.ensures ∙ ap (costs_less c.args.cost) c.held_cost.ensures) in
    subst (IsOffered core c.offer_at-taken.new.self c.args.values.now) answer c.offer_at-taken.ensures.offered
