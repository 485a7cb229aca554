use Rattle.std.proofs.lemmas.Grind.{common_steps}
use Rattle.std.proofs.Common.{subst, arith}
use Rattle.std.specs.Prelude.{Ok}
use Rattle.std.specs.declared.alloc.AllocError.{AllocError}
use Rattle.cip_tree.specs.Walks.{Climbs, Arrives}
use Rattle.cip_tree.proofs.Walking.{climbs_less, arrives_failed, arrives_none, arrives_here, steps_on, no_items}
use Rattle.cip_tree.proofs.walks.Walk.descend.Goals as goal

pub returns-in_err-step_down : goal.returns-in_err-step_down
returns-in_err-step_down c = λ ids place top st cl.
    let now = c.loop-place.invariant ids place top st cl in
    let less = climbs_less c.args.kept.now.slots place c.pop.new.self.items c.in-Some.place now.top (subst (λ l. Climbs c.args.kept.now.slots place l now.top) c.in-Some.ensures.items now.climbs) in
    arrives_failed c.args.root.now c.args.kept.now.slots ids c.step_down.new.self c.in-Some.place place _ c.from_residual.result (c.step_down.ensures ids now.top now.stands less.1) c.from_residual.ensures.0

pub returns-then-not-branch : goal.returns-then-not-branch
returns-then-not-branch c = λ ids place top st cl.
    let now = c.loop-place.invariant ids place top st cl in
    let less = climbs_less c.args.kept.now.slots place c.pop.new.self.items c.in-Some.place now.top (subst (λ l. Climbs c.args.kept.now.slots place l now.top) c.in-Some.ensures.items now.climbs) in
    let come = subst (λ b. Arrives {E = AllocError} c.args.root.now c.args.kept.now.slots ids c.step_down.new.self c.in-Some.place (Ok b)) c.if-not-branch.true (c.in_ok-step_down.ensures ids now.top now.stands less.1) in
    arrives_none c.args.root.now c.args.kept.now.slots ids c.step_down.new.self place c.pop.new.self.items c.in-Some.place c.requires.kept less.0 come

pub loop-place-preserved : goal.loop-place-preserved
loop-place-preserved c = λ ids place top st cl.
    let now = c.loop-place.invariant ids place top st cl in
    let less = climbs_less c.args.kept.now.slots place c.pop.new.self.items c.in-Some.place now.top (subst (λ l. Climbs c.args.kept.now.slots place l now.top) c.in-Some.ensures.items now.climbs) in
    let come = subst (λ b. Arrives {E = AllocError} c.args.root.now c.args.kept.now.slots ids c.step_down.new.self c.in-Some.place (Ok b)) c.if-not-branch.false (c.in_ok-step_down.ensures ids now.top now.stands less.1) in
    record { top = c.in-Some.place; stands = steps_on c.args.root.now c.args.kept.now.slots ids c.step_down.new.self c.in-Some.place come; climbs = less.0 }

pub returns : goal.returns
returns c = λ ids place top st cl.
    let now = c.loop-place.invariant ids place top st cl in
    arrives_here c.args.root.now c.args.kept.now.slots ids c.loop-place.self place c.loop-place.places.items now.top now.stands now.climbs (no_items c.loop-place.places.items (omega (arith, c.in_default.ensures.cases.0, c.loop-place.places.ok.0)))

pub loop-place-smaller : goal.loop-place-smaller
loop-place-smaller c = grind (arith, common_steps)

pub loop-place-init : goal.loop-place-init
loop-place-init c = grind (arith, common_steps)
