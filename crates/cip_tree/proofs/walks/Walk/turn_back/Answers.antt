use Rattle.std.proofs.lemmas.Grind.{common_steps}
use Rattle.std.proofs.Common.{◌≤◌, ◌∙◌, length, ap, sym, subst, refl, arith}
use Rattle.std.proofs.lemmas.List.Elements.{All-take}
use Rattle.cip_tree.specs.declared.walks.Stop.{Stop}
use Rattle.cip_tree.specs.Walks.{Way, AreRising, AreHeld}
use Rattle.cip_tree.proofs.Walking.{rising_take, walked_take}
use Rattle.cip_tree.proofs.walks.Walk.turn_back.Goals as goal

pub invariant_of-self : goal.invariant_of-self
invariant_of-self c = (
  subst AreRising (sym c.truncate.ensures.items) (rising_take c.self.inside.stops.items _ c.self.invariant.0),
  subst (AreHeld c.self.inside.domain) (sym c.truncate.ensures.items) (All-take (λ (s : Stop). s.mark ≤ length c.self.inside.domain.before) _ c.self.inside.stops.items c.self.invariant.1),
)

pub loop-stop-preserved : goal.loop-stop-preserved
loop-stop-preserved c =
    let old : Way = record { domain = c.self.inside.domain; stops = c.self.inside.stops.items } in
    let new : Way = record { domain = c.self.inside.domain; stops = c.truncate.new.self.items } in
    record {
      domain = ap (λ (w : Way). w.domain) c.self.view_is ∙ c.loop-stop.invariant.domain;
      walked = λ slots root ids w. walked_take root slots ids _ old new refl c.truncate.ensures.items (rw (c.self.view_is) (c.loop-stop.invariant.walked slots root ids w));
    }

pub loop-stop-smaller : goal.loop-stop-smaller
loop-stop-smaller c = grind (arith, common_steps)

pub overflow_sub-count : goal.overflow_sub-count
overflow_sub-count c = grind (arith, common_steps)

pub returns-then-stop-number-clause-ends : goal.returns-then-stop-number-clause-ends
returns-then-stop-number-clause-ends c = grind (arith, common_steps)

pub returns-clause-ends : goal.returns-clause-ends
returns-clause-ends c = grind (arith, common_steps)

pub returns-then-stop-number-clause-domain : goal.returns-then-stop-number-clause-domain
returns-then-stop-number-clause-domain c = grind (arith, common_steps)

pub returns-clause-domain : goal.returns-clause-domain
returns-clause-domain c = grind (arith, common_steps)

pub loop-stop-init : goal.loop-stop-init
loop-stop-init c = grind (arith, common_steps)

pub same-self : goal.same-self
same-self c = grind (arith, common_steps)
