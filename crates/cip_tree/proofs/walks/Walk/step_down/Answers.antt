use Rattle.std.proofs.Common.{◌≡◌, ◌∙◌, ◌∷◌, true, false, ap, refl, sym, subst, arith}
use Rattle.cip_domain.specs.Domain.{region_of}
use Rattle.cip_domain.specs.Narrowing.{ArePlainPast}
use Rattle.cip_tree.specs.Origins.{filled}
use Rattle.cip_tree.specs.Notes.{noted}
use Rattle.cip_tree.specs.declared.walks.Stop.{Stop}
use Rattle.cip_tree.specs.Walks.{Way, AreRising, AreHeld, StandsAt, AreNarrowed}
use Rattle.cip_tree.proofs.Walking.{held_longer, way_longer, descent_failed, descent_empty, descent_taken, mark_here}
use Rattle.cip_tree.proofs.walks.Walk.step_down.Goals as goal

pub returns-in_default : goal.returns-in_default
returns-in_default c = λ ids parent st p. absurd (c.in_default.ensures parent p)

pub returns-in_err-narrow_more : goal.returns-in_err-narrow_more
returns-in_err-narrow_more c = λ ids parent st p.
    let old : Way = record { domain = c.self.inside.domain; stops = c.self.inside.stops.items } in
    let stand : StandsAt c.args.root.now c.args.kept.now.slots ids old parent = subst (λ w. StandsAt c.args.root.now c.args.kept.now.slots ids w parent) (sym c.self.view_is) st in
    let new : Way = record { domain = c.narrow_more.new.domain; stops = c.self.inside.stops.items } in
    descent_failed c.args.root.now c.args.kept.now.slots c.args.place _ _ _ c.requires.kept c.in-Some.ensures ids parent p old new c.self.invariant.1 stand c.from_residual.result refl c.narrow_more.ensures.marks c.from_residual.ensures.0

pub returns-then-not-branch : goal.returns-then-not-branch
returns-then-not-branch c = λ ids parent st p.
    let old : Way = record { domain = c.self.inside.domain; stops = c.self.inside.stops.items } in
    let stand : StandsAt c.args.root.now c.args.kept.now.slots ids old parent = subst (λ w. StandsAt c.args.root.now c.args.kept.now.slots ids w parent) (sym c.self.view_is) st in
    let new : Way = record { domain = c.narrow_more.new.domain; stops = c.self.inside.stops.items } in
    let change_is : c.change-change.result ≡ filled c.args.root.now.choices c.in-Some.below.origin.now.change = c.change-change.ensures ∙ ap (λ l. filled l c.in-Some.below.origin.now.change) c.choices.ensures in
    let narrowed : ArePlainPast (region_of old.domain) → AreNarrowed (region_of old.domain) (region_of new.domain) (filled c.args.root.now.choices c.in-Some.below.origin.now.change ∷ noted c.in-Some.below.notes.now) false =
    subst (λ t. ArePlainPast (region_of old.domain) → AreNarrowed (region_of old.domain) (region_of new.domain) (t ∷ noted c.in-Some.below.notes.now) false) change_is
    (subst (λ b. ArePlainPast (region_of old.domain) → AreNarrowed (region_of old.domain) (region_of new.domain) (c.change-change.result ∷ noted c.in-Some.below.notes.now) b) c.if-not-branch.true c.in_ok-narrow_more.ensures.narrowed) in
    descent_empty c.args.root.now c.args.kept.now.slots c.args.place _ _ _ c.requires.kept c.in-Some.ensures ids parent p old new c.self.invariant.1 stand refl c.narrow_more.ensures.marks narrowed

pub returns-in_err-push : goal.returns-in_err-push
returns-in_err-push c = λ ids parent st p.
    let old : Way = record { domain = c.self.inside.domain; stops = c.self.inside.stops.items } in
    let stand : StandsAt c.args.root.now c.args.kept.now.slots ids old parent = subst (λ w. StandsAt c.args.root.now c.args.kept.now.slots ids w parent) (sym c.self.view_is) st in
    let new : Way = record { domain = c.narrow_more.new.domain; stops = c.push.new.self.items } in
    descent_failed c.args.root.now c.args.kept.now.slots c.args.place _ _ _ c.requires.kept c.in-Some.ensures ids parent p old new c.self.invariant.1 stand c.from_residual-in_err-push.result c.in_err-push.ensures.items c.narrow_more.ensures.marks c.from_residual-in_err-push.ensures.0

pub returns : goal.returns
returns c = λ ids parent st p.
    let old : Way = record { domain = c.self.inside.domain; stops = c.self.inside.stops.items } in
    let stand : StandsAt c.args.root.now c.args.kept.now.slots ids old parent = subst (λ w. StandsAt c.args.root.now c.args.kept.now.slots ids w parent) (sym c.self.view_is) st in
    let new : Way = record { domain = c.narrow_more.new.domain; stops = c.push.new.self.items } in
    let change_is : c.change-change.result ≡ filled c.args.root.now.choices c.in-Some.below.origin.now.change = c.change-change.ensures ∙ ap (λ l. filled l c.in-Some.below.origin.now.change) c.choices.ensures in
    let narrowed : ArePlainPast (region_of old.domain) → AreNarrowed (region_of old.domain) (region_of new.domain) (filled c.args.root.now.choices c.in-Some.below.origin.now.change ∷ noted c.in-Some.below.notes.now) true =
    subst (λ t. ArePlainPast (region_of old.domain) → AreNarrowed (region_of old.domain) (region_of new.domain) (t ∷ noted c.in-Some.below.notes.now) true) change_is
    (subst (λ b. ArePlainPast (region_of old.domain) → AreNarrowed (region_of old.domain) (region_of new.domain) (c.change-change.result ∷ noted c.in-Some.below.notes.now) b) c.if-not-branch.false c.in_ok-narrow_more.ensures.narrowed) in
    descent_taken c.args.root.now c.args.kept.now.slots c.args.place _ _ _ c.requires.kept c.in-Some.ensures ids parent p old new c.self.invariant.1 stand c.mark-mark.result c.in_ok-push.ensures.items c.narrow_more.ensures.marks narrowed (mark_here c.narrow_more.new.domain c.mark-mark.result c.mark-mark.ensures)

pub invariant_of-self : goal.invariant_of-self
invariant_of-self c = (
  c.self.invariant.0,
  λ k d l. omega (
    arith,
    c.self.invariant.1 k d l,
    c.narrow_more.ensures.marks.grows,
  ),
)

pub invariant_of-self-then-not-branch : goal.invariant_of-self-then-not-branch
invariant_of-self-then-not-branch c = (
  c.self.invariant.0,
  λ k d l. omega
      (arith, c.self.invariant.1 k d l, c.narrow_more.ensures.marks.grows),
)

pub invariant_of-self-in_err-push : goal.invariant_of-self-in_err-push
invariant_of-self-in_err-push c =
    subst (λ l. AreRising l × AreHeld c.narrow_more.new.domain l) (sym c.in_err-push.ensures.items) (
      c.self.invariant.0,
      held_longer c.self.inside.domain c.narrow_more.new.domain c.self.inside.stops.items
          c.self.invariant.1 c.narrow_more.ensures.marks,
    )

pub invariant_of-self-2 : goal.invariant_of-self-2
invariant_of-self-2 c =
    let last : Stop = record { number = c.in-Some.below.number; mark = c.mark-mark.result } in
    subst (λ l. AreRising l × AreHeld c.narrow_more.new.domain l) (sym c.in_ok-push.ensures.items)
    (way_longer c.self.inside.domain c.narrow_more.new.domain c.self.inside.stops.items last c.self.invariant.0
    c.self.invariant.1 c.narrow_more.ensures.marks c.mark-mark.ensures)
