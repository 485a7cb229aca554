use Rattle.std.proofs.lemmas.Grind.{common_steps}
use Rattle.std.proofs.Common.{◌≡◌, ◌∙◌, ap, refl, sym, subst, IfOk, arith}
use Rattle.std.specs.Prelude.{Ok}
use Rattle.std.specs.declared.alloc.AllocError.{AllocError}
use Rattle.cip_domain.specs.Changes.{narrowed}
use Rattle.cip_domain.specs.Domain.{region_of}
use Rattle.cip_domain.specs.Narrowing.{ArePlainPast}
use Rattle.cip_tree.specs.Notes.{noted}
use Rattle.cip_tree.specs.Slots.{above}
use Rattle.cip_tree.specs.Walks.{Way, IsWalked, IsEntered, Arrives}
use Rattle.cip_tree.specs.Origins.{after}
use Rattle.cip_tree.proofs.Filled.{after_earlier, after_notes, after_plain}
use Rattle.cip_tree.proofs.Walking.{held_longer, walked_marks}
use Rattle.std.proofs.lemmas.Result.{IfOk-from_err}
use Rattle.cip_tree.proofs.walks.Walk.enter.Goals as goal

pub returns-in_err-places-clause-walked : goal.returns-in_err-places-clause-walked
returns-in_err-places-clause-walked c = λ ids w. c.climb.ensures.walked c.args.root.now ids w

pub returns-in_err-descend-clause-walked : goal.returns-in_err-descend-clause-walked
returns-in_err-descend-clause-walked c = λ ids w.
    let root = c.args.root.now in
    let stands = c.go_back.ensures root c.args.kept.now.slots ids c.in_ok-places.field-0.top (c.climb.ensures.walked root ids w) c.in_ok-places.ensures.ends in
    let climbs = c.in_ok-places.ensures.climbs in
    (c.descend.ensures ids c.args.place c.in_ok-places.field-0.top stands climbs).walked

pub returns-then-not-branch-clause-walked : goal.returns-then-not-branch-clause-walked
returns-then-not-branch-clause-walked c = λ ids w.
    let root = c.args.root.now in
    let stands = c.go_back.ensures root c.args.kept.now.slots ids c.in_ok-places.field-0.top (c.climb.ensures.walked root ids w) c.in_ok-places.ensures.ends in
    let climbs = c.in_ok-places.ensures.climbs in
    (c.descend.ensures ids c.args.place c.in_ok-places.field-0.top stands climbs).walked

pub returns-then-not-branch-clause-entered : goal.returns-then-not-branch-clause-entered
returns-then-not-branch-clause-entered c = λ ids slot w f point k.
    let root = c.args.root.now in
    let stands = c.go_back.ensures root c.args.kept.now.slots ids c.in_ok-places.field-0.top (c.climb.ensures.walked root ids w) c.in_ok-places.ensures.ends in
    let climbs = c.in_ok-places.ensures.climbs in
    let come = subst (λ b. Arrives {E = AllocError} root c.args.kept.now.slots ids c.descend.new.self c.args.place (Ok b)) c.if-not-branch.true (c.in_ok-descend.ensures ids c.args.place c.in_ok-places.field-0.top stands climbs) in
    come.reached slot f point (after_earlier root (noted c.args.notes.now) (above slot.number c.args.kept.now.slots slot.origin) point k)

pub returns-clause-walked : goal.returns-clause-walked
returns-clause-walked c = λ ids w.
    let root = c.args.root.now in
    let stands = c.go_back.ensures root c.args.kept.now.slots ids c.in_ok-places.field-0.top (c.climb.ensures.walked root ids w) c.in_ok-places.ensures.ends in
    let climbs = c.in_ok-places.ensures.climbs in
    let old : Way = record { domain = c.self.inside.domain; stops = c.self.inside.stops.items } in
    let new : Way = record { domain = c.narrow_by.new.domain; stops = c.self.inside.stops.items } in
    walked_marks root c.args.kept.now.slots ids old new refl c.self.invariant.1 c.narrow_by.ensures.marks
    (subst (IsWalked root c.args.kept.now.slots ids) (sym c.self.view_is) (c.descend.ensures ids c.args.place c.in_ok-places.field-0.top stands climbs).walked)

pub returns-clause-entered : goal.returns-clause-entered
returns-clause-entered c = λ ids slot w f.
    let root = c.args.root.now in
    let stands = c.go_back.ensures root c.args.kept.now.slots ids c.in_ok-places.field-0.top (c.climb.ensures.walked root ids w) c.in_ok-places.ensures.ends in
    let climbs = c.in_ok-places.ensures.climbs in
    let come = subst (λ b. Arrives {E = AllocError} root c.args.kept.now.slots ids c.descend.new.self c.args.place (Ok b)) c.if-not-branch.false (c.in_ok-descend.ensures ids c.args.place c.in_ok-places.field-0.top stands climbs) in
    let changes = above slot.number c.args.kept.now.slots slot.origin in
    let now : region_of c.self.inside.domain ≡ after root changes = ap (λ (t : Way). region_of t.domain) c.self.view_is ∙ come.reached slot f in
    let plain : ArePlainPast (region_of c.self.inside.domain) = subst ArePlainPast (sym now) (after_plain root changes w.plain) in
    subst (λ r. IfOk c.narrow_by.result (IsEntered (region_of c.narrow_by.new.domain) r)) (ap (λ r. narrowed r (noted c.args.notes.now)) now ∙ sym (after_notes root c.args.notes.now changes)) (c.narrow_by.ensures.narrowed plain)

pub invariant_of-self : goal.invariant_of-self
invariant_of-self c = (c.self.invariant.0, held_longer _ _ _ c.self.invariant.1 c.narrow_by.ensures.marks)

pub climb-requires-clause-slot : goal.climb-requires-clause-slot
climb-requires-clause-slot c = grind (arith, common_steps)

pub returns-in_err-descend-clause-entered : goal.returns-in_err-descend-clause-entered
returns-in_err-descend-clause-entered c = λ ids slot w f.
    IfOk-from_err c.from_residual-in_err-descend.result _ c.from_residual-in_err-descend.ensures.0

pub returns-in_err-places-clause-entered : goal.returns-in_err-places-clause-entered
returns-in_err-places-clause-entered c = λ ids slot w f.
    IfOk-from_err c.from_residual.result _ c.from_residual.ensures.0
