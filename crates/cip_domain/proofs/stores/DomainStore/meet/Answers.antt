use Rattle.std.proofs.lemmas.Grind.{common_steps}
use Rattle.std.proofs.Common.{◌≡◌, ◌∙◌, true, false, ap, sym, arith}
use Rattle.cip_problem.specs.Box.{sides_at}
use Rattle.cip_domain.specs.Changes.{is_as_strong, tightened, one_side}
use Rattle.cip_domain.specs.Domain.{Domain, region_of}
use Rattle.cip_domain.proofs.OneSide.{strong_stays, weak_changes}
use Rattle.cip_domain.proofs.Marks.{keeps_itself, stepped_keeps}
use Rattle.cip_domain.proofs.Steps.{none_met}
use Rattle.cip_domain.proofs.stores.DomainStore.meet.Goals as goal

pub returns-then-not-is_strong-clause-region : goal.returns-then-not-is_strong-clause-region
returns-then-not-is_strong-clause-region c =
    let at = c.sides.ensures ∙ ap (λ (d : Domain). sides_at d.box c.args.col) c.self.view_is in
    let weak : is_as_strong (sides_at c.args.self.now.box c.args.col) c.args.side c.in-Some.value
    ≡ false = ap (λ s. is_as_strong s c.args.side c.in-Some.value) (sym at) ∙ sym c.is_strong.ensures
    ∙ c.if-not-is_strong.true in
    ap region_of c.set_side.ensures ∙ weak_changes (region_of c.args.self.now) c.args.col c.args.side c.in-Some.value
    weak
    ∙ ap (λ o. tightened (region_of c.args.self.now) (one_side c.args.col c.args.side o)) (sym c.in-Some.is)

pub returns-else-not-is_strong-clause-region : goal.returns-else-not-is_strong-clause-region
returns-else-not-is_strong-clause-region c =
    let at = c.sides.ensures ∙ ap (λ (d : Domain). sides_at d.box c.args.col) c.self.view_is in
    let strong : is_as_strong (sides_at c.args.self.now.box c.args.col) c.args.side c.in-Some.value
    ≡ true = ap (λ s. is_as_strong s c.args.side c.in-Some.value) (sym at) ∙ sym c.is_strong.ensures
    ∙ c.if-not-is_strong.false in
    strong_stays (region_of c.args.self.now) c.args.col c.args.side c.in-Some.value strong
    ∙ ap (λ o. tightened (region_of c.args.self.now) (one_side c.args.col c.args.side o)) (sym c.in-Some.is)

pub set_side-requires-clause-column : goal.set_side-requires-clause-column
set_side-requires-clause-column c = c.requires.column

pub set_side-requires-clause-room : goal.set_side-requires-clause-room
set_side-requires-clause-room c = c.requires.room

pub returns-then-not-is_strong-clause-marks : goal.returns-then-not-is_strong-clause-marks
returns-then-not-is_strong-clause-marks c = stepped_keeps _ _ _ _ _ c.set_side.ensures

pub returns-then-not-is_strong-clause-room : goal.returns-then-not-is_strong-clause-room
returns-then-not-is_strong-clause-room c = omega (arith, ap (λ (d : Domain). d.spare) c.set_side.ensures)

pub returns-else-not-is_strong-clause-marks : goal.returns-else-not-is_strong-clause-marks
returns-else-not-is_strong-clause-marks c = keeps_itself c.args.self.now

pub returns-else-not-is_strong-clause-room : goal.returns-else-not-is_strong-clause-room
returns-else-not-is_strong-clause-room c = omega arith

pub returns-in_default-clause-region : goal.returns-in_default-clause-region
returns-in_default-clause-region c = none_met (region_of c.args.self.now) c.args.col c.args.side
    ∙ ap (λ o. tightened (region_of c.args.self.now) (one_side c.args.col c.args.side o)) (sym c.in_default.is)

pub returns-in_default-clause-marks : goal.returns-in_default-clause-marks
returns-in_default-clause-marks c = keeps_itself c.args.self.now

pub returns-in_default-clause-room : goal.returns-in_default-clause-room
returns-in_default-clause-room c = omega arith

pub sides-requires : goal.sides-requires
sides-requires c = grind (arith, common_steps)
