use Rattle.std.proofs.lemmas.Grind.{common_steps}
use Rattle.std.proofs.Common.{◌≡◌, ◌<◌, true, ◌∙◌, refl, sym, ap, length, arith}
use Rattle.cip_problem.specs.Program.{Sides}
use Rattle.cip_lin.specs.declared.sides.Side.TheVariants.{Low, High}
use Rattle.cip_domain.specs.Changes.{Change, tightened, one_side, one_choice}
use Rattle.cip_domain.proofs.Steps.{three_steps}
use Rattle.cip_problem.specs.Box.{sides_at, sides_inside}
use Rattle.cip_problem.specs.Choices.{choice_at}
use Rattle.cip_domain.specs.Domain.{region_of, is_settled}
use Rattle.cip_domain.proofs.OneSide.{settled_stays}
use Rattle.cip_domain.proofs.Marks.{keeps_itself, keeps_trans}
use Rattle.cip_domain.proofs.stores.DomainStore.make.Goals as goal

pub returns-then-is_settled-clause-narrows : goal.returns-then-is_settled-clause-narrows
returns-then-is_settled-clause-narrows c = λ _.
    let at = c.sides-own.ensures ∙ ap (λ d. sides_at d.box c.change.inside.col) c.self.view_is in
    let choice = c.choice-choice.ensures ∙ ap (λ d. choice_at d.choices c.change.inside.col) c.self.view_is in
    let inside : sides_inside (sides_at c.args.self.now.box c.change.inside.col) c.change.inside.sides
    ≡ true = ap (λ s. sides_inside s c.change.inside.sides) (sym at) ∙ sym c.is_inside.ensures
    ∙ c.if-is_inside.true in
    let settled : is_settled (choice_at c.args.self.now.choices c.change.inside.col) c.change.inside.made
    ≡ true = ap (λ h. is_settled h c.change.inside.made) (sym choice) ∙ sym c.is_settled.ensures
    ∙ c.if-is_settled.true in
    rw (← c.change.view_is) (settled_stays (region_of c.args.self.now)
    (record { column = c.change.inside.col; sides = c.change.inside.sides; made = c.change.inside.made }) inside
    settled)

pub returns-clause-narrows : goal.returns-clause-narrows
returns-clause-narrows c = λ _.
    let change : Change = record {
      column = c.change.inside.col;
      sides = c.change.inside.sides;
      made =
          c.change.inside.made;
    } in
    let within : change.column < length c.args.self.now.box = omega (
      arith,
      c.requires.column,
      ap (λ
          (t : Change). t.column) c.change.view_is,
    ) in
    let low : c.sides.inside.low ≡ change.sides.low = ap (λ (t : Sides). t.low) c.sides.view_is in
    let high : c.sides.inside.high ≡ change.sides.high = ap (λ (t : Sides). t.high) c.sides.view_is in
    c.settle.ensures.region ∙ ap (λ r. tightened r (one_choice change.column change.made)) (c.meet-2.ensures.region
    ∙ ap (λ v. tightened (region_of c.meet.new.self) (one_side change.column High v)) high)
    ∙ ap (λ r. tightened (tightened r (one_side change.column High change.sides.high))
    (one_choice change.column change.made)) (c.meet.ensures.region ∙ ap (λ v. tightened (region_of c.args.self.now)
    (one_side change.column Low v)) low)
    ∙ three_steps (region_of c.args.self.now) change within ∙ ap (tightened
    (region_of c.args.self.now)) c.change.view_is

pub returns-then-is_settled-clause-same : goal.returns-then-is_settled-clause-same
returns-then-is_settled-clause-same c = λ _. refl

pub returns-then-is_settled-clause-marks : goal.returns-then-is_settled-clause-marks
returns-then-is_settled-clause-marks c = keeps_itself c.args.self.now

pub returns-then-cross-clause-same : goal.returns-then-cross-clause-same
returns-then-cross-clause-same c = λ _. refl

pub returns-then-cross-clause-narrows : goal.returns-then-cross-clause-narrows
returns-then-cross-clause-narrows c = λ n. absurd (n refl)

pub returns-then-cross-clause-marks : goal.returns-then-cross-clause-marks
returns-then-cross-clause-marks c = keeps_itself c.args.self.now

pub meet-requires-clause-column : goal.meet-requires-clause-column
meet-requires-clause-column c = omega (arith, ap (λ (t : Change). t.column) c.change.view_is, c.requires.column)

pub meet-requires-clause-room : goal.meet-requires-clause-room
meet-requires-clause-room c = omega (arith, c.requires.room)

pub meet-requires-2-clause-room : goal.meet-requires-2-clause-room
meet-requires-2-clause-room c = omega (arith, c.meet.ensures.room, c.requires.room)

pub settle-requires-clause-room : goal.settle-requires-clause-room
settle-requires-clause-room c = omega (arith, c.meet.ensures.room, c.meet-2.ensures.room, c.requires.room)

pub returns-clause-same : goal.returns-clause-same
returns-clause-same c = λ n. absurd (n refl)

pub returns-clause-marks : goal.returns-clause-marks
returns-clause-marks c = keeps_trans _ _ _ c.meet.ensures.marks
    (keeps_trans _ _ _ c.meet-2.ensures.marks c.settle.ensures.marks)

pub meet-requires-2-clause-column : goal.meet-requires-2-clause-column
meet-requires-2-clause-column c = grind (arith, common_steps)

pub returns-then-is_settled-clause-outcome : goal.returns-then-is_settled-clause-outcome
returns-then-is_settled-clause-outcome c = grind (arith, common_steps)

pub settle-requires-clause-column : goal.settle-requires-clause-column
settle-requires-clause-column c = grind (arith, common_steps)

pub sides-own-requires : goal.sides-own-requires
sides-own-requires c = grind (arith, common_steps)

pub same-self : goal.same-self
same-self c = grind (arith, common_steps)

pub same-self-then-cross : goal.same-self-then-cross
same-self-then-cross c = grind (arith, common_steps)

pub same-self-2 : goal.same-self-2
same-self-2 c = grind (arith, common_steps)
