use Rattle.std.proofs.lemmas.Grind.{common_steps}
use Rattle.std.proofs.Common.{◌≡◌, ◌∙◌, None, length, ap, sym, arith}
use Rattle.std.proofs.lemmas.List.{get_or-set_same, length-set}
use Rattle.cip_problem.specs.Program.{Sides, Choice, Plain, Open}
use Rattle.cip_problem.specs.Box.{no_sides, sides_at}
use Rattle.cip_problem.specs.Choices.{choice_at}
use Rattle.cip_domain.specs.Changes.{Region, with_column}
use Rattle.cip_domain.specs.Domain.{Domain, region_of, is_unsettled}
use Rattle.cip_domain.specs.declared.stores.Saved.{Saved}
use Rattle.cip_domain.specs.declared.stores.Was.TheVariants.{On, OwnLow, OwnHigh}
use Rattle.cip_domain.specs.Trail.{undone}
use Rattle.cip_domain.proofs.Steps.{two_steps}
use Rattle.cip_domain.proofs.Trails.{chosen_within, on_back, own_low_back, own_high_back, open_is, on_is}
use Rattle.cip_domain.proofs.Marks.{keeps_trans, stepped_keeps}
use Rattle.cip_domain.proofs.stores.DomainStore.set_choice.Goals as goal

pub step-requires-clause-back : goal.step-requires-clause-back
step-requires-clause-back c =
    let d = c.args.self.now in
    let region = region_of d in
    let col = c.args.col in
    let sides : c.sides-sides.result ≡ sides_at d.box col = c.sides-sides.ensures
    ∙ ap (λ (d : Domain). sides_at d.box col) c.self.view_is in
    let choice : c.choice.result ≡ choice_at d.choices col = c.choice.ensures
    ∙ ap (λ (d : Domain). choice_at d.choices col) c.self.view_is in
    let e = sym choice ∙ on_is c.choice.result (sym c.own.ensures ∙ c.in-None.is) (ap is_unsettled choice
    ∙ c.requires.unsettled) in
    ap (λ s. undone (with_column region col s c.args.now) (let t : Saved = record { col = col; was = On; value = None }
    in t)) sides ∙ on_back region col c.args.now e

pub step-requires-in-Some-clause-back : goal.step-requires-in-Some-clause-back
step-requires-in-Some-clause-back c =
    let d = c.args.self.now in
    let region = region_of d in
    let col = c.args.col in
    let sides : c.sides-sides.result ≡ sides_at d.box col = c.sides-sides.ensures
    ∙ ap (λ (d : Domain). sides_at d.box col) c.self.view_is in
    let choice : c.choice.result ≡ choice_at d.choices col = c.choice.ensures
    ∙ ap (λ (d : Domain). choice_at d.choices col) c.self.view_is in
    let own : Sides = record { low = c.own-in-Some.inside.low; high = c.own-in-Some.inside.high } in
    let e : choice_at d.choices col ≡ Open own = sym choice ∙ open_is c.choice.result c.in-Some.own
    (sym c.own.ensures ∙ c.in-Some.is) ∙ ap Open (sym c.own-in-Some.view_is) in
    let half : Choice = Open (record { low = None; high = own.high }) in
    ap (λ s. undone (with_column region col s c.open-half.result)
    (let t : Saved = record { col = col; was = OwnLow; value = own.low } in t)) sides
    ∙ ap (λ h. undone (with_column region col (sides_at d.box col) h)
    (let t : Saved = record { col = col; was = OwnLow; value = own.low } in t)) c.open-half.ensures
    ∙ own_low_back region col own e

pub step-requires-in-Some-2-clause-back : goal.step-requires-in-Some-2-clause-back
step-requires-in-Some-2-clause-back c =
    let d = c.args.self.now in
    let region = region_of d in
    let col = c.args.col in
    let sides : c.sides-sides.result ≡ sides_at d.box col = c.sides-sides.ensures
    ∙ ap (λ (d : Domain). sides_at d.box col) c.self.view_is in
    let choice : c.choice.result ≡ choice_at d.choices col = c.choice.ensures
    ∙ ap (λ (d : Domain). choice_at d.choices col) c.self.view_is in
    let own : Sides = record { low = c.own-in-Some.inside.low; high = c.own-in-Some.inside.high } in
    let e : choice_at d.choices col ≡ Open own = sym choice ∙ open_is c.choice.result c.in-Some.own
    (sym c.own.ensures ∙ c.in-Some.is) ∙ ap Open (sym c.own-in-Some.view_is) in
    let half : Choice = Open (record { low = None; high = own.high }) in
    let mid = region_of c.step-in-Some.new.self in
    let within = chosen_within d.choices col (ap is_unsettled e) in
    let mid_sides : sides_at mid.box col ≡ c.sides-sides.result = ap (λ (r : Region). sides_at r.box col)
    (ap region_of c.step-in-Some.ensures) ∙ get_or-set_same d.box col c.sides-sides.result no_sides
    c.requires.column in
    let mid_choice : choice_at mid.choices col ≡ half = ap (λ (r : Region). choice_at r.choices col)
    (ap region_of c.step-in-Some.ensures) ∙ get_or-set_same d.choices col c.open-half.result Plain within
    ∙ c.open-half.ensures in
    ap (λ s. undone (with_column mid col s c.args.now) (let t : Saved = record {
      col = col;
      was = OwnHigh;
      value =
          own.high;
    } in t)) (sym mid_sides)
    ∙ own_high_back mid col own.high c.args.now mid_choice

pub returns-in-Some-clause-region : goal.returns-in-Some-clause-region
returns-in-Some-clause-region c =
    let d = c.args.self.now in
    let region = region_of d in
    let col = c.args.col in
    let sides : c.sides-sides.result ≡ sides_at d.box col = c.sides-sides.ensures
    ∙ ap (λ (d : Domain). sides_at d.box col) c.self.view_is in
    let choice : c.choice.result ≡ choice_at d.choices col = c.choice.ensures
    ∙ ap (λ (d : Domain). choice_at d.choices col) c.self.view_is in
    ap region_of c.step-in-Some-2.ensures ∙ ap (λ r. with_column r col c.sides-sides.result c.args.now)
    (ap region_of c.step-in-Some.ensures)
    ∙ two_steps region col c.sides-sides.result c.open-half.result c.args.now
    ∙ ap (λ s. with_column region col s c.args.now) sides

pub step-requires-clause-column : goal.step-requires-clause-column
step-requires-clause-column c = c.requires.column

pub step-requires-clause-room : goal.step-requires-clause-room
step-requires-clause-room c = omega (arith, c.requires.room)

pub step-requires-in-Some-clause-column : goal.step-requires-in-Some-clause-column
step-requires-in-Some-clause-column c = c.requires.column

pub step-requires-in-Some-clause-room : goal.step-requires-in-Some-clause-room
step-requires-in-Some-clause-room c = omega (arith, c.requires.room)

pub step-requires-in-Some-2-clause-column : goal.step-requires-in-Some-2-clause-column
step-requires-in-Some-2-clause-column c = omega (
  arith,
  ap (λ
      (d : Domain). length d.box) c.step-in-Some.ensures,
  length-set c.args.self.now.box c.args.col c.sides-sides.result,
  c.requires.column,
)

pub step-requires-in-Some-2-clause-room : goal.step-requires-in-Some-2-clause-room
step-requires-in-Some-2-clause-room c = omega (
  arith,
  ap (λ (d : Domain). d.spare) c.step-in-Some.ensures,
  c.requires.room,
)

pub returns-in-None-clause-region : goal.returns-in-None-clause-region
returns-in-None-clause-region c =
    ap region_of c.step.ensures
    ∙ ap (λ s. with_column (region_of c.args.self.now) c.args.col s c.args.now) (c.sides-sides.ensures
    ∙ ap (λ (d : Domain). sides_at d.box c.args.col) c.self.view_is)

pub returns-in-None-clause-marks : goal.returns-in-None-clause-marks
returns-in-None-clause-marks c = stepped_keeps _ _ _ _ _ c.step.ensures

pub returns-in-None-clause-room : goal.returns-in-None-clause-room
returns-in-None-clause-room c = omega (arith, ap (λ (d : Domain). d.spare) c.step.ensures)

pub returns-in-Some-clause-marks : goal.returns-in-Some-clause-marks
returns-in-Some-clause-marks c = keeps_trans _ _ _ (stepped_keeps _ _ _ _ _ c.step-in-Some.ensures)
    (stepped_keeps _ _ _ _ _ c.step-in-Some-2.ensures)

pub returns-in-Some-clause-room : goal.returns-in-Some-clause-room
returns-in-Some-clause-room c = omega (
  arith,
  ap (λ (d : Domain). d.spare) c.step-in-Some.ensures,
  ap (λ
      (d : Domain). d.spare) c.step-in-Some-2.ensures,
)

pub sides-sides-requires : goal.sides-sides-requires
sides-sides-requires c = grind (arith, common_steps)

pub same-self-in-Some : goal.same-self-in-Some
same-self-in-Some c = grind (arith, common_steps)

pub same-self : goal.same-self
same-self c = grind (arith, common_steps)
