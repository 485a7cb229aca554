use Rattle.std.proofs.lemmas.Grind.{common_steps}
use Rattle.std.proofs.Common.{◌≡◌, ◌∙◌, ap, refl, arith}
use Rattle.cip_problem.specs.Program.{Sides}
use Rattle.cip_problem.specs.Box.{sides_at}
use Rattle.cip_problem.specs.Choices.{choice_at}
use Rattle.cip_domain.specs.Changes.{with_column, with_side}
use Rattle.cip_domain.specs.Domain.{Domain, region_of}
use Rattle.cip_domain.specs.declared.stores.Saved.{Saved}
use Rattle.cip_domain.specs.Trail.{undone, kind_of, value_of}
use Rattle.cip_domain.proofs.Trails.{side_back}
use Rattle.cip_domain.proofs.stores.DomainStore.set_side.Goals as goal
use Rattle.cip_domain.proofs.stores.DomainStore.set_side.Goals.{in-Low, in-High}

pub step-requires-clause-back : goal.step-requires-clause-back
step-requires-clause-back c =
    let d = c.args.self.now in
    let region = region_of d in
    let col = c.args.col in
    let own = sides_at d.box col in
    let sides : c.sides-sides.result ≡ own = c.sides-sides.ensures ∙ ap (λ (d : Domain). sides_at d.box col) c.self.view_is in
    let choice : c.choice-choice.result ≡ choice_at d.choices col = c.choice-choice.ensures ∙ ap (λ (d : Domain). choice_at d.choices col) c.self.view_is in
    let both : (c.match-side.was.0 ≡ kind_of c.args.side) × (c.match-side.was.1 ≡ value_of c.args.side c.sides-sides.result) =
    elim c.match-side.branch [
      | in-Low w ↦ rw (w.in-Low.is, w.was-is) (refl, ap (λ (s : Sides). s.low) c.sides.view_is)
      | in-High w ↦ rw (w.in-High.is, w.was-is) (refl, ap (λ (s : Sides). s.high) c.sides.view_is)
    ] in
    let value : c.match-side.was.1 ≡ value_of c.args.side own = both.1 ∙ ap (value_of c.args.side) sides in
    let now : c.with_value.result ≡ with_side own c.args.side c.args.value = c.with_value.ensures ∙ ap (λ s. with_side s c.args.side c.args.value) sides in
    ap (λ k. undone (with_column region col c.with_value.result c.choice-choice.result) (let s : Saved = record { col = col; was = k; value = c.match-side.was.1 } in s)) both.0
    ∙ ap (λ v. undone (with_column region col c.with_value.result c.choice-choice.result) (let s : Saved = record { col = col; was = kind_of c.args.side; value = v } in s)) value
    ∙ ap (λ w. undone (with_column region col w c.choice-choice.result) (let s : Saved = record { col = col; was = kind_of c.args.side; value = value_of c.args.side own } in s)) now
    ∙ ap (λ h. undone (with_column region col (with_side own c.args.side c.args.value) h) (let s : Saved = record { col = col; was = kind_of c.args.side; value = value_of c.args.side own } in s)) choice
    ∙ side_back region col c.args.side c.args.value c.requires.column

pub returns : goal.returns
returns c = grind (arith, common_steps)

pub sides-sides-requires : goal.sides-sides-requires
sides-sides-requires c = grind (arith, common_steps)

pub step-requires-clause-column : goal.step-requires-clause-column
step-requires-clause-column c = grind (arith, common_steps)

pub step-requires-clause-room : goal.step-requires-clause-room
step-requires-clause-room c = grind (arith, common_steps)

pub same-sides : goal.same-sides
same-sides c = grind (arith, common_steps)

pub same-self : goal.same-self
same-self c = grind (arith, common_steps)
