use Rattle.std.proofs.lemmas.Grind.{common_steps}
use Rattle.std.proofs.Common.{◌≡◌, ◌∙◌, ap, length, arith}
use Rattle.std.proofs.lemmas.List.{length-set}
use Rattle.cip_problem.specs.Box.{sides_at}
use Rattle.cip_domain.specs.Changes.{with_column}
use Rattle.cip_domain.specs.Domain.{Domain}
use Rattle.cip_domain.specs.Trail.{undone, sides_back, choice_back}
use Rattle.cip_domain.proofs.Trails.{length-regions_before, regions_before-push, stands_back, last_within}
use Rattle.cip_domain.proofs.stores.DomainStore.undo_last.Goals as goal

pub returns-in-Some-clause-regions : goal.returns-in-Some-clause-regions
returns-in-Some-clause-regions c =
    let region = c.self.inside.region in
    let s = c.in-Some.saved in
    let back : c.set.new.self ≡ undone region s =
    c.set.ensures
    ∙ ap (λ t. with_column region s.col t c.choice_before-choice.result) (c.sides_before-sides.ensures ∙ ap (sides_back s.was s.value) c.sides.ensures)
    ∙ ap (with_column region s.col (sides_back s.was s.value (sides_at region.box s.col))) (c.choice_before-choice.ensures ∙ ap (choice_back s.was s.value) c.choice.ensures) in
    rw (back, ← c.self.view_is, c.in-Some.ensures.items) (regions_before-push c.self.inside.region c.pop.new.self.items c.in-Some.saved)

pub invariant_of-self : goal.invariant_of-self
invariant_of-self c =
    stands_back c.self.inside.region.box c.set.new.self.box c.self.inside.trail.items c.pop.new.self.items
    c.in-Some.saved
    c.in-Some.ensures.items (ap (λ r. length r.box) c.set.ensures ∙ length-set _ _ _) c.self.invariant

pub invariant_of-self-in_default : goal.invariant_of-self-in_default
invariant_of-self-in_default c = absurd (omega (
  arith,
  c.requires,
  ap (λ
      (d : Domain). length d.before) c.self.view_is,
  length-regions_before c.self.inside.region c.self.inside.trail.items,
  c.self.inside.trail.ok.0,
  c.in_default.ensures.cases.0,
))

pub returns-in_default-clause-regions : goal.returns-in_default-clause-regions
returns-in_default-clause-regions c = absurd (omega (
  arith,
  c.requires,
  ap (λ
      (d : Domain). length d.before) c.self.view_is,
  length-regions_before c.self.inside.region c.self.inside.trail.items,
  c.self.inside.trail.ok.0,
  c.in_default.ensures.cases.0,
))

pub returns-in_default-clause-room : goal.returns-in_default-clause-room
returns-in_default-clause-room c = absurd (omega (
  arith,
  c.requires,
  ap (λ
      (d : Domain). length d.before) c.self.view_is,
  length-regions_before c.self.inside.region c.self.inside.trail.items,
  c.self.inside.trail.ok.0,
  c.in_default.ensures.cases.0,
))

pub returns-in-Some-clause-room : goal.returns-in-Some-clause-room
returns-in-Some-clause-room c = grind (arith, common_steps)

pub set-requires : goal.set-requires
set-requires c =
    last_within c.self.inside.region.box c.self.inside.trail.items c.pop.new.self.items c.in-Some.saved
    c.in-Some.ensures.items c.self.invariant

pub sides-requires : goal.sides-requires
sides-requires c =
    last_within c.self.inside.region.box c.self.inside.trail.items c.pop.new.self.items c.in-Some.saved
    c.in-Some.ensures.items c.self.invariant
