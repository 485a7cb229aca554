use Rattle.std.proofs.Common.{◌≡◌, ◌++◌, ◌∷◌, [], ◌∙◌, ap, sym, arith, length, set}
use Rattle.std.proofs.lemmas.List.{length-set}
use Rattle.cip_domain.specs.Changes.{with_column}
use Rattle.cip_domain.specs.Domain.{Domain, region_of}
use Rattle.cip_domain.specs.declared.stores.Saved.{Saved}
use Rattle.cip_domain.specs.Trail.{undone, regions_before}
use Rattle.cip_domain.proofs.Trails.{regions_before_step, domain_same, stands_more}
use Rattle.cip_domain.proofs.stores.DomainStore.step.Goals as goal

pub returns : goal.returns
returns c =
    let old = c.self.inside.region in
    let saved : Saved = record { col = c.args.col; was = c.args.was; value = c.args.value } in
    let now : region_of c.args.self.now ≡ old = sym (ap region_of c.self.view_is) in
    let back : undone (with_column old c.args.col c.args.sides c.args.choice) saved ≡ old =
    ap (λ r. undone (with_column r c.args.col c.args.sides c.args.choice) saved) (sym now) ∙ c.requires.back ∙ now in
    let before : regions_before c.set.new.self c.push_reserved.new.self.items
    ≡ regions_before old c.self.inside.trail.items ++ old ∷ [] =
    ap (λ r. regions_before r c.push_reserved.new.self.items) c.set.ensures
    ∙ ap (regions_before (with_column old c.args.col c.args.sides c.args.choice)) c.push_reserved.ensures.items
    ∙ regions_before_step old (with_column old c.args.col c.args.sides c.args.choice) c.self.inside.trail.items saved
    back in
    domain_same _ _ _ _ _ _ _ _
    (ap (λ r. r.box) c.set.ensures ∙ ap (λ (d : Domain). set d.box c.args.col c.args.sides) c.self.view_is)
    (ap (λ r. r.choices) c.set.ensures ∙ ap (λ (d : Domain). set d.choices c.args.col c.args.choice) c.self.view_is)
    (before ∙ ap (λ (d : Domain). d.before ++ region_of d ∷ []) c.self.view_is)
    (omega (
      arith,
      ap (λ (d : Domain). d.spare) c.self.view_is,
      c.push_reserved.ensures.len,
      c.push_reserved.ensures.capacity,
    ))

pub push_reserved-requires : goal.push_reserved-requires
push_reserved-requires c = omega (arith, ap (λ (d : Domain). d.spare) c.self.view_is, c.requires.room)

pub set-requires : goal.set-requires
set-requires c = omega (arith, ap (λ (d : Domain). length d.box) c.self.view_is, c.requires.column)

pub invariant_of-self : goal.invariant_of-self
invariant_of-self c =
    rw (c.push_reserved.ensures.items)
    (stands_more c.self.inside.region.box c.set.new.self.box c.self.inside.trail.items
    (let saved : Saved = record { col = c.args.col; was = c.args.was; value = c.args.value } in saved)
    (ap (λ r. length r.box) c.set.ensures ∙ length-set _ _ _)
    (omega (arith, ap (λ (d : Domain). length d.box) c.self.view_is, c.requires.column)) c.self.invariant)
