use Rattle.std.proofs.lemmas.Grind.{common_steps}
use Rattle.std.proofs.Common.{◌≡◌, false, true, ◌∙◌, sym, ap, ap₂, refl, if◌then◌else◌, arith}
use Rattle.cip_problem.specs.Box.{sides_at}
use Rattle.cip_domain.specs.Changes.{is_as_strong, would_cross}
use Rattle.cip_domain.specs.Domain.{Domain, region_of}
use Rattle.cip_domain.proofs.OneSide.{strong_stays, weak_changes}
use Rattle.cip_domain.specs.declared.stores.Tightened.{Tightened}
use Rattle.cip_domain.specs.declared.stores.Tightened.TheVariants.{Yes, Same, Empty}
use Rattle.cip_domain.proofs.stores.DomainStore.tighten.Goals as goal

pub returns-then-is_strong-clause-narrows : goal.returns-then-is_strong-clause-narrows
returns-then-is_strong-clause-narrows c = λ _.
    let at = c.sides-sides.ensures ∙ ap (λ (d : Domain). sides_at d.box c.args.col) c.self.view_is in
    let strong : is_as_strong (sides_at c.args.self.now.box c.args.col) c.args.side c.args.value ≡ true = ap (λ s. is_as_strong s c.args.side c.args.value) (sym at) ∙ sym c.is_strong.ensures ∙ c.if-is_strong.true in
    strong_stays (region_of c.args.self.now) c.args.col c.args.side c.args.value strong

pub returns-clause-narrows : goal.returns-clause-narrows
returns-clause-narrows c = λ _.
    let at = c.sides-sides.ensures ∙ ap (λ (d : Domain). sides_at d.box c.args.col) c.self.view_is in
    let weak : is_as_strong (sides_at c.args.self.now.box c.args.col) c.args.side c.args.value ≡ false = ap (λ s. is_as_strong s c.args.side c.args.value) (sym at) ∙ sym c.is_strong.ensures ∙ c.if-is_strong.false in
    ap region_of c.set_side.ensures ∙ weak_changes (region_of c.args.self.now) c.args.col c.args.side c.args.value weak

pub returns-then-is_strong-clause-outcome : goal.returns-then-is_strong-clause-outcome
returns-then-is_strong-clause-outcome c =
    let at = c.sides-sides.ensures ∙ ap (λ (d : Domain). sides_at d.box c.args.col) c.self.view_is in
    sym (ap (λ t. (let r : Tightened = if t then Same else (if would_cross
    (sides_at c.args.self.now.box c.args.col) c.args.side c.args.value then Empty else Yes) in r)) (ap
    (λ s. is_as_strong s c.args.side c.args.value) (sym at) ∙ sym c.is_strong.ensures ∙ c.if-is_strong.true))

pub returns-then-is_strong-clause-after : goal.returns-then-is_strong-clause-after
returns-then-is_strong-clause-after c = refl

pub returns-then-not-contains-clause-outcome : goal.returns-then-not-contains-clause-outcome
returns-then-not-contains-clause-outcome c =
    let at = c.sides-sides.ensures ∙ ap (λ (d : Domain). sides_at d.box c.args.col) c.self.view_is in
    sym (ap₂ (λ t u. (let r : Tightened = if t then Same else (if u then Empty else Yes) in r)) (ap
    (λ s. is_as_strong s c.args.side c.args.value) (sym at) ∙ sym c.is_strong.ensures
    ∙ c.if-is_strong.false) (ap (λ s. would_cross s c.args.side c.args.value) (sym at) ∙ (let h : would_cross c.sides-sides.result c.args.side c.args.value ≡ true = grind (arith, common_steps) in h)))

pub returns-then-not-contains-clause-after : goal.returns-then-not-contains-clause-after
returns-then-not-contains-clause-after c = refl

pub returns-then-not-contains-clause-narrows : goal.returns-then-not-contains-clause-narrows
returns-then-not-contains-clause-narrows c = λ n. absurd (n refl)

pub set_side-requires-clause-column : goal.set_side-requires-clause-column
set_side-requires-clause-column c = c.requires.column

pub set_side-requires-clause-room : goal.set_side-requires-clause-room
set_side-requires-clause-room c = c.requires.room

pub returns-clause-outcome : goal.returns-clause-outcome
returns-clause-outcome c =
    let at = c.sides-sides.ensures ∙ ap (λ (d : Domain). sides_at d.box c.args.col) c.self.view_is in
    sym (ap₂ (λ t u. (let r : Tightened = if t then Same else (if u then Empty else Yes) in r)) (ap
    (λ s. is_as_strong s c.args.side c.args.value) (sym at) ∙ sym c.is_strong.ensures
    ∙ c.if-is_strong.false) (ap (λ s. would_cross s c.args.side c.args.value) (sym at) ∙ (let h : would_cross c.sides-sides.result c.args.side c.args.value ≡ false = grind (arith, common_steps) in h)))

pub returns-clause-after : goal.returns-clause-after
returns-clause-after c = grind (arith, common_steps)

pub sides-sides-requires : goal.sides-sides-requires
sides-sides-requires c = grind (arith, common_steps)

pub same-self-then-not-contains : goal.same-self-then-not-contains
same-self-then-not-contains c = grind (arith, common_steps)

pub same-self-2 : goal.same-self-2
same-self-2 c = grind (arith, common_steps)
