use Rattle.cip_lp.specs.LpEvents.{IsTaken}
use Rattle.cip_text_rules.specs.LpPlaces.{Event, Begins, Adds, unit}
use Rattle.std.proofs.Common.{refl, sym, ap₂, ◌∙◌, subst, None, false}
use Rattle.cip_lp.proofs.TakenLaws.{first_else, both_else}
use Rattle.cip_lp.proofs.ReadLaws.{moved, yes}
use Rattle.cip_lp.proofs.statements.Statements.settle_row_name.Goals as goal

pub returns : goal.returns
returns c =
    let adds : IsTaken c.begin_unnamed.new.self c.add_term.new.self
    (Adds (unit false) c.args.self.now.place.name.items) c.in-Ok-add_term.kind =
    subst (λ (event : Event). IsTaken c.begin_unnamed.new.self c.add_term.new.self event c.in-Ok-add_term.kind)
    (ap₂ (λ a n. Adds a n) c.unit.ensures c.as_slice-name.ensures.value) c.in-Ok-add_term.ensures in
    both_else c.args.self.now _ _ _ c.if-is_colon.ensures _ c.in-Ok-add_term.kind c.begin_unnamed.new.self
    (Begins None) (Adds (unit false) c.args.self.now.place.name.items) c.in-Ok.kind
    (sym c.is_some.ensures ∙ c.if-is_some.false) c.in-Ok.ensures adds refl

pub returns-then-is_some : goal.returns-then-is_some
returns-then-is_some c =
    first_else c.args.self.now _ _ _ c.if-is_colon.ensures _ c.in-Ok.kind (Begins None) _
    (sym c.is_some.ensures ∙ c.if-is_some.true) c.in-Ok.ensures

pub returns-then-is_colon : goal.returns-then-is_colon
returns-then-is_colon c = moved c.args.self.now _ _ _ (yes _ _ _ c.if-is_colon.ensures) refl refl
