use Rattle.std.proofs.lemmas.Grind.{common_steps}
use Rattle.std.proofs.Common.{ap, sym, ◌∙◌, arith}
use Rattle.std.specs.List.{list_any}
use Rattle.cip_text_rules.specs.MpsBounds.{Bounded, settled, lacks_sides}
use Rattle.std.proofs.lemmas.List.Folds.{list_any_at}
use Rattle.cip_mps.proofs.ListLaws.{none_any, list_any_map, none_at}
use Rattle.cip_mps.proofs.draft.Draft.lacks_sides.Goals as goal

pub returns-then-lacks_sides : goal.returns-then-lacks_sides
returns-then-lacks_sides c =
    let lacks = λ (column : Bounded). lacks_sides (settled column) in
    let holds = sym (ap lacks c.column-item.is) ∙ sym c.lacks_sides.ensures ∙ c.if-lacks_sides.true in
    sym (list_any_at lacks c.deref-column-items.result.now c.loop-column.column-index c.column-item.result c.loop-column-test.true holds)
    ∙ ap (list_any lacks) c.deref-column-items.ensures.value ∙ sym (list_any_map lacks_sides settled c.args.self.now.columns.items)

pub returns : goal.returns
returns c =
    none_any (λ (column : Bounded). lacks_sides (settled column)) c.args.self.now.columns.items c.loop-column.column-index (rw c.deref-column-items.ensures.value at c.loop-column-test.false) c.loop-column.invariant
    ∙ sym (list_any_map lacks_sides settled c.args.self.now.columns.items)

pub loop-column-preserved : goal.loop-column-preserved
loop-column-preserved c =
    let lacks = λ (column : Bounded). lacks_sides (settled column) in
    none_at lacks c.args.self.now.columns.items c.deref-column-items.result.now c.loop-column.column-index c.column-item.result c.deref-column-items.ensures.value c.loop-column-test.true c.loop-column.invariant
    (sym (ap lacks c.column-item.is) ∙ sym c.lacks_sides.ensures ∙ c.if-lacks_sides.false)

pub offset_bounds-column-items-column-index : goal.offset_bounds-column-items-column-index
offset_bounds-column-items-column-index c = grind (arith, common_steps)
