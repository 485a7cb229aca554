use Rattle.std.proofs.lemmas.Grind.{common_steps}
use Rattle.std.proofs.lemmas.List.Folds.{list_any_at}
use Rattle.cip_mps.proofs.ListLaws.{none_at}
use Rattle.cip_text_rules.specs.MpsBounds.{Bounded, settled, is_semi}
use Rattle.std.proofs.Common.{ap, sym, ◌∙◌, refl, arith}
use Rattle.cip_mps.proofs.column_program.any_semi.Goals as goal

pub loop-column-preserved : goal.loop-column-preserved
loop-column-preserved c =
    let semi = λ (column : Bounded). is_semi (settled column) in
    let columns = c.args.columns.now in
    none_at semi columns columns c.loop-column.column-index c.column-item.result refl c.loop-column-test.true c.loop-column.invariant (sym (ap semi c.column-item.is) ∙ sym c.is_semi.ensures ∙ c.if-is_semi.false)

pub returns-then-is_semi : goal.returns-then-is_semi
returns-then-is_semi c =
    let semi = λ (column : Bounded). is_semi (settled column) in
    let holds = sym (ap semi c.column-item.is) ∙ sym c.is_semi.ensures ∙ c.if-is_semi.true in
    sym (list_any_at semi c.args.columns.now c.loop-column.column-index c.column-item.result c.loop-column-test.true holds)

pub returns : goal.returns
returns c = grind (arith, common_steps)

pub offset_bounds-columns-column-index : goal.offset_bounds-columns-column-index
offset_bounds-columns-column-index c = grind (arith, common_steps)
