use Rattle.std.proofs.lemmas.Grind.{common_steps}
use Rattle.std.proofs.Common.{Bool, [], cond, map, ap, sym, ◌∙◌, arith}
use Rattle.cip_text_rules.specs.MpsBounds.{Bounded, settled, choice_of}
use Rattle.cip_mps.proofs.ListLaws.{mapped_more, mapped_all}
use Rattle.cip_mps.proofs.column_program.choices_of.Goals as goal

pub loop-column-init : goal.loop-column-init
loop-column-init c = c.new-choices.ensures

pub loop-column-preserved : goal.loop-column-preserved
loop-column-preserved c =
    mapped_more (λ (column : Bounded). choice_of (settled column)) c.args.columns.now c.loop-column.column-index c.column-item.result c.choice.result c.loop-column.choices c.push.new.self
    c.loop-column-test.true c.column-item.is c.loop-column.invariant c.choice.ensures c.in-Ok.ensures.ok

pub returns : goal.returns
returns c =
    let all = map (λ column. choice_of (settled column)) c.args.columns.now in
    mapped_all (λ (column : Bounded). choice_of (settled column)) c.args.columns.now c.loop-column.column-index c.loop-column.choices c.loop-column-test.false c.loop-column.invariant
    ∙ ap (λ (b : Bool). cond b all []) (sym (sym c.any_semi.ensures ∙ c.if-not-any_semi.false))

pub returns-then-not-any_semi : goal.returns-then-not-any_semi
returns-then-not-any_semi c = grind (arith, common_steps)

pub offset_bounds-columns-column-index : goal.offset_bounds-columns-column-index
offset_bounds-columns-column-index c = grind (arith, common_steps)

pub returns-in_default : goal.returns-in_default
returns-in_default c = grind (arith, common_steps)
