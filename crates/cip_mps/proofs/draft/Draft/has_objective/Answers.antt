use Rattle.std.proofs.lemmas.Grind.{common_steps}
use Rattle.std.proofs.Common.{ap, sym, ◌∙◌, refl, arith}
use Rattle.cip_text_rules.specs.MpsProgram.{is_free}
use Rattle.cip_text_rules.specs.MpsState.{RowRead, no_row}
use Rattle.std.proofs.lemmas.List.Folds.{list_any_at}
use Rattle.cip_mps.proofs.ListLaws.{none_any, list_any_map, none_at}
use Rattle.cip_mps.proofs.draft.Draft.has_objective.Goals as goal

pub returns-then-is_free : goal.returns-then-is_free
returns-then-is_free c =
    let free = sym (ap is_free c.head.ensures.kind) ∙ sym c.is_free.ensures ∙ c.if-is_free.true in
    sym (list_any_at (λ (row : RowRead). is_free row.kind) c.args.self.now.rows c.loop-number.number no_row (rw c.len-number-end.ensures at c.loop-number-test.true) free)
    ∙ sym (list_any_map is_free (λ (row : RowRead). row.kind) c.args.self.now.rows)

pub returns : goal.returns
returns c =
    none_any (λ (row : RowRead). is_free row.kind) c.args.self.now.rows c.loop-number.number (rw c.len-number-end.ensures at c.loop-number-test.false) c.loop-number.invariant
    ∙ sym (list_any_map is_free (λ (row : RowRead). row.kind) c.args.self.now.rows)

pub loop-number-preserved : goal.loop-number-preserved
loop-number-preserved c =
    let rows = c.args.self.now.rows in
    none_at (λ (row : RowRead). is_free row.kind) rows rows c.loop-number.number no_row refl (rw c.len-number-end.ensures at c.loop-number-test.true) c.loop-number.invariant
    (sym (ap is_free c.head.ensures.kind) ∙ sym c.is_free.ensures ∙ c.if-is_free.false)

pub head-requires : goal.head-requires
head-requires c = grind (arith, common_steps)
