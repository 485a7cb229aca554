use Rattle.std.proofs.Common.{ap, sym, ◌∙◌}
use Rattle.std.specs.List.{list_any}
use Rattle.cip_mps_lines.specs.MpsKinds.{part_of}
use Rattle.cip_mps_lines.specs.declared.words.Part.{Part}
use Rattle.cip_text_rules.specs.MpsRules.{stands_behind}
use Rattle.std.proofs.lemmas.List.Folds.{list_any_at}
use Rattle.cip_mps.proofs.ListLaws.{none_any, list_any_map, none_at}
use Rattle.cip_mps.proofs.draft.Draft.is_late.Goals as goal

pub returns-then-is_behind : goal.returns-then-is_behind
returns-then-is_behind c =
    let behind = stands_behind (part_of c.args.part) in
    sym (list_any_at (λ (before : Part). behind (part_of before)) c.deref-before-items.result.now c.loop-before.before-index _ c.loop-before-test.true (sym c.is_behind.ensures ∙ c.if-is_behind.true))
    ∙ ap (list_any (λ (before : Part). behind (part_of before))) c.deref-before-items.ensures.value ∙ sym (list_any_map behind part_of c.args.self.now.opened.items)

pub returns : goal.returns
returns c =
    let behind = stands_behind (part_of c.args.part) in
    none_any (λ (before : Part). behind (part_of before)) c.args.self.now.opened.items c.loop-before.before-index (rw c.deref-before-items.ensures.value at c.loop-before-test.false) c.loop-before.invariant
    ∙ sym (list_any_map behind part_of c.args.self.now.opened.items)

pub loop-before-preserved : goal.loop-before-preserved
loop-before-preserved c =
    let behind = stands_behind (part_of c.args.part) in
    let value = c.deref-before-items.ensures.value in
    none_at (λ (before : Part). behind (part_of before)) c.args.self.now.opened.items c.deref-before-items.result.now c.loop-before.before-index _ value c.loop-before-test.true c.loop-before.invariant
    (sym c.is_behind.ensures ∙ c.if-is_behind.false)
