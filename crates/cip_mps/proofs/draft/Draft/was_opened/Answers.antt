use Rattle.std.proofs.Common.{◌==◌, ap, sym, ◌∙◌}
use Rattle.std.specs.List.{list_any}
use Rattle.std.proofs.lemmas.Bool.{eq-eqb, ne_eqb}
use Rattle.cip_mps_lines.specs.MpsKinds.{part_of}
use Rattle.cip_mps_lines.specs.declared.words.Part.{Part}
use Rattle.cip_text_rules.specs.MpsWords as text
use Rattle.std.proofs.lemmas.List.Folds.{list_any_at}
use Rattle.cip_mps.proofs.ListLaws.{none_any, list_any_map, none_at}
use Rattle.cip_mps.proofs.draft.Draft.was_opened.Goals as goal

pub returns-then-number_of : goal.returns-then-number_of
returns-then-number_of c =
    let same = λ (before : text.Part). text.part_number before == text.part_number (part_of c.args.part) in
    sym (list_any_at (λ (before : Part). same (part_of before)) c.deref-before-items.result.now c.loop-before.before-index _ c.loop-before-test.true
    (eq-eqb _ _ (sym c.number_of.ensures ∙ c.if-number_of.true ∙ c.number_of-in-loop-before.ensures)))
    ∙ ap (list_any (λ (before : Part). same (part_of before))) c.deref-before-items.ensures.value ∙ sym (list_any_map same part_of c.args.self.now.opened.items)

pub returns : goal.returns
returns c =
    let same = λ (before : text.Part). text.part_number before == text.part_number (part_of c.args.part) in
    none_any (λ (before : Part). same (part_of before)) c.args.self.now.opened.items c.loop-before.before-index (rw c.deref-before-items.ensures.value at c.loop-before-test.false) c.loop-before.invariant
    ∙ sym (list_any_map same part_of c.args.self.now.opened.items)

pub loop-before-preserved : goal.loop-before-preserved
loop-before-preserved c =
    let same = λ (before : text.Part). text.part_number before == text.part_number (part_of c.args.part) in
    let value = c.deref-before-items.ensures.value in
    none_at (λ (before : Part). same (part_of before)) c.args.self.now.opened.items c.deref-before-items.result.now c.loop-before.before-index _ value c.loop-before-test.true c.loop-before.invariant
    (ne_eqb _ _ (λ p. c.if-number_of.false (c.number_of.ensures ∙ p ∙ sym c.number_of-in-loop-before.ensures)))
