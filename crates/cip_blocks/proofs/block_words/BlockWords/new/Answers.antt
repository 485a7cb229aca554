use Rattle.std.proofs.lemmas.Grind.{common_steps}
use Rattle.std.proofs.Common.{◌≡◌, ap, ◌∙◌, map, length, None, arith, rules}
use Rattle.std.specs.Prelude.{replicate}
use Rattle.std.specs.List.{list_all}
use Rattle.cip_text_rules.specs.BlockWords as text
use Rattle.cip_text_rules.specs.BlockSteps as steps
use Rattle.cip_blocks.specs.declared.word_places.RowPlace.TheVariants.{Unnamed}
use Rattle.cip_blocks.specs.WordPlaces.{row_shown, block_of, is_below}
use Rattle.cip_blocks.proofs.WordLaws.{none_named, all_unnamed}
use Rattle.cip_blocks.proofs.block_words.BlockWords.new.Goals as goal

pub invariant_of-result-clause-below : goal.invariant_of-result-clause-below
invariant_of-result-clause-below c =
    let rows : c.resize.new.self.items ≡ replicate c.len.result Unnamed = search rules in
    ap (list_all (λ row. is_below 0 (block_of row))) rows ∙ all_unnamed 0 c.len.result

pub returns-clause-state : goal.returns-clause-state
returns-clause-state c =
    let made : c.resize.new.self.items ≡ replicate c.len.result Unnamed = search rules in
    let rows : map row_shown c.resize.new.self.items ≡ replicate _ steps.Unnamed =
    ap (map row_shown) made ∙ none_named c.len.result ∙ ap (λ n. replicate n steps.Unnamed) (c.len.ensures ∙ ap (λ names. length names) c.row_names.ensures.names) in
    λ i. record { place = text.KeywordDue; count = None; begun = c.new.ensures.items i; rows = rows i }

pub invariant_of-result-clause-rows_sized : goal.invariant_of-result-clause-rows_sized
invariant_of-result-clause-rows_sized c = grind (arith, common_steps)

pub invariant_of-result-clause-few : goal.invariant_of-result-clause-few
invariant_of-result-clause-few c = grind (arith, common_steps)

pub returns-clause-program : goal.returns-clause-program
returns-clause-program c = grind (arith, common_steps)

pub invariant_of-result-clause-begun_sized : goal.invariant_of-result-clause-begun_sized
invariant_of-result-clause-begun_sized c = grind (arith, common_steps)
