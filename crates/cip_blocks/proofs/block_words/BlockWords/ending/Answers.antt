use Rattle.std.proofs.lemmas.Grind.{common_steps}
use Rattle.std.proofs.Common.{◌≡◌, length, ap, sym, ◌∙◌, map, arith}
use Rattle.std.proofs.lemmas.List.{length-map}
use Rattle.cip_text_rules.specs.BlockOwners.{owners_of}
use Rattle.cip_blocks.specs.WordPlaces.{block_of}
use Rattle.cip_blocks.specs.BlockWordsRead.{program_of}
use Rattle.cip_blocks.proofs.EndLaws.{blocks_are}
use Rattle.cip_blocks.proofs.Mapped.{mapped_on}
use Rattle.cip_blocks.proofs.block_words.BlockWords.ending.Goals as goal

pub loop-row-preserved : goal.loop-row-preserved
loop-row-preserved c =
    mapped_on block_of c.deref-row-items.result.now c.loop-row.row-index _ c.loop-row.row_blocks.items c.push.new.self.items c.block.result c.loop-row-test.true c.loop-row.invariant c.block.ensures c.in_ok-push.ensures.items

pub of-requires : goal.of-requires
of-requires c =
    let words = c.args.self.now in
    let named : c.loop-row.row_blocks.items ≡ map block_of words.rows.items = grind (arith, common_steps) in
    ap length (c.as_slice.ensures.value ∙ named) ∙ length-map words.rows.items block_of ∙ sym words.rows.ok.0 ∙ words.rows_sized

pub returns : goal.returns
returns c =
    let words = c.args.self.now in
    let named : c.loop-row.row_blocks.items ≡ map block_of words.rows.items = grind (arith, common_steps) in
    let rows = named ∙ blocks_are words.rows.items in
    record {
      formed = c.in_ok-owners.ensures.formed;
      rows = rows;
      owned = c.in_ok-owners.ensures.owned ∙ ap (owners_of (program_of words)) (c.as_slice.ensures.value ∙ rows);
      sized = c.in_ok-owners.ensures.sized;
    }

pub offset_bounds-row-items-row-index : goal.offset_bounds-row-items-row-index
offset_bounds-row-items-row-index c = grind (arith, common_steps)

pub loop-row-init : goal.loop-row-init
loop-row-init c = grind (arith, common_steps)
