use Rattle.std.proofs.lemmas.Grind.{common_steps}
use Rattle.std.proofs.Common.{◌≡◌, ◌<◌, Some, ap, sym, ◌∙◌, arith, length, false}
use Rattle.std.specs.Prelude.{unwrap_or}
use Rattle.cip_problem.specs.Names.{number_of}
use Rattle.cip_text_rules.specs.MpsWords.{number_in}
use Rattle.cip_text_rules.specs.BlockSteps.{put_row, place_of, is_placed}
use Rattle.cip_blocks.specs.declared.word_places.RowPlace.TheVariants.{Named}
use Rattle.cip_blocks.specs.WordPlaces.{place_shown, row_shown, block_of, is_below, is_sound_place}
use Rattle.cip_blocks.specs.BlockWordsRead.{program_of, state_of}
use Rattle.cip_blocks.proofs.WordLaws.{all_set, row_at, shown_set, name_kind}
use Rattle.cip_blocks.proofs.block_words.BlockWords.take_name.Goals as goal

pub invariant_of-self-clause-below : goal.invariant_of-self-clause-below
invariant_of-self-clause-below c =
    let words = c.args.self.now in
    all_set (λ row. is_below (unwrap_or words.count 0) (block_of row)) words.rows.items c.in-Some.number (Named c.args.block) words.below (ap (is_sound_place words.count) (sym c.requires) ∙ words.placed)

pub returns-in-Unnamed-clause-taken : goal.returns-in-Unnamed-clause-taken
returns-in-Unnamed-clause-taken c =
    let words = c.args.self.now in
    let program = program_of words in
    let name = c.args.name.now in
    let number = c.in-Some.number in
    let known : number_in program.row_names name ≡ Some number =
    c.numbers_are_of_names.ensures program.row_names name ∙ ap (λ names. number_of names name) (sym c.row_names.ensures.names) ∙ sym c.in-Some.ensures.number in
    let below : number < length words.rows.items = omega (arith, c.in-Some.ensures.within, words.rows_sized, words.rows.ok.0, ap length c.row_names.ensures.names) in
    let free : is_placed (row_shown c.index.result.now) ≡ false = ap (λ row. is_placed (row_shown row)) c.in-Unnamed.is in
    record {
      is_kind = name_kind program (state_of words) c.args.block name number (c.block_words_have_tests.ensures.name program (state_of words) c.args.block name) known (ap is_placed (row_at words.rows.items number c.index.result.now below c.index.ensures) ∙ free);
      taken = λ e.
          let rows = shown_set words.rows.items number (Named c.args.block) ∙ ap (λ o. put_row (state_of words).rows o (place_of c.args.block)) (sym known) in
          λ i. record { place = ap place_shown c.requires i; count = words.count; begun = words.begun.items; rows = rows i };
    }

pub index-requires : goal.index-requires
index-requires c = grind (arith, common_steps)

pub index_mut-requires : goal.index_mut-requires
index_mut-requires c = grind (arith, common_steps)

pub returns-in-Named-clause-taken : goal.returns-in-Named-clause-taken
returns-in-Named-clause-taken c = grind (arith, common_steps)

pub returns-in_default-clause-taken : goal.returns-in_default-clause-taken
returns-in_default-clause-taken c = grind (arith, common_steps)

pub invariant_of-self-clause-placed : goal.invariant_of-self-clause-placed
invariant_of-self-clause-placed c = grind (arith, common_steps)

pub returns-in-Unnamed-clause-same : goal.returns-in-Unnamed-clause-same
returns-in-Unnamed-clause-same c = grind (arith, common_steps)

pub invariant_of-self-clause-few : goal.invariant_of-self-clause-few
invariant_of-self-clause-few c = grind (arith, common_steps)

pub invariant_of-self-clause-rows_sized : goal.invariant_of-self-clause-rows_sized
invariant_of-self-clause-rows_sized c = grind (arith, common_steps)

pub returns-in-Named-clause-same : goal.returns-in-Named-clause-same
returns-in-Named-clause-same c = grind (arith, common_steps)

pub invariant_of-self-clause-begun_sized : goal.invariant_of-self-clause-begun_sized
invariant_of-self-clause-begun_sized c = grind (arith, common_steps)

pub returns-in-Named-clause-kinds : goal.returns-in-Named-clause-kinds
returns-in-Named-clause-kinds c = grind (arith, common_steps)

pub returns-in-Unnamed-clause-kinds : goal.returns-in-Unnamed-clause-kinds
returns-in-Unnamed-clause-kinds c = grind (arith, common_steps)

pub returns-in_default-clause-kinds : goal.returns-in_default-clause-kinds
returns-in_default-clause-kinds c = grind (arith, common_steps)

pub returns-in_default-clause-same : goal.returns-in_default-clause-same
returns-in_default-clause-same c = grind (arith, common_steps)
