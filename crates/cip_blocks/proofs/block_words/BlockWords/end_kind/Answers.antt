use Rattle.std.proofs.lemmas.Grind.{common_steps}
use Rattle.std.proofs.Common.{◌≡◌, None, Some, cond, ◌||◌, not, ap, sym, ◌∙◌, arith}
use Rattle.std.specs.Prelude.{is_none}
use Rattle.std.specs.List.{list_any}
use Rattle.cip_blocks.specs.OpenColumns.{has_open_owned}
use Rattle.cip_blocks.specs.BlockWordsRead.{program_of, state_of}
use Rattle.cip_blocks.specs.Endings.{place_fault}
use Rattle.cip_blocks.proofs.EndLaws.{told, end_is}
use Rattle.cip_blocks.proofs.block_words.BlockWords.end_kind.Goals as goal

pub returns-then-ending-clause-fault : goal.returns-then-ending-clause-fault
returns-then-ending-clause-fault c =
    let words = c.args.self.now in
    let ending = c.args.ending.now in
    let program = program_of words in
    let state = state_of words in
    let none : None ≡ place_fault state.place = grind (arith, common_steps) in
    let opens = has_open_owned program.bounds ending.owners.blocks.items in
    let lacks = is_none state.count || list_any not state.begun in
    sym (end_is program state ending (told c.owners_are_right.ensures words c.requires.formed) c.requires none
    ∙ ap (λ b. cond b (Some 6) (cond opens (Some 7) (cond lacks (Some 8) None))) c.if-ending.true)

pub returns-then-has_open-clause-fault : goal.returns-then-has_open-clause-fault
returns-then-has_open-clause-fault c =
    let words = c.args.self.now in
    let ending = c.args.ending.now in
    let program = program_of words in
    let state = state_of words in
    let none : None ≡ place_fault state.place = grind (arith, common_steps) in
    let opens = has_open_owned program.bounds ending.owners.blocks.items in
    let lacks = is_none state.count || list_any not state.begun in
    sym (end_is program state ending (told c.owners_are_right.ensures words c.requires.formed) c.requires none
    ∙ ap (λ b. cond b (Some 6) (cond opens (Some 7) (cond lacks (Some 8) None))) c.if-ending.false
    ∙ ap (λ b. cond b (Some 7) (cond lacks (Some 8) None)) (sym c.if-has_open.ensures))

pub returns-then-lacks_block-clause-fault : goal.returns-then-lacks_block-clause-fault
returns-then-lacks_block-clause-fault c =
    let words = c.args.self.now in
    let ending = c.args.ending.now in
    let program = program_of words in
    let state = state_of words in
    let none : None ≡ place_fault state.place = grind (arith, common_steps) in
    let opens = has_open_owned program.bounds ending.owners.blocks.items in
    let lacks = is_none state.count || list_any not state.begun in
    sym (end_is program state ending (told c.owners_are_right.ensures words c.requires.formed) c.requires none
    ∙ ap (λ b. cond b (Some 6) (cond opens (Some 7) (cond lacks (Some 8) None))) c.if-ending.false
    ∙ ap (λ b. cond b (Some 7) (cond lacks (Some 8) None)) (sym c.if-has_open.ensures)
    ∙ ap (λ b. cond b (Some 8) None) (sym c.if-lacks_block.ensures))

pub returns-else-lacks_block-clause-fault : goal.returns-else-lacks_block-clause-fault
returns-else-lacks_block-clause-fault c =
    let words = c.args.self.now in
    let ending = c.args.ending.now in
    let program = program_of words in
    let state = state_of words in
    let none : None ≡ place_fault state.place = grind (arith, common_steps) in
    let opens = has_open_owned program.bounds ending.owners.blocks.items in
    let lacks = is_none state.count || list_any not state.begun in
    sym (end_is program state ending (told c.owners_are_right.ensures words c.requires.formed) c.requires none
    ∙ ap (λ b. cond b (Some 6) (cond opens (Some 7) (cond lacks (Some 8) None))) c.if-ending.false
    ∙ ap (λ b. cond b (Some 7) (cond lacks (Some 8) None)) (sym c.if-has_open.ensures)
    ∙ ap (λ b. cond b (Some 8) None) (sym c.if-lacks_block.ensures))

pub returns-then-is_some-clause-kinds : goal.returns-then-is_some-clause-kinds
returns-then-is_some-clause-kinds c = grind (arith, common_steps)

pub has_open-requires : goal.has_open-requires
has_open-requires c = grind (arith, common_steps)

pub returns-then-lacks_block-clause-kinds : goal.returns-then-lacks_block-clause-kinds
returns-then-lacks_block-clause-kinds c = grind (arith, common_steps)

pub returns-else-lacks_block-clause-kinds : goal.returns-else-lacks_block-clause-kinds
returns-else-lacks_block-clause-kinds c = grind (arith, common_steps)

pub returns-then-has_open-clause-kinds : goal.returns-then-has_open-clause-kinds
returns-then-has_open-clause-kinds c = grind (arith, common_steps)

pub returns-then-ending-clause-kinds : goal.returns-then-ending-clause-kinds
returns-then-ending-clause-kinds c = grind (arith, common_steps)
