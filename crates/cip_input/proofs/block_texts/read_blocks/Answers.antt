use Rattle.std.proofs.Common.{refl}
use Rattle.cip_io.specs.Store.{StoreTells}
use Rattle.cip_text_rules.specs.LineTexts.{HasResult, HasFault}
use Rattle.cip_blocks.proofs.PassedOn.{begun_or_spent}
use Rattle.cip_blocks.specs.BlockRules.{block_reading}
use Rattle.cip_blocks.specs.BlockKindTexts.{kind_number}
use Rattle.cip_blocks.specs.BlockTexts.{program_of}
use Rattle.cip_blocks.specs.BlockReaders.{HasCome}
use Rattle.cip_input.proofs.TextsTold.{later, text_told}
use Rattle.cip_input.proofs.block_texts.read_blocks.Goals as goal

pub returns-clause-answer : goal.returns-clause-answer
returns-clause-answer g c =
    let program = c.args.program.now in
    let reading = block_reading program in
    let old = g.S.Store.tells c.args.store.now in
    let new = g.S.Store.tells c.read_text.new.store in
    let chosen : StoreTells = record old { left = old.holds c.args.name.now } in
    later (HasResult reading) (λ blocks. blocks) kind_number (HasFault reading) _ old chosen new c.read_text.result refl refl
    (text_told reading (λ blocks. blocks) kind_number chosen new c.read_text.result
    (c.read_text.ensures.read program (λ reader begins. begun_or_spent HasCome program_of reader program begins)))

pub returns-clause-holds : goal.returns-clause-holds
returns-clause-holds g c = c.read_text.ensures.holds
