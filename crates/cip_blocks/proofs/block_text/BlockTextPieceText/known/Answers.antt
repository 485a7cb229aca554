use Rattle.std.proofs.Common.{ℕ, List, subst}
use Rattle.cip_text.specs.TextFaults.{IsSaid}
use Rattle.cip_text.proofs.FaultsTold.{told_by}
use Rattle.cip_problem.specs.NamesOnce.{StandOnce}
use Rattle.cip_text_rules.specs.BlockRules.{block_reading}
use Rattle.cip_blocks.specs.BlockKindTexts.{kind_number}
use Rattle.cip_blocks.specs.BlockTexts.{kept_of, state_of, program_of, steps_of}
use Rattle.cip_blocks.proofs.block_text.BlockTextPieceText.known.Goals as goal

pub returns : goal.returns
returns c = λ bytes h.
    let text = c.args.self.now in
    let once = subst (λ (names : List (List ℕ)). StandOnce names) c.row_names.ensures.names c.stand_once.ensures in
    let law = c.block_faults_of_ended_lines.ensures (program_of text) once in
    told_by (block_reading (program_of text)) (steps_of text) law bytes (kept_of text) (state_of text) h kind_number c.told.result (subst (λ known. IsSaid kind_number known c.told.result) c.known_fault.ensures c.told.ensures)
