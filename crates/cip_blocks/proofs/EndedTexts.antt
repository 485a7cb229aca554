-- What a text of blocks comes to, as `end` answers it.
use Rattle.std.proofs.Common.{◌≡◌, ℕ, List, Option, Result, Ok, Err, MatchResult, refl, sym, ap, subst, ◌∙◌}
use Rattle.cip_problem.specs.Program.{Program}
use Rattle.cip_text_rules.specs.LineTexts.{Means, outcome_of, HasResult}
use Rattle.cip_text_rules.specs.LineStream.{stream_of, TextsAreRead}
use Rattle.cip_text.specs.declared.faults.KnownFault.{KnownFault}
use Rattle.cip_text.specs.PieceCuts.{Cut, end_fault}
use Rattle.cip_text.specs.PieceStands.{StandsAt, IsLastRead, outcome_with}
use Rattle.cip_text.proofs.Streams.{ends_with}
use Rattle.cip_problem.specs.BlockParts.{Blocks}
use Rattle.cip_text_rules.specs.BlockRules.{block_reading}
use Rattle.cip_text_rules.specs.BlockSteps.{BlockState, block_steps}
use Rattle.cip_text.specs.declared.text_faults.ReadFault.{ReadFault}
use Rattle.cip_text.specs.declared.text_faults.ReadFault.TheVariants.{Faulty, NoMemory}
use Rattle.cip_blocks.specs.declared.kinds.BlockKind.{BlockKind}
use Rattle.cip_blocks.specs.EndedBlocks.{IsFaultOf, IsEnded}

-- what `end` answers
pub ended : (program after_program : Program) → after_program ≡ program → TextsAreRead (block_reading program) (block_steps program) → (text : List ℕ) (cut read_cut : Cut) (known after : BlockState) (kind : Option ℕ) → StandsAt cut known (stream_of (block_steps program) text) → IsLastRead (block_steps program) cut known after kind → read_cut ≡ cut
    → (answer : Result Blocks (ReadFault BlockKind)) → IsEnded (end_fault 9 read_cut kind ((block_steps after_program).end_fault after)) ((block_steps after_program).result after) answer → MatchResult answer (HasResult (block_reading program) text) (IsFaultOf program text)
ended program after_program same law text cut read_cut known after kind h told e answer said = go answer (subst (λ (p : Program). IsEnded (end_fault 9 read_cut kind ((block_steps p).end_fault after)) ((block_steps p).result after) answer) same said)
  where
    fault : Option KnownFault
    fault = end_fault 9 read_cut kind ((block_steps program).end_fault after)

    value : Blocks
    value = (block_steps program).result after

    is : outcome_of (block_reading program) text ≡ outcome_with fault value
    is = ends_with (block_reading program) (block_steps program) law text cut read_cut known after kind ((block_steps program).end_fault after) fault h told e refl refl

    go : (answer : Result Blocks (ReadFault BlockKind)) → IsEnded fault value answer → MatchResult answer (HasResult (block_reading program) text) (IsFaultOf program text)
    go (Ok blocks) s = record { means = is ∙ ap (λ f. outcome_with f value) s.0 ∙ ap Means (sym s.1) }
    go (Err (Faulty f)) s = record { faulty = is ∙ ap (λ g. outcome_with g value) s }
    go (Err NoMemory) s = tt
