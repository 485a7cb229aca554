-- Faults that are known before a text of blocks ends.
use Rattle.cip_problem.specs.Program.{Program}
use Rattle.cip_text.specs.EndedFaults.{KnownFaultsStay}
use Rattle.cip_problem.specs.NamesOnce.{StandOnce}
use Rattle.cip_text_rules.specs.BlockRules.{block_reading}

-- a known fault is that of the text with whatever follows, and stays known
abbrev pub KnownBlockFaultsStay : Type 0
KnownBlockFaultsStay =
    (program : Program) → StandOnce program.row_names → KnownFaultsStay (block_reading program)
