-- Faults that are known before a text of a point ends.
use Rattle.cip_problem.specs.Program.{Program}
use Rattle.cip_text.specs.EndedFaults.{KnownFaultsStay}
use Rattle.cip_problem.specs.NamesOnce.{StandOnce}
use Rattle.cip_text_rules.specs.PointRules.{point_reading}

-- a known fault is that of the text with whatever follows, and stays known
abbrev pub KnownPointFaultsStay : Type 0
KnownPointFaultsStay =
    (program : Program) → StandOnce program.column_names → KnownFaultsStay (point_reading program)
