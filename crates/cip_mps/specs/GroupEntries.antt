-- What the two lists of a group stand for.
--     entries_of near far      the numbers of the group
use Rattle.std.specs.Prelude.{List, ◌++◌, map}
use Rattle.cip_rational.specs.Rational.{integer}
use Rattle.cip_mps.specs.Entries.{Entry}
use Rattle.cip_mps.specs.declared.groups.Near.{Near}
use Rattle.cip_mps.specs.declared.groups.Far.{Far}

-- a number in 32 bits
abbrev pub near_entry : Near → Entry
near_entry n = record { row = n.row; held = record { column = n.column; value = integer n.value } }

-- any number
abbrev pub far_entry : Far → Entry
far_entry n = record { row = n.row; held = record { column = n.column; value = n.value } }

-- the numbers in 32 bits, and then the others
abbrev pub entries_of : List Near → List Far → List Entry
entries_of near far = map near_entry near ++ map far_entry far
