-- The sides of a row as those of a column.
use Rattle.cip_problem.specs.Program.{Sides, Row}

-- the two sides of a row
abbrev pub sides_of : Row → Sides
sides_of row = record { low = row.low; high = row.high }
