-- The region that a search begins with.
use Rattle.cip_problem.specs.Program.{Program}
use Rattle.cip_domain.specs.Changes.{Region}

-- the box and the choices of a program
abbrev pub own_region : Program → Region
own_region program = record { box = program.bounds; choices = program.choices }
