-- Why an exchange isn't made.
use Rattle.std.specs.Prelude.{◌≡◌, List, Some, ⊤}
use Rattle.cip_bland.specs.Operations.{Placed, first_overflow}
use Rattle.cip_dict.specs.declared.fault.MoveFault.{MoveFault}
use Rattle.cip_dict.specs.declared.fault.MoveFault.TheVariants.{OutOfRange, NoMemory}

-- the first of these operations that overflows is formed there, or memory was refused
abbrev pub IsMoveFault : List Placed → MoveFault → Type 0
IsMoveFault operations (OutOfRange place) = first_overflow operations ≡ Some place
IsMoveFault operations NoMemory = ⊤
