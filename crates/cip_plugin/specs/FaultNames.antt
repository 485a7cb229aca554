-- The names of faults of wishes, as a trace shows them.
use lib.Chars.{codes}
use Rattle.std.specs.Prelude.{ℕ, List}
use Rattle.cip_plugin.specs.declared.faults.WishFault.{WishFault}
use Rattle.cip_plugin.specs.declared.faults.WishFault.TheVariants.{NoSuchPlace, TakenPlace, NoSuchPlugin, Gone, NoMemory}

-- a fault's name
abbrev pub name_of : WishFault → List ℕ
name_of NoSuchPlace = codes "NoSuchPlace"
name_of TakenPlace = codes "TakenPlace"
name_of NoSuchPlugin = codes "NoSuchPlugin"
name_of Gone = codes "Gone"
name_of NoMemory = codes "NoMemory"
