-- Names of the classes of rows.
use Rattle.std.specs.Prelude.{ℕ, List, codes}
use Rattle.cip_handlers.specs.declared.classes.Class.{Class}
use Rattle.cip_handlers.specs.declared.classes.Class.TheVariants as classes

-- what the handler of the rows of a class is called
abbrev pub class_name : Class → List ℕ
class_name classes.Linear = codes "linear"
class_name classes.Knapsack = codes "knapsack"
class_name classes.SetPack = codes "setpack"
class_name classes.SetPart = codes "setpart"
