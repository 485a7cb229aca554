-- What the look of a box with choices comes to.
use Rattle.std.specs.Prelude.{ℕ, Bool, List}
use Rattle.cip_problem.specs.Program.{Sides, Choice}
use Rattle.cip_problem.specs.Wholes.{AllHaveWholes}
use Rattle.cip_node_rules.specs.OpenColumns.{LacksWhole}
use Rattle.cip_node_rules.specs.OpenChoices.{IsSettledBox, IsOpenBox}
use Rattle.cip_node_rules.specs.declared.looks.Looked.{Looked}
use Rattle.cip_node_rules.specs.declared.looks.Looked.TheVariants.{Empty, Leaf, Open}

-- each whole column has one whole value, and no choice is open
pub record IsLeafBox (integral : List Bool) (box : List Sides) (choices : List Choice) : Type 0 where
  pub has : AllHaveWholes integral box
  pub settled : IsSettledBox integral box choices

-- a whole column has no whole value; each has one, and no choice is open; or each has one, and one of them has two, or
-- a choice is open
abbrev pub IsBoxLook : List Bool → List Sides → List Choice → Looked → Type 0
IsBoxLook integral box choices Empty = (column : ℕ) × LacksWhole integral box column
IsBoxLook integral box choices Leaf = IsLeafBox integral box choices
IsBoxLook integral box choices Open = AllHaveWholes integral box × IsOpenBox integral box choices
