-- The master program as a linear program: its columns are those of no block, and then the weight of each held point.
use Rattle.std.specs.Prelude.{List, [], ◌∷◌, ◌++◌, map, None, Some, if◌then◌else◌}
use Rattle.cip_rational.specs.Rational.{ℚ, ◌-ℚ◌, zeroℚ}
use Rattle.cip_rational.specs.Sums.{dot, combine}
use Rattle.cip_problem.specs.Program.{Sides}
use Rattle.cip_problem.specs.Activity.{value_at}
use Rattle.cip_pricing.specs.Decomposition.{Owner, same_owner, picked}
use Rattle.cip_pricing.specs.Mixtures.{Held}

-- whose the held points are
abbrev pub held_owners : List Held → List Owner
held_owners held = map (λ (h : Held). Some h.block) held

-- the points that are held
abbrev pub held_points : List Held → List (List ℚ)
held_points held = map (λ (h : Held). h.point) held

-- a linear form on the program's columns as one on the master's: a held point has what the form comes to there
abbrev pub master_form : List Owner → List ℚ → List Held → List ℚ
master_form owners form held =
    picked None owners form ++ map (λ (h : Held). dot (picked (Some h.block) owners form) h.point) held

-- the first of a list, or 0
abbrev pub first_or_zero : List ℚ → ℚ
first_or_zero [] = zeroℚ
first_or_zero (value ∷ values) = value

-- what stands after it
abbrev pub after_first : List ℚ → List ℚ
after_first [] = []
after_first (value ∷ values) = values

-- one list of the values that each owner has, by whose each column is
abbrev pub joined : List Owner → (Owner → List ℚ) → List ℚ
joined [] values = []
joined (owner ∷ owners) values =
    first_or_zero (values owner)
    ∷ joined owners (λ who. if same_owner owner who then after_first (values who) else values who)

-- what an owner has, where the columns of no block have these values, and held points these weights
abbrev pub mixed_part : List Held → (values weights : List ℚ) → Owner → List ℚ
mixed_part held values weights None = values
mixed_part held values weights (Some block) =
    combine (picked (Some block) (held_owners held) weights) (picked (Some block) (held_owners held) (held_points held))

-- the point of the program that these come to
abbrev pub mixed : List Owner → List Held → (values weights : List ℚ) → List ℚ
mixed owners held values weights = joined owners (mixed_part held values weights)

-- ---- bounds of the master

-- the sides of a weight
abbrev pub weight_sides : Sides
weight_sides = record { low = Some zeroℚ; high = None }

-- the sides of the columns of no block in a box of the program, and of the weights
abbrev pub master_box : List Owner → List Sides → List Held → List Sides
master_box owners box held = picked None owners box ++ map (λ (h : Held). weight_sides) held

-- what a held point comes to at what is left of the costs, less its block's price
abbrev pub reduced_cost : List Owner → (rests prices : List ℚ) → Held → ℚ
reduced_cost owners rests prices h = dot (picked (Some h.block) owners rests) h.point -ℚ value_at prices h.block

-- what is left of the costs on the columns of no block, and the reduced cost of each held point
abbrev pub reduced_costs : List Owner → (rests prices : List ℚ) → List Held → List ℚ
reduced_costs owners rests prices held =
    picked None owners rests ++ map (reduced_cost owners rests prices) held
