-- The states of the simplex method on a linear program (dictionaries; Chvatal 1983).
-- Variables go by number, columns first, then rows. Each variable is basic or stands at a side, or at 0 where it has
-- none; each basic variable and the cost are linear forms of the others, and all have values.
use Rattle.std.specs.Prelude.{◌≡◌, ℕ, ◌<◌, Bool, true, is_some, not, List, [], length, Option, None, Some, slice_index_or, unwrap_or}
use Rattle.cip_rational.specs.Rational.{ℚ, zeroℚ}
use Rattle.cip_problem.specs.Program.{Sides}
use Rattle.cip_problem.specs.Activity.{value_at}
use Rattle.cip_problem.specs.Box.{sides_at}
use Rattle.cip_bland.specs.Tables.{form}
use Rattle.cip_bland.specs.declared.moves.Stand.{Stand}
use Rattle.cip_bland.specs.declared.moves.Stand.TheVariants.{Low, High, Zero}

-- A state; each list has an entry for each variable. A basic variable has no stand, and a row with its entries on all
-- variables, which are 0 on basic ones; a nonbasic one has no row. The costs are the entries of the cost.
pub record Dictionary : Type 0 where
  pub sides : List Sides
  pub standing : List (Option Stand)
  pub rows : List (List ℚ)
  pub costs : List ℚ
  pub values : List ℚ
  pub cost : ℚ

-- how many variables there are
abbrev pub size : Dictionary → ℕ
size d = length d.sides

-- where a variable stands; nowhere if it is basic
abbrev pub stand : Dictionary → ℕ → Option Stand
stand d v = slice_index_or d.standing v None

-- whether a variable is basic
abbrev pub is_basic : Dictionary → ℕ → Bool
is_basic d v = not (is_some (stand d v))

-- the entry of a basic variable on a variable
abbrev pub entry : Dictionary → ℕ → ℕ → ℚ
entry d v k = value_at (slice_index_or d.rows v []) k

-- the entry of the cost on a variable
abbrev pub cost_entry : Dictionary → ℕ → ℚ
cost_entry d k = value_at d.costs k

-- the value of a variable
abbrev pub value : Dictionary → ℕ → ℚ
value d v = value_at d.values v

-- the value where a variable with these sides stands
abbrev pub standing_value : Sides → Stand → ℚ
standing_value sides Low = unwrap_or sides.low zeroℚ
standing_value sides High = unwrap_or sides.high zeroℚ
standing_value sides Zero = zeroℚ

-- a variable with these sides can stand there: it has that side, or at Zero none
abbrev pub CanStand : Sides → Stand → Type 0
CanStand sides Low = is_some sides.low ≡ true
CanStand sides High = is_some sides.high ≡ true
CanStand sides Zero = (sides.low ≡ None) × (sides.high ≡ None)

-- numbers for the variables, by which each basic one is its linear form of the others
abbrev pub Solves : Dictionary → (ℕ → ℚ) → Type 0
Solves d x = (v : ℕ) → v < size d → is_basic d v ≡ true → x v ≡ form (size d) (entry d v) x

-- a nonbasic variable can stand where it does, and has the value of that place
pub record Stands (d : Dictionary) (v : ℕ) (at : Stand) : Type 0 where
  pub can_stand : CanStand (sides_at d.sides v) at
  pub has_value : value d v ≡ standing_value (sides_at d.sides v) at

-- the entries stand on nonbasic variables alone, and the values are those of the forms and of the places
pub record IsConsistent (d : Dictionary) : Type 0 where
  pub rows_free : (v k : ℕ) → v < size d → is_basic d v ≡ true → k < size d → is_basic d k ≡ true → entry d v k ≡ zeroℚ
  pub costs_free : (k : ℕ) → k < size d → is_basic d k ≡ true → cost_entry d k ≡ zeroℚ
  pub solved : Solves d (value d)
  pub cost_value : d.cost ≡ form (size d) (cost_entry d) (value d)
  pub stands : (v : ℕ) (at : Stand) → v < size d → stand d v ≡ Some at → Stands d v at

-- two states of one program: the sides are the same, numbers solve both or neither, and at them the cost is the same
pub record HasSameSolutions (d e : Dictionary) : Type 0 where
  pub same_sides : d.sides ≡ e.sides
  pub onto : (x : ℕ → ℚ) → Solves d x → Solves e x
  pub back : (x : ℕ → ℚ) → Solves e x → Solves d x
  pub same_cost : (x : ℕ → ℚ) → Solves d x → form (size d) (cost_entry d) x ≡ form (size e) (cost_entry e) x
