-- The operations of a move, in their order. Those of an exchange: the row of the variable that enters, by rising
-- variable; the other rows, by rising row, then variable; the row of the cost; by how much the variable that enters
-- moves; the values, by rising variable; and the cost. Those of a flip: how far the variable goes; the values of the
-- basic variables, by rising number; and the cost. (1 over a number never overflows.)
use Rattle.std.specs.Prelude.{ℕ, ◌==◌, Bool, true, false, ◌&&◌, not, List, [], ◌∷◌, ◌++◌, Option, None, Some, if◌then◌else◌}
use Rattle.cip_rational.specs.Rational.{ℚ, negate}
use Rattle.cip_problem.specs.Box.{sides_at}
use Rattle.cip_bland.specs.Tables.{each, least}
use Rattle.cip_bland.specs.Dictionary.{Dictionary, size, stand, is_basic, entry, cost_entry, value, standing_value}
use Rattle.cip_bland.specs.Exchange.{is_absent, pivot, entering, distance, step, other_stand, way}
use Rattle.cip_bland.specs.Operations.{Sum, Difference, Product, Placed, entry_place, value_place, placed, product_at, sum_at}
use Rattle.cip_bland.specs.declared.moves.Stand.{Stand}
use Rattle.cip_bland.specs.declared.moves.Move.{Move}
use Rattle.cip_bland.specs.declared.moves.Move.TheVariants.{Exchange, Flip}
use Rattle.cip_bland.specs.declared.places.Line.{Line}
use Rattle.cip_bland.specs.declared.places.Line.TheVariants.{Row, Cost}
use Rattle.cip_bland.specs.declared.places.EntryPlace.{EntryPlace}

-- of an entry of the row of the variable that enters
abbrev pub solved_operations_at : EntryPlace → Bool → Bool → ℚ → ℚ → List Placed
solved_operations_at place true absent q a = []
solved_operations_at place false true q a = []
solved_operations_at place false false q a = product_at place (negate a) q

-- of that row
abbrev pub solved_operations : Line → (ℕ → Bool) → ℕ → ℕ → ℚ → (ℕ → ℚ) → ℕ → List Placed
solved_operations line basic i j q row k =
    solved_operations_at (entry_place line k) (k == i) (is_absent basic j k) q (row k)

-- of an entry of another row
abbrev pub substituted_operations_at : EntryPlace → Bool → Bool → ℚ → ℚ → ℚ → ℚ → List Placed
substituted_operations_at place true absent q a b c = product_at place b q
substituted_operations_at place false true q a b c = []
substituted_operations_at place false false q a b c = sum_at place a b c

-- of another row
abbrev pub substituted_operations : Line → (ℕ → Bool) → ℕ → ℕ → ℚ → (ℕ → ℚ) → (ℕ → ℚ) → ℕ → List Placed
substituted_operations line basic i j q new row k =
    substituted_operations_at (entry_place line k) (k == i) (is_absent basic j k) q (row k) (row j) (new k)

-- of a line other than that of the variable that enters
abbrev pub line_operations : Dictionary → ℕ → ℕ → Line → (ℕ → ℚ) → List Placed
line_operations d i j line row =
    each (size d) (substituted_operations line (is_basic d) i j (pivot d i j) (entering d i j) row)

-- of the row of a variable, if it is basic and stays so
abbrev pub row_operations : Dictionary → ℕ → ℕ → ℕ → List Placed
row_operations d i j h = if is_basic d h && not (h == i) then line_operations d i j (Row h) (entry d h) else []

-- of the value of a variable, where j moves by t
abbrev pub moved_operations_at : EntryPlace → Bool → Bool → ℚ → ℚ → ℚ → List Placed
moved_operations_at place true basic t v a = placed place (Sum v t) ∷ []
moved_operations_at place false true t v a = sum_at place v a t
moved_operations_at place false false t v a = []

abbrev pub moved_operations : Dictionary → ℕ → ℚ → ℕ → List Placed
moved_operations d j t v =
    moved_operations_at (value_place (Row v)) (v == j) (is_basic d v) t (value d v) (entry d v j)

-- of the cost
abbrev pub cost_operations : Dictionary → ℕ → ℚ → List Placed
cost_operations d j t = sum_at (value_place Cost) d.cost (cost_entry d j) t

-- of the way by which the variable that enters moves: the difference, and its product with 1 over the entry
abbrev pub step_operations : Dictionary → ℕ → ℕ → Stand → List Placed
step_operations d i j to =
    placed (value_place (Row i)) (Difference (standing_value (sides_at d.sides i) to) (value d i))
    ∷ placed (value_place (Row i)) (Product (distance d i to) (pivot d i j)) ∷ []

-- of an exchange
abbrev pub exchange_operations : Dictionary → ℕ → ℕ → Stand → List Placed
exchange_operations d i j to =
    each (size d) (solved_operations (Row j) (is_basic d) i j (pivot d i j) (entry d i))
    ++ (each (size d) (row_operations d i j)
    ++ (line_operations d i j Cost (cost_entry d)
    ++ (step_operations d i j to
    ++ (each (size d) (moved_operations d j (step d i j to)) ++ cost_operations d j (step d i j to)))))

-- the line of the first basic variable, and that of the cost where there is none
abbrev pub first_line : Option ℕ → Line
first_line None = Cost
first_line (Some v) = Row v

-- of the value of a basic variable, where j flips
abbrev pub flipped_operations : Dictionary → ℕ → ℕ → List Placed
flipped_operations d j v =
    if is_basic d v then sum_at (value_place (Row v)) (value d v) (entry d v j) (way d j) else []

-- of a flip
abbrev pub flip_operations : Dictionary → ℕ → List Placed
flip_operations d j =
    placed (value_place (first_line (least (size d) (is_basic d))))
    (Difference (standing_value (sides_at d.sides j) (other_stand (stand d j))) (value d j))
    ∷ (each (size d) (flipped_operations d j) ++ cost_operations d j (way d j))

-- of a move
abbrev pub move_operations : Dictionary → Move → List Placed
move_operations d (Exchange i j to) = exchange_operations d i j to
move_operations d (Flip j) = flip_operations d j
