-- What an exchange writes.
use Rattle.std.specs.Prelude.{◌≡◌, ℕ, ◌<◌, ◌==◌, true, List, [], ◌∷◌, ◌++◌, length, Option, None, Some, slice_set, slice_index_or, if◌then◌else◌}
use Rattle.cip_rational.specs.Rational.{ℚ, ◌+ℚ◌, ◌-ℚ◌, ◌*ℚ◌}
use Rattle.cip_problem.specs.Activity.{value_at}
use Rattle.cip_bland.specs.Tables.{table, each}
use Rattle.cip_bland.specs.Dictionary.{Dictionary, size, entry, cost_entry}
use Rattle.cip_bland.specs.Exchange.{solved, substituted, moved, moved_cost, entering, exchanged_row, step, way, other_stand}
use Rattle.cip_bland.specs.Operations.{Difference, Product, Placed, value_place, placed, sum_at}
use Rattle.cip_bland.specs.MoveOperations.{solved_operations, substituted_operations}
use Rattle.cip_bland.specs.declared.places.Line.TheVariants.{Row, Cost}
use Rattle.cip_bland.specs.declared.moves.Stand.{Stand}
use Rattle.cip_dict.specs.declared.lists.Lists.{Lists}
use Rattle.cip_dict.specs.declared.lists.Room.{Room}
use Rattle.cip_dict.specs.Lists.{basic_in, entry_in}
use Rattle.cip_dict.specs.Row.{row_in, form_changes, form_operations_in, written_form, taken_form, AreMarked, HasRowsAfter}
use Rattle.cip_dict.specs.Values.{moved_in, moved_operations_in, flipped_operations_in, taken_value}

-- the row of the variable j that enters, where i leaves and q is 1 over its entry on j
abbrev pub entering_in : List (Option Stand) → ℕ → ℕ → ℚ → Lists → ℕ → ℚ
entering_in standing i j q lists = solved (basic_in standing) i j q (entry_in lists.rows.items i)

-- the operations of the other rows and of the row of the cost
abbrev pub other_operations : List (Option Stand) → ℕ → ℕ → ℚ → Lists → List Placed
other_operations standing i j q lists =
    each (length standing)
    (λ v. form_operations_in standing i j q (entering_in standing i j q lists) v (row_in lists.rows.items v))
    ++ each (length standing)
    (substituted_operations Cost (basic_in standing) i j q (entering_in standing i j q lists)
    (value_at lists.costs))

-- and before them those of that row
abbrev pub lines_operations : List (Option Stand) → ℕ → ℕ → ℚ → Lists → List Placed
lines_operations standing i j q lists =
    each (length standing) (solved_operations (Row j) (basic_in standing) i j q (entry_in lists.rows.items i))
    ++ other_operations standing i j q lists

-- the rows that change and the row of the cost are written; what stood there stays where a row doesn't change, and the
-- room for the row that enters and for the values is as it was
pub record OthersWritten
    (standing : List (Option Stand)) (i j : ℕ) (q : ℚ) (lists : Lists) (old new : Room) : Type 0 where
  pub entering : new.entering ≡ old.entering
  pub rows : new.rows.items
      ≡ table (length standing)
      (λ v. written_form standing i j q (entering_in standing i j q lists) v (row_in lists.rows.items v)
      (row_in old.rows.items v))
  pub changed : AreMarked standing i j lists.rows.items new.changed.items
  pub costs : new.costs
      ≡ table (length standing)
      (substituted (basic_in standing) i j q (entering_in standing i j q lists) (value_at lists.costs))

-- and so is the row that enters
pub record LinesWritten
    (standing : List (Option Stand)) (i j : ℕ) (q : ℚ) (lists : Lists) (old new : Room) : Type 0 where
  pub entering : new.entering ≡ table (length standing) (entering_in standing i j q lists)
  pub rows : new.rows.items
      ≡ table (length standing)
      (λ v. written_form standing i j q (entering_in standing i j q lists) v (row_in lists.rows.items v)
      (row_in old.rows.items v))
  pub changed : AreMarked standing i j lists.rows.items new.changed.items
  pub costs : new.costs
      ≡ table (length standing)
      (substituted (basic_in standing) i j q (entering_in standing i j q lists) (value_at lists.costs))

-- ---- values

-- the operations of the values and of the cost, where j moves by t
abbrev pub moves_operations : List (Option Stand) → ℕ → ℚ → Lists → List Placed
moves_operations standing j t lists =
    each (length standing) (moved_operations_in standing lists.rows.items j t lists.values.items)
    ++ sum_at (value_place Cost) lists.cost (value_at lists.costs j) t

-- the values of basic variables and of j are written, and the cost is this; the room for rows is as it was
pub record MovesWritten
    (standing : List (Option Stand)) (j : ℕ) (t : ℚ) (lists : Lists) (old new : Room) (cost : ℚ) : Type 0 where
  pub entering : new.entering ≡ old.entering
  pub rows : new.rows.items ≡ old.rows.items
  pub changed : new.changed.items ≡ old.changed.items
  pub costs : new.costs ≡ old.costs
  pub values : table (length standing) (taken_value standing j lists.values.items new.values.items)
      ≡ table (length standing) (moved_in standing lists.rows.items j t lists.values.items)
  pub cost_is : cost ≡ lists.cost +ℚ value_at lists.costs j *ℚ t

-- by how much j moves, where i leaves to a side and q is 1 over its entry on j
abbrev pub step_in : ℕ → ℚ → ℚ → Lists → ℚ
step_in i side q lists = (side -ℚ value_at lists.values.items i) *ℚ q

-- the operations of that, and of the values and the cost
abbrev pub values_operations : List (Option Stand) → ℕ → ℕ → ℚ → ℚ → Lists → List Placed
values_operations standing i j side q lists =
    (placed (value_place (Row i)) (Difference side (value_at lists.values.items i))
    ∷ placed (value_place (Row i)) (Product (side -ℚ value_at lists.values.items i) q) ∷ [])
    ++ moves_operations standing j (step_in i side q lists) lists

-- ---- an exchange

-- all that an exchange changes is written: the row that enters, the rows that change, the costs and the values; and
-- the cost is this
pub record IsPlanned (d : Dictionary) (i j : ℕ) (to : Stand) (room : Room) (cost : ℚ) : Type 0 where
  pub entering : room.entering ≡ table (size d) (entering d i j)
  pub rows : (v : ℕ) → v < size d → form_changes d.standing i j v (row_in d.rows v) ≡ true
      → row_in room.rows.items v ≡ table (size d) (exchanged_row d i j (entry d v))
  pub changed : AreMarked d.standing i j d.rows room.changed.items
  pub costs : room.costs ≡ table (size d) (exchanged_row d i j (cost_entry d))
  pub values : table (size d) (taken_value d.standing j d.values room.values.items)
      ≡ table (size d) (moved d j (step d i j to))
  pub cost_is : cost ≡ moved_cost d j (step d i j to)

-- row v after `new` has come in for i, whose place j has taken
abbrev pub entered_form : ℕ → ℕ → List (List ℚ) → List ℚ → ℕ → List ℚ
entered_form i j rows new v =
    if v == i then row_in rows j else (if v == j then new else row_in rows v)

-- what is written has come in for what it replaces, and has left its room to that
pub record IsTakenOver
    (standing : List (Option Stand)) (i j : ℕ) (to : Stand) (cost : ℚ) (lists : Lists) (room : Room)
    (later : List (Option Stand)) (new : Lists) (rest : Room) : Type 0 where
  pub stands : later ≡ slice_set (slice_set standing i (Some to)) j None
  pub rows : (v : ℕ) → v < length standing → row_in new.rows.items v
      ≡ entered_form i j (table (length standing) (taken_form standing i j lists.rows.items room.rows.items))
      room.entering v
  pub costs : new.costs ≡ room.costs
  pub values : new.values.items
      ≡ table (length standing) (taken_value standing j lists.values.items room.values.items)
  pub cost_is : new.cost ≡ cost
  pub long : HasRowsAfter standing i j new.rows.items
  pub rest_long : HasRowsAfter standing i j rest.rows.items
  pub rest_entering : length rest.entering ≡ length standing
  pub rest_changed : length rest.changed.items ≡ length standing
  pub rest_costs : rest.costs ≡ lists.costs
  pub rest_values : length rest.values.items ≡ length standing

-- ---- a flip

-- the operations of the values and of the cost, where j flips by t
abbrev pub flips_operations : List (Option Stand) → ℕ → ℚ → Lists → List Placed
flips_operations standing j t lists =
    each (length standing) (flipped_operations_in standing lists.rows.items j t lists.values.items)
    ++ sum_at (value_place Cost) lists.cost (value_at lists.costs j) t

-- the values and the cost that a flip changes are written
pub record IsFlipPlanned (d : Dictionary) (j : ℕ) (old new : Room) (cost : ℚ) : Type 0 where
  pub entering : new.entering ≡ old.entering
  pub rows : new.rows.items ≡ old.rows.items
  pub changed : new.changed.items ≡ old.changed.items
  pub costs : new.costs ≡ old.costs
  pub values : table (size d) (taken_value d.standing j d.values new.values.items)
      ≡ table (size d) (moved d j (way d j))
  pub cost_is : cost ≡ moved_cost d j (way d j)

-- what a flip wrote has come in for what it replaces
pub record IsFlipTaken
    (standing : List (Option Stand)) (j : ℕ) (cost : ℚ) (lists : Lists) (room : Room)
    (later : List (Option Stand)) (new : Lists) (rest : Room) : Type 0 where
  pub stands : later ≡ slice_set standing j (Some (other_stand (slice_index_or standing j None)))
  pub rows : new.rows.items ≡ lists.rows.items
  pub costs : new.costs ≡ lists.costs
  pub values : new.values.items
      ≡ table (length standing) (taken_value standing j lists.values.items room.values.items)
  pub cost_is : new.cost ≡ cost
  pub rest_entering : rest.entering ≡ room.entering
  pub rest_rows : rest.rows.items ≡ room.rows.items
  pub rest_changed : rest.changed.items ≡ room.changed.items
  pub rest_costs : rest.costs ≡ room.costs
  pub rest_values : length rest.values.items ≡ length standing
