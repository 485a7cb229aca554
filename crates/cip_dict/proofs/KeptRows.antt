-- What is kept of the rows of a dictionary, and of its cost.
use Rattle.std.proofs.Common.{◌≡◌, ℕ, ◌<◌, true, cond, List, length, get_or, Option, sym, ap, ◌∙◌, subst, arith}
use Rattle.cip_rational.specs.Rational.{ℚ}
use Rattle.cip_problem.specs.Program.{Sides}
use Rattle.cip_problem.specs.Activity.{value_at}
use Rattle.cip_bland.specs.Dictionary.{Dictionary, size, is_basic, entry, cost_entry}
use Rattle.cip_bland.specs.declared.moves.Stand.{Stand}
use Rattle.cip_dict.specs.declared.lists.Lists.{Lists}
use Rattle.cip_dict.specs.declared.lists.Room.{Room}
use Rattle.cip_dict.specs.Row.{row_in}
use Rattle.cip_dict.specs.SparseLines.{kept_of}
use Rattle.cip_dict.specs.State.{state, IsShaped}
use Rattle.cip_dict.proofs.RowLists.{row_read}

pub row_kept : (sides : List Sides) (standing : List (Option Stand)) (lists : Lists) (room : Room) (d : Dictionary) (i : ℕ) (row : List ℚ) → IsShaped sides standing lists room → state sides standing lists ≡ d → i < size d → is_basic d i ≡ true → row ≡ get_or lists.rows.items i row → kept_of (length row) (value_at row) ≡ kept_of (size d) (entry d i)
row_kept sides standing lists room d i row shaped view within basic is =
    subst (λ (d : Dictionary). i < size d → is_basic d i ≡ true → kept_of (length row) (value_at row) ≡ kept_of (size d) (entry d i)) view
    (λ l b.
    let r : row ≡ row_in lists.rows.items i = row_read lists.rows.items i row (omega (arith, l, shaped.sides_long, shaped.lists_long.rows.each_one)) is in
    let n : length row ≡ length sides = ap length r ∙ shaped.lists_long.rows.long i (omega (arith, l, shaped.sides_long)) ∙ ap (λ t. cond t (length standing) 0) b ∙ sym shaped.sides_long in
    ap (λ m. kept_of m (value_at row)) n ∙ ap (λ (xs : List ℚ). kept_of (length sides) (value_at xs)) r)
    within basic

pub costs_kept : (sides : List Sides) (standing : List (Option Stand)) (lists : Lists) (room : Room) (d : Dictionary) → IsShaped sides standing lists room → state sides standing lists ≡ d → kept_of (length lists.costs) (value_at lists.costs) ≡ kept_of (size d) (cost_entry d)
costs_kept sides standing lists room d shaped view =
    subst (λ (d : Dictionary). kept_of (length lists.costs) (value_at lists.costs) ≡ kept_of (size d) (cost_entry d)) view
    (ap (λ m. kept_of m (value_at lists.costs)) (shaped.lists_long.costs ∙ sym shaped.sides_long))
