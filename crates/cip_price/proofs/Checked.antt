-- The check of a block's tree.
use Rattle.std.proofs.Common.{◌≡◌, ℕ, ◌≤◌, Bool, List, length, Some, sym, ap, ap₂, ◌∙◌, subst, arith, slice_get}
use Rattle.cip_rational.specs.Rational.{ℚ}
use Rattle.cip_problem.specs.Program.{Row}
use Rattle.cip_problem.specs.Log.{Node}
use Rattle.cip_problem.specs.WellFormed.{columns, IsWellFormed}
use Rattle.cip_pricing.specs.Decomposition.{Conditions, conditions_of}
use Rattle.cip_pricing.proofs.Picked.{length_picked}
use Rattle.cip_cert.specs.declared.pricing.BoundTree.{BoundTree}
use Rattle.cip_cert.specs.Lent.{Fits}
use Rattle.cip_lagrange.specs.declared.parts.Subproblem.{Subproblem}
use Rattle.cip_lagrange.specs.Decompositions.{owners_in}
use Rattle.cip_lagrange.specs.TreeOutcomes.{tree_outcome}
use Rattle.cip_lagrange.specs.TreeMeaning.{own_rows}
use Rattle.cip_lagrange.proofs.Ready.{are_ready}
use Rattle.cip_lagrange.proofs.RowsAlone.{fits_alone}
use Rattle.cip_master.proofs.OnePointMore.{picked_few}
use Rattle.cip_master.specs.MasterTasks.{Task, IsTask}
use Rattle.cip_price.specs.BlockAsks.{block_node, bound_if_ok, shown_by}

module _ (task : Task) (well : IsWellFormed task.program) (ok : IsTask task) (block : ℕ) (part : Subproblem)
    (e : slice_get task.kept.subproblems.items block ≡ Some part) where
  box_long : length (block_node task block).box ≡ length part.whole.items
  box_long =
      length_picked (Some block) task.kept.column_owners.items task.box task.program.integral
      (ok.box_ ∙ sym well.integral)
      ∙ sym (ap length (ok.made.subproblems block part e).whole)

  pub part_fits : (n : ℕ) → n ≡ length (block_node task block).box → Fits n (own_rows part.rows.items)
  part_fits n f =
      let ready = are_ready task.program task.kept well ok.made (columns task.program) (omega arith) in
      subst (λ m. Fits m (own_rows part.rows.items)) (sym (f ∙ box_long))
      (fits_alone part.rows.items (length part.whole.items) (ready.each block part e).can.rows)

  pub part_few : length (block_node task block).box ≤ columns task.program
  part_few =
      let each : length task.kept.column_owners.items ≡ columns task.program = ok.made.decomposed.each_column in
      omega (arith, each, picked_few (Some block) task.kept.column_owners.items task.box)

  pub flags_long : length part.whole.items ≡ length (block_node task block).box
  flags_long = sym box_long

  -- what is checked is what is asked
  pub outcome_is : (rows : List Row) (whole : List Bool) (given costs : List ℚ) (tree : BoundTree) (node : Node)
      (room : ℕ) → rows ≡ part.rows.items → whole ≡ part.whole.items → given ≡ costs → node ≡ block_node task block
      → room ≡ columns task.program
      → bound_if_ok (tree_outcome (record { lent = own_rows rows; integral = whole; room = room; costs = given }) 1 tree
      node)
      ≡ shown_by task costs block (Some tree)
  outcome_is rows whole given costs tree node room e1 e2 e3 e4 e5 =
      let asked : Conditions = conditions_of task.program (owners_in task.kept) block in
      let s = ok.made.subproblems block part e in
      ap (λ (rs : List Row). bound_if_ok (tree_outcome (record {
        lent = own_rows rs;
        integral = whole;
        room = room;
        costs = given;
      })
      1 tree node))
      (e1 ∙ s.rows)
      ∙ ap (λ (flags : List Bool). bound_if_ok (tree_outcome (record {
        lent = own_rows asked.rows;
        integral = flags;
        room = room;
        costs = given;
      })
      1 tree node))
      (e2 ∙ s.whole)
      ∙ ap (λ (n : ℕ). bound_if_ok (tree_outcome (record {
        lent = own_rows asked.rows;
        integral = asked.integral;
        room = n;
        costs = given;
      })
      1 tree node))
      e5
      ∙ ap₂ (λ (cs : List ℚ) (d : Node). bound_if_ok (tree_outcome (record {
        lent = own_rows asked.rows;
        integral = asked.integral;
        room = columns task.program;
        costs = cs;
      })
      1 tree d))
      e3 e4
