-- A row that a check accepts is valid in the box in work, and the pool may have it.
use Rattle.std.proofs.Common.{◌≡◌, Bool, true, false, cond, List, length, All, Option, None, Some, arith, refl, sym, subst, true≢false, ◌∙◌, if◌then◌else◌}
use Rattle.std.specs.Prelude.{Result, Ok, Err, MatchResult}
use Rattle.cip_rational.specs.Rational.{ℚ, zeroℚ, ◌-ℚ◌}
use Rattle.cip_rational.specs.Range.{difference_overflows}
use Rattle.cip_rational.proofs.Rational.Order.{≤ℚ_of_lt}
use Rattle.cip_problem.specs.Program.{Sides, Program}
use Rattle.cip_problem.specs.Points.{IsSatisfied}
use Rattle.cip_problem.specs.Activity.{StandsBelow}
use Rattle.cip_problem.specs.WellFormed.{IsWellFormed, columns}
use Rattle.cip_problem.specs.Cuts.{terms_from, row_of, cutoff_row}
use Rattle.cip_problem.specs.Improving.{IsImproving, IsValid}
use Rattle.cip_problem.proofs.Rows.{row_stands, row_satisfied, cutoff_satisfied}
use Rattle.cip_problem.specs.Aggregate.{Inequality}
use Rattle.cip_cert.specs.Lent.{KeptFits, Fits}
use Rattle.cip_cert.specs.Resting.{valid_below, ArePoolRowsValid, IsLentOf}
use Rattle.cip_rows.proofs.ValidPools.{more_valid}
use Rattle.cip_rows.specs.Adding.{IsAdded}
use Rattle.cip_rows.specs.RowPools.{Pool, IsSoundPool, with_row}
use Rattle.cip_rows.specs.declared.pools.Added.{Added}
use Rattle.cip_rows.specs.declared.pools.Added.TheVariants.{New, Known, Full}
use Rattle.cip_tree.specs.Nodes.{TakenNode, shown}
use Rattle.cip_core.specs.CoreStates.{CoreState, reduced_of, held_of, all_lent, IsSound, IsAtWork}
use Rattle.cip_core.specs.CutoffRow.{cutoff_of}
use Rattle.cip_core.specs.Later.{IsLaterAt}
use Rattle.cip_core.specs.RowsAsked.{scope_of}
use Rattle.cip_core.proofs.CoreSteps.{work_long}
use Rattle.cip_core.proofs.HeldAfter.{itself}
use Rattle.cip_core.proofs.Relations.{narrower_itself}

-- the cutoff row holds at improving points
cutoff_case : (program : Program) (cost : ℚ) (point : List ℚ) (wide : Bool) → IsSatisfied (cutoff_row program cost) point → IsSatisfied (record { terms = terms_from 0 program.costs; low = None; high = cond wide None (Some (cost -ℚ program.constant)) }) point
cutoff_case program cost point true h = record { above = tt; below = tt }
cutoff_case program cost point false h = h

cutoff_there : (program : Program) (held : Option ℚ) (point : List ℚ) → IsImproving program held point → IsSatisfied (cutoff_of program held) point
cutoff_there program None point i = record { above = tt; below = tt }
cutoff_there program (Some cost) point i = cutoff_case program cost point (difference_overflows cost program.constant) (cutoff_satisfied program cost point (≤ℚ_of_lt i.cheaper))

-- what is lent to checks is right for each box
pub lent_there : (core : CoreState) (box : List Sides) → IsSound core → IsLentOf (reduced_of core) (held_of core) box (all_lent core)
lent_there core box s = record { own = refl; pool = s.valid; cutoff = λ point i w. cutoff_there (reduced_of core) (held_of core) point i }

-- the cutoff row stands on the program's columns
cutoff_stands : (program : Program) (held : Option ℚ) → StandsBelow (columns program) (cutoff_of program held).terms
cutoff_stands program held = row_stands (record { coefficients = program.costs; least = zeroℚ })

-- what is lent fits the columns
pub lent_fits : (core : CoreState) → IsSound core → IsSoundPool core.pool → IsWellFormed (reduced_of core) → Fits (columns (reduced_of core)) (all_lent core)
lent_fits core s kept formed = record {
  own = formed.rows;
  pool = subst (λ n. All (KeptFits n) core.pool.rows) s.same kept.fits;
  rising = kept.rising;
  cutoff = cutoff_stands (reduced_of core) (held_of core);
}

-- the box in which a row is derived has the program's columns
pub scope_is : (core : CoreState) (local : Bool) (work root scope : List Sides) → scope ≡ (if local then work else root) → work ≡ core.tree.work.box → root ≡ (reduced_of core).bounds → scope ≡ scope_of core local
scope_is core true work root scope e w r = e ∙ w
scope_is core false work root scope e w r = e ∙ r

pub scope_long : (core : CoreState) (node : TakenNode) (local : Bool) → IsWellFormed (reduced_of core) → IsAtWork core node → length (scope_of core local) ≡ columns (reduced_of core)
scope_long core node true formed w = work_long core node formed w
scope_long core node false formed w = formed.bounds

-- a core with another pool
abbrev pub with_pool : CoreState → Pool → CoreState
with_pool core pool = record core { pool = pool; touched = true }

pub sound_kept : (core : CoreState) (pool : Pool) → pool ≡ core.pool → IsSound core → IsSound (with_pool core pool)
sound_kept core pool e s = subst (λ p. IsSound (with_pool core p)) (sym e) (record { is_held = s.is_held; valid = s.valid; same = s.same; bare = λ u. absurd (true≢false u); back = s.back })

pub sound_added : (core : CoreState) (pool : Pool) (row : Inequality) (box : List Sides) (rests : Bool) (added : Added) → IsAdded core.pool (row_of row) box rests pool added → ArePoolRowsValid (reduced_of core) (held_of core) (with_row core.pool (row_of row) box rests).rows → IsSound core → IsSound (with_pool core pool)
sound_added core pool row box rests (New id) a v s =
    subst (λ p. IsSound (with_pool core p)) (sym a.3) (record {
      is_held = s.is_held;
      valid = v;
      same = s.same;
      bare = λ u. absurd (true≢false u);
      back = s.back;
    })
sound_added core pool row box rests (Known id) a v s = sound_kept core pool a.1 s
sound_added core pool row box rests Full a v s = sound_kept core pool a.2 s

-- a valid row was added, or memory was refused
pub sound_given : {E : Type 0} (core : CoreState) (pool : Pool) (row : Inequality) (box : List Sides) (rests : Bool) (r : Result Added E) → MatchResult r (IsAdded core.pool (row_of row) box rests pool) (λ _. pool ≡ core.pool) → IsValid (reduced_of core) (valid_below (held_of core) rests) box row → IsSound core → IsSound (with_pool core pool)
sound_given core pool row box rests (Ok added) a v s =
    sound_added core pool row box rests added a (more_valid (reduced_of core) (held_of core) core.pool (row_of row) box rests s.valid (λ point i w. row_satisfied row point (v point i w))) s
sound_given core pool row box rests (Err e) a v s = sound_kept core pool a s

-- a node in work stays so with another pool
pub later_pooled : (core : CoreState) (pool : Pool) (node : TakenNode) → IsAtWork core node → IsLaterAt core node (with_pool core pool) node
later_pooled core pool node w = record {
  later = record { program = refl; reduced = refl; steps = refl; root = refl; integral = refl; ids = omega arith; no_dearer = itself (held_of core); untouched = λ u. absurd (true≢false u) };
  at_work = record {
    up = record {
      nodes = record { kept = w.up.nodes.kept; matter = w.up.nodes.matter; boxes = λ u. absurd (true≢false u) };
      taken = w.up.taken;
    };
    region = w.region;
  };
  narrower = narrower_itself (with_pool core pool) (shown core.tree node);
  log = refl;
  parked = refl;
  ids = refl;
  same = λ u. refl;
}
