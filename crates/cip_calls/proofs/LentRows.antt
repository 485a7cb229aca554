-- The rows that are lent to checks hold at improving points, and so does a side that a check accepts.
use Rattle.std.proofs.Common.{◌≡◌, ℕ, zero, suc, Bool, true, false, List, [], ◌∷◌, Some, Result, Ok, Err, sym, ap, true≢false, refl, subst}
use Rattle.std.specs.Prelude.{slice_get, slice_index_or, IsOk, OnOk}
use Rattle.cip_rational.specs.Rational.{ℚ, IsWhole}
use Rattle.cip_problem.specs.Activity.{value_at}
use Rattle.cip_problem.specs.Points.{AreWhole}
use Rattle.cip_problem.proofs.Points.AtPlaces.{whole_at}
use Rattle.cip_problem.specs.Improving.{HoldsInBox, HasNoImproving}
use Rattle.cip_lin.specs.declared.sides.Side.{Side}
use Rattle.cip_lin.specs.declared.sides.Side.TheVariants.{Low, High}
use Rattle.cip_cert.specs.declared.faults.CutFault.{CutFault}
use Rattle.cip_cert.specs.Follows.{EmptinessFollows}
use Rattle.cip_cert.specs.Reductions.{SideFollows}
use Rattle.cip_cert.proofs.Released.{lent_holds}
use Rattle.cip_domain.specs.Changes.{side_change}
use Rattle.cip_domain.specs.Narrowing.{Meets}
use Rattle.cip_core.specs.OpenColumns.{is_whole_at}
use Rattle.cip_core.specs.CoreStates.{CoreState, reduced_of, held_of, all_lent, IsSound}
use Rattle.cip_core.proofs.RowsAdded.{lent_there}
use Rattle.cip_problem.specs.Program.{Sides}
use Rattle.cip_problem.specs.WellFormed.{columns}
use Rattle.cip_cert.specs.Checks.{emptied}
use Rattle.cip_cert.specs.Lent.{Lent, Multiples}
use Rattle.cip_calls.specs.declared.judged.Judged.TheVariants as judged
use Rattle.cip_calls.specs.CutoffsJudged.{by_emptied, cutoff_answer}

-- ---- sides

flag_there : (integral : List Bool) (column : ℕ) → slice_index_or integral column false ≡ true → slice_get integral column ≡ Some true
flag_there [] column e = absurd (true≢false (sym e))
flag_there (w ∷ ws) zero e = ap Some e
flag_there (w ∷ ws) (suc column) e = flag_there ws column e

-- a whole column has a whole value
whole_there : (integral : List Bool) (point : List ℚ) (column : ℕ) → AreWhole integral point → is_whole_at integral column ≡ true → IsWhole (value_at point column)
whole_there integral point column h e = whole_at integral point column h (flag_there integral column e)

pub side_holds : (core : CoreState) (column : ℕ) (side : Side) (value : ℚ) (r : Result ℚ CutFault) → IsSound core → OnOk r (SideFollows side (all_lent core) core.tree.work.box column (is_whole_at (reduced_of core).integral column) value) → IsOk r → HoldsInBox (reduced_of core) (held_of core) core.tree.work.box (λ point. Meets point (side_change column side value))
side_holds core column Low value (Ok v) s f o point i w = record {
  above = f point (lent_holds (reduced_of core) (held_of core) core.tree.work.box (all_lent core) point (lent_there core core.tree.work.box s) i w) w (whole_there (reduced_of core).integral point column i.feasible.whole);
  below = tt;
}
side_holds core column High value (Ok v) s f o point i w = record {
  above = tt;
  below = f point (lent_holds (reduced_of core) (held_of core) core.tree.work.box (all_lent core) point (lent_there core core.tree.work.box s) i w) w (whole_there (reduced_of core).integral point column i.feasible.whole);
}
side_holds core column side value (Err fault) s f o point i w = absurd (let g : false ≡ true = o in cc)

-- ---- emptiness

pub none_there : (core : CoreState) → IsSound core → EmptinessFollows (all_lent core) core.tree.work.box → HasNoImproving (reduced_of core) (held_of core) core.tree.work.box
none_there core s f point i w =
    f point (lent_holds (reduced_of core) (held_of core) core.tree.work.box (all_lent core) point (lent_there core core.tree.work.box s) i w) w

-- what the check says of a combination that shows it
emptied_says : (r : Result ℚ CutFault) → IsOk r → judged.Emptied ≡ by_emptied r
emptied_says (Ok bound) o = refl
emptied_says (Err fault) o = absurd (true≢false (sym o))

pub emptied_there : (core : CoreState) (lent : Lent) (box : List Sides) (n : ℕ) (combo : Multiples) → lent ≡ all_lent core → box ≡ core.tree.work.box → n ≡ columns (reduced_of core) → IsOk (emptied lent box n combo) → judged.Emptied ≡ cutoff_answer core combo
emptied_there core lent box n combo l b c o =
    emptied_says (emptied (all_lent core) core.tree.work.box (columns (reduced_of core)) combo)
    (subst (λ k. IsOk (emptied (all_lent core) core.tree.work.box k combo)) c
    (subst (λ s. IsOk (emptied (all_lent core) s n combo)) b (subst (λ (t : Lent). IsOk (emptied t box n combo)) l o)))
