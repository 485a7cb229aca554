-- What is said where a check accepts or refuses what an answer says.
use Rattle.std.proofs.Common.{◌≡◌, ℕ, List, map, length, None, Some, Err, Vec, Global, inl, inr, sym, subst}
use Rattle.cip_rational.specs.Rational.{ℚ, ◌+ℚ◌}
use Rattle.cip_problem.specs.Program.{Sides, Row, Program}
use Rattle.cip_lin.specs.declared.combos.Combo.{Combo}
use Rattle.cip_cert.specs.Lent.{Lent, multiples_of}
use Rattle.cip_cert.specs.Checks.{emptied}
use Rattle.cip_cert.specs.declared.faults.CutFault.{CutFault}
use Rattle.cip_simplex.specs.Reached.{IsOptimumBy, IsEmptyBy}
use Rattle.cip_simplex.specs.declared.answers.LpAnswer.{LpAnswer}
use Rattle.cip_simplex.specs.declared.answers.LpAnswer.TheVariants.{Optimal, Infeasible}
use Rattle.cip_relax.specs.NodeRows.{usable_ids, named_multiple}
use Rattle.cip_relax.specs.Relaxing.{node_program, IsCostFault, RefusesOptimum, RefusesEmptiness, ShowsLeast, IsRelaxed}
use Rattle.cip_relax.specs.Solving.{SaysRight}
use Rattle.cip_relax.specs.declared.relaxed.Mark.TheVariants.{Refused}
use Rattle.cip_relax.specs.declared.relaxed.Relaxed.{Relaxed}
use Rattle.cip_relax.specs.declared.relaxed.Relaxed.TheVariants.{Unsolved}
use Rattle.cip_relax.proofs.Naming.{named_combo}

module _ (program : Program) (lent : Lent) (box : List Sides) (columns : ℕ) (own : List Row) (ids : List ℕ) (found : LpAnswer) (combo now : Combo) (fault : CutFault) (result : Relaxed) (same : own ≡ program.rows) (names : ids ≡ usable_ids box lent.pool) (says : SaysRight (node_program program lent box) found) (rows : now.rows.items ≡ map (named_multiple (length own) ids) combo.rows.items) (lows : now.lows.items ≡ combo.lows.items) (highs : now.highs.items ≡ combo.highs.items) where
  -- an optimum
  pub optimum_refused : (point : Vec ℚ Global) (cost : ℚ) → found ≡ Optimal point combo cost → IsCostFault program lent box columns (multiples_of now) cost fault → result ≡ Unsolved (Refused now fault) (Some point) None → IsRelaxed program lent box columns result
  optimum_refused point cost is wrong e =
      let by : IsOptimumBy (node_program program lent box) point.items combo cost = subst (SaysRight (node_program program lent box)) is says in
      let refuses : RefusesOptimum program lent box columns now fault = record {
        point = point.items;
        cost = cost;
        found = record {
          certificate = by.certificate;
          right = by.right;
          named = named_combo program lent box own ids by.certificate combo now same names by.is_combo rows lows highs;
        };
        fault_is = wrong;
      } in
      subst (IsRelaxed program lent box columns) (sym e) (inl refuses, (by.right.optimal.is_point, tt))

  -- that there is no point
  pub emptiness_refused : found ≡ Infeasible combo → emptied lent box columns (multiples_of now) ≡ Err fault → result ≡ Unsolved (Refused now fault) None None → IsRelaxed program lent box columns result
  emptiness_refused is wrong e =
      let by : IsEmptyBy (node_program program lent box) combo = subst (SaysRight (node_program program lent box)) is says in
      let refuses : RefusesEmptiness program lent box columns now fault = record {
        found = record {
          certificate = by.certificate;
          right = by.right;
          named = named_combo program lent box own ids by.certificate combo now same names by.is_combo rows lows highs;
        };
        fault_is = wrong;
      } in
      subst (IsRelaxed program lent box columns) (sym e) (inr refuses, (tt, tt))

-- an optimum is accepted
pub optimum_accepted : (program : Program) (lent : Lent) (box : List Sides) (found : LpAnswer) (combo : Combo) (point : Vec ℚ Global) (cost bound : ℚ) → SaysRight (node_program program lent box) found → found ≡ Optimal point combo cost → bound ≡ program.constant +ℚ cost → ShowsLeast program lent box point.items bound
optimum_accepted program lent box found combo point cost bound says is sum =
    let by : IsOptimumBy (node_program program lent box) point.items combo cost = subst (SaysRight (node_program program lent box)) is says in
    record { cost = cost; optimal = by.right.optimal; is_bound = sum }
