-- A program that is drawn, as a task.
use Rattle.std.specs.Prelude.{◌≡◌, ℕ, zero, suc, ◌^◌, ◌≤◌, Option, Some, pos, refl, replicate}
use Rattle.std.specs.List.{AllByRecursion}
use Rattle.std.proofs.Common.{sym, subst}
use Rattle.std.proofs.lemmas.List.Elements.{All-from_recursion}
use Rattle.cip_rational.specs.Rational.{integer, absolute, ratio, whole, negate, zeroℚ, ◌<ℚ◌, le_test, lt_test}
use Rattle.cip_problem.specs.Program.{Program}
use Rattle.cip_problem.specs.NearSides.{HasNearSides}
use Rattle.cip_problem.specs.WellFormed.{IsWellFormed}
use Rattle.cip_input.specs.Generated.{most_drawn, natural, zero_to_three, generated, entries_of}
use Rattle.cip_input.specs.TaskStatements.{GeneratedAreFormed}
use Rattle.cip_input.specs.LimitedModels.{IsLimited}
use Rattle.cip_input.proofs.NearSides.{zero_near}
use Rattle.cip_io.specs.Store.{StoreTells}
use Rattle.cip_input.specs.Jobs.{Job, Generate}
use Rattle.cip_input.specs.Tasks.{IsDrawn}

-- ---- its sides are near

three_near : absolute (natural 3) <ℚ integer (pos (10 ^ 20))
unfolding absolute lt_test le_test integer ratio whole negate zeroℚ
three_near = record { lt = tt }

sides_near : HasNearSides zero_to_three
sides_near = record { low = zero_near; high = three_near }

all_near : (columns : ℕ) → AllByRecursion HasNearSides (replicate columns zero_to_three)
all_near zero = tt
all_near (suc n) = (sides_near, all_near n)

generated_limited : (seed columns rows : ℕ) → IsWellFormed (generated seed columns rows) → IsLimited (generated seed columns rows)
generated_limited seed columns rows formed = record {
  well_formed = formed;
  near = All-from_recursion HasNearSides (replicate columns zero_to_three) (all_near columns);
  own = λ column. tt;
}

-- ---- the task

pub is_drawn : (job : Option Job) (store : StoreTells) (program : Program) (seed columns rows entries : ℕ) → GeneratedAreFormed → columns ≤ most_drawn → rows ≤ most_drawn → program ≡ generated seed columns rows → entries ≡ entries_of program → job ≡ Some (Generate seed columns rows) → IsDrawn job store store program seed columns rows entries
is_drawn job store program seed columns rows entries formed few_columns few_rows is counted asked = record {
  asked = asked;
  is_drawn = is;
  counted = counted;
  untouched = refl;
  limited = subst IsLimited (sym is) (generated_limited seed columns rows (formed seed columns rows few_columns few_rows));
}
