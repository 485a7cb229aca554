-- Rows alone, without a pool and without a cutoff row.
use Rattle.std.proofs.Common.{ℕ, List, arith}
use Rattle.std.specs.Prelude.{All}
use Rattle.std.proofs.lemmas.List.Elements.{All-nil}
use Rattle.cip_problem.specs.Program.{Row}
use Rattle.cip_problem.specs.Activity.{StandsBelow}
use Rattle.cip_cert.specs.Lent.{KeptFits, Fits}
use Rattle.cip_lagrange.specs.TreeMeaning.{own_rows}

pub fits_alone : (rows : List Row) (n : ℕ) → All (λ row. StandsBelow n row.terms) rows → Fits n (own_rows rows)
fits_alone rows n h = record {
  own = h;
  pool = All-nil (KeptFits n);
  rising = λ j k default a b. absurd (omega (arith, b));
  cutoff = tt;
}
