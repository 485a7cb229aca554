-- What a contract sees of a row that is walked over by touched columns, and what holds of it.
use Rattle.std.specs.Prelude.{◌*◌, ◌≤◌, length, vec_len}
use Rattle.std.specs.Vec.{vec_capacity}
use Rattle.cip_problem.specs.Limits.{most_columns}
use Rattle.cip_cert.specs.Touched.{Touched, Tells}
use Rattle.cip_cert.specs.declared.sparse.SparseRow.TheInside.{Inside}

-- the coefficients, and the touched columns
abbrev pub shown : Inside → Touched
shown row = record { entries = row.entries.items; touched = row.touched.items }

-- the touched columns tell the coefficients, and there is room to touch twice as many as there are columns
pub record IsSound (row : Inside) : Type 0 where
  pub few : length row.entries.items ≤ most_columns
  pub tells : Tells row.entries.items row.touched.items
  pub short : vec_len row.touched ≤ 2 * length row.entries.items
  pub room : 2 * length row.entries.items ≤ vec_capacity row.touched
