-- The codes by which a proof tells pools apart: each is stored as the tuple of its fields.
use Rattle.std.specs.Prelude.{ℕ, Bool, List, refl}
use Rattle.std.specs.Coded.{Coded, code_by, coded×, coded_ℕ, coded_bool, coded_list}
use Rattle.cip_problem.specs.Program.{Row, Sides}
use Rattle.cip_problem.specs.Codes.{row_code, box_code}
use Rattle.cip_cert.specs.declared.rows.PoolRow.{PoolRow}
use Rattle.cip_rows.specs.RowPools.{Pool}

-- id, row, scope and whether it rests
abbrev pub pool_row_code : Coded PoolRow
pool_row_code =
    code_by (ℕ × (Row × (List Sides × Bool))) (coded× coded_ℕ (coded× row_code (coded× box_code coded_bool)))
    (λ r. (r.id, (r.row, (r.scope, r.rests))))
    (λ p. record { id = p.0; row = p.1.0; scope = p.1.1.0; rests = p.1.1.1 }) (λ _. refl)

-- rows of a pool
abbrev pub pool_rows_code : Coded (List PoolRow)
pool_rows_code = coded_list pool_row_code

-- columns, rows and the next id
abbrev pub pool_code : Coded Pool
pool_code =
    code_by (ℕ × (List PoolRow × ℕ)) (coded× coded_ℕ (coded× pool_rows_code coded_ℕ))
    (λ p. (p.columns, (p.rows, p.next))) (λ t. record { columns = t.0; rows = t.1.0; next = t.1.1 }) (λ _. refl)
