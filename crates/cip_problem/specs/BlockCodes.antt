-- The codes by which a proof tells blocks apart: each is stored as the tuple of its fields.
use Rattle.std.specs.Prelude.{ℕ, List, refl}
use Rattle.std.specs.Coded.{Coded, code_by, coded×, coded_ℕ, coded_list}
use Rattle.cip_problem.specs.BlockParts.{BlockPart, Blocks}

-- rows and columns
abbrev pub part_code : Coded BlockPart
part_code =
    code_by (List ℕ × List ℕ) (coded× (coded_list coded_ℕ) (coded_list coded_ℕ))
    (λ p. (p.rows, p.columns)) (λ t. record { rows = t.0; columns = t.1 }) (λ _. refl)

-- blocks, master rows and columns of no block
abbrev pub blocks_code : Coded Blocks
blocks_code =
    code_by (List BlockPart × (List ℕ × List ℕ))
    (coded× (coded_list part_code) (coded× (coded_list coded_ℕ) (coded_list coded_ℕ)))
    (λ b. (b.blocks, (b.master_rows, b.free_columns)))
    (λ t. record { blocks = t.0; master_rows = t.1.0; free_columns = t.1.1 })
    (λ _. refl)
