-- What a program takes of the names and numbers of a draft.
use Rattle.std.specs.Prelude.{◌≡◌, if◌then◌else◌, [], length, map}
use Rattle.std.specs.List.{list_any}
use Rattle.cip_text_rules.specs.MpsBounds.{settled, is_semi, column_sides, choice_of}
use Rattle.cip_text_rules.specs.MpsState.{objective_row, kept_names, costs_from}
use Rattle.cip_mps.specs.declared.draft.Draft.{Draft}
use Rattle.cip_mps.specs.declared.program.Copied.{Copied}

-- the names of rows, the costs, the whole columns, the bounds and the choices are those of the draft
pub record IsCopied (draft : Draft) (copied : Copied) : Type 0 where
  pub row_names : copied.row_names ≡ kept_names draft.row_names draft.rows
  pub costs : copied.costs.items ≡ costs_from draft.sense (objective_row draft.rows).held 0 (length draft.column_names)
  pub whole : copied.whole.items ≡ map (λ column. (settled column).whole) draft.columns.items
  pub bounds : copied.bounds ≡ map (λ column. column_sides (settled column)) draft.columns.items
  pub choices : copied.choices
      ≡ (if list_any (λ column. is_semi (settled column)) draft.columns.items
      then map (λ column. choice_of (settled column)) draft.columns.items else [])
