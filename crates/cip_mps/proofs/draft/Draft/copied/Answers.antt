use Rattle.std.proofs.Common.{◌≡◌, ◌∙◌, List, [], length, map, ap, sym, arith}
use Rattle.std.specs.Prelude.{if◌then◌else◌}
use Rattle.std.specs.List.{list_any}
use Rattle.cip_text_rules.specs.MpsBounds.{Bounded, settled, is_semi, column_sides, choice_of}
use Rattle.cip_text_rules.specs.MpsState.{costs_from, objective_row}
use Rattle.cip_mps.proofs.draft.Draft.copied.Goals as goal

pub returns : goal.returns
returns c =
    let self = c.args.self.now in
    let all = c.as_slice-columns.ensures.value in
    let long : length c.as_slice-columns.result.now ≡ length self.column_names = omega (arith, ap length all, self.columns.ok.0, self.columns_named) in
    record {
      row_names = c.in-Ok-names_of.ensures;
      costs = c.in-Ok-objective_costs.ensures ∙ ap (λ n. costs_from self.sense (objective_row self.rows).held 0 n) long;
      whole = c.in-Ok.ensures ∙ ap (λ (columns : List Bounded). map (λ column. (settled column).whole) columns) all;
      bounds = c.in-Ok-bounds_of.ensures ∙ ap (λ (columns : List Bounded). map (λ column. column_sides (settled column)) columns) all;
      choices =
          c.in-Ok-choices_of.ensures
          ∙ ap (λ (columns : List Bounded). if list_any (λ column. is_semi (settled column)) columns then map (λ column. choice_of (settled column)) columns else []) all;
    }

pub names_of-requires : goal.names_of-requires
names_of-requires c = sym c.args.self.now.rows_named
