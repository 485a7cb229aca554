-- The lists of a program that is drawn fit together.
use Rattle.std.proofs.Common.{◌≡◌, ℕ, ◌≤◌, true, map, length, get_or, arith, sym, ◌∙◌}
use Rattle.std.specs.List.{range_with_len}
use Rattle.std.proofs.lemmas.List.{length-replicate}
use Rattle.std.proofs.lemmas.List.Elements.{All-map}
use Rattle.std.proofs.lemmas.List.FromFn.{length-map-range_with_len}
use Rattle.cip_problem.specs.Program.{Row}
use Rattle.cip_problem.specs.Activity.{StandsBelow}
use Rattle.cip_problem.specs.WellFormed.{IsWellFormed}
use Rattle.cip_input.specs.Generated.{most_drawn, cost_from, row_from, row_start, name_of, zero_to_three, generated}
use Rattle.cip_input.proofs.DrawLaws.{terms_below}

pub generated_are_formed : (seed columns rows : ℕ) → columns ≤ most_drawn → rows ≤ most_drawn → IsWellFormed (generated seed columns rows)
generated_are_formed seed columns rows few_columns few_rows =
    let many : length (map (cost_from seed) (range_with_len 0 columns)) ≡ columns = length-map-range_with_len (cost_from seed) 0 columns in
    let heads : length (map (λ row. row_from columns (row_start seed columns row)) (range_with_len 0 rows)) ≡ rows =
    length-map-range_with_len (λ row. row_from columns (row_start seed columns row)) 0 rows in
    record {
      column_names = length-map-range_with_len (name_of 120) 0 columns ∙ sym many;
      integral = length-replicate columns true ∙ sym many;
      bounds = length-replicate columns zero_to_three ∙ sym many;
      row_names = length-map-range_with_len (name_of 114) 0 rows ∙ sym heads;
      few_columns = omega (arith, many, few_columns);
      few_rows = omega (arith, heads, few_rows);
      rows =
          All-map (λ (row : Row). StandsBelow (length (map (cost_from seed) (range_with_len 0 columns))) row.terms)
          (λ row. row_from columns (row_start seed columns row)) (range_with_len 0 rows)
          (λ k d l. terms_below columns (length (map (cost_from seed) (range_with_len 0 columns))) (row_start seed columns (get_or (range_with_len 0 rows) k d)) (omega (arith, many)));
      choices = λ column. tt;
    }
