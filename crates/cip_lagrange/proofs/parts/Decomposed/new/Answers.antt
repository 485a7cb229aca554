use Rattle.std.proofs.Common.{◌≡◌, ◌<◌, ℕ, List, length, IfSome, sym, ap, ap₂, ◌∙◌, subst, arith}
use Rattle.std.specs.Prelude.{All}
use Rattle.cip_problem.specs.Program.{Row}
use Rattle.cip_problem.specs.BlockParts.{blocks_by}
use Rattle.cip_pricing.specs.Decomposition.{Owner}
use Rattle.cip_lagrange.specs.Owners.{owned_below}
use Rattle.cip_lagrange.specs.Places.{ArePlaces}
use Rattle.cip_lagrange.specs.Built.{AreBuilt}
use Rattle.cip_lagrange.proofs.Marking.{nobody}
use Rattle.cip_lagrange.proofs.Owned.{columns_by, rows_by, column_owners_by, row_owners_by}
use Rattle.cip_lagrange.proofs.Whole.{owners_below, owners_long, is_decomposition, has_owners}
use Rattle.cip_lagrange.proofs.parts.Decomposed.new.Goals as goal

pub new-requires-clause-rows_below : goal.new-requires-clause-rows_below
new-requires-clause-rows_below c =
    subst (All (λ owner. IfSome owner (λ block. block < c.count-count.result))) (sym c.as_slice.ensures.value)
    (owners_below c.args.program.now c.args.blocks.now c.columns.ensures.formed c.requires (rows_by c.args.blocks.now)
    (length c.rows.result.now) c.count-count.result c.in-Ok-row_owners.row_owners.items c.in-Ok-row_owners.ensures
    c.count-count.ensures)

pub new-requires-clause-columns_below : goal.new-requires-clause-columns_below
new-requires-clause-columns_below c =
    subst (All (λ owner. IfSome owner (λ block. block < c.count-count.result))) (sym c.as_slice-columns.ensures.value)
    (owners_below c.args.program.now c.args.blocks.now c.columns.ensures.formed c.requires
    (columns_by c.args.blocks.now) c.columns.result c.count-count.result c.in-Ok.column_owners.items
    c.in-Ok.ensures c.count-count.ensures)

pub new-requires-clause-few_rows : goal.new-requires-clause-few_rows
new-requires-clause-few_rows c =
    let long : length c.in-Ok-row_owners.row_owners.items ≡ length c.rows.result.now =
    owners_long c.args.program.now c.args.blocks.now c.columns.ensures.formed c.requires (rows_by c.args.blocks.now)
    (length c.rows.result.now) c.in-Ok-row_owners.row_owners.items c.in-Ok-row_owners.ensures in
    omega (
      arith,
      long,
      ap length c.as_slice.ensures.value,
      ap length c.rows.ensures.rows,
      c.columns.ensures.formed.few_rows,
    )

pub new-requires-clause-few_columns : goal.new-requires-clause-few_columns
new-requires-clause-few_columns c =
    let long : length c.in-Ok.column_owners.items ≡ c.columns.result =
    owners_long c.args.program.now c.args.blocks.now c.columns.ensures.formed c.requires (columns_by c.args.blocks.now)
    c.columns.result c.in-Ok.column_owners.items c.in-Ok.ensures in
    omega (
      arith,
      long,
      ap length c.as_slice-columns.ensures.value,
      c.columns.ensures.count,
      c.columns.ensures.formed.few_columns,
    )

pub places_of-requires-clause-below : goal.places_of-requires-clause-below
places_of-requires-clause-below c =
    subst (All (λ owner. IfSome owner (λ block. block < c.count-count.result))) (sym c.as_slice-columns.ensures.value)
    (owners_below c.args.program.now c.args.blocks.now c.columns.ensures.formed c.requires
    (columns_by c.args.blocks.now) c.columns.result c.count-count.result c.in-Ok.column_owners.items
    c.in-Ok.ensures c.count-count.ensures)

pub places_of-requires-clause-few : goal.places_of-requires-clause-few
places_of-requires-clause-few c =
    let long : length c.in-Ok.column_owners.items ≡ c.columns.result =
    owners_long c.args.program.now c.args.blocks.now c.columns.ensures.formed c.requires (columns_by c.args.blocks.now)
    c.columns.result c.in-Ok.column_owners.items c.in-Ok.ensures in
    omega (
      arith,
      long,
      ap length c.as_slice-columns.ensures.value,
      c.columns.ensures.count,
      c.columns.ensures.formed.few_columns,
    )

pub subproblems-requires : goal.subproblems-requires
subproblems-requires c =
    let long : length c.in-Ok.column_owners.items ≡ c.columns.result =
    owners_long c.args.program.now c.args.blocks.now c.columns.ensures.formed c.requires (columns_by c.args.blocks.now)
    c.columns.result c.in-Ok.column_owners.items c.in-Ok.ensures in
    record {
      places =
          ap length c.as_slice-2.ensures.value ∙ c.in-Ok-places_of.ensures.long
          ∙ ap length c.as_slice-columns.ensures.value ∙ long ∙ c.columns.ensures.count;
    }

pub returns-clause-made : goal.returns-clause-made
returns-clause-made c =
    let columns_are : c.in-Ok.column_owners.items
    ≡ column_owners_by c.args.program.now c.args.blocks.now =
    c.in-Ok.ensures
    ∙ ap (λ n. owned_below (columns_by c.args.blocks.now) (length c.args.blocks.now.blocks) (nobody n))
    c.columns.ensures.count in
    let rows_are : c.in-Ok-row_owners.row_owners.items ≡ row_owners_by c.args.program.now c.args.blocks.now =
    c.in-Ok-row_owners.ensures
    ∙ ap (λ (rows : List Row). owned_below (rows_by c.args.blocks.now) (length c.args.blocks.now.blocks)
    (nobody (length rows))) c.rows.ensures.rows in
    let kept : c.in-Ok-new.kept
    ≡ blocks_by (length c.args.blocks.now.blocks) c.in-Ok-row_owners.row_owners.items
    c.in-Ok.column_owners.items =
    c.in-Ok-new.ensures
    ∙ ap (λ n. blocks_by n c.as_slice.result.now c.as_slice-columns.result.now) c.count-count.ensures
    ∙ ap₂ (blocks_by (length c.args.blocks.now.blocks)) c.as_slice.ensures.value c.as_slice-columns.ensures.value in
    is_decomposition c.args.program.now c.args.blocks.now c.columns.ensures.formed c.requires
    (record {
      blocks = c.in-Ok-new.kept;
      column_owners = c.in-Ok.column_owners;
      row_owners = c.in-Ok-row_owners.row_owners;
      places = c.in-Ok-places_of.places;
      subproblems = c.in-Ok-subproblems.subproblems;
    })
    columns_are rows_are kept
    (subst (λ (owners : List Owner). ArePlaces owners c.in-Ok-places_of.places.items) c.as_slice-columns.ensures.value
    c.in-Ok-places_of.ensures)
    (subst (λ (places : List ℕ). AreBuilt c.args.program.now places c.in-Ok-new.kept
    c.in-Ok-subproblems.subproblems.items) c.as_slice-2.ensures.value c.in-Ok-subproblems.ensures)

pub returns-clause-owners : goal.returns-clause-owners
returns-clause-owners c =
    let columns_are : c.in-Ok.column_owners.items
    ≡ column_owners_by c.args.program.now c.args.blocks.now =
    c.in-Ok.ensures
    ∙ ap (λ n. owned_below (columns_by c.args.blocks.now) (length c.args.blocks.now.blocks) (nobody n))
    c.columns.ensures.count in
    let rows_are : c.in-Ok-row_owners.row_owners.items ≡ row_owners_by c.args.program.now c.args.blocks.now =
    c.in-Ok-row_owners.ensures
    ∙ ap (λ (rows : List Row). owned_below (rows_by c.args.blocks.now) (length c.args.blocks.now.blocks)
    (nobody (length rows))) c.rows.ensures.rows in
    let kept : c.in-Ok-new.kept
    ≡ blocks_by (length c.args.blocks.now.blocks) c.in-Ok-row_owners.row_owners.items
    c.in-Ok.column_owners.items =
    c.in-Ok-new.ensures
    ∙ ap (λ n. blocks_by n c.as_slice.result.now c.as_slice-columns.result.now) c.count-count.ensures
    ∙ ap₂ (blocks_by (length c.args.blocks.now.blocks)) c.as_slice.ensures.value c.as_slice-columns.ensures.value in
    has_owners c.args.program.now c.args.blocks.now c.columns.ensures.formed c.requires
    (record {
      blocks = c.in-Ok-new.kept;
      column_owners = c.in-Ok.column_owners;
      row_owners = c.in-Ok-row_owners.row_owners;
      places = c.in-Ok-places_of.places;
      subproblems = c.in-Ok-subproblems.subproblems;
    })
    columns_are rows_are kept
    (subst (λ (places : List ℕ). AreBuilt c.args.program.now places c.in-Ok-new.kept
    c.in-Ok-subproblems.subproblems.items) c.as_slice-2.ensures.value c.in-Ok-subproblems.ensures)
