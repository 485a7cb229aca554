use Rattle.std.proofs.lemmas.Grind.{common_steps}
use Rattle.cip_mps.specs.DraftStates.{kept}
use Rattle.std.proofs.Common.{◌≡◌, ◌<◌, List, true, length, refl, ◌∙◌, Some, Option, ℕ, sym, ap, arith}
use Rattle.std.specs.Prelude.{slice_index_or}
use Rattle.std.specs.List.{filter, list_all}
use Rattle.std.proofs.Math.ListN.{length-set}
use Rattle.cip_text_rules.specs.MpsState.{RowRead, no_row, is_kept}
use Rattle.cip_text_rules.specs.MpsSteps.{changed, with_held}
use Rattle.cip_text_rules.specs.MpsSoundState.{held_below}
use Rattle.cip_mps.proofs.RowLaws.{changed_counted, changed_below, held_still, put_or_not}
use Rattle.cip_mps.proofs.draft.Draft.hold.Goals as goal

pub invariant_of-self : goal.invariant_of-self
invariant_of-self c =
    let self = c.args.self.now in
    let number = c.in-Some.number in
    let n = length self.column_names in
    let put = with_held c.args.column c.args.value in
    let within : number < length self.rows = rw c.in-Some.is at c.requires.within in
    let more = changed no_row self.rows (Some number) put in
    let either = put_or_not c.hold.result self.rows c.hold.new.self more in
    record {
      rows_named = either (λ (rows : List RowRead). length rows ≡ length self.row_names) c.hold.ensures.ok c.hold.ensures.err self.rows_named (length-set self.rows number (put (slice_index_or self.rows number no_row)) ∙ self.rows_named);
      columns_named = self.columns_named;
      rows_counted = either (λ (rows : List RowRead). self.row_count ≡ length (filter is_kept rows)) c.hold.ensures.ok c.hold.ensures.err self.rows_counted (changed_counted self.row_count self.rows number put within (λ row. refl) self.rows_counted);
      few_rows = self.few_rows;
      few_columns = self.few_columns;
      few_entries = self.few_entries;
      rows_below = either (λ (rows : List RowRead). list_all (λ row. held_below n row.held) rows ≡ true) c.hold.ensures.ok c.hold.ensures.err self.rows_below (changed_below n self.rows number put (held_still n c.args.column c.args.value c.requires.is_column) self.rows_below);
    }

pub returns-in_ok-hold-in-Some : goal.returns-in_ok-hold-in-Some
returns-in_ok-hold-in-Some c =
    let self = c.args.self.now in
    let more = c.in_ok-hold-in-Some.ensures.ok ∙ ap (λ (row : Option ℕ). changed no_row self.rows row (with_held c.args.column c.args.value)) (sym c.in-Some.is) in
    λ i. record (kept self) { rows = more i }

pub returns-in-None : goal.returns-in-None
returns-in-None c =
    let self = c.args.self.now in
    ap (λ (row : Option ℕ). record (kept self) { rows = changed no_row self.rows row (with_held c.args.column c.args.value) }) (sym c.in-None.is)

pub hold-requires-clause-within : goal.hold-requires-clause-within
hold-requires-clause-within c = grind (arith, common_steps)

pub hold-requires-clause-few : goal.hold-requires-clause-few
hold-requires-clause-few c = grind (arith, common_steps)

pub hold-requires-clause-behind : goal.hold-requires-clause-behind
hold-requires-clause-behind c = grind (arith, common_steps)
