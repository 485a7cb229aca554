use Rattle.std.proofs.lemmas.Grind.{common_steps}
use Rattle.cip_mps.specs.DraftStates.{kept}
use Rattle.std.proofs.Common.{◌≡◌, ◌<◌, List, true, length, refl, sym, subst, ◌∙◌, Option, ℕ, ap, arith}
use Rattle.std.specs.Prelude.{slice_index_or}
use Rattle.std.specs.List.{filter, list_all}
use Rattle.std.proofs.Math.ListN.{length-set}
use Rattle.cip_text_rules.specs.MpsState.{RowRead, no_row, is_kept}
use Rattle.cip_text_rules.specs.MpsSteps.{with_range, changed}
use Rattle.cip_text_rules.specs.MpsSoundState.{held_below}
use Rattle.cip_mps.proofs.RowLaws.{changed_counted, changed_below}
use Rattle.cip_mps.proofs.draft.Draft.set_range.Goals as goal

pub invariant_of-self : goal.invariant_of-self
invariant_of-self c =
    let self = c.args.self.now in
    let number = c.in-Some.number in
    let n = length self.column_names in
    let put = with_range c.args.value in
    let within : number < length self.rows = rw c.in-Some.is at c.requires.within in
    let new = sym c.set_range.ensures in
    record {
      rows_named = subst (λ (rows : List RowRead). length rows ≡ length self.row_names) new (length-set self.rows number (put (slice_index_or self.rows number no_row)) ∙ self.rows_named);
      columns_named = self.columns_named;
      rows_counted = subst (λ (rows : List RowRead). self.row_count ≡ length (filter is_kept rows)) new (changed_counted self.row_count self.rows number put within (λ row. refl) self.rows_counted);
      few_rows = self.few_rows;
      few_columns = self.few_columns;
      few_entries = self.few_entries;
      rows_below = subst (λ (rows : List RowRead). list_all (λ row. held_below n row.held) rows ≡ true) new (changed_below n self.rows number put (λ row below. below) self.rows_below);
    }

pub returns-in-Some : goal.returns-in-Some
returns-in-Some c =
    let self = c.args.self.now in
    let more = c.set_range.ensures ∙ ap (λ (row : Option ℕ). changed no_row self.rows row (with_range c.args.value)) (sym c.in-Some.is) in
    λ i. record (kept self) { rows = more i }

pub returns-in_default : goal.returns-in_default
returns-in_default c =
    let self = c.args.self.now in
    ap (λ (row : Option ℕ). record (kept self) { rows = changed no_row self.rows row (with_range c.args.value) }) (sym c.in_default.is)

pub set_range-requires-clause-within : goal.set_range-requires-clause-within
set_range-requires-clause-within c = grind (arith, common_steps)

pub set_range-requires-clause-fits : goal.set_range-requires-clause-fits
set_range-requires-clause-fits c = grind (arith, common_steps)
