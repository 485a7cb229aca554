use Rattle.std.proofs.lemmas.Grind.{common_steps}
use Rattle.std.proofs.Common.{◌≡◌, ℕ, ◌+◌, ◌-◌, List, length, take, ap, sym, subst, ◌∙◌, arith}
use Rattle.std.specs.Prelude.{slice_index_or}
use Rattle.cip_text_rules.specs.MpsState.{RowRead, no_row}
use Rattle.cip_mps.specs.Tables.{rows_of, IsSoundTable}
use Rattle.cip_mps.proofs.TableLaws.{rows_length, last_is_empty, sound_popped, rows_popped}
use Rattle.cip_mps.proofs.row_table.RowTable.pop.Goals.{After-truncate-2}
use Rattle.cip_mps.proofs.row_table.RowTable.pop.Goals as goal

-- how many rows are left
left : (c : After-truncate-2) → (length c.args.self.now ≡ length c.self.inside.heads.items) × (c.len-count.result ≡ length c.self.inside.heads.items)
left c = (
  rows_length c.self.inside.heads.items c.self.inside.groups.items c.args.self.now c.self.view_is,
  omega (arith, c.len-count.ensures, c.self.inside.heads.ok.0),
)

pub invariant_of-self : goal.invariant_of-self
invariant_of-self c =
    let heads = c.self.inside.heads.items in
    let groups = c.self.inside.groups.items in
    let n : ℕ = c.len-count.result - 1 in
    let count = left c in
    let some = c.requires.some in
    let last : length c.args.self.now - 1 ≡ n = omega (arith, count.0, count.1) in
    let one : n + 1 ≡ length heads = omega (arith, count.0, count.1, some) in
    let none = ap (λ (k : ℕ). (slice_index_or c.args.self.now k no_row).held) (sym last) ∙ c.requires.empty in
    let empty = ap (λ (rs : List RowRead). (slice_index_or rs n no_row).held) c.self.view_is ∙ none in
    let sound = sound_popped c.self.inside.held_to.items heads groups n c.self.invariant one (last_is_empty heads groups n (omega (arith, one)) empty) in
    subst (λ (ends : List ℕ). IsSoundTable ends c.truncate.new.self.items groups) (sym c.truncate-2.ensures.items)
    (subst (λ (hs : List RowRead). IsSoundTable (take n c.self.inside.held_to.items) hs groups) (sym c.truncate.ensures.items) sound)

pub returns : goal.returns
returns c =
    let heads = c.self.inside.heads.items in
    let groups = c.self.inside.groups.items in
    let n : ℕ = c.len-count.result - 1 in
    let count = left c in
    let last : n ≡ length c.args.self.now - 1 = omega (arith, count.0, count.1) in
    ap (λ (hs : List RowRead). rows_of hs groups) c.truncate.ensures.items ∙ rows_popped heads groups n ∙ ap (take n) c.self.view_is
    ∙ ap (λ (k : ℕ). take k c.args.self.now) last

pub overflow_sub-count : goal.overflow_sub-count
overflow_sub-count c = grind (arith, common_steps)
