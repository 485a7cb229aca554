use Rattle.std.proofs.lemmas.Grind.{common_steps}
use Rattle.std.proofs.Common.{◌≡◌, ℕ, ◌+◌, ◌<◌, ◌≤◌, List, length, get_or, sym, ap, ap₂, ◌∙◌, subst, arith}
use Rattle.std.proofs.lemmas.List.Sums.{sum_by_more}
use Rattle.cip_problem.specs.Program.{Row, Program}
use Rattle.cip_problem.specs.Activity.{StandsBelow}
use Rattle.cip_problem.specs.WellFormed.{columns}
use Rattle.cip_input.proofs.EntryLaws.{few_terms}
use Rattle.cip_input.proofs.counts.entries.Goals as goal

pub loop-row-preserved : goal.loop-row-preserved
loop-row-preserved c =
    let k : ℕ = c.loop-row.row-index in
    let row : Row = c.row-item.result in
    let program : Program = c.args.program.now in
    let long : length c.terms.result.now ≡ length row.terms = ap length c.terms.ensures.terms in
    let within : k < length program.rows = subst (λ (rs : List Row). k < length rs) c.rows-rows.ensures.rows c.loop-row-test.true in
    let at : row ≡ get_or program.rows k row = c.row-item.is ∙ ap (λ (rs : List Row). get_or rs k row) c.rows-rows.ensures.rows in
    let below : StandsBelow (columns program) row.terms =
    subst (λ (r : Row). StandsBelow (columns program) r.terms) (sym at) (c.rows-rows.ensures.formed.rows k row within) in
    let few : length row.terms ≤ columns program = few_terms (columns program) row.terms c.terms.ensures.valid below in
    let most = c.rows-rows.ensures.formed.few_columns in
    record {
      counted =
          ap₂ ◌+◌ c.loop-row.invariant.counted (long ∙ ap (λ (r : Row). length r.terms) c.row-item.is)
          ∙ sym (sum_by_more (λ (r : Row). length r.terms) c.rows-rows.result.now k row c.loop-row-test.true);
      small = omega (arith, long, few, most);
    }

pub overflow_add-entries : goal.overflow_add-entries
overflow_add-entries c = grind (arith, common_steps)

pub returns : goal.returns
returns c = grind (arith, common_steps)

pub offset_bounds-rows-row-index : goal.offset_bounds-rows-row-index
offset_bounds-rows-row-index c = grind (arith, common_steps)
