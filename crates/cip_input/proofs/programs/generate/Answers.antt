use Rattle.std.proofs.lemmas.Grind.{common_steps}
use Rattle.std.proofs.Common.{◌≡◌, ◌∙◌, ◌*◌, ℕ, ap, map, true, sym, subst, arith}
use Rattle.std.specs.List.{range_with_len}
use Rattle.cip_problem.specs.Program.{Program}
use Rattle.cip_problem.specs.WellFormed.{IsWellFormed}
use Rattle.cip_input.specs.Generated.{generated, row_from, state_after}
use Rattle.cip_input.proofs.FormedPrograms.{generated_are_formed}
use Rattle.cip_input.proofs.programs.generate.Goals as goal

pub new-requires-2 : goal.new-requires-2
new-requires-2 c =
    let made : Program = record {
      column_names = c.in-Ok.frame.column_names;
      row_names = c.in-Ok.frame.row_names;
      rows = c.in_ok-drawn.drawn.items;
      costs = c.in_ok-costs.costs.items;
      constant = c.zero.result;
      maximized = true;
      integral = c.in-Ok.frame.whole.items;
      bounds = c.in-Ok.frame.bounds;
      choices = c.new.result;
    } in
    let drawn =
    c.in_ok-drawn.ensures ∙ ap (λ (state : ℕ). map (λ (row : ℕ). row_from c.args.cols (state_after (row * c.args.cols) state)) (range_with_len 0 c.args.rows)) c.in_ok-costs.ensures.state in
    let same : made ≡ generated c.args.seed c.args.cols c.args.rows = (λ i. record {
      column_names = c.in-Ok.ensures.columns i;
      row_names = c.in-Ok.ensures.rows i;
      rows = drawn i;
      costs = c.in_ok-costs.ensures.costs i;
      constant = c.zero.ensures i;
      maximized = true;
      integral = c.in-Ok.ensures.whole i;
      bounds = c.in-Ok.ensures.bounds i;
      choices = c.new.ensures i;
    }) in
    subst IsWellFormed (sym same)
    (generated_are_formed c.args.seed c.args.cols c.args.rows c.requires.few_columns c.requires.few_rows)

pub returns : goal.returns
returns c =
    let costs : c.in_ok-costs.costs.items ≡ (generated c.args.seed c.args.cols c.args.rows).costs =
    c.in_ok-costs.ensures.costs in
    let rows : c.in_ok-drawn.drawn.items ≡ (generated c.args.seed c.args.cols c.args.rows).rows =
    c.in_ok-drawn.ensures ∙ ap (λ (state : ℕ). map (λ (row : ℕ). row_from c.args.cols (state_after (row * c.args.cols) state)) (range_with_len 0 c.args.rows)) c.in_ok-costs.ensures.state in
    grind (arith, common_steps, costs, rows)

pub returns-in_default : goal.returns-in_default
returns-in_default c = grind (arith, common_steps)

pub drawn_rows-requires : goal.drawn_rows-requires
drawn_rows-requires c = grind (arith, common_steps)
