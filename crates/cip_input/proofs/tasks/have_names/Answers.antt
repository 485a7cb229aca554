use Rattle.std.proofs.lemmas.Grind.{common_steps}
use Rattle.std.proofs.lemmas.List.{take_all}
use Rattle.std.specs.List.{list_any, list_all}
use Rattle.std.specs.Str.{bytes_eq}
use Rattle.std.proofs.lemmas.Bool.{and_from}
use Rattle.std.proofs.lemmas.List.Folds.{list_all_more, list_all_at}
use Rattle.std.proofs.Common.{ℕ, List, Bor, ap, sym, ◌∙◌, arith}
use Rattle.cip_input.proofs.tasks.have_names.Goals as goal

pub loop-name-preserved : goal.loop-name-preserved
loop-name-preserved g c =
    list_all_more (λ (name : Bor (List ℕ)). list_any {X = g.row.P.Denot} (λ plugin. bytes_eq (g.P.Tells.who plugin).label name.now) c.args.plugins.now) c.args.names.now c.loop-name.name-index _ c.loop-name-test.true ∙ and_from _ _ c.loop-name.invariant (sym c.if-not-has_name.ensures)

pub returns-then-not-has_name : goal.returns-then-not-has_name
returns-then-not-has_name g c =
    sym (list_all_at (λ (name : Bor (List ℕ)). list_any {X = g.row.P.Denot} (λ plugin. bytes_eq (g.P.Tells.who plugin).label name.now) c.args.plugins.now) c.args.names.now c.loop-name.name-index _ c.loop-name-test.true (sym c.if-not-has_name.ensures))

pub returns : goal.returns
returns g c =
    sym c.loop-name.invariant ∙ ap (list_all (λ (name : Bor (List ℕ)). list_any {X = g.row.P.Denot} (λ plugin. bytes_eq (g.P.Tells.who plugin).label name.now) c.args.plugins.now)) (take_all c.loop-name.name-index c.args.names.now c.loop-name-test.false)

pub has_name-requires-text-name : goal.has_name-requires-text-name
has_name-requires-text-name g c = grind (arith, common_steps)

pub offset_bounds-names-name-index : goal.offset_bounds-names-name-index
offset_bounds-names-name-index g c = grind (arith, common_steps)
