use Rattle.std.proofs.lemmas.Grind.{common_steps}
use Rattle.std.proofs.lemmas.List.{take_all}
use Rattle.std.specs.List.{list_any}
use Rattle.std.specs.Str.{bytes_eq}
use Rattle.std.proofs.lemmas.Bool.{or_from}
use Rattle.std.proofs.lemmas.List.Folds.{list_any_more, list_any_at}
use Rattle.std.proofs.Common.{ℕ, List, ap, sym, ◌∙◌, arith}
use Rattle.cip_input.proofs.tasks.has_name.Goals as goal

pub loop-plugin-preserved : goal.loop-plugin-preserved
loop-plugin-preserved g c =
    list_any_more {X = g.row.P.Denot} (λ plugin. bytes_eq (g.P.Tells.who plugin).label c.args.name.now) c.args.plugins.now c.loop-plugin.plugin-index c.plugin-item.result c.loop-plugin-test.true
    ∙ or_from _ _ c.loop-plugin.invariant
    (sym (ap {A = g.row.P.Denot} (λ plugin. bytes_eq (g.P.Tells.who plugin).label c.args.name.now) c.plugin-item.is) ∙ sym (c.eq.ensures ∙ ap (λ (text : List ℕ). bytes_eq text c.args.name.now) c.name.ensures) ∙ c.if-eq.false)

pub returns-then-eq : goal.returns-then-eq
returns-then-eq g c =
    let holds = sym (ap {A = g.row.P.Denot} (λ plugin. bytes_eq (g.P.Tells.who plugin).label c.args.name.now) c.plugin-item.is) ∙ sym (c.eq.ensures ∙ ap (λ (text : List ℕ). bytes_eq text c.args.name.now) c.name.ensures) ∙ c.if-eq.true in
    sym (list_any_at {X = g.row.P.Denot} (λ plugin. bytes_eq (g.P.Tells.who plugin).label c.args.name.now) c.args.plugins.now c.loop-plugin.plugin-index c.plugin-item.result c.loop-plugin-test.true holds)

pub returns : goal.returns
returns g c = sym c.loop-plugin.invariant ∙ ap (list_any {X = g.row.P.Denot} (λ plugin. bytes_eq (g.P.Tells.who plugin).label c.args.name.now)) (take_all c.loop-plugin.plugin-index c.args.plugins.now c.loop-plugin-test.false)

pub offset_bounds-plugins-plugin-index : goal.offset_bounds-plugins-plugin-index
offset_bounds-plugins-plugin-index g c = grind (arith, common_steps)
