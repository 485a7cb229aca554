use Rattle.std.proofs.Common.{◌≡◌, true, false, Bool, ap, sym, ◌∙◌}
use Rattle.std.specs.Prelude.{MatchBool}
use Rattle.cip_problem.specs.Program.{Sides}
use Rattle.cip_problem.specs.Wholes.{HasWhole}
use Rattle.cip_node_rules.specs.OpenColumns.{whole_between}
use Rattle.cip_node_rules.proofs.Places.{whole_of_test, test_of_whole}
use Rattle.cip_node_rules.proofs.columns.has_whole.Goals as goal

told : (b : Bool) (sides : Sides) → b ≡ whole_between sides.low sides.high → MatchBool b (HasWhole sides) (¬ HasWhole sides)
told true sides e = whole_of_test sides.low sides.high (sym e)
told false sides e = λ h. let g : false ≡ true = e ∙ test_of_whole sides.low sides.high h in cc

pub returns : goal.returns
returns c = told c.is_whole_between.result c.args.sides (c.is_whole_between.ensures ∙ ap (λ (s : Sides). whole_between s.low s.high) c.sides.view_is)
