use Rattle.std.proofs.lemmas.Grind.{common_steps}
use Rattle.std.proofs.Common.{◌∙◌, sym, ap, arith}
use Rattle.cip_rational.proofs.Comparisons.{is_lt-compare}
use Rattle.cip_incumbent.specs.HeldPoint.{is_cheaper}
use Rattle.cip_incumbent.specs.Inside.{best_of}
use Rattle.cip_incumbent.proofs.incumbents.Incumbent.is_better.Goals as goal

pub returns-in-Some : goal.returns-in-Some
returns-in-Some c =
    c.lt.ensures ∙ is_lt-compare _ _ ∙ ap (λ o. is_cheaper c.args.cost (best_of o c.self.inside.point.items)) (sym c.in-Some.is) ∙ ap (λ v. is_cheaper c.args.cost v.best) c.self.view_is

pub returns-in-None : goal.returns-in-None
returns-in-None c = grind (arith, common_steps)
