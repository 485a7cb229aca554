use Rattle.std.proofs.lemmas.Grind.{common_steps}
use Rattle.std.proofs.Common.{◌∙◌, sym, refl, arith}
use Rattle.cip_frac.proofs.PassedOn.{is_le-compare}
use Rattle.cip_lin.proofs.boxes.lesser_of.Goals.{then-le, else-le}
use Rattle.cip_lin.proofs.boxes.lesser_of.Goals as goal

pub returns-after-le : goal.returns-after-le
returns-after-le c =
    let test = sym (c.le.ensures ∙ is_le-compare _ _) in
    elim c.if-le.branch [
      | then-le w ↦ rw (c.in-Some-Some.is-0, c.in-Some-Some.is-1, test ∙ w.if-le.true, w.result-is) refl
      | else-le w ↦ rw (c.in-Some-Some.is-0, c.in-Some-Some.is-1, test ∙ w.if-le.false, w.result-is) refl
    ]

pub returns-in-Some-None : goal.returns-in-Some-None
returns-in-Some-None c = grind (arith, common_steps)

pub returns-in-None-default : goal.returns-in-None-default
returns-in-None-default c = grind (arith, common_steps)
