use Rattle.std.proofs.lemmas.Grind.{common_steps}
use Rattle.std.proofs.Common.{◌≡◌, refl, sym, ap, ◌∙◌, arith}
use Rattle.cip_rational.specs.Rational.{zeroℚ}
use Rattle.cip_problem.specs.Program.{Term}
use Rattle.cip_presolve.proofs.TermsPut.{put_nothing, put_one}
use Rattle.cip_presolve.proofs.terms.put.Goals as goal

pub returns-then-is_zero : goal.returns-then-is_zero
returns-then-is_zero c =
    let nothing : c.args.term.coefficient ≡ zeroℚ = sym (ap (λ (t : Term). t.coefficient) c.term.view_is) ∙ c.is_zero.ensures.0 c.if-is_zero.true in
    put_nothing c.args.row.now c.args.row.now c.args.term nothing refl

pub returns-in-Ok : goal.returns-in-Ok
returns-in-Ok c = put_one c.args.row.now c.append.new.self c.args.term c.in-Ok.ensures.0

pub returns-in-Err-NoMemory : goal.returns-in-Err-NoMemory
returns-in-Err-NoMemory c = grind (arith, common_steps)

pub returns-in-Err : goal.returns-in-Err
returns-in-Err c = grind (arith, common_steps)
