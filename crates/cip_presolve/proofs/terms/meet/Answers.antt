use Rattle.std.proofs.lemmas.Grind.{common_steps}
use Rattle.std.proofs.Common.{◌≡◌, refl, sym, ap, ◌∙◌, subst, arith}
use Rattle.cip_rational.specs.Rational.{◌+ℚ◌}
use Rattle.cip_problem.specs.Program.{Term}
use Rattle.cip_presolve.specs.PutTerms.{HasMore}
use Rattle.cip_presolve.proofs.TermsPut.{met_here, met_before}
use Rattle.cip_presolve.proofs.terms.meet.Goals as goal

pub returns-then-term-waiting-2 : goal.returns-then-term-waiting-2
returns-then-term-waiting-2 c =
    let tc : c.term.inside.col ≡ c.args.term.column = ap (λ (t : Term). t.column) c.term.view_is in
    let tq : c.term.inside.coef ≡ c.args.term.coefficient = ap (λ (t : Term). t.coefficient) c.term.view_is in
    let wc : c.waiting.inside.col ≡ c.args.waiting.now.column = ap (λ (t : Term). t.column) c.waiting.view_is in
    let wq : c.waiting.inside.coef ≡ c.args.waiting.now.coefficient = ap (λ (t : Term). t.coefficient) c.waiting.view_is in
    let same : c.args.term.column ≡ c.args.waiting.now.column = sym tc ∙ c.if-term-waiting-2.true ∙ wc in
    let nc : c.waiting.inside.col ≡ c.args.term.column = sym c.if-term-waiting-2.true ∙ tc in
    met_here c.args.row.now c.args.row.now c.args.waiting.now _ c.args.term _ refl same nc c.zero-waiting-inside.ensures tc
    (c.in-Ok.ensures.1 ∙ ap (λ q. q +ℚ c.waiting.inside.coef) tq ∙ ap (λ q. c.args.term.coefficient +ℚ q) wq)

pub returns : goal.returns
returns c =
    let wc : c.waiting.inside.col ≡ c.args.waiting.now.column = ap (λ (t : Term). t.column) c.waiting.view_is in
    let more : HasMore c.args.row.now c.args.waiting.now c.put.new.row = subst (λ (t : Term). HasMore c.args.row.now t c.put.new.row) c.waiting.view_is (rw c.if-not-branch.false at c.in_ok-put.ensures) in
    met_before c.args.row.now c.put.new.row c.args.waiting.now _ c.args.term more wc c.zero-waiting-inside-2.ensures

pub same-term-2 : goal.same-term-2
same-term-2 c = grind (arith, common_steps)

pub returns-then-term-waiting : goal.returns-then-term-waiting
returns-then-term-waiting c = grind (arith, common_steps)

pub same-waiting-then-not-branch : goal.same-waiting-then-not-branch
same-waiting-then-not-branch c = grind (arith, common_steps)

pub same-waiting-in_err-put : goal.same-waiting-in_err-put
same-waiting-in_err-put c = grind (arith, common_steps)

pub same-waiting-in_default : goal.same-waiting-in_default
same-waiting-in_default c = grind (arith, common_steps)

pub returns-then-not-branch : goal.returns-then-not-branch
returns-then-not-branch c = grind (arith, common_steps)

pub same-term : goal.same-term
same-term c = grind (arith, common_steps)
