use Rattle.std.proofs.lemmas.Grind.{common_steps}
use Rattle.std.proofs.Common.{◌≡◌, None, sym, ap, ◌∙◌, subst, rules, arith}
use Rattle.cip_presolve.specs.Forms.{spread}
use Rattle.cip_presolve.specs.StepsBack.{StepsTaken}
use Rattle.std.specs.Prelude.{replicate}
use Rattle.cip_problem.specs.WellFormed.{columns}
use Rattle.cip_presolve.specs.PresolvedPrograms.{counted, IsExactlyPresolved}
use Rattle.cip_presolve.proofs.Unchanged.{same_exact, none_kept, none_changes, same_whole, none_overflows}
use Rattle.cip_presolve.proofs.left_programs.Presolved.same.Goals as goal

pub returns-clause-exact : goal.returns-clause-exact
returns-clause-exact c =
    let forms : c.in-Ok-none_gone.forms.items ≡ replicate (columns c.args.program.now) None = c.in-Ok-none_gone.ensures ∙ ap (λ n. replicate n None) c.columns.ensures.count in
    let whole : c.in-Ok.whole.items ≡ c.args.program.now.integral = search rules in
    subst (λ (s : StepsTaken). IsExactlyPresolved c.args.program.now (record { reduced = c.in-Ok-copied.reduced; steps = s; kept = c.in-Ok-numbers.kept })) (sym c.new.ensures) (record {
      pair = same_exact c.args.program.now c.in-Ok-copied.reduced c.in-Ok-none_gone.forms.items c.columns.ensures.formed c.in-Ok-copied.ensures forms;
      numbers = record {
        kept = none_kept (columns c.args.program.now) c.in-Ok-none_gone.forms.items c.in-Ok-numbers.kept.items forms (c.in-Ok-numbers.ensures ∙ ap (λ n. counted 0 n) c.columns-2.ensures.count);
        whole = whole;
        left = same_whole c.args.program.now c.in-Ok-copied.reduced c.in-Ok-none_gone.forms.items c.in-Ok.whole.items c.columns.ensures.formed c.in-Ok-copied.ensures forms whole;
      };
      leaves = λ wholes a. none_overflows (columns c.args.program.now) c.in-Ok-none_gone.forms.items c.in-Ok.whole.items _ forms;
    })

pub returns-clause-pair : goal.returns-clause-pair
returns-clause-pair c = let e = returns-clause-exact c in record { pair = e.pair.pair; numbers = e.numbers; leaves = e.leaves }

pub returns-clause-unchanged : goal.returns-clause-unchanged
returns-clause-unchanged c =
    let forms : c.in-Ok-none_gone.forms.items ≡ replicate (columns c.args.program.now) None = c.in-Ok-none_gone.ensures ∙ ap (λ n. replicate n None) c.columns.ensures.count in
    record {
      reduced = c.in-Ok-copied.ensures;
      kept = c.in-Ok-numbers.ensures ∙ ap (λ n. counted 0 n) c.columns-2.ensures.count;
      point = λ point long. ap (λ (s : StepsTaken). spread s.forms point) c.new.ensures ∙ none_changes c.args.program.now c.in-Ok-none_gone.forms.items point c.columns.ensures.formed forms long;
    }

pub numbers-requires : goal.numbers-requires
numbers-requires c = grind (arith, common_steps)

pub returns-in_default-clause-unchanged : goal.returns-in_default-clause-unchanged
returns-in_default-clause-unchanged c = grind (arith, common_steps)

pub returns-in_default-clause-exact : goal.returns-in_default-clause-exact
returns-in_default-clause-exact c = grind (arith, common_steps)

pub returns-in_default-clause-pair : goal.returns-in_default-clause-pair
returns-in_default-clause-pair c = grind (arith, common_steps)
