use Rattle.std.proofs.lemmas.Grind.{common_steps}
use Rattle.std.proofs.Common.{◌∙◌, sym, arith}
use Rattle.cip_rows.proofs.KeptRows.{scopes_rest, usable_rest}
use Rattle.cip_rows.proofs.usable.UsableIterator.next.Goals as goal

pub invariant_of-self : goal.invariant_of-self
invariant_of-self c = scopes_rest _ _ _ _ c.in-Some.ensures.cases.0 c.loop-first.invariant.scopes

pub loop-first-preserved : goal.loop-first-preserved
loop-first-preserved c = record {
  scopes = scopes_rest _ _ _ _ c.in-Some.ensures.cases.0 c.loop-first.invariant.scopes;
  left = c.loop-first.invariant.left ∙ usable_rest _ _ _ _ c.in-Some.ensures.cases.0 (sym c.inside.ensures ∙ c.if-inside.false);
}

pub returns-then-inside-clause-steps : goal.returns-then-inside-clause-steps
returns-then-inside-clause-steps c = grind (arith, common_steps)

pub returns-clause-steps : goal.returns-clause-steps
returns-clause-steps c = grind (arith, common_steps)

pub inside-requires : goal.inside-requires
inside-requires c = grind (arith, common_steps)

pub returns-then-inside-clause-goes : goal.returns-then-inside-clause-goes
returns-then-inside-clause-goes c = grind (arith, common_steps)

pub returns-clause-goes : goal.returns-clause-goes
returns-clause-goes c = grind (arith, common_steps)

pub invariant_of-self-in_default : goal.invariant_of-self-in_default
invariant_of-self-in_default c = grind (arith, common_steps)

pub loop-first-smaller : goal.loop-first-smaller
loop-first-smaller c = grind (arith, common_steps)
