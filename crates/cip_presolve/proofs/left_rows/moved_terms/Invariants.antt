use Rattle.std.proofs.Common.{◌≡◌, ◌++◌, drop}
use Rattle.std.specs.Prelude.{map}
use Rattle.cip_presolve.specs.LeftProgram.{moved_term}
use Rattle.cip_presolve.proofs.left_rows.moved_terms.Given as goal

abbrev pub invariant-loop-term : goal.invariant-loop-term
invariant-loop-term l = l.moved.items ++ map (moved_term l.numbers) (drop l.term-index l.terms) ≡ map (moved_term l.numbers) l.terms
