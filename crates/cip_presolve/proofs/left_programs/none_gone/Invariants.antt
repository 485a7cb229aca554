use Rattle.std.proofs.Common.{◌≡◌, None}
use Rattle.std.specs.Prelude.{replicate}
use Rattle.cip_presolve.proofs.left_programs.none_gone.Given as goal

abbrev pub invariant-loop : goal.invariant-loop
invariant-loop l = l.forms.items ≡ replicate l.counter None
