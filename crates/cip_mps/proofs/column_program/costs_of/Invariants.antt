use Rattle.std.proofs.Common.{◌≡◌, ◌-◌, ◌++◌, true}
use Rattle.std.specs.Prelude.{nat_le}
use Rattle.std.specs.List.{list_all}
use Rattle.cip_text_rules.specs.MpsState.{Held, costs_from}
use Rattle.cip_text_rules.specs.MpsSoundState.{rises}
use Rattle.cip_mps.proofs.column_program.costs_of.Given as goal

abbrev pub invariant-loop-column : goal.invariant-loop-column
invariant-loop-column l = record {
  costs : l.costs.items ++ costs_from l.sense l.rest l.column (l.columns - l.column) ≡ costs_from l.sense l.held 0 l.columns;
  rising : rises l.rest ≡ true;
  from : list_all (λ (h : Held). nat_le l.column h.column) l.rest ≡ true;
}
