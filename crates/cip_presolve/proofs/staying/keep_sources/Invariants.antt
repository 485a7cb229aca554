use Rattle.cip_presolve.proofs.StayingColumns.{SourcesTo}
use Rattle.cip_presolve.proofs.staying.keep_sources.Given as goal

abbrev pub invariant-loop-column : goal.invariant-loop-column
invariant-loop-column l = SourcesTo l.initial.forms.items l.forms.items l.column
