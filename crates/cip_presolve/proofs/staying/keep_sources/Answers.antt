use Rattle.std.proofs.Common.{◌<◌, ◌≤◌, ◌∙◌, subst}
use Rattle.cip_presolve.proofs.StayingColumns.{no_sources, next_source, sources_fewer, all_sources_stay, source_within}
use Rattle.cip_presolve.proofs.staying.keep_sources.Goals as goal

pub loop-column-init : goal.loop-column-init
loop-column-init c = no_sources c.args.forms.now.items

pub keep_source-requires : goal.keep_source-requires
keep_source-requires c = source_within _ _ _ c.loop-column.invariant (subst (λ n. c.loop-column.column < n) (c.len-column-end.ensures ∙ c.args.forms.now.ok.0) c.loop-column-test.true)

pub loop-column-preserved : goal.loop-column-preserved
loop-column-preserved c = next_source _ _ _ _ c.loop-column.invariant c.keep_source.ensures.fewer c.keep_source.ensures.source

pub returns-clause-fewer : goal.returns-clause-fewer
returns-clause-fewer c = sources_fewer _ _ _ c.loop-column.invariant

pub returns-clause-sources : goal.returns-clause-sources
returns-clause-sources c = all_sources_stay _ _ _ c.loop-column.invariant (subst (λ n. n ≤ c.loop-column.column) (c.len-column-end.ensures ∙ c.args.forms.now.ok.0) c.loop-column-test.false)
