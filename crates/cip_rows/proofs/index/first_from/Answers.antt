use Rattle.std.proofs.lemmas.Grind.{common_steps}
use Rattle.std.proofs.Common.{ltb, rules, of_calls, ltb-true, ltb-false, arith}
use Rattle.std.proofs.lemmas.Fn.{always_returns_same}
use Rattle.std.proofs.lemmas.List.Sorted.{IsPartitionedBy-ltb}
use Rattle.cip_rows.specs.declared.index.Entry.{Entry}
use Rattle.cip_rows.proofs.index.first_from.Goals as goal

pub returns-clause-before : goal.returns-clause-before
returns-clause-before c k d z l = ltb-true _ _ ((c.partition_point.ensures.partitioned (λ (x : Entry). ltb x.print c.args.print) (always_returns_same _ _ _ (λ a r f h. search (rules, of_calls))) (IsPartitionedBy-ltb (λ (x : Entry). x.print) c.args.entries.now c.args.print c.requires)).0 k d z l)

pub returns-clause-after : goal.returns-clause-after
returns-clause-after c k d z l = ltb-false _ _ ((c.partition_point.ensures.partitioned (λ (x : Entry). ltb x.print c.args.print) (always_returns_same _ _ _ (λ a r f h. search (rules, of_calls))) (IsPartitionedBy-ltb (λ (x : Entry). x.print) c.args.entries.now c.args.print c.requires)).1 k d z l)

pub returns-clause-within : goal.returns-clause-within
returns-clause-within c = grind (arith, common_steps)
