use Rattle.std.proofs.lemmas.Grind.{common_steps}
use Rattle.std.proofs.Common.{length, arith}
use Rattle.cip_cert.specs.Lent.{lent_of}
use Rattle.cip_split.proofs.SplitRowSums.{follows_so}
use Rattle.cip_split.proofs.calls.split_row.Goals as goal

pub returns-clause-follows : goal.returns-clause-follows
returns-clause-follows c =
    follows_so (lent_of c.args.rows.now) c.args.rows.now.whole.now c.args.bounds.now (length c.args.first.now.row.entries) c.args.cut.now c.requires.fits c.requires.room c.requires.flags c.split_sparse.new.row.entries c.split_sparse.result c.split_sparse.ensures.steps

pub returns-clause-others : goal.returns-clause-others
returns-clause-others c = grind (arith, common_steps)

pub returns-clause-columns : goal.returns-clause-columns
returns-clause-columns c = grind (arith, common_steps)

pub split_sparse-requires-clause-same : goal.split_sparse-requires-clause-same
split_sparse-requires-clause-same c = grind (arith, common_steps)

pub returns-clause-steps : goal.returns-clause-steps
returns-clause-steps c = grind (arith, common_steps)

pub split_sparse-requires-clause-flags : goal.split_sparse-requires-clause-flags
split_sparse-requires-clause-flags c = grind (arith, common_steps)

pub split_sparse-requires-clause-room : goal.split_sparse-requires-clause-room
split_sparse-requires-clause-room c = grind (arith, common_steps)
