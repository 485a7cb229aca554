use Rattle.cip_presolve.proofs.PartsRead.{item_shown, term_nonzero}
use Rattle.std.proofs.lemmas.Grind.{common_steps}
use Rattle.std.proofs.Common.{arith}
use Rattle.cip_presolve.proofs.rests.term_at.Goals as goal

pub bounds-terms-at : goal.bounds-terms-at
bounds-terms-at c = grind (arith, common_steps)

pub offset_bounds-terms-at : goal.offset_bounds-terms-at
offset_bounds-terms-at c = grind (arith, common_steps)

pub returns-clause-term : goal.returns-clause-term
returns-clause-term c =
    item_shown c.terms.result.now c.args.row.now.terms c.args.at c.index-terms-at.result c.terms.ensures.terms
    c.requires c.index-terms-at.is

pub returns-clause-nonzero : goal.returns-clause-nonzero
returns-clause-nonzero c =
    term_nonzero c.terms.result.now c.args.row.now.terms c.args.at c.index-terms-at.result c.terms.ensures.terms
    c.terms.ensures.valid
    c.requires c.index-terms-at.is
