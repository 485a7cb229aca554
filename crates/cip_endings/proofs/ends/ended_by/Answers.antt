use Rattle.std.proofs.lemmas.Grind.{common_steps}
use Rattle.std.proofs.Common.{refl, sym, ap, ◌∙◌, arith}
use Rattle.cip_endings.specs.Ends.{one_matters}
use Rattle.cip_endings.specs.Worst.{worst_bound}
use Rattle.cip_endings.proofs.ends.ended_by.Goals as goal

pub returns-then-one_matters-2 : goal.returns-then-one_matters-2
returns-then-one_matters-2 c =
    let bound = c.worst_bound.ensures ∙ ap worst_bound c.in-Some.is in (
      sym c.one_matters.ensures ∙ c.if-one_matters.false,
      record {
        found = c.in-Some.worst;
        is_worst = c.in-Some.is;
        leaf_is = refl;
        shown_is = refl;
        matter = ap (one_matters c.args.held.now) (sym bound) ∙ (sym c.one_matters-2.ensures ∙ c.if-one_matters-2.true);
      },
    )

pub returns : goal.returns
returns c = grind (arith, common_steps)

pub unreachable-requires : goal.unreachable-requires
unreachable-requires c = grind (arith, common_steps)

pub returns-then-is_some : goal.returns-then-is_some
returns-then-is_some c = grind (arith, common_steps)

pub returns-then-one_matters : goal.returns-then-one_matters
returns-then-one_matters c = grind (arith, common_steps)

pub unreachable-unreachable : goal.unreachable-unreachable
unreachable-unreachable c = grind (arith, common_steps)
