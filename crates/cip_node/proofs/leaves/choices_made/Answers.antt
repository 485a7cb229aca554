use Rattle.std.proofs.lemmas.Grind.{common_steps}
use Rattle.std.proofs.Common.{sym, ap, ◌∙◌, arith}
use Rattle.cip_problem.specs.Choices.{is_open}
use Rattle.cip_node.proofs.MadeChoices.{made_other, made_pushed}
use Rattle.cip_node.proofs.leaves.choices_made.Goals as goal

pub loop-at-preserved-then-not-is_open : goal.loop-at-preserved-then-not-is_open
loop-at-preserved-then-not-is_open c =
    c.loop-at.invariant
    ∙ sym (made_other c.args.own.now c.args.now.now c.loop-at.at c.index-own-at.result c.loop-at-test.true (ap is_open (sym c.index-own-at.is) ∙ sym c.is_open.ensures ∙ c.if-not-is_open.true))

pub loop-at-preserved : goal.loop-at-preserved
loop-at-preserved c =
    made_pushed c.args.own.now c.args.now.now c.loop-at.at c.index-own-at.result c.loop-at.on.items c.push.new.self.items c.is_on_at.result c.loop-at-test.true
    (ap is_open (sym c.index-own-at.is) ∙ sym c.is_open.ensures ∙ c.if-not-is_open.false) c.loop-at.invariant c.is_on_at.ensures c.in_ok-push.ensures.items

pub returns : goal.returns
returns c = grind (arith, common_steps)

pub bounds-own-at : goal.bounds-own-at
bounds-own-at c = grind (arith, common_steps)

pub offset_bounds-own-at : goal.offset_bounds-own-at
offset_bounds-own-at c = grind (arith, common_steps)

pub loop-at-init : goal.loop-at-init
loop-at-init c = grind (arith, common_steps)
