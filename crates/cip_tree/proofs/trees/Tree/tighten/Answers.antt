use Rattle.std.proofs.lemmas.Grind.{common_steps}
use Rattle.std.proofs.Common.{◌≡◌, ◌≢◌, List, ◌++◌, [], ◌∷◌, sym, ap, ◌∙◌, subst, refl, arith}
use Rattle.cip_domain.specs.Domain.{region_of as region_in_work}
use Rattle.cip_domain.specs.declared.stores.Tightened.TheVariants.{Yes}
use Rattle.cip_tree.specs.declared.notes.Note.{Note}
use Rattle.cip_tree.specs.Nodes.{Nodes, TakenNode, node_in, region_of}
use Rattle.cip_tree.proofs.Tightening.{tightened_so, not_yes}
use Rattle.std.proofs.lemmas.Result.{IfOk-from_err, MatchResult-from_err}
use Rattle.cip_domain.specs.Changes.{Region}
use Rattle.cip_tree.specs.Entries.{entries_of}
use Rattle.cip_tree.specs.Inside.{bases, nodes_at}
use Rattle.cip_tree.proofs.trees.Tree.tighten.Goals as goal
use Rattle.cip_tree.proofs.trees.Tree.tighten.Goals.{in-Yes, in-Same}

pub invariant_of-self : goal.invariant_of-self
invariant_of-self c = (
  c.self.invariant.0,
  c.self.invariant.1,
  c.self.invariant.2,
  c.tighten.ensures.walked c.self.inside.kept.slots c.self.inside.root c.self.inside.ids c.self.invariant.3,
)

pub invariant_of-self-2 : goal.invariant_of-self-2
invariant_of-self-2 c = (
  c.self.invariant.0,
  c.self.invariant.1,
  c.self.invariant.2,
  c.tighten.ensures.walked c.self.inside.kept.slots c.self.inside.root c.self.inside.ids c.self.invariant.3,
)

pub returns-clause-tightened : goal.returns-clause-tightened
returns-clause-tightened c =
    let note : Note = record { col = c.args.col; side = c.args.side; value = c.args.value } in
    let with_notes : List Note → TakenNode = λ l. record { number = c.node.inside.id; bound = c.node.inside.bound; place = c.node.inside.place; notes = l } in
    let noted : c.in_ok-answer.answer ≡ Yes → c.match-answer.node ≡ record c.args.node.now { notes = c.args.node.now.notes ++ note ∷ [] } = λ a. elim c.match-answer.branch [
      | in-Yes w ↦
          w.node-is ∙ ap with_notes (w.push_reserved.ensures.items ∙ ap (λ l. l ++ note ∷ []) c.reserve.ensures.items)
          ∙ ap (λ (n : TakenNode). (let x : TakenNode = record n { notes = n.notes ++ note ∷ [] } in x)) c.node.view_is
      | in-Same w ↦ absurd (not_yes c.in_ok-answer.answer w.in-Same.is a)
    ] in
    let still : c.in_ok-answer.answer ≢ Yes → c.match-answer.node ≡ c.args.node.now = λ d. elim c.match-answer.branch [
      | in-Yes w ↦ absurd (d w.in-Yes.is)
      | in-Same w ↦ w.node-is ∙ ap with_notes c.reserve.ensures.items ∙ c.node.view_is
    ] in
    let work = subst (λ (t : Nodes). t.work ≡ region_of t c.args.node.now) (sym c.self.view_is) c.requires.work in
    rw (← c.self.view_is)
    (tightened_so c.in_ok-answer.answer _ (region_in_work c.tighten.new.self.domain) c.args.node.now c.match-answer.node note work c.in_ok-answer.ensures.region noted still)

pub tighten-requires : goal.tighten-requires
tighten-requires c = grind (arith, common_steps)

pub returns-clause-outcome : goal.returns-clause-outcome
returns-clause-outcome c = grind (arith, common_steps)

pub push_reserved-requires : goal.push_reserved-requires
push_reserved-requires c = grind (arith, common_steps)

pub returns-in_err-answer-clause-tightened : goal.returns-in_err-answer-clause-tightened
returns-in_err-answer-clause-tightened c =
    let worked : Region → Nodes = λ r. record {
      root = node_in c.self.inside.root 0 c.self.inside.root_bound;
      integral = c.self.inside.whole.items;
      open_ = nodes_at c.self.inside.root c.self.inside.kept.slots c.self.inside.queue.nodes;
      parked = nodes_at c.self.inside.root c.self.inside.kept.slots c.self.inside.parked.items;
      taken = bases c.self.inside.kept.slots;
      ids = c.self.inside.ids;
      log = entries_of c.self.inside.log.items;
      work = r;
    } in
    let with_notes : List Note → TakenNode = λ l. record
    { number = c.node.inside.id; bound = c.node.inside.bound; place = c.node.inside.place; notes = l } in
    MatchResult-from_err c.from_residual-in_err-answer.result _ _ c.from_residual-in_err-answer.ensures.0
    (λ _. (
      ap worked c.in_err-answer.ensures.region ∙ c.self.view_is,
      ap with_notes c.reserve.ensures.items
          ∙ c.node.view_is,
    ))

pub returns-in_err-answer-clause-outcome : goal.returns-in_err-answer-clause-outcome
returns-in_err-answer-clause-outcome c = IfOk-from_err c.from_residual-in_err-answer.result _
    c.from_residual-in_err-answer.ensures.0

pub returns-in_err-reserve-clause-outcome : goal.returns-in_err-reserve-clause-outcome
returns-in_err-reserve-clause-outcome c = IfOk-from_err c.from_residual.result _ c.from_residual.ensures.0

pub returns-in_err-reserve-clause-tightened : goal.returns-in_err-reserve-clause-tightened
returns-in_err-reserve-clause-tightened c =
    let with_notes : List Note → TakenNode = λ l. record
    { number = c.node.inside.id; bound = c.node.inside.bound; place = c.node.inside.place; notes = l } in
    MatchResult-from_err c.from_residual.result _ _ c.from_residual.ensures.0
    (λ _. (refl, ap with_notes c.reserve.ensures.items ∙ c.node.view_is))
