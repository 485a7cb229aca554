use Rattle.std.proofs.lemmas.Grind.{common_steps}
use Rattle.std.proofs.Common.{◌≡◌, ◌++◌, None, List, get_or, refl, ap, ◌∙◌, subst, IfOk, arith}
use Rattle.cip_tree.specs.Origins.{after}
use Rattle.cip_domain.specs.Domain.{region_of as region_in_work}
use Rattle.cip_tree.specs.declared.notes.Note.{Note}
use Rattle.cip_tree.specs.Notes.{noted}
use Rattle.cip_tree.specs.Nodes.{Nodes, TakenNode, base_at, region_of}
use Rattle.cip_tree.specs.Inside.{bases}
use Rattle.cip_tree.specs.Slots.{above}
use Rattle.cip_tree.specs.Walks.{IsEntered}
use Rattle.cip_tree.proofs.Paths.{in_work}
use Rattle.cip_tree.proofs.Filled.{after_base, unfilled}
use Rattle.cip_tree.proofs.trees.Tree.enter.Goals as goal

pub enter-requires-clause-slot : goal.enter-requires-clause-slot
enter-requires-clause-slot c =
    let base = unfilled c.self.inside.root.choices (get_or (bases c.self.inside.kept.slots) c.node.inside.place None) c.requires.base (ap (λ (t : Nodes). base_at t c.node.inside.place) c.self.view_is ∙ ap (λ (x : TakenNode). base_at c.args.self.now x.place) c.node.view_is ∙ c.requires.found) in
    let s = in_work c.self.inside.kept.slots c.node.inside.place base.raw base.found in
    rw (s.found) refl

pub invariant_of-self : goal.invariant_of-self
invariant_of-self c = (
  c.self.invariant.0,
  c.self.invariant.1,
  c.self.invariant.2,
  c.enter.ensures.walked c.self.inside.ids c.self.invariant.3,
)

pub returns-clause-entered : goal.returns-clause-entered
returns-clause-entered c =
    let base = unfilled c.self.inside.root.choices (get_or (bases c.self.inside.kept.slots) c.node.inside.place None) c.requires.base (ap (λ (t : Nodes). base_at t c.node.inside.place) c.self.view_is ∙ ap (λ (x : TakenNode). base_at c.args.self.now x.place) c.node.view_is ∙ c.requires.found) in
    let s = in_work c.self.inside.kept.slots c.node.inside.place base.raw base.found in
    let region_is : after c.self.inside.root (noted c.as_slice.result.now ++ above s.slot.number c.self.inside.kept.slots s.slot.origin) ≡ region_of c.args.self.now c.args.node.now =
    ap (λ (l : List Note). after c.self.inside.root (noted l ++ above s.slot.number c.self.inside.kept.slots s.slot.origin)) c.as_slice.ensures.value
    ∙ ap (λ l. after c.self.inside.root (noted c.node.inside.notes.items ++ l)) s.changes
    ∙ after_base c.self.inside.root c.node.inside.notes.items (get_or (bases c.self.inside.kept.slots) c.node.inside.place None) base.raw base.found
    ∙ ap (λ (t : Nodes). region_of t (let x : TakenNode = record { number = c.node.inside.id; bound = c.node.inside.bound; place = c.node.inside.place; notes = c.node.inside.notes.items } in x)) c.self.view_is
    ∙ ap (λ (x : TakenNode). region_of c.args.self.now x) c.node.view_is in
    subst (λ r. IfOk c.enter.result (IsEntered (region_in_work c.enter.new.self.domain) r)) region_is
    (c.enter.ensures.entered c.self.inside.ids s.slot c.self.invariant.3 s.found)

pub returns-clause-rest : goal.returns-clause-rest
returns-clause-rest c = grind (arith, common_steps)
