-- Nodes that are in work stay so.
use Rattle.std.proofs.Common.{◌≡◌, sym, ap, ◌∙◌, subst}
use Rattle.std.proofs.lemmas.Option.{none-some}
use Rattle.cip_tree.specs.Nodes.{TakenNode, Nodes, base_at, IsTaken}
use Rattle.cip_tree.specs.Moves.{TakesFirst}

-- where another is taken
pub still_taken : (old new : Nodes) (node next : TakenNode) → IsTaken old node → TakesFirst old new next → IsTaken new node
still_taken old new node next t f = record {
  base = t.base;
  found = f.others node.place (λ e. none-some t.base (sym f.fresh ∙ ap (base_at old) (sym e) ∙ t.found)) ∙ t.found;
  same = t.same;
}

-- and where another region is in work
pub taken_there : (old new : Nodes) (node : TakenNode) → new ≡ record old { work = new.work } → IsTaken old node → IsTaken new node
taken_there old new node e t =
    subst (λ (n : Nodes). IsTaken n node) (sym e) (record { base = t.base; found = t.found; same = t.same })
