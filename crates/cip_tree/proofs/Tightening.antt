-- A side of a node in work is tightened.
use Rattle.std.proofs.Common.{◌≡◌, ◌≢◌, ◌⊎◌, inl, inr, ◌++◌, [], ◌∷◌, refl, sym, ap, ◌∙◌}
use Rattle.cip_domain.specs.Changes.{Region, tightened, narrowed}
use Rattle.cip_domain.specs.declared.stores.Tightened.{Tightened}
use Rattle.cip_domain.specs.declared.stores.Tightened.TheVariants.{Yes, Same, Empty}
use Rattle.cip_tree.specs.declared.notes.Note.{Note}
use Rattle.cip_tree.specs.Notes.{noted_change}
use Rattle.cip_tree.specs.Nodes.{TakenNode, Nodes, base_at, base_changes, region_in, region_of}
use Rattle.cip_tree.specs.Tightening.{region_after, IsNoted, IsTightened}
use Rattle.cip_tree.proofs.Walking.{noted-append}

-- a node after one note more, whatever region is in work
more_noted : (tree : Nodes) (work : Region) (had has : TakenNode) (note : Note) → has ≡ record had { notes = had.notes ++ note ∷ [] } → region_of (record tree { work = work }) has ≡ tightened (region_of tree had) (noted_change note)
more_noted tree work had has note e =
    ap (region_of tree) e
    ∙ ap (λ l. narrowed (region_in tree.root) (l ++ base_changes (base_at tree had.place))) (noted-append had.notes (note ∷ []))

pub is_noted : (tree : Nodes) (work : Region) (had has : TakenNode) (note : Note) → tree.work ≡ region_of tree had → work ≡ tightened tree.work (noted_change note) → has ≡ record had { notes = had.notes ++ note ∷ [] } → IsNoted tree (record tree { work = work }) had has note
is_noted tree work had has note w e f =
    let more = more_noted tree work had has note f in
    record {
      tree = ap (λ r. (let t : Nodes = record tree { work = r } in t)) e;
      node = f;
      region = more;
      work = e ∙ ap (λ r. tightened r (noted_change note)) w ∙ sym more;
    }

pub not_yes : (answer : Tightened) → (answer ≡ Same) ⊎ (answer ≡ Empty) → answer ≢ Yes
not_yes answer (inl e) f = let y : Same ≡ Yes = sym e ∙ f in cc
not_yes answer (inr e) f = let y : Empty ≡ Yes = sym e ∙ f in cc

-- what it came to
pub tightened_so : (answer : Tightened) (tree : Nodes) (work : Region) (had has : TakenNode) (note : Note) → tree.work ≡ region_of tree had → work ≡ region_after answer tree.work (noted_change note) → (answer ≡ Yes → has ≡ record had { notes = had.notes ++ note ∷ [] }) → (answer ≢ Yes → has ≡ had) → IsTightened answer tree (record tree { work = work }) had has note
tightened_so Yes tree work had has note w e f g = is_noted tree work had has note w e (f refl)
tightened_so Same tree work had has note w e f g = (ap (λ r. (let t : Nodes = record tree { work = r } in t)) e, g (λ x. let y : Same ≡ Yes = x in cc))
tightened_so Empty tree work had has note w e f g = (ap (λ r. (let t : Nodes = record tree { work = r } in t)) e, g (λ x. let y : Empty ≡ Yes = x in cc))
