-- The way to the region in work stays one where the nodes of the tree change.
use Rattle.std.proofs.Common.{◌≡◌, ◌≢◌, inl, inr, ℕ, ◌+◌, ◌<◌, true, List, [], get_or, None, Some, sym, ap, ◌∙◌, subst, arith}
use Rattle.cip_domain.specs.Changes.{Region, Change}
use Rattle.cip_domain.specs.Narrowing.{ArePlainPast}
use Rattle.cip_tree.specs.Origins.{Origin}
use Rattle.cip_tree.specs.declared.kept.Stage.{Stage}
use Rattle.cip_tree.specs.declared.kept.Stage.TheVariants.{Open, Taken, Ended}
use Rattle.cip_tree.specs.declared.notes.Note.{Note}
use Rattle.cip_tree.specs.declared.queue.OpenNode.{OpenNode}
use Rattle.cip_tree.specs.Freed.{AreReleased}
use Rattle.cip_tree.specs.Inside.{bases, StandsAs, IsInOrder}
use Rattle.cip_tree.specs.Nodes.{Base}
use Rattle.cip_tree.specs.Slots.{Slot, Slots, slot_at, open_slot, AreSoundSlots, IsRestaged, IsReleased, IsParted}
use Rattle.cip_tree.specs.Tracked.{is_live}
use Rattle.cip_tree.specs.Walks.{Way, IsWalked}
use Rattle.cip_tree.proofs.Keeping.{same_slot}
use Rattle.cip_tree.proofs.Paths.{in_work}
use Rattle.cip_tree.proofs.Tracking.{AllWereKept, restaged_kept, released_kept, freed_kept, live_open, live_taken, part_was}
use Rattle.cip_tree.proofs.Walking.{walked_slots}

-- the region of a new tree is in work
pub walked_new : (root work : Region) (slots : Slots) (ids : ℕ) → work ≡ root → ArePlainPast root → ((place : ℕ) (slot : Slot) → slot_at slots place ≡ Some slot → slot.number < ids) → let way : Way = record { domain = record { box = work.box; choices = work.choices; before = []; spare = 0 }; stops = [] } in IsWalked root slots ids way
walked_new root work slots ids e plain given = record {
  plain = plain;
  first = e;
  given = given;
  stops = λ k d l. absurd (omega (arith, l));
}

walked_on : (root : Region) (old new : Slots) (ids : ℕ) (way : Way) → AllWereKept old new → IsWalked root old ids way → IsWalked root new ids way
walked_on root old new ids way was w =
    walked_slots root old new ids ids way (omega arith)
    (λ k s e. let b = was k s e in subst (λ n. n < ids) b.number (w.given k b.before b.found))
    (λ k s e l. let b = was k s e in (k, (b.before, (b.found, (b.number, b.above_is))))) w

module _ (root : Region) (old new : Slots) (ids : ℕ) (way : Way) (kept : AreSoundSlots old) (w : IsWalked root old ids way) where
  -- the first node is taken
  pub walked_first : (e : OpenNode) (had none : List Note) → StandsAs Open old e → IsRestaged old new e.place had none Taken → IsWalked root new ids way
  walked_first e had none s h =
      let open_ : h.slot.stage ≡ Open = sym (ap (λ (x : Slot). x.stage) (same_slot old e.place s.slot h.slot s.found h.was)) ∙ s.stage_is in
      walked_on root old new ids way (restaged_kept old new e.place had none Taken h kept (live_open h.slot.stage open_) (λ f. cc)) w

  -- a node in work is put back or aside
  pub walked_stage : (n : ℕ) (base : Base) → get_or (bases old) n None ≡ Some base → (had notes : List Note) (stage : Stage) → stage ≢ Ended → IsRestaged old new n had notes stage → IsWalked root new ids way
  walked_stage n base e had notes stage still h =
      let s = in_work old n base e in
      let live : is_live h.slot.stage ≡ true = ap (λ (x : Slot). is_live x.stage) (same_slot old n h.slot s.slot h.was s.found) ∙ live_taken s.slot.stage s.taken in
      walked_on root old new ids way (restaged_kept old new n had notes stage h kept live still) w

  -- a node in work is closed
  pub walked_closed : (n : ℕ) → IsReleased old new n → AreSoundSlots new → IsWalked root new ids way
  walked_closed n r now = walked_on root old new ids way (released_kept old new n r now) w

  -- open nodes are let go
  pub walked_freed : (gone : List OpenNode) → AreReleased old new gone → AreSoundSlots new → IsWalked root new ids way
  walked_freed gone r now = walked_on root old new ids way (freed_kept old new gone r now) w

-- a node is split
module _ (region : Region) (old new : Slots) (n : ℕ) (notes : List Note) (lp hp : ℕ) (cl ch : Change) (q p : List OpenNode) (ids work : ℕ) (base : Base) (o : IsInOrder old q p ids work) (w : get_or (bases old) n None ≡ Some base) (h : IsParted old new n notes (open_slot ids (Some (let x : Origin = record { parent = n; change = cl } in x))) (open_slot (ids + 1) (Some (let x : Origin = record { parent = n; change = ch } in x))) lp hp) where
  pub walked_split : (way : Way) → IsWalked region old ids way → IsWalked region new (ids + 2) way
  walked_split way k =
      walked_slots region old new ids (ids + 2) way (omega arith)
      (λ place slot e. elim (part_was None [] region old new n notes lp hp cl ch q p ids work base o w h place slot e) [
        | inl a ↦ omega (arith, a.0.number, k.given place a.0.before a.0.found)
        | inr (inl b) ↦ omega (arith, ap (λ (x : Slot). x.number) b.1)
        | inr (inr b) ↦ omega (arith, ap (λ (x : Slot). x.number) b.1)
      ])
      (λ place slot e l. elim (part_was None [] region old new n notes lp hp cl ch q p ids work base o w h place slot e) [
        | inl a ↦ (place, (a.0.before, (a.0.found, (a.0.number, a.0.above_is))))
        | inr (inl b) ↦ absurd (omega (arith, l, ap (λ (x : Slot). x.number) b.1))
        | inr (inr b) ↦ absurd (omega (arith, l, ap (λ (x : Slot). x.number) b.1))
      ])
      k
