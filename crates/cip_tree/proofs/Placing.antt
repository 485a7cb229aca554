-- What stands at a place after a node there was taken out and put back, and after its halves were put in.
use Rattle.std.proofs.Common.{◌≡◌, ◌≢◌, ℕ, List, None, Some, sym, ap, ◌∙◌, subst}
use Rattle.std.proofs.lemmas.Option.{none-some}
use Rattle.slab.specs.Slab.{Slab, Updates}
use Rattle.cip_tree.specs.declared.notes.Note.{Note}
use Rattle.cip_tree.specs.declared.kept.Stage.TheVariants.{Ended}
use Rattle.cip_tree.specs.Slots.{Slot, slot_at, IsParted}

-- what was taken out of a place is put back there
pub replaced : (old gone new : Slab Slot) (place key : ℕ) (slot : Slot) → key ≡ place → Updates old gone place None
    → Updates gone new key (Some slot) → Updates old new place (Some slot)
replaced old gone new place key slot e g u =
    let v : Updates gone new place (Some slot) = subst (λ k. Updates gone new k (Some slot)) e u in
    record { changed = v.changed; others = λ k d. v.others k d ∙ g.others k d }

-- a node has ended where it stood, and its halves stand at places that were free
pub halves_placed : (old here more new : Slab Slot) (place low_place high_place : ℕ) (slot low high : Slot)
    (notes : List Note) → slot_at old.slots place ≡ Some slot
    → Updates old here place (Some (record slot { notes = notes; below = 2; stage = Ended }))
    → slot_at here.slots low_place ≡ None → Updates here more low_place (Some low)
    → slot_at more.slots high_place ≡ None → Updates more new high_place (Some high)
    → IsParted old.slots new.slots place notes low high low_place high_place
halves_placed old here more new place low_place high_place slot low high notes was h low_free l high_free u =
    let not_low : place ≢ low_place = λ e. none-some _ (sym low_free ∙ sym (ap (slot_at here.slots) e) ∙ h.changed) in
    let still : slot_at more.slots place ≡ Some (record slot { notes = notes; below = 2; stage = Ended }) = l.others
    place not_low ∙ h.changed in
    let not_high : place ≢ high_place = λ e. none-some _ (sym high_free ∙ sym (ap (slot_at more.slots) e) ∙ still) in
    let differ : low_place ≢ high_place = λ e. none-some low
    (sym high_free ∙ sym (ap (slot_at more.slots) e) ∙ l.changed) in
    record {
      slot = slot;
      was = was;
      now = u.others place not_high ∙ still;
      low_new = sym (h.others low_place (λ e. not_low (sym e))) ∙ low_free;
      high_new = sym (h.others high_place (λ e. not_high (sym e))) ∙ sym (l.others high_place (λ e. differ (sym e)))
          ∙ high_free;
      low_now = u.others low_place differ ∙ l.changed;
      high_now = u.changed;
      differ = differ;
      others = λ k d e f. u.others k f ∙ l.others k e ∙ h.others k d;
    }
