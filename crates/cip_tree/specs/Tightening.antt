-- A side of a node in work is tightened.
use Rattle.std.specs.Prelude.{◌≡◌, [], ◌∷◌, ◌++◌}
use Rattle.cip_domain.specs.Changes.{Region, Change, tightened}
use Rattle.cip_domain.specs.declared.stores.Tightened.{Tightened}
use Rattle.cip_domain.specs.declared.stores.Tightened.TheVariants.{Yes, Same, Empty}
use Rattle.cip_tree.specs.declared.notes.Note.{Note}
use Rattle.cip_tree.specs.Notes.{noted_change}
use Rattle.cip_tree.specs.Nodes.{TakenNode, Nodes, region_of}

-- a region after a change of one side, by what that came to
abbrev pub region_after : Tightened → Region → Change → Region
region_after Yes region change = tightened region change
region_after Same region change = region
region_after Empty region change = region

-- a note was made in a node and in the region in work, and nothing else has changed: that is the node's region still
pub record IsNoted (old new : Nodes) (had has : TakenNode) (note : Note) : Type 0 where
  pub tree : new ≡ record old { work = tightened old.work (noted_change note) }
  pub node : has ≡ record had { notes = had.notes ++ note ∷ [] }
  pub region : region_of new has ≡ tightened (region_of old had) (noted_change note)
  pub work : new.work ≡ region_of new has

-- it was, or nothing has changed
abbrev pub IsTightened : Tightened → Nodes → Nodes → TakenNode → TakenNode → Note → Type 0
IsTightened Yes old new had has note = IsNoted old new had has note
IsTightened Same old new had has note = (new ≡ old) × (has ≡ had)
IsTightened Empty old new had has note = (new ≡ old) × (has ≡ had)
