-- The index of a pool: the ids of its rows by their fingerprints.
use Rattle.std.specs.Prelude.{List, All}
use Rattle.std.specs.List.{Contains}
use Rattle.std.specs.List.Sorted.{IsNonDecreasingBy}
use Rattle.cip_cert.specs.declared.rows.PoolRow.{PoolRow}
use Rattle.cip_rows.specs.Mixed.{fingerprint}
use Rattle.cip_rows.specs.declared.index.Entry.{Entry}

-- the entry of a row that is held
abbrev pub entry_of : PoolRow → Entry
entry_of kept = record { print = fingerprint kept.row; id = kept.id; rests = kept.rests }

-- the entries stand by rising fingerprint
abbrev pub AreSorted : List Entry → Type 0
AreSorted entries = IsNonDecreasingBy (λ entry. entry.print) entries

-- entries with one more: they stand by rising fingerprint still, and it is among them, as is each that was there
pub record IsEntered (before : List Entry) (entry : Entry) (after : List Entry) : Type 0 where
  pub sorted : AreSorted after
  pub own : Contains after entry
  pub others : (other : Entry) → Contains before other → Contains after other

-- the entries stand so, and each row that is held has its own among them
pub record IsIndex (rows : List PoolRow) (entries : List Entry) : Type 0 where
  pub sorted : AreSorted entries
  pub covers : All (λ kept. Contains entries (entry_of kept)) rows
