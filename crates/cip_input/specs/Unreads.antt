-- Why nothing was read of a text in a store.
--     IsUnread Gives fault cause      a reader's fault, as it is told of a text in a store
--     UnreadCause number_of HasFault text old new cause      why nothing was read of a text
use Rattle.std.specs.Prelude.{◌≡◌, ℕ, List, Option}
use Rattle.cip_io.specs.Faults.{Rose}
use Rattle.cip_io.specs.Store.{StoreTells}
use Rattle.cip_blocks.specs.ReadFault.{ReadFault}
use Rattle.cip_blocks.specs.ReadFault.TheVariants as reader
use Rattle.cip_input.specs.TextsRead.{RefusesText}
use Rattle.cip_input.specs.declared.unread.Unread.{Unread}
use Rattle.cip_input.specs.declared.unread.Unread.TheVariants.{StoreFailed, Faulty, NoMemory}

-- a reader's fault, told of a text in a store: its kind becomes one that `Gives` says
abbrev pub IsUnread : {K L : Type 0} → (Gives : K → L → Type 0) → ReadFault K → Unread L → Type 0
IsUnread Gives (reader.Faulty fault) (Faulty told) = (told.line ≡ fault.line) × Gives fault.kind told.kind
IsUnread Gives (reader.Faulty fault) other = ⊥
IsUnread Gives reader.NoMemory cause = cause ≡ NoMemory

-- why nothing was read between these moments of the store: it failed, or the text is faulty; want of memory says
-- nothing of the text
abbrev pub UnreadCause : {K : Type 0} → (number_of : K → ℕ) → (HasFault : List ℕ → (line kind : ℕ) → Type 0)
    → (text : Option (List ℕ)) → (old new : StoreTells) → Unread K → Type 0
UnreadCause number_of HasFault text old new StoreFailed = Rose old.faults new.faults
UnreadCause number_of HasFault text old new (Faulty fault) =
    RefusesText HasFault text old new fault.line (number_of fault.kind)
UnreadCause number_of HasFault text old new NoMemory = new.faults ≡ old.faults
