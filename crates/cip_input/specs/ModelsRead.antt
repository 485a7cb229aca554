-- Reading the program of a text that is pulled from a store.
--     Reads name text old new program      the program of the text of this name was read
--     ReadCause name text old new cause      why there is none
use Rattle.std.specs.Prelude.{◌≡◌, ℕ, List, Option, IfSome}
use Rattle.cip_io.specs.Faults.{Rose}
use Rattle.cip_io.specs.Store.{StoreTells}
use Rattle.cip_problem.specs.Program.{Program}
use Rattle.cip_input.specs.Models.{is_lp_name, HasModel, HasModelFault, is_lp_kind, model_kind_number}
use Rattle.cip_input.specs.TextPulls.{IsAllPulled}
use Rattle.cip_blocks.specs.TextFault.{TextFault}
use Rattle.cip_input.specs.declared.model_kinds.ModelKind.{ModelKind}
use Rattle.cip_input.specs.declared.unread.Unread.{Unread}
use Rattle.cip_input.specs.declared.unread.Unread.TheVariants.{StoreFailed, Faulty, NoMemory}

-- ---- `old` and `new` are the store before and after the call

-- a program that was read: it is that of a text, and of the text that the store tells
pub record IsRead (name : List ℕ) (text : Option (List ℕ)) (program : Program) : Type 0 where
  pub bytes : List ℕ
  pub described : HasModel name bytes program
  pub told : IfSome text (λ told. told ≡ bytes)

-- a program was read, the text was pulled, and no call of the store has failed
pub record Reads (name : List ℕ) (text : Option (List ℕ)) (old new : StoreTells) (program : Program) : Type 0 where
  pub is_read : IsRead name text program
  pub pulled : IsAllPulled text new
  pub sound : new.faults ≡ old.faults

-- this is the first fault of the text, told as one of its kind of text; it was pulled, and no call of the store has
-- failed
pub record Refuses (name : List ℕ) (text : Option (List ℕ)) (old new : StoreTells)
    (fault : TextFault ModelKind) : Type 0 where
  pub first : IfSome text (λ bytes. HasModelFault name bytes fault.line (model_kind_number fault.kind))
  pub own : is_lp_kind fault.kind ≡ is_lp_name name
  pub pulled : IsAllPulled text new
  pub sound : new.faults ≡ old.faults

-- why there is no program: the store failed, or the text is faulty; want of memory says nothing of the text
abbrev pub ReadCause : (name : List ℕ) (text : Option (List ℕ)) (old new : StoreTells) → Unread ModelKind → Type 0
ReadCause name text old new StoreFailed = Rose old.faults new.faults
ReadCause name text old new (Faulty fault) = Refuses name text old new fault
ReadCause name text old new NoMemory = new.faults ≡ old.faults
