-- What the reading of a text of a model answers.
use Rattle.std.specs.Prelude.{◌≡◌, ◌⊎◌, Bool, true, false, List, Option, None, Some, ℕ, take, IfSome, Result, Ok, Err, MatchResult}
use Rattle.std.proofs.Common.{◌∙◌, inl, inr, sym, subst}
use Rattle.cip_io.specs.Faults.{Rose}
use Rattle.cip_io.specs.Store.{StoreTells}
use Rattle.cip_problem.specs.Program.{Choice, Program}
use Rattle.cip_problem.specs.Choices.{choice_at}
use Rattle.cip_text_rules.specs.MpsOutcome.{mps_reading}
use Rattle.cip_text_rules.specs.MpsStatements.{ProgramsAreWellFormed}
use Rattle.cip_text_rules.specs.MpsStepStatements.{ValuesAreTested}
use Rattle.cip_text_rules.specs.LpOutcome.{lp_reading}
use Rattle.cip_text_rules.specs.LpStatements.{LpProgramsAreWellFormed}
use Rattle.cip_input.specs.LimitedModels.{HasNearOwn, IsLimited, ProgramsAreLimited}
use Rattle.cip_blocks.specs.ReadFault.{ReadFault}
use Rattle.cip_blocks.specs.ReadFault.TheVariants as reader
use Rattle.cip_blocks.specs.TextFaults.{IsFaultBy}
use Rattle.cip_input.specs.Models.{is_lp_name, HasProgramAs, HasFaultAs, is_lp_kind, model_kind_number}
use Rattle.cip_input.specs.TextPulls.{most_pulled, IsAllRead, PullCause}
use Rattle.cip_input.specs.ModelsRead.{Reads, ReadCause}
use Rattle.cip_input.specs.Unreads.{IsUnread}
use Rattle.cip_input.specs.declared.model_kinds.ModelKind.{ModelKind}
use Rattle.cip_input.specs.declared.unread.Unread.{Unread}
use Rattle.cip_input.specs.declared.unread.Unread.TheVariants.{StoreFailed, Faulty, NoMemory}
use Rattle.cip_input.proofs.LineTextsRead.{text_told, fault_told}
use Rattle.cip_input.proofs.LpNear.{lp_sides_near, lp_choices_none}
use Rattle.cip_input.proofs.NearSides.{sides_near, own_near}

-- ---- what the start says of the text

as_told : (lp : Bool) (text : Option (List ℕ)) (bytes : List ℕ) (program : Program) → IfSome text (λ all. take most_pulled all ≡ bytes) → HasProgramAs lp bytes program → IfSome text (λ all. all ≡ bytes)
as_told true text bytes program h p = text_told lp_reading text bytes program h p
as_told false text bytes program h p = text_told mps_reading text bytes program h p

as_fault : (lp : Bool) (text : Option (List ℕ)) (bytes : List ℕ) (line kind : ℕ) → IfSome text (λ all. take most_pulled all ≡ bytes) → HasFaultAs lp bytes line kind → IfSome text (λ all. HasFaultAs lp all line kind)
as_fault true None bytes line kind h p = tt
as_fault true (Some all) bytes line kind h p = record { number = p.number; fault = fault_told lp_reading (Some all) bytes line p.number h p.fault; is_kind = p.is_kind }
as_fault false text bytes line kind h p = fault_told mps_reading text bytes line kind h p

-- the text was read, and has a program
pub model_read : (lp : Bool) (name : List ℕ) → is_lp_name name ≡ lp → (HasRead : List ℕ → Type 0) (chosen now : StoreTells) (a : IsAllRead HasRead chosen now) (program : Program) → HasProgramAs lp a.bytes program → Reads name chosen.left chosen now program
model_read lp name e HasRead chosen now a program h = record {
  is_read = record {
    bytes = a.bytes;
    described = subst (λ (b : Bool). HasProgramAs b a.bytes program) (sym e) h;
    told = as_told lp chosen.left a.bytes program a.start h;
  };
  pulled = a.pulled;
  sound = a.sound;
}

-- the text was read, and has a fault
pub model_unread : {K : Type 0} (number_of : K → ℕ) (lp : Bool) (name : List ℕ) → is_lp_name name ≡ lp → (Gives : K → ModelKind → Type 0) → ((kind : K) (made : ModelKind) → Gives kind made → (model_kind_number made ≡ number_of kind) × (is_lp_kind made ≡ lp)) → (HasRead : List ℕ → Type 0) (chosen now : StoreTells) (a : IsAllRead HasRead chosen now)
    (fault : ReadFault K) → IsFaultBy number_of (HasFaultAs lp a.bytes) fault → (cause : Unread ModelKind) → IsUnread Gives fault cause → ReadCause name chosen.left chosen now cause
model_unread number_of lp name e Gives same HasRead chosen now a (reader.Faulty fault) h (Faulty told) t =
    let kind = same fault.kind told.kind t.1 in
    let there : HasFaultAs lp a.bytes told.line (model_kind_number told.kind) = subst (λ line. HasFaultAs lp a.bytes line (model_kind_number told.kind)) (sym t.0) (subst (λ k. HasFaultAs lp a.bytes fault.line k) (sym kind.0) h) in
    record {
      first = subst (λ (b : Bool). IfSome chosen.left (λ bytes. HasFaultAs b bytes told.line (model_kind_number told.kind))) (sym e) (as_fault lp chosen.left a.bytes told.line (model_kind_number told.kind) a.start there);
      own = kind.1 ∙ sym e;
      pulled = a.pulled;
      sound = a.sound;
    }
model_unread number_of lp name e Gives same HasRead chosen now a (reader.Faulty fault) h StoreFailed t = absurd t
model_unread number_of lp name e Gives same HasRead chosen now a (reader.Faulty fault) h NoMemory t = absurd t
model_unread number_of lp name e Gives same HasRead chosen now a reader.NoMemory h cause t = subst (ReadCause name chosen.left chosen now) (sym t) a.sound

model_pulled : (name : List ℕ) (text : Option (List ℕ)) (old new : StoreTells) (cause : Unread ModelKind) → PullCause old new cause → ReadCause name text old new cause
model_pulled name text old new StoreFailed p = p
model_pulled name text old new (Faulty fault) p = absurd p
model_pulled name text old new NoMemory p = p

-- the program that a text gave that was read, or its fault, or why it was not read
pub model_told : {K : Type 0} (number_of : K → ℕ) (lp : Bool) (name : List ℕ) → is_lp_name name ≡ lp → (Gives : K → ModelKind → Type 0) → ((kind : K) (made : ModelKind) → Gives kind made → (model_kind_number made ≡ number_of kind) × (is_lp_kind made ≡ lp)) → (old new : StoreTells) (result : Result Program (Unread ModelKind))
    → MatchResult result (λ program. IsAllRead (λ bytes. HasProgramAs lp bytes program) old new) (λ cause. PullCause old new cause ⊎ ((fault : ReadFault K) × IsUnread Gives fault cause × IsAllRead (λ bytes. IsFaultBy number_of (HasFaultAs lp bytes) fault) old new))
    → MatchResult result (Reads name old.left old new) (ReadCause name old.left old new)
model_told number_of lp name e Gives same old new (Ok program) all = model_read lp name e _ old new all program all.has_read
model_told number_of lp name e Gives same old new (Err cause) (inl p) = model_pulled name old.left old new cause p
model_told number_of lp name e Gives same old new (Err cause) (inr told) = model_unread number_of lp name e Gives same _ old new told.2 told.0 told.2.has_read cause told.1

-- the same over a call that began before the text was chosen
pub read_later : (name : List ℕ) (text : Option (List ℕ)) (old chosen new : StoreTells) (result : Result Program (Unread ModelKind)) → chosen.left ≡ text → chosen.faults ≡ old.faults → MatchResult result (Reads name chosen.left chosen new) (ReadCause name chosen.left chosen new) → MatchResult result (Reads name text old new) (ReadCause name text old new)
read_later name text old chosen new result is_text same m = later result (subst (λ t. MatchResult result (Reads name t chosen new) (ReadCause name t chosen new)) is_text m)
  where
    later : (result : Result Program (Unread ModelKind)) → MatchResult result (Reads name text chosen new) (ReadCause name text chosen new) → MatchResult result (Reads name text old new) (ReadCause name text old new)
    later (Ok program) m = record { is_read = m.is_read; pulled = m.pulled; sound = m.sound ∙ same }
    later (Err StoreFailed) m = subst (λ count. Rose count new.faults) same m
    later (Err (Faulty fault)) m = record { first = m.first; own = m.own; pulled = m.pulled; sound = m.sound ∙ same }
    later (Err NoMemory) m = m ∙ same

-- ---- limits

limited_as : (lp : Bool) → ProgramsAreWellFormed → LpProgramsAreWellFormed → ValuesAreTested → (text : List ℕ) (program : Program) → HasProgramAs lp text program → IsLimited program
limited_as true formed lp_formed v text program h = record {
  well_formed = lp_formed text program h;
  near = lp_sides_near v text program h;
  own = λ column. subst (λ (choices : List Choice). HasNearOwn (choice_at choices column)) (sym (lp_choices_none text program h)) tt;
}
limited_as false formed lp_formed v text program h = record {
  well_formed = formed text program h;
  near = sides_near v text program h;
  own = own_near v text program h;
}

pub each_limited : ProgramsAreWellFormed → LpProgramsAreWellFormed → ValuesAreTested → ProgramsAreLimited
each_limited formed lp_formed v name text program h = limited_as (is_lp_name name) formed lp_formed v text program h
