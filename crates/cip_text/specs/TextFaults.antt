-- Faults as they are told. A fault is of some kinds, and `number_of` gives their numbers.
--     IsSaid number_of known answer      what is told of a fault that is known, or of none
--     IsToldBy number_of IsKnown answer      the same, by which lines and kinds are known
--     IsFaultBy number_of HasFault fault      why a text gives nothing
use Rattle.std.specs.Prelude.{◌≡◌, ⊤, ℕ, Option, None, Some, Result, Ok, Err}
use Rattle.cip_text.specs.declared.faults.KnownFault.{KnownFault}
use Rattle.cip_text.specs.declared.text_faults.TextFault.{TextFault}
use Rattle.cip_text.specs.declared.text_faults.ReadFault.{ReadFault}
use Rattle.cip_text.specs.declared.text_faults.ReadFault.TheVariants.{Faulty, NoMemory}

-- a fault by the number of its kind
abbrev pub by_number : {K : Type 0} → (number_of : K → ℕ) → TextFault K → KnownFault
by_number number_of fault = record { line = fault.line; kind = number_of fault.kind }

-- what is told of a fault that is known, or of none
abbrev pub IsSaid : {K : Type 0} → (number_of : K → ℕ) → Option KnownFault → Result (Unit {0}) (TextFault K) → Type 0
IsSaid number_of known (Ok _) = known ≡ None
IsSaid number_of known (Err fault) = known ≡ Some (by_number number_of fault)

-- a fault is told that is known on its line, of its kind; or none is, and then no line and kind is known
abbrev pub IsToldBy : {K : Type 0} → (number_of : K → ℕ) → (IsKnown : (line kind : ℕ) → Type 0)
    → Result (Unit {0}) (TextFault K) → Type 0
IsToldBy number_of IsKnown (Ok _) = (line kind : ℕ) → ¬ IsKnown line kind
IsToldBy number_of IsKnown (Err fault) = IsKnown fault.line (number_of fault.kind)

-- why a text gives nothing: it has its first fault on this line, of this kind; want of memory says nothing of it
abbrev pub IsFaultBy : {K : Type 0} → (number_of : K → ℕ) → (HasFault : (line kind : ℕ) → Type 0) → ReadFault K
    → Type 0
IsFaultBy number_of HasFault (Faulty fault) = HasFault fault.line (number_of fault.kind)
IsFaultBy number_of HasFault NoMemory = ⊤
