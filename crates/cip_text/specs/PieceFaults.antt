-- Faults of a text, and which of them counts.
use Rattle.std.specs.Prelude.{ℕ, ◌==◌, nat_lt, nat_le, Bool, true, ◌&&◌, ◌||◌, if◌then◌else◌, Option, None, Some}
use Rattle.cip_text_rules.specs.LineStream.{LineFault}
use Rattle.cip_text.specs.declared.faults.KnownFault.{KnownFault}

-- a fault of the code
abbrev pub line_fault : KnownFault → LineFault
line_fault fault = record { line = fault.line; kind = fault.kind }

-- the first fault behind a line that has one of this kind, or none
abbrev pub first_fault : Option KnownFault → (line : ℕ) → Option ℕ → Option KnownFault
first_fault (Some fault) line kind = Some fault
first_fault None line None = None
first_fault None line (Some kind) = Some (record { line = line; kind = kind })

-- a fault stays the first one where the text is too long, with its first byte too many on this line
abbrev pub stays : (long last : ℕ) → KnownFault → Bool
stays long last fault = nat_lt fault.line last || (fault.line == last && nat_lt fault.kind long)

-- the fault of a text that is too long
abbrev pub fault_when_long : (long last : ℕ) → Option KnownFault → KnownFault
fault_when_long long last None = record { line = last; kind = long }
fault_when_long long last (Some fault) =
    if stays long last fault then fault else record { line = last; kind = long }

-- the kind of a fault, where there is one, is from 1 to this number
abbrev pub has_kind_to : (most : ℕ) → Option KnownFault → Bool
has_kind_to most None = true
has_kind_to most (Some fault) = nat_lt 0 fault.kind && nat_le fault.kind most
