-- The integer that 128 bits stand for.
use Rattle.std.specs.Prelude.{◌≡◌, ℤ}
use Rattle.std.specs.Int.{w128, cast_signed, cast_unsigned}
use Rattle.cip_frac.specs.declared.kept.Signed.TheInside.{Inside}

abbrev pub integer_of : Inside → ℤ
integer_of s = cast_signed w128 s.bits

abbrev pub bits_of : ℤ → Inside
bits_of z = record { bits = cast_unsigned w128 z }

-- the bits are those of their integer
abbrev pub IsInRange : Inside → Type 0
IsInRange s = cast_unsigned w128 (cast_signed w128 s.bits) ≡ s.bits

pub gives_bits_back : (s : Inside) → IsInRange s → bits_of (integer_of s) ≡ s
gives_bits_back s h = λ i. record { bits = h i }
