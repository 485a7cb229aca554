-- Texts of a fraction: an optional sign, digits, `/` and digits; or a number text.
--     fraction_of text     the number that such a text says, or why it says none
use Rattle.std.specs.Prelude.{ℕ, zero, suc, ◌==◌, nat_le, Bool, false, ◌&&◌, if◌then◌else◌, List}
use Rattle.std.specs.List.{list_any, before_first, after_first}
use Rattle.cip_rational.specs.Range.{largest}
use Rattle.cip_rational.specs.Numeral.{Numeral, Exact, NotANumber, Huge, is_minus, without_sign, are_digits, digits_value, numeral_of}

-- what stands between the two numbers of a fraction
abbrev pub is_slash : ℕ → Bool
is_slash byte = byte == 47

-- `size / below`, where neither is above 2^127-1; no number is divided by 0, and 0 has no sign
abbrev pub quotient_numeral : Bool → (size below : ℕ) → Numeral
quotient_numeral negative size zero = NotANumber
quotient_numeral negative zero (suc n) = Exact false 0 1
quotient_numeral negative (suc size) (suc n) = Exact negative (suc size) (suc n)

-- a fraction of two numbers that are written out
abbrev pub written_quotient : Bool → (size below : ℕ) → Numeral
written_quotient negative size below =
    if nat_le size largest && nat_le below largest then quotient_numeral negative size below else Huge negative

-- a text without its sign that has a `/`
abbrev pub slashed : Bool → List ℕ → Numeral
slashed negative body =
    if are_digits (before_first is_slash body) && are_digits (after_first is_slash body)
    then written_quotient negative
    (digits_value (before_first is_slash body)) (digits_value (after_first is_slash body))
    else NotANumber

-- the number that a text of a fraction says, or why it says none; a text without `/` is a number text
unfoldable pub fraction_of : List ℕ → Numeral
fraction_of text = if list_any is_slash text then slashed (is_minus text) (without_sign text) else numeral_of text
