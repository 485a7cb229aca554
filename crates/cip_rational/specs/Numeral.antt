-- Number texts, as lists of bytes: an optional sign, decimal digits with at most one point and at least one digit, and
-- an optional exponent: `e` or `E`, an optional sign, and at least one digit.
--     numeral_of text      the number that a text says, or why it says none
--     value_of numeral     that number as a rational
-- The digits without the point, as one number without the zeros at its end, times a power of ten is the number. It is
-- told exactly where that number is at most 2^127-1, and the power is one of 10^-38 to 10^-1, or a greater one with
-- which the product is at most 2^127-1 too. Texts of any length and exponents of any size have their number or fault.
use Rattle.std.specs.Prelude.{ℕ, zero, suc, ◌+◌, ◌-◌, ◌*◌, ◌^◌, ◌==◌, nat_lt, nat_le, Bool, true, false, ◌&&◌, ◌||◌, if◌then◌else◌, List, [], ◌∷◌, ◌++◌, length, map, take, ℤ, pos, neg_ℤ, Option, None, Some}
use Rattle.std.specs.Char.{is_ascii_digit}
use Rattle.std.specs.Int.Digits.{number_from_digits}
use Rattle.std.specs.List.{list_all, list_any, before_first, after_first, suffix_len}
use Rattle.cip_rational.specs.Rational.{ℚ, ratio}
use Rattle.cip_rational.specs.Range.{largest}

-- what a text says as a number: the number `size / below`, negated where it is negative; or that it is no number, or
-- one of a size above 2^127-1, negative or not, or one that needs more digits than are kept
pub data Numeral : Type 0 where
  Exact : (negative : Bool) (size below : ℕ) → Numeral
  NotANumber : Numeral
  Huge : (negative : Bool) → Numeral
  TooFine : Numeral

-- ---- values

-- a size with its sign
abbrev pub signed : Bool → ℕ → ℤ
signed false size = pos size
signed true size = neg_ℤ (pos size)

-- the number as a rational
abbrev pub value_of : Numeral → Option ℚ
value_of (Exact negative size below) = Some (ratio (signed negative size) below)
value_of NotANumber = None
value_of (Huge negative) = None
value_of TooFine = None

-- ---- the bytes of a text

-- `+` or `-`
abbrev pub is_sign : ℕ → Bool
is_sign byte = byte == 43 || byte == 45

-- `e` or `E`
abbrev pub is_exponent_mark : ℕ → Bool
is_exponent_mark byte = byte == 101 || byte == 69

-- the decimal point
abbrev pub is_point : ℕ → Bool
is_point byte = byte == 46

-- the digit 0
abbrev pub is_zero_digit : ℕ → Bool
is_zero_digit byte = byte == 48

-- a `-` stands first
abbrev pub is_minus : List ℕ → Bool
is_minus [] = false
is_minus (byte ∷ bytes) = byte == 45

-- the text without a sign in first place
abbrev pub without_sign : List ℕ → List ℕ
without_sign [] = []
without_sign (byte ∷ bytes) = if is_sign byte then bytes else byte ∷ bytes

-- at least one byte, and decimal digits alone
abbrev pub are_digits : List ℕ → Bool
are_digits [] = false
are_digits (byte ∷ bytes) = list_all is_ascii_digit (byte ∷ bytes)

-- the number that decimal digits say
abbrev pub digits_value : List ℕ → ℕ
digits_value digits = number_from_digits 10 (map (λ byte. byte - 48) digits)

-- ---- the parts of a text without its sign

-- what stands before the first `e` or `E`
abbrev pub mantissa : List ℕ → List ℕ
mantissa body = before_first is_exponent_mark body

-- what stands after it
abbrev pub exponent : List ℕ → List ℕ
exponent body = after_first is_exponent_mark body

-- what stands before the point of the mantissa, or all of it
abbrev pub whole_digits : List ℕ → List ℕ
whole_digits body = before_first is_point (mantissa body)

-- what stands after it
abbrev pub decimals : List ℕ → List ℕ
decimals body = after_first is_point (mantissa body)

-- the digits on both sides of the point
abbrev pub all_digits : List ℕ → List ℕ
all_digits body = whole_digits body ++ decimals body

-- a number without its sign: at least one digit, and after an `e` or `E` a number with a sign or none
abbrev pub is_unsigned : List ℕ → Bool
is_unsigned body =
    are_digits (all_digits body)
    && (if list_any is_exponent_mark body then are_digits (without_sign (exponent body)) else true)

-- how many of the digits stand behind the last one that is not 0
abbrev pub zeros_at_end : List ℕ → ℕ
zeros_at_end digits = suffix_len is_zero_digit digits

-- the digits as one number, without the zeros at its end
abbrev pub size_of : List ℕ → ℕ
size_of digits = digits_value (take (length digits - zeros_at_end digits) digits)

-- the exponent where it is not negative, and else 0
abbrev pub exponent_up : List ℕ → ℕ
exponent_up body = if is_minus (exponent body) then 0 else digits_value (without_sign (exponent body))

-- how far the exponent is below 0, and else 0
abbrev pub exponent_down : List ℕ → ℕ
exponent_down body = if is_minus (exponent body) then digits_value (without_sign (exponent body)) else 0

-- ---- the number

-- a whole number
abbrev pub whole_numeral : Bool → ℕ → Numeral
whole_numeral negative size = if nat_le size largest then Exact negative size 1 else Huge negative

-- a number with this many decimals, the last of which is not 0
abbrev pub decimal_numeral : Bool → (size places : ℕ) → Numeral
decimal_numeral negative size places =
    if nat_lt (largest * 10 ^ places) size then Huge negative
    else if nat_le size largest && nat_le places 38 then Exact negative size (10 ^ places) else TooFine

-- the size times 10 ^ (up - down); 0 has no sign, whatever the exponent
abbrev pub scaled : Bool → (size up down : ℕ) → Numeral
scaled negative zero up down = Exact false 0 1
scaled negative (suc n) up down =
    if nat_le down up then whole_numeral negative (suc n * 10 ^ (up - down))
    else decimal_numeral negative (suc n) (down - up)

-- the number that a text without its sign says: each zero at the end of its digits, and the exponent, are factors of
-- ten, and each digit after the point divides by ten
abbrev pub unsigned_numeral : Bool → List ℕ → Numeral
unsigned_numeral negative body =
    scaled negative (size_of (all_digits body))
    (exponent_up body + zeros_at_end (all_digits body)) (exponent_down body + length (decimals body))

-- the number that a text says, or why it says none
unfoldable pub numeral_of : List ℕ → Numeral
numeral_of text =
    if is_unsigned (without_sign text) then unsigned_numeral (is_minus text) (without_sign text) else NotANumber
