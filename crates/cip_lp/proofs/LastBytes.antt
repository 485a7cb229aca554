-- The last of the bytes that are kept.
use Rattle.std.proofs.Common.{◌≡◌, ℕ, zero, suc, ◌-◌, ◌<◌, false, List, [], ◌∷◌, length, None, Some, slice_get, refl, ap, ◌∙◌, arith}
use Rattle.cip_text_rules.specs.LpParts.{ends_before, ends_with}

last_at : (bytes : List ℕ) (n last byte : ℕ) → length bytes ≡ suc n → slice_get bytes n ≡ Some last → ends_with bytes byte ≡ ends_before last byte
last_at [] n last byte l e = absurd (omega (arith, l))
last_at (x ∷ []) zero last byte l e = let same : x ≡ last = cc e in ap (λ (y : ℕ). ends_before y byte) same
last_at (x ∷ []) (suc n) last byte l e = absurd (omega (arith, l))
last_at (x ∷ y ∷ ys) zero last byte l e = absurd (omega (arith, l))
last_at (x ∷ y ∷ ys) (suc n) last byte l e = last_at (y ∷ ys) n last byte (omega (arith, l)) e

-- a token has ended behind these bytes exactly where it has behind the last one
pub last_ends : (bytes : List ℕ) (last byte : ℕ) → slice_get bytes (length bytes - 1) ≡ Some last → ends_with bytes byte ≡ ends_before last byte
last_ends [] last byte e = absurd (cc e)
last_ends (x ∷ xs) last byte e = last_at (x ∷ xs) (length xs) last byte refl (ap (slice_get (x ∷ xs)) (omega arith) ∙ e)

some_at : (bytes : List ℕ) (n : ℕ) → n < length bytes → slice_get bytes n ≡ None → ⊥
some_at [] n l e = omega (arith, l)
some_at (x ∷ xs) zero l e = cc e
some_at (x ∷ xs) (suc n) l e = some_at xs n (omega (arith, l)) e

-- and nowhere where there is none
pub none_ends : (bytes : List ℕ) (byte : ℕ) → slice_get bytes (length bytes - 1) ≡ None → ends_with bytes byte ≡ false
none_ends [] byte e = refl
none_ends (x ∷ xs) byte e = absurd (some_at (x ∷ xs) (length (x ∷ xs) - 1) (omega arith) e)
