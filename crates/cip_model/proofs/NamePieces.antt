-- Names that stand one behind another in a list of bytes.
use Rattle.std.proofs.Common.{◌≡◌, ℕ, zero, suc, ◌+◌, ◌-◌, ◌≤◌, ◌<◌, List, [], ◌∷◌, ◌++◌, length, take, drop, Some, refl, ap, ◌∙◌, arith, length-drop, length-append}
use Rattle.std.specs.Prelude.{slice_get, slice_index, slice_range}
use Rattle.std.proofs.lemmas.List.{take-append-le, drop-append-le}
use Rattle.std.proofs.Math.Seq.{drop-append_seam, take-length}
use Rattle.cip_model.specs.Keys.{pieces_from, start_from, AreRising}

pub length-pieces : (start : ℕ) (bytes ends : List ℕ) → length (pieces_from start bytes ends) ≡ length ends
length-pieces start bytes [] = refl
length-pieces start bytes (end ∷ ends) = ap suc (length-pieces end bytes ends)

-- the last end is no less than the start
last_up : (start : ℕ) (ends : List ℕ) (last : ℕ) → AreRising start ends last → start ≤ last
last_up start [] last r = omega arith
last_up start (end ∷ ends) last r = let l : end ≤ last = last_up end ends last r.1 in omega (arith, r.0)

-- ---- the piece of a number

-- a piece does not end before it starts, nor behind the last
pub piece_within : (start : ℕ) (ends : List ℕ) (last k : ℕ) → AreRising start ends last → k < length ends → (start_from start ends k ≤ slice_index ends k) × (slice_index ends k ≤ last)
piece_within start [] last k r l = absurd (omega (arith, l))
piece_within start (end ∷ ends) last zero r l = (r.0, last_up end ends last r.1)
piece_within start (end ∷ ends) last (suc zero) r l = piece_within end ends last zero r.1 (omega (arith, l))
piece_within start (end ∷ ends) last (suc (suc k)) r l = piece_within end ends last (suc k) r.1 (omega (arith, l))

pub piece_at : (start : ℕ) (bytes ends : List ℕ) (k : ℕ) → k < length ends → slice_get (pieces_from start bytes ends) k ≡ Some (slice_range bytes (start_from start ends k) (slice_index ends k))
piece_at start bytes [] k l = absurd (omega (arith, l))
piece_at start bytes (end ∷ ends) zero l = refl
piece_at start bytes (end ∷ ends) (suc zero) l = piece_at end bytes ends zero (omega (arith, l))
piece_at start bytes (end ∷ ends) (suc (suc k)) l = piece_at end bytes ends (suc k) (omega (arith, l))

-- ---- one piece more

range_before : (bytes more : List ℕ) (start end : ℕ) → start ≤ end → end ≤ length bytes → slice_range (bytes ++ more) start end ≡ slice_range bytes start end
range_before bytes more start end s e =
    let here : start ≤ length bytes = omega (arith, s, e) in
    let size : end - start ≤ length (drop start bytes) = omega (arith, e, length-drop start bytes) in
    ap (take (end - start)) (drop-append-le start bytes more here) ∙ take-append-le (end - start) (drop start bytes) more size

range_behind : (bytes more : List ℕ) → slice_range (bytes ++ more) (length bytes) (length bytes + length more) ≡ more
range_behind bytes more =
    let size : length bytes + length more - length bytes ≡ length more = omega arith in
    ap (take (length bytes + length more - length bytes)) (drop-append_seam bytes more) ∙ ap (λ n. take n more) size ∙ take-length more

pub pieces_push : (start : ℕ) (bytes ends name : List ℕ) → AreRising start ends (length bytes)
    → pieces_from start (bytes ++ name) (ends ++ (length bytes + length name) ∷ []) ≡ pieces_from start bytes ends ++ name ∷ []
pieces_push start bytes [] name r =
    ap (λ s. slice_range (bytes ++ name) s (length bytes + length name) ∷ []) r ∙ ap (λ piece. piece ∷ []) (range_behind bytes name)
pieces_push start bytes (end ∷ ends) name r =
    ap (λ piece. piece ∷ pieces_from end (bytes ++ name) (ends ++ (length bytes + length name) ∷ [])) (range_before bytes name start end r.0 (last_up end ends (length bytes) r.1))
    ∙ ap (λ pieces. slice_range bytes start end ∷ pieces) (pieces_push end bytes ends name r.1)

pub rising_push : (start : ℕ) (ends : List ℕ) (last more : ℕ) → AreRising start ends last → AreRising start (ends ++ (last + more) ∷ []) (last + more)
rising_push start [] last more r = (omega (arith, r), refl)
rising_push start (end ∷ ends) last more r = (r.0, rising_push end ends last more r.1)

-- a name behind the bytes, and the place behind it behind the ends: one name more
pub pieces_after : (bytes ends name bytes_after ends_after : List ℕ) (end : ℕ) → AreRising 0 ends (length bytes) → bytes_after ≡ bytes ++ name → ends_after ≡ ends ++ end ∷ [] → end ≡ length bytes + length name
    → pieces_from 0 bytes_after ends_after ≡ pieces_from 0 bytes ends ++ name ∷ []
pieces_after bytes ends name bytes_after ends_after end r b e l = rw (b, e, l) (pieces_push 0 bytes ends name r)

pub rising_after : (bytes ends name bytes_after ends_after : List ℕ) (end : ℕ) → AreRising 0 ends (length bytes) → bytes_after ≡ bytes ++ name → ends_after ≡ ends ++ end ∷ [] → end ≡ length bytes + length name
    → AreRising 0 ends_after (length bytes_after)
rising_after bytes ends name bytes_after ends_after end r b e l = rw (b, e, l, length-append bytes name) (rising_push 0 ends (length bytes) (length name) r)
