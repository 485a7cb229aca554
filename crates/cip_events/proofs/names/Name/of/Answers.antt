use Rattle.std.proofs.Common.{◌≡◌, ℕ, ◌+◌, ◌<◌, List, [], ◌∷◌, ◌++◌, length, map, take, min, set, get_or, sym, ◌∙◌, ap, refl, arith, length-set}
use Rattle.std.proofs.lemmas.List.{take_more_set, map_more, take_min}
use Rattle.std.proofs.Math.Nat.{min_comm}
use Rattle.cip_events.specs.Names.{shown_byte}
use Rattle.cip_events.proofs.names.Name.of.Goals as goal

-- one byte more is shown
shown_more : (bytes source : List ℕ) (i byte : ℕ) → i < length bytes → i < length source
    → byte ≡ shown_byte (get_or source i 0) → length bytes ≡ 64 → take i bytes ≡ map shown_byte (take i source)
    → (length (set bytes i byte) ≡ 64) × (take (i + 1) (set bytes i byte) ≡ map shown_byte (take (i + 1) source))
shown_more bytes source i byte below room is long so_far = (
  length-set bytes i byte ∙ long,
  take_more_set bytes i byte below
      ∙ ap (λ (front : List ℕ). front ++ byte ∷ []) so_far
      ∙ ap (λ (b : ℕ). map shown_byte (take i source) ++ b ∷ []) is
      ∙ sym (map_more shown_byte source i 0 room),
)

-- all of a text that is shown
all_shown : (bytes source text : List ℕ) (i n : ℕ) → n ≡ min (length source) 64 → i ≡ n → source ≡ text
    → take i bytes ≡ map shown_byte (take i source) → take n bytes ≡ map shown_byte (take 64 text)
all_shown bytes source text i n least all same shown =
    let front : take i source ≡ take 64 source = rw (all, least, min_comm (length source) 64, take_min 64 source) refl in
    rw (← all, shown, front, same) refl

pub loop-i-preserved : goal.loop-i-preserved
loop-i-preserved c =
    shown_more _ _ _ _ (omega (arith, c.loop-i.invariant.0)) (omega arith) c.shown.ensures c.loop-i.invariant.0
    c.loop-i.invariant.1

pub returns : goal.returns
returns c =
    all_shown _ _ _ c.loop-i.i _ c.min-length.ensures (omega arith) c.as_bytes-source.ensures.value
    c.loop-i.invariant.1
