-- A text before and behind its first line feed.
use Rattle.std.proofs.Common.{◌≡◌, ℕ, zero, suc, ◌+◌, ◌-◌, ◌<◌, ◌≤◌, Bool, true, false, List, [], ◌∷◌, ◌++◌, length, take, drop, refl, ap, ◌∙◌, arith}
use Rattle.std.specs.Prelude.{slice_index}
use Rattle.std.proofs.lemmas.Bool.{eqb-true}
use Rattle.std.proofs.lemmas.List.{take_all, length-drop}
use Rattle.std.specs.List.{list_any}
use Rattle.cip_text_rules.specs.Lines.{is_line_feed}

-- no byte is a line feed
pub no_feed : (bytes : List ℕ) → ((k : ℕ) → 0 ≤ k → k < length bytes → (is_line_feed (slice_index bytes k) ≡ true) → ⊥) → list_any is_line_feed bytes ≡ false
no_feed [] h = refl
no_feed (b ∷ bs) h = both (is_line_feed b) refl (no_feed bs (λ k low below. h (suc k) (omega arith) (omega (arith, below))))
  where
    both : (t : Bool) → is_line_feed b ≡ t → list_any is_line_feed bs ≡ false → list_any is_line_feed (b ∷ bs) ≡ false
    both true e r = absurd (h 0 (omega arith) (omega arith) e)
    both false e r = rw e r

-- the first line feed
pub cut_at_feed : (bytes : List ℕ) (k : ℕ) → k < length bytes → is_line_feed (slice_index bytes k) ≡ true → bytes ≡ take k bytes ++ 10 ∷ drop (k + 1) bytes
cut_at_feed [] k below h = absurd (omega (arith, below))
cut_at_feed (b ∷ bs) zero below h = ap (λ x. x ∷ bs) (eqb-true b 10 h)
cut_at_feed (b ∷ bs) (suc k) below h =
    ap (λ xs. b ∷ xs) (cut_at_feed bs k (omega (arith, below)) h) ∙ ap (λ n. b ∷ (take k bs ++ 10 ∷ drop n (b ∷ bs))) (one_more k)
  where
    one_more : (n : ℕ) → suc (n + 1) ≡ suc n + 1
    one_more n = omega arith

-- what stands before it
pub before_feed : (bytes : List ℕ) (k : ℕ) → k < length bytes → ((j : ℕ) → 0 ≤ j → j < k → (is_line_feed (slice_index bytes j) ≡ true) → ⊥) → list_any is_line_feed (take k bytes) ≡ false
before_feed [] k below h = absurd (omega (arith, below))
before_feed (b ∷ bs) zero below h = refl
before_feed (b ∷ bs) (suc k) below h = both (is_line_feed b) refl (before_feed bs k (omega (arith, below)) (λ j low high. h (suc j) (omega arith) (omega (arith, high))))
  where
    both : (t : Bool) → is_line_feed b ≡ t → list_any is_line_feed (take k bs) ≡ false → list_any is_line_feed (b ∷ take k bs) ≡ false
    both true e r = absurd (h 0 (omega arith) (omega arith) e)
    both false e r = rw e r

-- the rest of a text
pub whole_rest : (bytes : List ℕ) (n : ℕ) → take (length bytes - n) (drop n bytes) ≡ drop n bytes
whole_rest bytes n = take_all (length bytes - n) (drop n bytes) (omega (arith, length-drop n bytes))
