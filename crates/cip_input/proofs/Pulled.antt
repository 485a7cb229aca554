-- What is pulled of a text, piece by piece.
use Rattle.std.specs.Prelude.{◌≡◌, ℕ, ◌+◌, ◌≤◌, List, [], ◌++◌, Option, None, Some, IfSome, option_map, take, drop, length, refl}
use Rattle.std.proofs.Common.{sym, ap, ap₂, ◌∙◌, subst, arith}
use Rattle.std.proofs.lemmas.List.{drop-drop, drop_all, length-append, length-take-le, take-append-drop, append-nil}
use Rattle.std.proofs.Math.Seq.{take-add}
use Rattle.cip_io.specs.Store.{StoreTells, Pulls, Comes}
use Rattle.cip_input.specs.TextPulls.{IsPulled, most_pulled, IsAllPulled}

all_left : (text : Option (List ℕ)) → text ≡ option_map (drop 0) text
all_left None = refl
all_left (Some bytes) = refl

empty_front : (text : Option (List ℕ)) → IfSome text (λ bytes. take 0 bytes ≡ [])
empty_front None = tt
empty_front (Some bytes) = refl

-- nothing was pulled yet
pub pulled_none : (chosen : StoreTells) → IsPulled chosen chosen []
pulled_none chosen = record { rest = all_left chosen.left; front = empty_front chosen.left; sound = refl }

-- ---- one more piece, of n bytes, where `left` is what is left of a text before it, and `left'` after it

more_rest : (text left left' : Option (List ℕ)) (k n : ℕ) → left ≡ option_map (drop k) text → left' ≡ option_map (drop n) left → left' ≡ option_map (drop (k + n)) text
more_rest None left left' k n p q = q ∙ ap (option_map (drop n)) p
more_rest (Some bytes) left left' k n p q = q ∙ ap (option_map (drop n)) p ∙ ap Some (drop-drop n k bytes)

more_front : (text left : Option (List ℕ)) (before after bytes : List ℕ) (n : ℕ) → left ≡ option_map (drop (length bytes)) text → IfSome text (λ all. take (length bytes) all ≡ bytes) → IfSome left (λ rest. Comes rest before after n) → IfSome text (λ all. take (length bytes + n) all ≡ bytes ++ take n after)
more_front None left before after bytes n p f h = tt
more_front (Some all) left before after bytes n p f h =
    let comes : Comes (drop (length bytes) all) before after n = subst (λ o. IfSome o (λ t. Comes t before after n)) p h in
    take-add (length bytes) n all ∙ ap₂ (λ u v. u ++ v) f (sym comes.bytes)

-- after one more piece
pub pulled_more : (chosen now new : StoreTells) (before after bytes : List ℕ) (n : ℕ) → IsPulled chosen now bytes → n ≤ length after → Pulls now new before after n → new.faults ≡ now.faults → IsPulled chosen new (bytes ++ take n after)
pulled_more chosen now new before after bytes n p l h same =
    let size : length bytes + n ≡ length (bytes ++ take n after) = sym (length-append bytes (take n after) ∙ ap (λ k. length bytes + k) (length-take-le n after l)) in
    record {
      rest = subst (λ k. new.left ≡ option_map (drop k) chosen.left) size (more_rest chosen.left now.left new.left (length bytes) n p.rest h.left);
      front = subst (λ k. IfSome chosen.left (λ all. take k all ≡ bytes ++ take n after)) size (more_front chosen.left now.left before after bytes n p.rest p.front h.comes);
      sound = same ∙ p.sound;
    }

-- ---- a pull of nothing is the end of the text

all_come : (text left : Option (List ℕ)) (before after bytes : List ℕ) → left ≡ option_map (drop (length bytes)) text → IfSome text (λ all. take (length bytes) all ≡ bytes) → IfSome left (λ rest. Comes rest before after 0) → IfSome text (λ all. all ≡ bytes)
all_come None left before after bytes p f h = tt
all_come (Some all) left before after bytes p f h =
    let comes : Comes (drop (length bytes) all) before after 0 = subst (λ o. IfSome o (λ t. Comes t before after 0)) p h in
    let empty : drop (length bytes) all ≡ [] = comes.end.0 refl in
    sym (take-append-drop (length bytes) all) ∙ ap₂ (λ u v. u ++ v) f empty ∙ append-nil bytes

-- then the text is what was pulled of it
pub pulled_all : (chosen now new : StoreTells) (before after bytes : List ℕ) → IsPulled chosen now bytes → Pulls now new before after 0 → IfSome chosen.left (λ text. text ≡ bytes)
pulled_all chosen now new before after bytes p h = all_come chosen.left now.left before after bytes p.rest p.front h.comes

none_left : (text left : Option (List ℕ)) (bytes : List ℕ) → left ≡ option_map (drop (length bytes)) text → IfSome text (λ all. all ≡ bytes) → length bytes ≤ most_pulled → left ≡ option_map (drop most_pulled) text
none_left None left bytes p a l = p
none_left (Some all) left bytes p a l =
    let size : length all ≤ most_pulled = omega (arith, l, ap length a) in
    let size' : length all ≤ length bytes = omega (arith, ap length a) in
    p ∙ ap Some (drop_all (length bytes) all size' ∙ sym (drop_all most_pulled all size))

-- and it was pulled whole, where it is not too long
pub whole_at_end : (chosen now new : StoreTells) (before after bytes : List ℕ) → IsPulled chosen now bytes → Pulls now new before after 0 → length bytes ≤ most_pulled → IsAllPulled chosen.left new
whole_at_end chosen now new before after bytes p h l =
    none_left chosen.left new.left bytes (h.left ∙ sym (all_left now.left) ∙ p.rest) (pulled_all chosen now new before after bytes p h) l

-- or where one byte too many was pulled
pub whole_at_limit : (chosen now : StoreTells) (bytes : List ℕ) → IsPulled chosen now bytes → length bytes ≡ most_pulled → IsAllPulled chosen.left now
whole_at_limit chosen now bytes p e = p.rest ∙ ap (λ k. option_map (drop k) chosen.left) e
