-- What was read of a text that is pulled piece by piece.
use Rattle.std.specs.Prelude.{◌≡◌, ℕ, ◌+◌, ◌≤◌, List, [], ◌++◌, Option, None, Some, IfSome, take, length, refl}
use Rattle.std.proofs.Common.{ap, ◌∙◌, subst, arith}
use Rattle.std.proofs.lemmas.List.{length-append, length-take-le, append-nil, take_all}
use Rattle.cip_io.specs.Store.{StoreTells, Pulls}
use Rattle.cip_input.specs.TextPulls.{IsPulled, most_pulled, IsReading, ReadsPiece, IsAllRead}
use Rattle.cip_input.proofs.Pulled.{pulled_none, pulled_more, pulled_all, whole_at_end, whole_at_limit}

-- at the start
pub reading_none : (HasRead : List ℕ → Type 0) (chosen : StoreTells) → HasRead [] → IsReading HasRead chosen chosen 0
reading_none HasRead chosen h = record { bytes = []; has_read = h; is_pulled = pulled_none chosen; size = refl }

all_of_start : (text : Option (List ℕ)) (bytes : List ℕ) → length bytes ≤ most_pulled → IfSome text (λ all. all ≡ bytes) → IfSome text (λ all. take most_pulled all ≡ bytes)
all_of_start None bytes l h = tt
all_of_start (Some all) bytes l h = take_all most_pulled all (omega (arith, l, ap length h)) ∙ h

-- the text has ended
ended : (HasRead : List ℕ → Type 0) (chosen now new : StoreTells) (before after bytes : List ℕ) (pulled n : ℕ) → n ≡ 0 → IsPulled chosen now bytes → length bytes ≡ pulled → Pulls now new before after n → new.faults ≡ now.faults → HasRead (bytes ++ take n after) → pulled ≤ most_pulled → IsAllRead HasRead chosen new
ended HasRead chosen now new before after bytes pulled n e p size h same r l =
    let at_zero : Pulls now new before after 0 = subst (λ k. Pulls now new before after k) e h in
    let read_all : HasRead (bytes ++ []) = subst (λ k. HasRead (bytes ++ take k after)) e r in
    let short : length bytes ≤ most_pulled = omega (arith, l, size) in
    record {
      bytes = bytes;
      has_read = subst HasRead (append-nil bytes) read_all;
      start = all_of_start chosen.left bytes short (pulled_all chosen now new before after bytes p at_zero);
      pulled = whole_at_end chosen now new before after bytes p at_zero short;
      sound = same ∙ p.sound;
    }

-- after one more piece
pub reads_piece : (Old New : List ℕ → Type 0) (chosen now new : StoreTells) (before after : List ℕ) (pulled n : ℕ) (r : IsReading Old chosen now pulled) → n ≤ length after → Pulls now new before after n → new.faults ≡ now.faults → New (r.bytes ++ take n after) → ReadsPiece New chosen new pulled n
reads_piece Old New chosen now new before after pulled n r l h same q = record {
  reading = record {
    bytes = r.bytes ++ take n after;
    has_read = q;
    is_pulled = pulled_more chosen now new before after r.bytes n r.is_pulled l h same;
    size = length-append r.bytes (take n after) ∙ ap (λ k. length r.bytes + k) (length-take-le n after l) ∙ ap (λ k. k + n) r.size;
  };
  end = λ e short. ended New chosen now new before after r.bytes pulled n e r.is_pulled r.size h same q short;
}

front_of_start : (text : Option (List ℕ)) (bytes : List ℕ) → length bytes ≡ most_pulled → IfSome text (λ all. take (length bytes) all ≡ bytes) → IfSome text (λ all. take most_pulled all ≡ bytes)
front_of_start text bytes e h = subst (λ n. IfSome text (λ all. take n all ≡ bytes)) e h

-- one byte too many was pulled
pub too_long : (HasRead : List ℕ → Type 0) (chosen now : StoreTells) (pulled : ℕ) → pulled ≡ most_pulled → IsReading HasRead chosen now pulled → IsAllRead HasRead chosen now
too_long HasRead chosen now pulled e r = record {
  bytes = r.bytes;
  has_read = r.has_read;
  start = front_of_start chosen.left r.bytes (r.size ∙ e) r.is_pulled.front;
  pulled = whole_at_limit chosen now r.bytes r.is_pulled (r.size ∙ e);
  sound = r.is_pulled.sound;
}
