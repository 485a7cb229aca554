-- What a word means by a list of words, one after another.
use Rattle.std.proofs.Common.{◌≡◌, ℕ, suc, ◌+◌, ◌<◌, Bool, true, false, cond, List, length, drop, drop-cons, add-one, map, Option, Some, sym, ap, ◌∙◌}
use Rattle.std.specs.Prelude.{slice_index_or}
use Rattle.std.specs.Str.{bytes_eq}
use Rattle.cip_text_rules.specs.MpsWords.{Word, meaning_in}

module _ {X M : Type 0} (shown : X → Word M) (words : List X) (k : ℕ) (d : X) (text : List ℕ) (within : k < length words) where
  abbrev here : Word M
  here = shown (slice_index_or words k d)

  abbrev later : Option M
  later = meaning_in (map shown (drop (suc k) words)) text

  parted : meaning_in (map shown (drop k words)) text ≡ cond (bytes_eq text here.text) (Some here.meaning) later
  parted = ap (λ (xs : List X). meaning_in (map shown xs) text) (drop-cons words k d within)

  -- this word is the text
  pub meant_here : bytes_eq text here.text ≡ true → meaning_in (map shown (drop k words)) text ≡ Some here.meaning
  meant_here e = parted ∙ ap (λ (b : Bool). cond b (Some here.meaning) later) e

  -- it isn't
  pub meant_later : bytes_eq text here.text ≡ false → meaning_in (map shown (drop k words)) text ≡ meaning_in (map shown (drop (k + 1) words)) text
  meant_later e =
      parted ∙ ap (λ (b : Bool). cond b (Some here.meaning) later) e
      ∙ ap (λ (m : ℕ). meaning_in (map shown (drop m words)) text) (sym (add-one k))
