-- Two ways to read a text that come to the same.
use Rattle.std.proofs.Common.{◌≡◌, ℕ, ◌+◌, Bool, true, false, cond, List, [], ◌∷◌, length, Option, None, Some, refl, ap, ◌∙◌}
use Rattle.std.specs.Prelude.{take, nat_le}
use Rattle.cip_problem.specs.Limits.{longest_text}
use Rattle.cip_text_rules.specs.Lines.{lines}
use Rattle.cip_text_rules.specs.LineTexts.{Reading, Means, Numbered, items_from, outcome_at, outcome_after, outcome_of_lines, too_long, outcome_of}
use Rattle.cip_text_rules.specs.LineStream.{TextsAreRead}
use Rattle.cip_text_rules.proofs.LineBytes.{text_is_read}

-- what one way keeps stands for what is known in the other, and the two tell the same faults and the same result
pub record StandsFor {K S I X : Type 0} (r : Reading K I X) (q : Reading S I X) (Good : K → S → Type 0) : Type 0 where
  pub items : q.items ≡ r.items
  pub long : q.long ≡ r.long
  pub start : Good r.start q.start
  pub fault : (k : K) (s : S) (item : I) → Good k s → q.fault s item ≡ r.fault k item
  pub next : (k : K) (s : S) (item : I) → Good k s → r.fault k item ≡ None → Good (r.next k item) (q.next s item)
  pub end_fault : (k : K) (s : S) → Good k s → q.end_fault s ≡ r.end_fault k
  pub result : (k : K) (s : S) → Good k s → r.end_fault k ≡ None → q.result s ≡ r.result k

same_after : {K S I X : Type 0} (r : Reading K I X) (q : Reading S I X) (Good : K → S → Type 0) → StandsFor r q Good → (last : ℕ) (items : List (Numbered I)) (k : K) (s : S) → Good k s → outcome_after q last s items ≡ outcome_after r last k items
same_after r q Good same last [] k s g = ap (λ f. outcome_at f (last + 1) (Means (q.result s))) (same.end_fault k s g) ∙ go (r.end_fault k) refl
  where
    go : (f : Option ℕ) → r.end_fault k ≡ f → outcome_at f (last + 1) (Means (q.result s)) ≡ outcome_at f (last + 1) (Means (r.result k))
    go (Some kind) e = refl
    go None e = ap Means (same.result k s g e)
same_after {K = K} {S = S} r q Good same last (now ∷ others) k s g =
    ap (λ f. outcome_at f now.line (outcome_after q last (q.next s now.item) others)) (same.fault k s now.item g)
    ∙ go (r.fault k now.item) refl (λ j t h. same_after r q Good same last others j t h)
  where
    go : (f : Option ℕ) → r.fault k now.item ≡ f → ((j : K) (t : S) → Good j t → outcome_after q last t others ≡ outcome_after r last j others)
        → outcome_at f now.line (outcome_after q last (q.next s now.item) others) ≡ outcome_at f now.line (outcome_after r last (r.next k now.item) others)
    go (Some kind) e rest = refl
    go None e rest = rest (r.next k now.item) (q.next s now.item) (same.next k s now.item g e)

same_lines : {K S I X : Type 0} (r : Reading K I X) (q : Reading S I X) (Good : K → S → Type 0) → StandsFor r q Good → (text : List ℕ) → outcome_of_lines q text ≡ outcome_of_lines r text
same_lines r q Good same text =
    ap (λ f. outcome_after q (length (lines text)) q.start (items_from f 1 (lines text))) same.items
    ∙ same_after r q Good same (length (lines text)) (items_from r.items 1 (lines text)) r.start q.start same.start

pub same_outcome : {K S I X : Type 0} (r : Reading K I X) (q : Reading S I X) (Good : K → S → Type 0) → StandsFor r q Good → (text : List ℕ) → outcome_of q text ≡ outcome_of r text
unfolding outcome_of
same_outcome r q Good same text = go (nat_le (length text) longest_text)
  where
    start : List ℕ
    start = take (longest_text + 1) text

    go : (b : Bool) → cond b (outcome_of_lines q text) (too_long q.long (length (lines start)) (outcome_of_lines q start)) ≡ cond b (outcome_of_lines r text) (too_long r.long (length (lines start)) (outcome_of_lines r start))
    go true = same_lines r q Good same text
    go false = let l = same.long in let o = same_lines r q Good same start in λ i. too_long (l i) (length (lines start)) (o i)

pub texts_are_read : {K S I X : Type 0} (r : Reading K I X) (q : Reading S I X) (Good : K → S → Type 0) → StandsFor r q Good → TextsAreRead r q
texts_are_read r q Good same = λ text. text_is_read q text ∙ same_outcome r q Good same text
