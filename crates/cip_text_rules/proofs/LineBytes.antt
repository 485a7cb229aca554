-- A text that is read byte by byte comes to its outcome.
use Rattle.std.proofs.Common.{◌≡◌, ℕ, zero, suc, ◌+◌, ◌<◌, ◌≤◌, Bool, true, false, cond, List, [], ◌∷◌, ◌++◌, length, map, take, Option, None, Some, refl, sym, ap, subst, ◌∙◌, arith}
use Rattle.std.specs.Prelude.{fold, nat_le}
use Rattle.std.specs.List.{AllByRecursion}
use Rattle.std.proofs.lemmas.List.{append-nil, append_assoc, length-take-le}
use Rattle.std.proofs.lemmas.Bool.{cond-true, cond-false, eqb-true, le-leb, lt-leb, leb-true, leb-false}
use Rattle.cip_problem.specs.Limits.{longest_text}
use Rattle.cip_text_rules.specs.Lines.{is_line_feed, HasNoLineFeed, lines}
use Rattle.cip_text_rules.proofs.Cuts.{lines_ended, lines_last}
use Rattle.cip_text_rules.specs.LineTexts.{Reading, numbered, items_from, outcome_at, outcome_after, outcome_of_lines, outcome_of_start, too_long, outcome_of}
use Rattle.cip_text_rules.specs.LineStream.{Progress, Going, Failed, progress_at, item_read, line_read, Stream, no_stream, byte_read, stream_with, outcome_from, last_line, last_progress, closed, read_outcome}

-- ---- items and lines

-- the items of a line, read one by one
abbrev pub read_items : {K I X : Type 0} → Reading K I X → Progress K → ℕ → List I → Progress K
read_items r p number items = fold (λ q item. item_read r q number item) p items

-- lines read one by one, the first of which has this number
abbrev pub read_lines : {K I X : Type 0} → Reading K I X → Progress K → ℕ → List (List ℕ) → Progress K
read_lines r p number [] = p
read_lines r p number (line ∷ others) = read_lines r (line_read r p number line) (number + 1) others

pub failed_items : {K I X : Type 0} (r : Reading K I X) (first kind number : ℕ) (items : List I) → read_items r (Failed first kind) number items ≡ Failed first kind
failed_items r first kind number [] = refl
failed_items r first kind number (item ∷ items) = failed_items r first kind number items

failed_lines : {K I X : Type 0} (r : Reading K I X) (first kind number : ℕ) (others : List (List ℕ)) → read_lines r (Failed first kind) number others ≡ Failed first kind
failed_lines r first kind number [] = refl
failed_lines r first kind number (line ∷ others) =
    ap (λ p. read_lines r p (number + 1) others) (failed_items r first kind number (r.items line)) ∙ failed_lines r first kind (number + 1) others

items_are : {K I X : Type 0} (r : Reading K I X) (last number : ℕ) (others : List (List ℕ)) (items : List I) (known : K)
    → ((k : K) → outcome_from r last (read_lines r (Going k) (number + 1) others) ≡ outcome_after r last k (items_from r.items (number + 1) others))
    → outcome_from r last (read_lines r (read_items r (Going known) number items) (number + 1) others) ≡ outcome_after r last known (map (numbered number) items ++ items_from r.items (number + 1) others)
items_are r last number others [] known rest = rest known
items_are {K = K} r last number others (item ∷ items) known rest = go (r.fault known item) (λ k. items_are r last number others items k rest)
  where
    go : (f : Option ℕ) → ((k : K) → outcome_from r last (read_lines r (read_items r (Going k) number items) (number + 1) others) ≡ outcome_after r last k (map (numbered number) items ++ items_from r.items (number + 1) others)) → outcome_from r last (read_lines r (read_items r (progress_at f number (r.next known item)) number items) (number + 1) others) ≡ outcome_at f number (outcome_after r last (r.next known item) (map (numbered number) items ++ items_from r.items (number + 1) others))
    go None more = more (r.next known item)
    go (Some kind) more =
        ap (λ p. outcome_from r last (read_lines r p (number + 1) others)) (failed_items r number kind number items)
        ∙ ap (outcome_from r last) (failed_lines r number kind (number + 1) others)

lines_are : {K I X : Type 0} (r : Reading K I X) (last number : ℕ) (others : List (List ℕ)) (known : K) → outcome_from r last (read_lines r (Going known) number others) ≡ outcome_after r last known (items_from r.items number others)
lines_are r last number [] known = refl
lines_are r last number (line ∷ others) known = items_are r last number others (r.items line) known (λ k. lines_are r last (number + 1) others k)

-- ---- bytes and lines

-- what the bytes behind a stream come to
pub record ComesTo {K I X : Type 0} (r : Reading K I X) (s : Stream K) (bytes : List ℕ) : Type 0 where
  pub progress : last_progress r (fold (byte_read r) s bytes) ≡ read_lines r s.progress (s.ended + 1) (lines (s.line ++ bytes))
  pub last : last_line (fold (byte_read r) s bytes) ≡ s.ended + length (lines (s.line ++ bytes))

no_byte : {K I X : Type 0} (r : Reading K I X) (progress : Progress K) (ended : ℕ) (line : List ℕ) (size : ℕ) → HasNoLineFeed line → ComesTo r (record { progress = progress; ended = ended; line = line; size = size }) []
no_byte r progress ended [] size h = record { progress = refl; last = omega arith }
no_byte r progress ended (x ∷ xs) size h =
    let e : lines ((x ∷ xs) ++ []) ≡ (x ∷ xs) ∷ [] = ap lines (append-nil (x ∷ xs)) ∙ lines_last x xs h in
    record {
      progress = ap (read_lines r progress (ended + 1)) (sym e);
      last = ap (λ ls. ended + length ls) (sym e);
    }

-- the stream behind a line feed, and behind another byte
abbrev pub ended_line : {K I X : Type 0} → Reading K I X → Stream K → Stream K
ended_line r s = record { progress = line_read r s.progress (s.ended + 1) s.line; ended = s.ended + 1; line = []; size = s.size + 1 }

abbrev pub longer_line : {K : Type 0} → Stream K → ℕ → Stream K
longer_line s b = record { progress = s.progress; ended = s.ended; line = s.line ++ b ∷ []; size = s.size + 1 }

at_feed : {K I X : Type 0} (r : Reading K I X) (s : Stream K) (b : ℕ) (bs : List ℕ) → HasNoLineFeed s.line → is_line_feed b ≡ true → ComesTo r (ended_line r s) bs → ComesTo r s (b ∷ bs)
at_feed r s b bs h e c =
    let step : byte_read r s b ≡ ended_line r s = cond-true (is_line_feed b) (ended_line r s) (longer_line s b) e in
    let cut : lines (s.line ++ b ∷ bs) ≡ s.line ∷ lines bs = ap (λ x. lines (s.line ++ x ∷ bs)) (eqb-true b 10 e) ∙ lines_ended s.line bs h in
    record {
      progress =
          ap (λ t. last_progress r (fold (byte_read r) t bs)) step ∙ c.progress
          ∙ ap (read_lines r s.progress (s.ended + 1)) (sym cut);
      last =
          ap (λ t. last_line (fold (byte_read r) t bs)) step ∙ c.last ∙ add_suc s.ended (length (lines bs))
          ∙ ap (λ ls. s.ended + length ls) (sym cut);
    }
  where
    add_suc : (m n : ℕ) → (m + 1) + n ≡ m + suc n
    add_suc m n = omega arith

at_other : {K I X : Type 0} (r : Reading K I X) (s : Stream K) (b : ℕ) (bs : List ℕ) → is_line_feed b ≡ false → ComesTo r (longer_line s b) bs → ComesTo r s (b ∷ bs)
at_other r s b bs e c =
    let step : byte_read r s b ≡ longer_line s b = cond-false (is_line_feed b) (ended_line r s) (longer_line s b) e in
    let same : (s.line ++ b ∷ []) ++ bs ≡ s.line ++ b ∷ bs = append_assoc s.line (b ∷ []) bs in
    record {
      progress = ap (λ t. last_progress r (fold (byte_read r) t bs)) step ∙ c.progress ∙ ap (λ text. read_lines r s.progress (s.ended + 1) (lines text)) same;
      last = ap (λ t. last_line (fold (byte_read r) t bs)) step ∙ c.last ∙ ap (λ text. s.ended + length (lines text)) same;
    }

pub all_append : {X : Type 0} (P : X → Type 0) (xs ys : List X) → AllByRecursion P xs → AllByRecursion P ys → AllByRecursion P (xs ++ ys)
all_append P [] ys h k = k
all_append P (x ∷ xs) ys h k = (h.0, all_append P xs ys h.1 k)

comes_to : {K I X : Type 0} (r : Reading K I X) (bytes : List ℕ) (s : Stream K) → HasNoLineFeed s.line → ComesTo r s bytes
comes_to r [] s h = no_byte r s.progress s.ended s.line s.size h
comes_to {K = K} r (b ∷ bs) s h = go (is_line_feed b) refl (λ t k. comes_to r bs t k)
  where
    go : (t : Bool) → is_line_feed b ≡ t → ((u : Stream K) → HasNoLineFeed u.line → ComesTo r u bs) → ComesTo r s (b ∷ bs)
    go true e rest = at_feed r s b bs h e (rest (ended_line r s) tt)
    go false e rest = at_other r s b bs e (rest (longer_line s b) (all_append (λ byte. is_line_feed byte ≡ false) s.line (b ∷ []) h (e, tt)))

-- ---- the bytes that are looked at

pub size_after : {K I X : Type 0} (r : Reading K I X) (s : Stream K) (b : ℕ) → (byte_read r s b).size ≡ s.size + 1
size_after r s b = go (is_line_feed b)
  where
    go : (t : Bool) → (cond t (ended_line r s) (longer_line s b)).size ≡ s.size + 1
    go true = refl
    go false = refl

sizes : {K I X : Type 0} (r : Reading K I X) (bytes : List ℕ) (s : Stream K) → (fold (byte_read r) s bytes).size ≡ s.size + length bytes
sizes r [] s = omega arith
sizes r (b ∷ bs) s = sizes r bs (byte_read r s b) ∙ ap (λ n. n + length bs) (size_after r s b) ∙ add_suc s.size (length bs)
  where
    add_suc : (m n : ℕ) → (m + 1) + n ≡ m + suc n
    add_suc m n = omega arith

pub full : {K I X : Type 0} (r : Reading K I X) (bytes : List ℕ) (s : Stream K) → longest_text < s.size → fold (stream_with r) s bytes ≡ s
full r [] s h = refl
full r (b ∷ bs) s h =
    ap (λ t. fold (stream_with r) t bs) (cond-false (nat_le s.size longest_text) (byte_read r s b) s (lt-leb s.size longest_text h)) ∙ full r bs s h

pub looked_at : {K I X : Type 0} (r : Reading K I X) (bytes : List ℕ) (n : ℕ) (s : Stream K) → s.size + n ≡ longest_text + 1 → fold (stream_with r) s bytes ≡ fold (byte_read r) s (take n bytes)
looked_at r bytes zero s e = full r bytes s (omega (arith, e)) ∙ ap (fold (byte_read r) s) (sym (nothing bytes))
  where
    nothing : (xs : List ℕ) → take zero xs ≡ []
    nothing [] = refl
    nothing (x ∷ xs) = refl
looked_at r [] (suc n) s e = refl
looked_at r (b ∷ bs) (suc n) s e =
    ap (λ t. fold (stream_with r) t bs) (cond-true (nat_le s.size longest_text) (byte_read r s b) s (le-leb s.size longest_text (omega (arith, e))))
    ∙ looked_at r bs n (byte_read r s b) (ap (λ m. m + n) (size_after r s b) ∙ step s.size n longest_text e)
  where
    step : (m k l : ℕ) → m + suc k ≡ l + 1 → (m + 1) + k ≡ l + 1
    step m k l e = omega (arith, e)

-- ---- a text

pub take_all : (n : ℕ) (xs : List ℕ) → length xs ≤ n → take n xs ≡ xs
take_all zero [] h = refl
take_all (suc n) [] h = refl
take_all zero (x ∷ xs) h = absurd (omega arith)
take_all (suc n) (x ∷ xs) h = ap (λ ys. x ∷ ys) (take_all n xs (omega arith))

zero_add : (n : ℕ) → 0 + n ≡ n
zero_add n = omega arith

-- the stream behind bytes that are all looked at
abbrev read_all : {K I X : Type 0} → Reading K I X → List ℕ → Stream K
read_all r text = fold (byte_read r) (no_stream r) text

last_is : {K I X : Type 0} (r : Reading K I X) (text : List ℕ) → last_line (read_all r text) ≡ length (lines text)
last_is r text = (comes_to r text (no_stream r) tt).last ∙ zero_add (length (lines text))

bytes_read : {K I X : Type 0} (r : Reading K I X) (text : List ℕ) → outcome_from r (last_line (read_all r text)) (last_progress r (read_all r text)) ≡ outcome_of_lines r text
bytes_read r text =
    let l = last_is r text in
    let p = (comes_to r text (no_stream r) tt).progress in
    (λ i. outcome_from r (l i) (p i)) ∙ lines_are r (length (lines text)) 1 (lines text) r.start

closed_short : {K I X : Type 0} (r : Reading K I X) (s : Stream K) → s.size ≤ longest_text → closed r s ≡ outcome_from r (last_line s) (last_progress r s)
closed_short r s h = cond-true (nat_le s.size longest_text) _ _ (le-leb s.size longest_text h)

closed_long : {K I X : Type 0} (r : Reading K I X) (s : Stream K) → longest_text < s.size → closed r s ≡ too_long r.long (last_line s) (outcome_from r (last_line s) (last_progress r s))
closed_long r s h = cond-false (nat_le s.size longest_text) _ _ (lt-leb s.size longest_text h)

looked : {K I X : Type 0} (r : Reading K I X) (text : List ℕ) → read_outcome r text ≡ closed r (read_all r (take (longest_text + 1) text))
unfolding read_outcome
looked r text = ap (closed r) (looked_at r text (longest_text + 1) (no_stream r) (omega arith))

size_is : {K I X : Type 0} (r : Reading K I X) (text : List ℕ) → (read_all r text).size ≡ length text
size_is r text = sizes r text (no_stream r) ∙ zero_add (length text)

whole_text : {K I X : Type 0} (r : Reading K I X) (text : List ℕ) → length text ≤ longest_text → closed r (read_all r text) ≡ outcome_of_lines r text
whole_text r text h = closed_short r (read_all r text) (subst (λ (n : ℕ). n ≤ longest_text) (sym (size_is r text)) h) ∙ bytes_read r text

start_of_text : {K I X : Type 0} (r : Reading K I X) (start : List ℕ) → longest_text < length start → closed r (read_all r start) ≡ outcome_of_start r start
start_of_text r start h =
    closed_long r (read_all r start) (subst (λ (n : ℕ). longest_text < n) (sym (size_is r start)) h)
    ∙ (let l = last_is r start in let o = bytes_read r start in λ i. too_long r.long (l i) (o i))

long_start : (n : ℕ) (text : List ℕ) → n < length text → n < length (take (n + 1) text)
long_start n text h = let e = length-take-le (n + 1) text (omega arith) in omega (arith, e)

pub text_is_read : {K I X : Type 0} (r : Reading K I X) (text : List ℕ) → read_outcome r text ≡ outcome_of r text
unfolding outcome_of
text_is_read r text = looked r text ∙ go (nat_le (length text) longest_text) refl
  where
    go : (b : Bool) → nat_le (length text) longest_text ≡ b → closed r (read_all r (take (longest_text + 1) text)) ≡ cond b (outcome_of_lines r text) (outcome_of_start r (take (longest_text + 1) text))
    go true e =
        let h : length text ≤ longest_text = leb-true (length text) longest_text e in
        ap (λ t. closed r (read_all r t)) (take_all (longest_text + 1) text (omega (arith, h))) ∙ whole_text r text h
    go false e = start_of_text r (take (longest_text + 1) text) (long_start longest_text text (leb-false (length text) longest_text e))
