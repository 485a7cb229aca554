-- Faults that are known before a text ends.
use Rattle.std.proofs.Common.{◌≡◌, inl, inr, ℕ, ◌+◌, ◌<◌, ◌≤◌, ◌==◌, Bool, true, false, cond, ◌&&◌, ◌||◌, List, [], ◌∷◌, ◌++◌, Option, None, Some, refl, sym, ap, subst, ◌∙◌, arith}
use Rattle.std.specs.Prelude.{fold, nat_le, nat_lt}
use Rattle.std.proofs.lemmas.List.Sums.{fold-append}
use Rattle.std.proofs.lemmas.Bool.{cond-true, cond-false, lt-ltb, ltb-true, eqb-true, or_cases}
use Rattle.cip_problem.specs.Limits.{longest_text}
use Rattle.cip_text_rules.specs.Lines.{is_line_feed, is_filled}
use Rattle.cip_text_rules.specs.LineTexts.{Reading, Outcome, Means, Faulty, outcome_at, too_long, outcome_of}
use Rattle.cip_text_rules.specs.LineStream.{Progress, Going, Failed, progress_at, line_read, Stream, no_stream, byte_read, stream_with, stream_of, outcome_from, last_line, last_progress, closed, read_outcome, LineFault, fault_in, progress_fault, ended_fault, FaultsOfEndedLines, FaultsStay}
use Rattle.cip_text_rules.proofs.LineBytes.{text_is_read, read_items, failed_items, ended_line, longer_line}
use Rattle.cip_text_rules.proofs.LineSame.{StandsFor, same_outcome}
use Rattle.cip_text_rules.proofs.TakenTexts.{filled_more}

-- ---- the line of a fault

-- progress has no fault but on lines up to this one
abbrev IsUpTo : {K : Type 0} → ℕ → Progress K → Type 0
IsUpTo n progress = (fault : LineFault) → progress_fault progress ≡ Some fault → fault.line ≤ n

-- one line more from what is known: no fault but at that line
data Line {K : Type 0} (n : ℕ) : Progress K → Type 0 where
  goes : (known : K) → Line n (Going known)
  fails : (kind : ℕ) → Line n (Failed n kind)

items_of : {K I X : Type 0} (r : Reading K I X) (n : ℕ) (items : List I) (known : K) → Line n (read_items r (Going known) n items)
items_of r n [] known = goes known
items_of {K = K} r n (item ∷ items) known = go (r.fault known item) (λ k. items_of r n items k)
  where
    go : (f : Option ℕ) → ((k : K) → Line n (read_items r (Going k) n items)) → Line n (read_items r (progress_at f n (r.next known item)) n items)
    go None more = more (r.next known item)
    go (Some kind) more = subst (Line n) (sym (failed_items r n kind n items)) (fails kind)

line_of : {K I X : Type 0} (r : Reading K I X) (known : K) (n : ℕ) (line : List ℕ) → Line n (line_read r (Going known) n line)
line_of r known n line = items_of r n (r.items line) known

pub failed_line : {K I X : Type 0} (r : Reading K I X) (first kind n : ℕ) (line : List ℕ) → line_read r (Failed first kind) n line ≡ Failed first kind
failed_line r first kind n line = failed_items r first kind n (r.items line)

line_up_to : {K : Type 0} (n : ℕ) (p : Progress K) → Line n p → IsUpTo n p
line_up_to n p (goes known) fault e = absurd (cc)
line_up_to n p (fails kind) fault e = let d : record { line = n; kind = kind } ≡ fault = cc in let q : n ≡ fault.line = ap (λ f. f.line) d in omega (arith, q)

more_up_to : {K I X : Type 0} (r : Reading K I X) (p : Progress K) (n : ℕ) (line : List ℕ) → IsUpTo n p → IsUpTo (n + 1) (line_read r p (n + 1) line)
more_up_to r (Going known) n line h = line_up_to (n + 1) (line_read r (Going known) (n + 1) line) (line_of r known (n + 1) line)
more_up_to r (Failed first kind) n line h = λ fault e. let k : fault.line ≤ n = h fault (ap progress_fault (sym (failed_line r first kind (n + 1) line)) ∙ e) in omega (arith, k)

-- ---- streams

-- a fault that is known stands on a line that has ended
abbrev IsRight : {K : Type 0} → Stream K → Type 0
IsRight s = IsUpTo s.ended s.progress

right_byte : {K I X : Type 0} (r : Reading K I X) (s : Stream K) (b : ℕ) → IsRight s → IsRight (byte_read r s b)
right_byte r s b h = go (is_line_feed b)
  where
    go : (t : Bool) → IsRight (cond t (ended_line r s) (longer_line s b))
    go true = more_up_to r s.progress s.ended s.line h
    go false = h

right_with : {K I X : Type 0} (r : Reading K I X) (s : Stream K) (b : ℕ) → IsRight s → IsRight (stream_with r s b)
right_with r s b h = go (nat_le s.size longest_text)
  where
    go : (t : Bool) → IsRight (cond t (byte_read r s b) s)
    go true = right_byte r s b h
    go false = h

right_after : {K I X : Type 0} (r : Reading K I X) (text : List ℕ) (s : Stream K) → IsRight s → IsRight (fold (stream_with r) s text)
right_after r [] s h = h
right_after r (b ∷ bs) s h = right_after r bs (stream_with r s b) (right_with r s b h)

right_of : {K I X : Type 0} (r : Reading K I X) (text : List ℕ) → IsRight (stream_of r text)
right_of r text = right_after r text (no_stream r) (λ fault e. absurd (cc))

-- ---- outcomes

fault_is : {X : Type 0} (o : Outcome X) (fault : LineFault) → fault_in o ≡ Some fault → o ≡ Faulty fault.line fault.kind
fault_is (Means p) fault e = absurd (cc)
fault_is (Faulty l k) fault e = let d : record { line = l; kind = k } ≡ fault = cc in ap (λ f. Faulty f.line f.kind) d

progress_is : {K : Type 0} (p : Progress K) (fault : LineFault) → progress_fault p ≡ Some fault → p ≡ Failed fault.line fault.kind
progress_is (Going known) fault e = absurd (cc)
progress_is (Failed l k) fault e = let d : record { line = l; kind = k } ≡ fault = cc in ap (λ f. Failed f.line f.kind) d

fault_of_is : {X : Type 0} (o : Outcome X) (l k : ℕ) → o ≡ Faulty l k → fault_in o ≡ Some (record { line = l; kind = k })
fault_of_is o l k e = ap fault_in e

line_is : {X : Type 0} (l k m j : ℕ) → ◌≡◌ {A = Outcome X} (Faulty l k) (Faulty m j) → l ≡ m
line_is l k m j e = cc

-- a fault before the last line stays, and one that isn't before it is on it
early_stays : {X : Type 0} (long last l k : ℕ) → l < last → ◌≡◌ {A = Outcome X} (too_long long last (Faulty l k)) (Faulty l k)
early_stays long last l k h = ap (λ b. cond (b || (l == last && nat_lt k long)) (Faulty l k) (Faulty last long)) (lt-ltb l last h)

early_was : {X : Type 0} (long last : ℕ) (o : Outcome X) (l k : ℕ) → too_long long last o ≡ Faulty l k → l < last → o ≡ Faulty l k
early_was long last (Means p) l k e h = let d : last ≡ l = line_is last long l k e in absurd (omega (arith, d, h))
early_was {X = X} long last (Faulty m j) l k e h = go (nat_lt m last || (m == last && nat_lt j long)) e
  where
    go : (b : Bool) → ◌≡◌ {A = Outcome X} (cond b (Faulty m j) (Faulty last long)) (Faulty l k) → ◌≡◌ {A = Outcome X} (Faulty m j) (Faulty l k)
    go true e = e
    go false e = let d : last ≡ l = line_is last long l k e in absurd (omega (arith, d, h))

too_long_line : {X : Type 0} (long last : ℕ) (o : Outcome X) (fault : LineFault) → fault_in (too_long long last o) ≡ Some fault → fault.line ≤ last
too_long_line {X = X} long last (Means p) fault e = let q : last ≡ fault.line = line_is {X = X} last long fault.line fault.kind (fault_is (Faulty last long) fault e) in omega (arith, q)
too_long_line {X = X} long last (Faulty m j) fault e = go (nat_lt m last || (m == last && nat_lt j long)) refl e
  where
    small : (m == last && nat_lt j long) ≡ true → m ≤ last
    small t = let q : m ≡ last = eqb-true m last (both_left (m == last) (nat_lt j long) t) in omega (arith, q)
      where
        both_left : (a b : Bool) → (a && b) ≡ true → a ≡ true
        both_left true b e = refl
        both_left false b e = e

    below : (nat_lt m last || (m == last && nat_lt j long)) ≡ true → m ≤ last
    below t = elim (or_cases (nat_lt m last) (m == last && nat_lt j long) t) [ inl p ↦ (let q : m < last = ltb-true m last p in omega (arith, q)) | inr p ↦ small p ]

    go : (b : Bool) → (nat_lt m last || (m == last && nat_lt j long)) ≡ b → fault_in {X = X} (cond b (Faulty m j) (Faulty last long)) ≡ Some fault → fault.line ≤ last
    go true t e =
        let q : m ≡ fault.line = line_is m j fault.line fault.kind (fault_is {X = X} (Faulty m j) fault e) in
        let r : m ≤ last = below t in omega (arith, q, r)
    go false t e =
        let q : last ≡ fault.line = line_is last long fault.line fault.kind (fault_is {X = X} (Faulty last long) fault e) in omega (arith, q)

-- ---- what a fault that is known tells

failed_last : {K I X : Type 0} (r : Reading K I X) (s : Stream K) (l k : ℕ) → s.progress ≡ Failed l k → last_progress r s ≡ Failed l k
failed_last r s l k e = go (is_filled s.line)
  where
    go : (b : Bool) → cond b (line_read r s.progress (s.ended + 1) s.line) s.progress ≡ Failed l k
    go true = ap (λ p. line_read r p (s.ended + 1) s.line) e ∙ failed_line r l k (s.ended + 1) s.line
    go false = e

outcome_is : {K I X : Type 0} (r : Reading K I X) (s : Stream K) (l k : ℕ) → s.progress ≡ Failed l k → outcome_from r (last_line s) (last_progress r s) ≡ Faulty l k
outcome_is r s l k e = ap (outcome_from r (last_line s)) (failed_last r s l k e)

filled_line : {K : Type 0} (s : Stream K) → is_filled s.line ≡ true → last_line s ≡ s.ended + 1
filled_line s e = cond-true (is_filled s.line) (s.ended + 1) s.ended e

empty_line : {K : Type 0} (s : Stream K) → is_filled s.line ≡ false → last_line s ≡ s.ended
empty_line s e = cond-false (is_filled s.line) (s.ended + 1) s.ended e

-- the three ways in which a fault is known
data Known {K I X : Type 0} (r : Reading K I X) (s : Stream K) (fault : LineFault) : Type 0 where
  short : nat_le s.size longest_text ≡ true → progress_fault s.progress ≡ Some fault → Known r s fault
  inside : nat_le s.size longest_text ≡ false → is_filled s.line ≡ true → progress_fault s.progress ≡ Some fault → Known r s fault
  at_end : nat_le s.size longest_text ≡ false → is_filled s.line ≡ false → fault_in (closed r s) ≡ Some fault → Known r s fault

known : {K I X : Type 0} (r : Reading K I X) (s : Stream K) (fault : LineFault) → ended_fault r s ≡ Some fault → Known r s fault
known r s fault e = go (nat_le s.size longest_text) refl (is_filled s.line) refl e
  where
    go : (a : Bool) → nat_le s.size longest_text ≡ a → (b : Bool) → is_filled s.line ≡ b → cond (a || b) (progress_fault s.progress) (fault_in (closed r s)) ≡ Some fault → Known r s fault
    go true p b q e = short p e
    go false p true q e = inside p q e
    go false p false q e = at_end p q e

from_known : {K I X : Type 0} (r : Reading K I X) (s : Stream K) (fault : LineFault) → Known r s fault → ended_fault r s ≡ Some fault
from_known r s fault (short p e) = cond-true (nat_le s.size longest_text || is_filled s.line) (progress_fault s.progress) (fault_in (closed r s)) (ap (λ b. b || is_filled s.line) p) ∙ e
from_known r s fault (inside p q e) = cond-true (nat_le s.size longest_text || is_filled s.line) (progress_fault s.progress) (fault_in (closed r s)) (or_true (nat_le s.size longest_text) q) ∙ e
  where
    or_true : (b : Bool) → is_filled s.line ≡ true → (b || is_filled s.line) ≡ true
    or_true true q = refl
    or_true false q = q
from_known r s fault (at_end p q e) = cond-false (nat_le s.size longest_text || is_filled s.line) (progress_fault s.progress) (fault_in (closed r s)) (ap (λ b. b || is_filled s.line) p ∙ q) ∙ e

short_closed : {K I X : Type 0} (r : Reading K I X) (s : Stream K) → nat_le s.size longest_text ≡ true → closed r s ≡ outcome_from r (last_line s) (last_progress r s)
short_closed r s p = cond-true (nat_le s.size longest_text) _ _ p

long_closed : {K I X : Type 0} (r : Reading K I X) (s : Stream K) → nat_le s.size longest_text ≡ false → closed r s ≡ too_long r.long (last_line s) (outcome_from r (last_line s) (last_progress r s))
long_closed r s p = cond-false (nat_le s.size longest_text) _ _ p

known_closed : {K I X : Type 0} (r : Reading K I X) (s : Stream K) → IsRight s → (fault : LineFault) → Known r s fault → closed r s ≡ Faulty fault.line fault.kind
known_closed r s t fault (short p e) = short_closed r s p ∙ outcome_is r s fault.line fault.kind (progress_is s.progress fault e)
known_closed r s t fault (inside p q e) =
    let h : fault.line ≤ s.ended = t fault e in
    let l : last_line s ≡ s.ended + 1 = filled_line s q in
    long_closed r s p ∙ ap (too_long r.long (last_line s)) (outcome_is r s fault.line fault.kind (progress_is s.progress fault e))
    ∙ early_stays r.long (last_line s) fault.line fault.kind (subst (λ (n : ℕ). fault.line < n) (sym l) (omega (arith, h)))
known_closed r s t fault (at_end p q e) = fault_is (closed r s) fault e

known_line : {K I X : Type 0} (r : Reading K I X) (s : Stream K) → IsRight s → (fault : LineFault) → Known r s fault → fault.line ≤ s.ended
known_line r s t fault (short p e) = t fault e
known_line r s t fault (inside p q e) = t fault e
known_line r s t fault (at_end p q e) =
    subst (λ (n : ℕ). fault.line ≤ n) (empty_line s q)
    (too_long_line r.long (last_line s) (outcome_from r (last_line s) (last_progress r s)) fault (ap fault_in (sym (long_closed r s p)) ∙ e))

-- ---- and when one is known

at_last : {X : Type 0} (f : Option ℕ) (n : ℕ) (value : X) (l k : ℕ) → outcome_at f (n + 1) (Means value) ≡ Faulty l k → l ≤ n → ⊥
at_last None n value l k e h = cc
at_last {X = X} (Some kind) n value l k e h = let d : n + 1 ≡ l = line_is {X = X} (n + 1) kind l k e in omega (arith, d, h)

line_early : {K I X : Type 0} (r : Reading K I X) (n : ℕ) (p : Progress K) → Line n p → (l k : ℕ) → outcome_from r n p ≡ Faulty l k → l < n → ⊥
line_early r n p (goes known) l k e h = at_last (r.end_fault known) n (r.result known) l k e (omega (arith, h))
line_early {X = X} r n p (fails kind) l k e h = let d : n ≡ l = line_is {X = X} n kind l k e in omega (arith, d, h)

read_early : {K I X : Type 0} (r : Reading K I X) (p : Progress K) (n : ℕ) (line : List ℕ) (l k : ℕ) → outcome_from r n (line_read r p n line) ≡ Faulty l k → l < n → progress_fault p ≡ Some (record { line = l; kind = k })
read_early r (Going known) n line l k e h = absurd (line_early r n (line_read r (Going known) n line) (line_of r known n line) l k e h)
read_early r (Failed first kind) n line l k e h = ap fault_in (ap (outcome_from r n) (sym (failed_line r first kind n line)) ∙ e)

last_early : {K I X : Type 0} (r : Reading K I X) (s : Stream K) (l k : ℕ) → outcome_from r (last_line s) (last_progress r s) ≡ Faulty l k → l ≤ s.ended → progress_fault s.progress ≡ Some (record { line = l; kind = k })
last_early {K = K} r s l k e h = go (is_filled s.line) e
  where
    unread : (p : Progress K) → outcome_from r s.ended p ≡ Faulty l k → progress_fault p ≡ Some (record { line = l; kind = k })
    unread (Going known) e = absurd (at_last (r.end_fault known) s.ended (r.result known) l k e h)
    unread (Failed first kind) e = ap fault_in e

    go : (b : Bool) → outcome_from r (cond b (s.ended + 1) s.ended) (cond b (line_read r s.progress (s.ended + 1) s.line) s.progress) ≡ Faulty l k → progress_fault s.progress ≡ Some (record { line = l; kind = k })
    go true e = read_early r s.progress (s.ended + 1) s.line l k e (omega (arith, h))
    go false e = unread s.progress e

known_back : {K I X : Type 0} (r : Reading K I X) (s : Stream K) (l k : ℕ) → closed r s ≡ Faulty l k → l ≤ s.ended → Known r s (record { line = l; kind = k })
known_back r s l k e h = go (nat_le s.size longest_text) refl (is_filled s.line) refl
  where
    go : (a : Bool) → nat_le s.size longest_text ≡ a → (b : Bool) → is_filled s.line ≡ b → Known r s (record { line = l; kind = k })
    go true p b q = short p (last_early r s l k (sym (short_closed r s p) ∙ e) h)
    go false p true q =
        inside p q (last_early r s l k
        (early_was r.long (last_line s) (outcome_from r (last_line s) (last_progress r s)) l k (sym (long_closed r s p) ∙ e) (subst (λ (n : ℕ). l < n) (sym (filled_line s q)) (omega (arith, h)))) h)
    go false p false q = at_end p q (fault_of_is (closed r s) l k e)

-- ---- what stays

feed_stays : {K I X : Type 0} (r : Reading K I X) (s : Stream K) → IsRight s → (fault : LineFault) → progress_fault s.progress ≡ Some fault → ended_fault r (ended_line r s) ≡ Some fault
feed_stays r s t fault e = go (nat_le (s.size + 1) longest_text) refl
  where
    over : s.progress ≡ Failed fault.line fault.kind
    over = progress_is s.progress fault e

    read : line_read r s.progress (s.ended + 1) s.line ≡ Failed fault.line fault.kind
    read = ap (λ p. line_read r p (s.ended + 1) s.line) over ∙ failed_line r fault.line fault.kind (s.ended + 1) s.line

    go : (a : Bool) → nat_le (s.size + 1) longest_text ≡ a → ended_fault r (ended_line r s) ≡ Some fault
    go true p = from_known r (ended_line r s) fault (short p (ap progress_fault read))
    go false p =
        from_known r (ended_line r s) fault
        (at_end p refl (ap fault_in (long_closed r (ended_line r s) p ∙ ap (too_long r.long (s.ended + 1)) (outcome_is r (ended_line r s) fault.line fault.kind read)
        ∙ early_stays r.long (s.ended + 1) fault.line fault.kind (let h : fault.line ≤ s.ended = t fault e in omega (arith, h)))))

other_stays : {K I X : Type 0} (r : Reading K I X) (s : Stream K) (b : ℕ) (fault : LineFault) → progress_fault s.progress ≡ Some fault → ended_fault r (longer_line s b) ≡ Some fault
other_stays r s b fault e = go (nat_le (s.size + 1) longest_text) refl
  where
    go : (a : Bool) → nat_le (s.size + 1) longest_text ≡ a → ended_fault r (longer_line s b) ≡ Some fault
    go true p = from_known r (longer_line s b) fault (short p e)
    go false p = from_known r (longer_line s b) fault (inside p (filled_more s.line b) e)

stays : {K I X : Type 0} (r : Reading K I X) (s : Stream K) (b : ℕ) → IsRight s → (fault : LineFault) → Known r s fault → ended_fault r (stream_with r s b) ≡ Some fault
stays r s b t fault (short p e) = ap (ended_fault r) (cond-true (nat_le s.size longest_text) (byte_read r s b) s p) ∙ go (is_line_feed b)
  where
    go : (c : Bool) → ended_fault r (cond c (ended_line r s) (longer_line s b)) ≡ Some fault
    go true = feed_stays r s t fault e
    go false = other_stays r s b fault e
stays r s b t fault (inside p q e) = ap (ended_fault r) (cond-false (nat_le s.size longest_text) (byte_read r s b) s p) ∙ from_known r s fault (inside p q e)
stays r s b t fault (at_end p q e) = ap (ended_fault r) (cond-false (nat_le s.size longest_text) (byte_read r s b) s p) ∙ from_known r s fault (at_end p q e)

stay : {K I X : Type 0} (r : Reading K I X) (rest : List ℕ) (s : Stream K) → IsRight s → (fault : LineFault) → ended_fault r s ≡ Some fault → ended_fault r (fold (stream_with r) s rest) ≡ Some fault
stay r [] s t fault e = e
stay r (b ∷ bs) s t fault e = stay r bs (stream_with r s b) (right_with r s b t) fault (stays r s b t fault (known r s fault e))

-- ---- the laws

read_is : {K I X : Type 0} (r : Reading K I X) (text : List ℕ) → closed r (stream_of r text) ≡ outcome_of r text
unfolding read_outcome
read_is r text = text_is_read r text

known_stays : {K I X : Type 0} (r : Reading K I X) (text rest : List ℕ) (fault : LineFault) → ended_fault r (stream_of r text) ≡ Some fault → ended_fault r (stream_of r (text ++ rest)) ≡ Some fault
known_stays r text rest fault e = ap (ended_fault r) (fold-append (stream_with r) (no_stream r) text rest) ∙ stay r rest (stream_of r text) (right_of r text) fault e

text_fault : {K I X : Type 0} (r : Reading K I X) (text : List ℕ) (fault : LineFault) → ended_fault r (stream_of r text) ≡ Some fault → outcome_of r text ≡ Faulty fault.line fault.kind
text_fault r text fault e = sym (read_is r text) ∙ known_closed r (stream_of r text) (right_of r text) fault (known r (stream_of r text) fault e)

pub ended_faults : {K S I X : Type 0} (r : Reading K I X) (q : Reading S I X) (Good : K → S → Type 0) → StandsFor r q Good → FaultsOfEndedLines r q
ended_faults r q Good same = λ text line kind. (
  λ e. (
    record { faulty = sym (same_outcome r q Good same text) ∙ text_fault q text (record { line = line; kind = kind }) e },
    known_line q (stream_of q text) (right_of q text) (record { line = line; kind = kind }) (known q (stream_of q text) (record { line = line; kind = kind }) e),
  ),
  λ h. from_known q (stream_of q text) (record { line = line; kind = kind }) (known_back q (stream_of q text) line kind (read_is q text ∙ same_outcome r q Good same text ∙ h.0.faulty) h.1),
)

pub faults_stay : {K S I X : Type 0} (r : Reading K I X) (q : Reading S I X) (Good : K → S → Type 0) → StandsFor r q Good → FaultsStay r q
faults_stay r q Good same = record {
  of_text = λ text rest fault e. record { faulty = sym (same_outcome r q Good same (text ++ rest)) ∙ text_fault q (text ++ rest) fault (known_stays q text rest fault e) };
  known = known_stays q;
}
