-- What is kept of a text stands for its stream, behind bytes, line feeds and the end.
use Rattle.std.proofs.Common.{◌≡◌, ℕ, suc, ◌+◌, ◌-◌, ◌≤◌, ◌==◌, Bool, true, false, cond, ◌&&◌, ◌||◌, List, [], ◌∷◌, ◌++◌, length, take, Option, None, Some, refl, sym, ap, subst, ◌∙◌, arith}
use Rattle.std.specs.Prelude.{fold, nat_le, nat_lt, is_none, option_map}
use Rattle.std.specs.List.{count_by, list_any}
use Rattle.std.proofs.lemmas.List.{append-nil, append_assoc}
use Rattle.std.proofs.lemmas.List.Sums.{fold-append, sum_by-cons}
use Rattle.std.proofs.lemmas.Bool.{cond-true, cond-false, le-ltb, leb-true, eqb-true, false_from_ne_true}
use Rattle.cip_problem.specs.Limits.{longest_text}
use Rattle.cip_text_rules.specs.Lines.{is_line_feed, is_filled}
use Rattle.cip_text_rules.specs.LineTexts.{Reading, Outcome, Means, Faulty, outcome_at, too_long, outcome_of}
use Rattle.cip_text_rules.specs.LineStream.{Going, line_read, Stream, no_stream, byte_read, stream_with, stream_of, outcome_from, last_progress, closed, read_outcome, fault_in, progress_fault, ended_fault, TextsAreRead, FaultsOfEndedLines, FaultsStay}
use Rattle.cip_text_rules.specs.LineStream as plain
use Rattle.cip_text_rules.proofs.LineBytes.{looked_at}
use Rattle.cip_text_rules.proofs.Quiet.{left_false, right_false}
use Rattle.cip_text_rules.proofs.LineFaults.{failed_line}
use Rattle.cip_text.specs.declared.faults.KnownFault.{KnownFault}
use Rattle.cip_text.specs.PieceFaults.{line_fault, first_fault, stays, fault_when_long, has_kind_to}
use Rattle.cip_text.specs.PieceCuts.{Cut, with_bytes, with_feed, known_fault, last_line, end_fault}
use Rattle.cip_text.specs.PieceStands.{progress_of, progress_after, StandsAt, IsRead, IsLastRead, outcome_with}
use Rattle.cip_text.specs.EndedFaults.{lines_ended, IsKnownFault, KnownFaultsStay}

-- ---- bytes without line feed

-- the stream with these bytes at the end of its line
abbrev pub longer : {K : Type 0} → Stream K → List ℕ → Stream K
longer s bytes = record { progress = s.progress; ended = s.ended; line = s.line ++ bytes; size = s.size + length bytes }

abbrev ended_line : {K I X : Type 0} → Reading K I X → Stream K → Stream K
ended_line r s = record { progress = line_read r s.progress (s.ended + 1) s.line; ended = s.ended + 1; line = []; size = s.size + 1 }

abbrev longer_line : {K : Type 0} → Stream K → ℕ → Stream K
longer_line s b = record { progress = s.progress; ended = s.ended; line = s.line ++ b ∷ []; size = s.size + 1 }

-- bytes that are no line feed stand at the end of the line
pub tail_read : {K I X : Type 0} (r : Reading K I X) (bytes : List ℕ) (s : Stream K) → list_any is_line_feed bytes ≡ false → fold (byte_read r) s bytes ≡ longer s bytes
tail_read r [] s h = λ i. record { progress = s.progress; ended = s.ended; line = sym (append-nil s.line) i; size = none s.size i }
  where
    none : (n : ℕ) → n ≡ n + 0
    none n = omega arith
tail_read r (b ∷ bs) s h =
    let other : is_line_feed b ≡ false = left_false (is_line_feed b) (list_any is_line_feed bs) h in
    let rest : list_any is_line_feed bs ≡ false = right_false (is_line_feed b) (list_any is_line_feed bs) h in
    ap (λ t. fold (byte_read r) t bs) (cond-false (is_line_feed b) (ended_line r s) (longer_line s b) other)
    ∙ tail_read r bs (longer_line s b) rest
    ∙ (λ i. record { progress = s.progress; ended = s.ended; line = append_assoc s.line (b ∷ []) bs i; size = more s.size (length bs) i })
  where
    more : (m n : ℕ) → (m + 1) + n ≡ m + suc n
    more m n = omega arith

filled_more : (line bytes : List ℕ) → is_filled (line ++ bytes) ≡ (is_filled line || is_filled bytes)
filled_more [] bytes = refl
filled_more (x ∷ line) bytes = refl

-- what is kept behind bytes stands for the stream behind them
pub kept : {K I X : Type 0} (r : Reading K I X) (cut : Cut) (known : K) (s : Stream K) (bytes : List ℕ) → list_any is_line_feed bytes ≡ false → StandsAt cut known s → StandsAt (with_bytes cut bytes) known (fold (byte_read r) s bytes)
kept r cut known s bytes none h = subst (StandsAt (with_bytes cut bytes) known) (sym (tail_read r bytes s none)) (record {
  progress = h.progress;
  ended = h.ended;
  filled = filled_more s.line bytes ∙ ap (λ b. b || is_filled bytes) h.filled;
  line = λ e. ap (λ line. line ++ bytes) (h.line e) ∙ sym (ap (λ f. cond (is_none f) (cut.line ++ bytes) cut.line) e);
  size = ap (λ n. n + length bytes) h.size;
})

-- ---- the line feed

-- the progress behind that line
pub line_is : {K I X : Type 0} (r : Reading K I X) (cut : Cut) (known after : K) (kind : Option ℕ) (s : Stream K) → StandsAt cut known s → IsRead r cut known after kind
    → line_read r s.progress (s.ended + 1) s.line ≡ progress_of (first_fault cut.fault (cut.ended + 1) kind) after
line_is r cut known after kind s h told = go cut.fault refl
  where
    read : (o : Option ℕ) → progress_after (cut.ended + 1) o after ≡ progress_of (first_fault None (cut.ended + 1) o) after
    read None = refl
    read (Some k) = refl

    go : (f : Option KnownFault) → cut.fault ≡ f → line_read r s.progress (s.ended + 1) s.line ≡ progress_of (first_fault f (cut.ended + 1) kind) after
    go None e =
        ap (λ p. line_read r p (s.ended + 1) s.line) (h.progress ∙ ap (λ f. progress_of f known) e)
        ∙ ap (λ n. line_read r (Going known) (n + 1) s.line) h.ended
        ∙ ap (line_read r (Going known) (cut.ended + 1)) (h.line e)
        ∙ told e ∙ read kind
    go (Some f) e =
        ap (λ p. line_read r p (s.ended + 1) s.line) (h.progress ∙ ap (λ f. progress_of f known) e)
        ∙ failed_line r f.line f.kind (s.ended + 1) s.line

-- what is kept behind a line feed stands for the stream behind it
pub fed : {K I X : Type 0} (r : Reading K I X) (cut : Cut) (known after : K) (kind : Option ℕ) (s : Stream K) → StandsAt cut known s → IsRead r cut known after kind → StandsAt (with_feed cut kind) after (byte_read r s 10)
fed r cut known after kind s h told = record {
  progress = line_is r cut known after kind s h told;
  ended = ap (λ n. n + 1) h.ended;
  filled = refl;
  line = λ e. refl;
  size = ap (λ n. n + 1) h.size;
}

-- ---- the bytes that are looked at

-- the stream behind one piece more
pub piece_read : {K I X : Type 0} (r : Reading K I X) (text piece : List ℕ) (size : ℕ) → (stream_of r text).size ≡ size → size ≤ longest_text + 1 → stream_of r (text ++ piece) ≡ fold (byte_read r) (stream_of r text) (take (longest_text + 1 - size) piece)
piece_read r text piece size is few =
    fold-append (stream_with r) (no_stream r) text piece ∙ looked_at r piece (longest_text + 1 - size) (stream_of r text) (ap (λ n. n + (longest_text + 1 - size)) is ∙ rest size (longest_text + 1) few)
  where
    rest : (m n : ℕ) → m ≤ n → m + (n - m) ≡ n
    rest m n h = omega (arith, h)

-- ---- lines that have ended

ended_after : {K I X : Type 0} (r : Reading K I X) (bytes : List ℕ) (s : Stream K) → (fold (byte_read r) s bytes).ended ≡ s.ended + count_by is_line_feed bytes
ended_after r [] s = omega arith
ended_after {K = K} r (b ∷ bs) s = go (is_line_feed b) refl (λ t. ended_after r bs t)
  where
    more : (m n : ℕ) → (m + 1) + n ≡ m + (1 + n)
    more m n = omega arith

    none : (m n : ℕ) → m + n ≡ m + (0 + n)
    none m n = omega arith

    counts : (t : Bool) → is_line_feed b ≡ t → count_by is_line_feed (b ∷ bs) ≡ cond t 1 0 + count_by is_line_feed bs
    counts t e = sum_by-cons (λ x. cond (is_line_feed x) 1 0) b bs ∙ ap (λ u. cond u 1 0 + count_by is_line_feed bs) e

    go : (t : Bool) → is_line_feed b ≡ t → ((u : Stream K) → (fold (byte_read r) u bs).ended ≡ u.ended + count_by is_line_feed bs) → (fold (byte_read r) s (b ∷ bs)).ended ≡ s.ended + count_by is_line_feed (b ∷ bs)
    go true e rest =
        ap (λ u. (fold (byte_read r) u bs).ended) (cond-true (is_line_feed b) (ended_line r s) (longer_line s b) e) ∙ rest (ended_line r s)
        ∙ more s.ended (count_by is_line_feed bs) ∙ ap (λ n. s.ended + n) (sym (counts true e))
    go false e rest =
        ap (λ u. (fold (byte_read r) u bs).ended) (cond-false (is_line_feed b) (ended_line r s) (longer_line s b) e) ∙ rest (longer_line s b)
        ∙ none s.ended (count_by is_line_feed bs) ∙ ap (λ n. s.ended + n) (sym (counts false e))

ended_is : {K I X : Type 0} (r : Reading K I X) (text : List ℕ) → (stream_of r text).ended ≡ lines_ended text
ended_is r text =
    ap (λ s. s.ended) (looked_at r text (longest_text + 1) (no_stream r) refl) ∙ ended_after r (take (longest_text + 1) text) (no_stream r) ∙ zero_more (lines_ended text)
  where
    zero_more : (n : ℕ) → 0 + n ≡ n
    zero_more n = omega arith

-- ---- known faults

none_known : {K S I X : Type 0} (reading : Reading K I X) (steps : Reading S I X) → FaultsOfEndedLines reading steps → (text : List ℕ) → None ≡ ended_fault steps (stream_of steps text) → (line kind : ℕ) → IsKnownFault reading text line kind → ⊥
none_known reading steps law text none line kind h = cc (none, (law text line kind).1 (h.fault, subst (λ n. line ≤ n) (sym (ended_is steps text)) h.ended))

is_known : {K S I X : Type 0} (reading : Reading K I X) (steps : Reading S I X) → FaultsOfEndedLines reading steps → (text : List ℕ) (line kind : ℕ) → Some (record { line = line; kind = kind }) ≡ ended_fault steps (stream_of steps text) → IsKnownFault reading text line kind
is_known reading steps law text line kind e =
    let h = (law text line kind).0 (sym e) in
    record { fault = h.0; ended = subst (λ n. line ≤ n) (ended_is steps text) h.1 }

-- known faults stay
pub stay : {K S I X : Type 0} (reading : Reading K I X) (steps : Reading S I X) → FaultsOfEndedLines reading steps → FaultsStay reading steps → KnownFaultsStay reading
stay reading steps law laws text rest line kind h =
    let e = (law text line kind).1 (h.fault, subst (λ n. line ≤ n) (sym (ended_is steps text)) h.ended) in
    is_known reading steps law (text ++ rest) line kind (sym (laws.known text rest (record { line = line; kind = kind }) e))

-- ---- the end

more_line : (n : ℕ) → nat_lt (n + 1) n ≡ false
more_line n = le-ltb (n + 1) n (omega arith)

other_line : (n : ℕ) → (n + 1 == n) ≡ false
other_line n = false_from_ne_true (n + 1 == n) (λ e. let h : n + 1 ≡ n = eqb-true (n + 1) n e in absurd (omega (arith, h)))

-- the fault behind the last line doesn't count where the text is too long
behind_long : {X : Type 0} (long last kind : ℕ) → too_long {X = X} long last (Faulty (last + 1) kind) ≡ Faulty last long
behind_long {X = X} long last kind = go (nat_lt (last + 1) last) (last + 1 == last) (more_line last) (other_line last)
  where
    go : (a b : Bool) → a ≡ false → b ≡ false → ◌≡◌ {A = Outcome X} (cond (a || (b && nat_lt kind long)) (Faulty (last + 1) kind) (Faulty last long)) (Faulty last long)
    go true b e f = absurd (cc)
    go false true e f = absurd (cc)
    go false false e f = refl

-- what progress comes to where the text is too long
long_is : {K I X : Type 0} (r : Reading K I X) (long last : ℕ) (f : Option KnownFault) (known : K) → too_long long last (outcome_from r last (progress_of f known)) ≡ outcome_with (Some (fault_when_long long last f)) (r.result known)
long_is {X = X} r long last None known = go (r.end_fault known)
  where
    go : (o : Option ℕ) → ◌≡◌ {A = Outcome X} (too_long long last (outcome_at o (last + 1) (Means (r.result known)))) (Faulty last long)
    go None = refl
    go (Some kind) = behind_long long last kind
long_is {X = X} r long last (Some f) known = go (stays long last f)
  where
    go : (b : Bool) → ◌≡◌ {A = Outcome X} (cond b (Faulty f.line f.kind) (Faulty last long)) (Faulty (cond b f (record { line = last; kind = long })).line (cond b f (record { line = last; kind = long })).kind)
    go true = refl
    go false = refl

-- what progress comes to where it isn't
short_is : {K I X : Type 0} (r : Reading K I X) (last : ℕ) (f : Option KnownFault) (known : K) → outcome_from r last (progress_of f known) ≡ outcome_with (first_fault f (last + 1) (r.end_fault known)) (r.result known)
short_is {X = X} r last None known = go (r.end_fault known)
  where
    go : (o : Option ℕ) → ◌≡◌ {A = Outcome X} (outcome_at o (last + 1) (Means (r.result known))) (outcome_with (first_fault None (last + 1) o) (r.result known))
    go None = refl
    go (Some kind) = refl
short_is r last (Some f) known = refl

last_is : {K : Type 0} (cut : Cut) (known : K) (s : Stream K) → StandsAt cut known s → plain.last_line s ≡ last_line cut
last_is cut known s h = ap (λ b. cond b (s.ended + 1) s.ended) h.filled ∙ ap (λ n. cond cut.filled (n + 1) n) h.ended

closed_progress : {K I X : Type 0} (r : Reading K I X) (cut : Cut) (known after : K) (kind : Option ℕ) (s : Stream K) → StandsAt cut known s → IsLastRead r cut known after kind
    → last_progress r s ≡ progress_of (first_fault cut.fault (cut.ended + 1) kind) after
closed_progress r cut known after kind s h told = ap (λ b. cond b (line_read r s.progress (s.ended + 1) s.line) s.progress) h.filled ∙ go cut.filled refl
  where
    none : (f : Option KnownFault) → first_fault f (cut.ended + 1) None ≡ f
    none None = refl
    none (Some f) = refl

    go : (b : Bool) → cut.filled ≡ b → cond b (line_read r s.progress (s.ended + 1) s.line) s.progress ≡ progress_of (first_fault cut.fault (cut.ended + 1) kind) after
    go true e = line_is r cut known after kind s h (told.filled e)
    go false e =
        h.progress ∙ ap (progress_of cut.fault) (told.empty e).1
        ∙ ap (λ f. progress_of f after) (sym (none cut.fault) ∙ ap (first_fault cut.fault (cut.ended + 1)) (sym (told.empty e).0))

-- what a stream comes to that ends here
pub closed_is : {K I X : Type 0} (r : Reading K I X) (cut : Cut) (known after : K) (kind : Option ℕ) (s : Stream K) → StandsAt cut known s → IsLastRead r cut known after kind
    → closed r s ≡ outcome_with (end_fault r.long cut kind (r.end_fault after)) (r.result after)
closed_is {X = X} r cut known after kind s h told =
    ap (λ n. cond (nat_le n longest_text) (outcome_from r (plain.last_line s) (last_progress r s)) (too_long r.long (plain.last_line s) (outcome_from r (plain.last_line s) (last_progress r s)))) h.size
    ∙ ap (λ n. cond (nat_le cut.size longest_text) (outcome_from r n (last_progress r s)) (too_long r.long n (outcome_from r n (last_progress r s)))) (last_is cut known s h)
    ∙ ap (λ p. cond (nat_le cut.size longest_text) (outcome_from r (last_line cut) p) (too_long r.long (last_line cut) (outcome_from r (last_line cut) p))) (closed_progress r cut known after kind s h told)
    ∙ go (nat_le cut.size longest_text)
  where
    f : Option KnownFault
    f = first_fault cut.fault (cut.ended + 1) kind

    go : (b : Bool) → ◌≡◌ {A = Outcome X} (cond b (outcome_from r (last_line cut) (progress_of f after)) (too_long r.long (last_line cut) (outcome_from r (last_line cut) (progress_of f after))))
        (outcome_with (cond b (first_fault f (last_line cut + 1) (r.end_fault after)) (Some (fault_when_long r.long (last_line cut) f))) (r.result after))
    go true = short_is r (last_line cut) f after
    go false = long_is r r.long (last_line cut) f after

-- the fault that is known before the text ends
pub known_is : {K I X : Type 0} (r : Reading K I X) (cut : Cut) (known : K) (s : Stream K) → StandsAt cut known s → option_map line_fault (known_fault r.long cut) ≡ ended_fault r s
known_is r cut known s h = go cut.filled refl
  where
    of_progress : (f : Option KnownFault) → option_map line_fault f ≡ progress_fault (progress_of f known)
    of_progress None = refl
    of_progress (Some f) = refl

    same : (b : Bool) → is_filled s.line ≡ b → cond (nat_le s.size longest_text || is_filled s.line) (progress_fault s.progress) (fault_in (closed r s)) ≡ cond (nat_le cut.size longest_text || b) (progress_fault (progress_of cut.fault known)) (fault_in (closed r s))
    same b e =
        ap (λ n. cond (nat_le n longest_text || is_filled s.line) (progress_fault s.progress) (fault_in (closed r s))) h.size
        ∙ ap (λ t. cond (nat_le cut.size longest_text || t) (progress_fault s.progress) (fault_in (closed r s))) e
        ∙ ap (λ p. cond (nat_le cut.size longest_text || b) (progress_fault p) (fault_in (closed r s))) h.progress

    short : (b : Bool) → nat_le cut.size longest_text ≡ b → cut.filled ≡ false → option_map line_fault (cond (b || false) cut.fault (Some (fault_when_long r.long cut.ended cut.fault))) ≡ cond (b || false) (progress_fault (progress_of cut.fault known)) (fault_in (closed r s))
    short true e f = of_progress cut.fault
    short false e f =
        let still : closed r s ≡ outcome_with (end_fault r.long cut None (r.end_fault known)) (r.result known) =
        closed_is r cut known known None s h (record { filled = λ t. absurd (cc (t, f)); empty = λ t. (refl, refl) }) in
        sym (ap fault_in (still ∙ at_end e f))
      where
        none : (g : Option KnownFault) → first_fault g (cut.ended + 1) None ≡ g
        none None = refl
        none (Some g) = refl

        at_end : nat_le cut.size longest_text ≡ false → cut.filled ≡ false → outcome_with (end_fault r.long cut None (r.end_fault known)) (r.result known) ≡ outcome_with (Some (fault_when_long r.long cut.ended cut.fault)) (r.result known)
        at_end e f =
            ap (λ o. outcome_with o (r.result known))
            (ap (λ b. cond b (first_fault (first_fault cut.fault (cut.ended + 1) None) (last_line cut + 1) (r.end_fault known)) (Some (fault_when_long r.long (last_line cut) (first_fault cut.fault (cut.ended + 1) None)))) e
            ∙ ap (λ b. Some (fault_when_long r.long (cond b (cut.ended + 1) cut.ended) (first_fault cut.fault (cut.ended + 1) None))) f
            ∙ ap (λ g. Some (fault_when_long r.long cut.ended g)) (none cut.fault))

    long : (b : Bool) → option_map line_fault (cond (b || true) cut.fault (Some (fault_when_long r.long cut.ended cut.fault))) ≡ cond (b || true) (progress_fault (progress_of cut.fault known)) (fault_in (closed r s))
    long true = of_progress cut.fault
    long false = of_progress cut.fault

    go : (b : Bool) → cut.filled ≡ b → option_map line_fault (known_fault r.long cut) ≡ ended_fault r s
    go true e =
        ap (λ t. option_map line_fault (cond (nat_le cut.size longest_text || t) cut.fault (Some (fault_when_long r.long cut.ended cut.fault)))) e
        ∙ long (nat_le cut.size longest_text) ∙ sym (same true (h.filled ∙ e))
    go false e =
        ap (λ t. option_map line_fault (cond (nat_le cut.size longest_text || t) cut.fault (Some (fault_when_long r.long cut.ended cut.fault)))) e
        ∙ short (nat_le cut.size longest_text) refl e ∙ sym (same false (h.filled ∙ e))

-- ---- what readers answer

-- without a known fault
pub quiet : {K S I X : Type 0} (reading : Reading K I X) (steps : Reading S I X) → FaultsOfEndedLines reading steps → (text : List ℕ) (cut : Cut) (known : S) → StandsAt cut known (stream_of steps text) → known_fault steps.long cut ≡ None
    → (line kind : ℕ) → IsKnownFault reading text line kind → ⊥
quiet reading steps law text cut known h e = none_known reading steps law text (sym (ap (option_map line_fault) e) ∙ known_is steps cut known (stream_of steps text) h)

-- a known fault
pub faulty : {K S I X : Type 0} (reading : Reading K I X) (steps : Reading S I X) → FaultsOfEndedLines reading steps → (text : List ℕ) (cut : Cut) (known : S) → StandsAt cut known (stream_of steps text) → (fault : KnownFault) → known_fault steps.long cut ≡ Some fault
    → IsKnownFault reading text fault.line fault.kind
faulty reading steps law text cut known h fault e = is_known reading steps law text fault.line fault.kind (sym (ap (option_map line_fault) e) ∙ known_is steps cut known (stream_of steps text) h)

-- the outcome of the text that ends here
pub ends : {K S I X : Type 0} (reading : Reading K I X) (steps : Reading S I X) → TextsAreRead reading steps → (text : List ℕ) (cut : Cut) (known after : S) (kind : Option ℕ) → StandsAt cut known (stream_of steps text) → IsLastRead steps cut known after kind
    → outcome_of reading text ≡ outcome_with (end_fault steps.long cut kind (steps.end_fault after)) (steps.result after)
unfolding read_outcome
ends reading steps law text cut known after kind h told = sym (law text) ∙ closed_is steps cut known after kind (stream_of steps text) h told

-- ---- kinds

pub few_kinds : (most : ℕ) (f : KnownFault) → has_kind_to most (Some f) ≡ true → f.kind ≤ most
few_kinds most f h = go (nat_lt 0 f.kind) h
  where
    go : (b : Bool) → (b && nat_le f.kind most) ≡ true → f.kind ≤ most
    go true h = leb-true f.kind most h
    go false h = absurd (cc)

-- ---- steps of readers

-- a line that these bytes and a line feed end
pub line_ended : {K I X : Type 0} (r : Reading K I X) (cut kept_cut read_cut ended_cut : Cut) (known after : K) (kind : Option ℕ) (s : Stream K) (tail : List ℕ) → list_any is_line_feed tail ≡ false → StandsAt cut known s
    → kept_cut ≡ with_bytes cut tail → IsRead r kept_cut known after kind → read_cut ≡ kept_cut → ended_cut ≡ with_feed read_cut kind → StandsAt ended_cut after (fold (byte_read r) s (tail ++ 10 ∷ []))
line_ended {K = K} r cut kept_cut read_cut ended_cut known after kind s tail none h e told f g =
    let before : StandsAt kept_cut known (fold (byte_read r) s tail) = subst (λ (c : Cut). StandsAt c known (fold (byte_read r) s tail)) (sym e) (kept r cut known s tail none h) in
    let behind : StandsAt (with_feed kept_cut kind) after (byte_read r (fold (byte_read r) s tail) 10) = fed r kept_cut known after kind (fold (byte_read r) s tail) before told in
    let same : with_feed kept_cut kind ≡ ended_cut = ap (λ c. with_feed c kind) (sym f) ∙ sym g in
    subst (λ (c : Cut). StandsAt c after (fold (byte_read r) s (tail ++ 10 ∷ []))) same
    (subst (λ (t : Stream K). StandsAt (with_feed kept_cut kind) after t) (sym (fold-append (byte_read r) s tail (10 ∷ []))) behind)

-- what stands behind that line
pub cut_read : {K I X : Type 0} (r : Reading K I X) (s t : Stream K) (bytes rest tail behind : List ℕ) → fold (byte_read r) t rest ≡ fold (byte_read r) s bytes → rest ≡ tail ++ 10 ∷ behind → fold (byte_read r) (fold (byte_read r) t (tail ++ 10 ∷ [])) behind ≡ fold (byte_read r) s bytes
cut_read r s t bytes rest tail behind e f =
    sym (fold-append (byte_read r) t (tail ++ 10 ∷ []) behind) ∙ ap (fold (byte_read r) t) (append_assoc tail (10 ∷ []) behind ∙ sym f) ∙ e

-- bytes without line feed that are left
pub rest_kept : {K I X : Type 0} (r : Reading K I X) (cut kept_cut : Cut) (known : K) (s t : Stream K) (bytes rest : List ℕ) → list_any is_line_feed rest ≡ false → StandsAt cut known t → fold (byte_read r) t rest ≡ fold (byte_read r) s bytes → kept_cut ≡ with_bytes cut rest → StandsAt kept_cut known (fold (byte_read r) s bytes)
rest_kept {K = K} r cut kept_cut known s t bytes rest none h e f =
    subst (λ (c : Cut). StandsAt c known (fold (byte_read r) s bytes)) (sym f) (subst (λ (u : Stream K). StandsAt (with_bytes cut rest) known u) e (kept r cut known t rest none h))

-- one piece more
pub piece_stands : {K I X : Type 0} (r : Reading K I X) (cut piece_cut : Cut) (known after : K) (text piece looked : List ℕ) → StandsAt cut known (stream_of r text) → cut.size ≤ longest_text + 1 → looked ≡ take (longest_text + 1 - cut.size) piece → StandsAt piece_cut after (fold (byte_read r) (stream_of r text) looked) → StandsAt piece_cut after (stream_of r (text ++ piece))
piece_stands {K = K} r cut piece_cut known after text piece looked h few e told =
    subst (λ (u : Stream K). StandsAt piece_cut after u) (ap (fold (byte_read r) (stream_of r text)) e ∙ sym (piece_read r text piece cut.size h.size few)) told

-- the outcome of the text that ends here, by the fault that is answered
pub ends_with : {K S I X : Type 0} (reading : Reading K I X) (steps : Reading S I X) → TextsAreRead reading steps → (text : List ℕ) (cut read_cut : Cut) (known after : S) (kind end_kind : Option ℕ) (fault : Option KnownFault) → StandsAt cut known (stream_of steps text) → IsLastRead steps cut known after kind
    → read_cut ≡ cut → end_kind ≡ steps.end_fault after → fault ≡ end_fault steps.long read_cut kind end_kind → outcome_of reading text ≡ outcome_with fault (steps.result after)
ends_with reading steps law text cut read_cut known after kind end_kind fault h told e f g =
    ends reading steps law text cut known after kind h told
    ∙ ap (λ o. outcome_with o (steps.result after)) (ap (λ k. end_fault steps.long cut kind k) (sym f) ∙ ap (λ c. end_fault steps.long c kind end_kind) (sym e) ∙ sym g)

-- ---- lines whose last bytes aren't kept

-- a line that these bytes and a line feed end, by the cut behind it
pub line_ended_with : {K I X : Type 0} (r : Reading K I X) (cut ended_cut : Cut) (known after : K) (kind : Option ℕ) (s : Stream K) (tail : List ℕ) → list_any is_line_feed tail ≡ false → StandsAt cut known s → IsRead r (with_bytes cut tail) known after kind → ended_cut ≡ with_feed (with_bytes cut tail) kind → StandsAt ended_cut after (fold (byte_read r) s (tail ++ 10 ∷ []))
line_ended_with r cut ended_cut known after kind s tail none h told e =
    line_ended r cut (with_bytes cut tail) (with_bytes cut tail) ended_cut known after kind s tail none h refl told refl e
