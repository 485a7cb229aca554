-- A text that is taken byte by byte, token by token, comes to its outcome.
use Rattle.std.proofs.Common.{◌≡◌, ◌⊎◌, ℕ, ◌+◌, ◌<◌, ◌≤◌, ◌==◌, Bool, true, false, cond, not, ◌&&◌, ◌||◌, List, [], ◌∷◌, ◌++◌, map, Option, None, Some, inl, inr, refl, sym, ap, subst, ◌∙◌, arith}
use Rattle.std.specs.Prelude.{fold, nat_le, nat_lt}
use Rattle.std.specs.List.{list_any}
use Rattle.std.proofs.lemmas.List.{append-nil, append_assoc}
use Rattle.std.proofs.lemmas.List.Sums.{fold-append}
use Rattle.std.proofs.lemmas.List.Folds.{list_any-append}
use Rattle.std.proofs.lemmas.Bool.{cond-true, cond-false, le-leb, lt-leb, le-ltb, ltb-true, ltb-false, eqb-true, eq-eqb, false_from_ne_true, or_from}
use Rattle.cip_problem.specs.Limits.{longest_text}
use Rattle.cip_problem.specs.Program.{Program}
use Rattle.cip_text_rules.specs.Lines.{is_line_feed, is_filled}
use Rattle.cip_text_rules.specs.LineTexts.{Outcome, Means, Faulty, outcome_at, too_long, outcome_of}
use Rattle.cip_text_rules.specs.LineEnds.{Stage}
use Rattle.cip_text_rules.specs.LineStream.{Progress, Going, Failed, progress_at, item_read, line_read, Stream, no_stream, byte_read, stream_with, stream_of, outcome_from, last_line, last_progress, closed, read_outcome, TextsAreRead}
use Rattle.cip_text_rules.specs.LpTokens.{Token, is_comment, line_pieces, token_of, line_tokens, tokens_of, tokens_from}
use Rattle.cip_text_rules.specs.LpOutcome.{LpContext, lp_reading}
use Rattle.cip_text_rules.specs.LpParts.{ends_with, hangs}
use Rattle.cip_text_rules.specs.LpBytes.{tokens_read, LpBytes, part_read, behind, in_comment, is_cut, byte_put, feed_put, beyond, last_put, byte_taken, first_bytes, text_taken}
use Rattle.cip_text_rules.proofs.PartedPieces.{comment_rest}
use Rattle.cip_text_rules.proofs.PartedTokens.{cut_tokens}
use Rattle.cip_text_rules.proofs.Quiet.{left_false}

-- ---- tokens behind a fault

pub tokens_failed : (line kind number : ℕ) (tokens : List Token) → tokens_read number (Failed line kind) tokens ≡ Failed line kind
tokens_failed line kind number [] = refl
tokens_failed line kind number (token ∷ tokens) = tokens_failed line kind number tokens

-- the fault of tokens is on their line
abbrev IsOnLine : ℕ → Progress (Stage LpContext) → Type 0
IsOnLine number (Going stage) = Unit {0}
IsOnLine number (Failed line kind) = line ≡ number

failed_on : (line kind number : ℕ) (tokens : List Token) → line ≡ number → IsOnLine number (tokens_read number (Failed line kind) tokens)
failed_on line kind number [] e = e
failed_on line kind number (token ∷ tokens) e = failed_on line kind number tokens e

on_line : (number : ℕ) (stage : Stage LpContext) (tokens : List Token) → IsOnLine number (tokens_read number (Going stage) tokens)
on_line number stage [] = tt
on_line number stage (token ∷ tokens) = go (lp_reading.fault stage token) (on_line number (lp_reading.next stage token) tokens)
  where
    go : (f : Option ℕ) → IsOnLine number (tokens_read number (Going (lp_reading.next stage token)) tokens) → IsOnLine number (tokens_read number (progress_at f number (lp_reading.next stage token)) tokens)
    go None h = h
    go (Some kind) h = failed_on number kind number tokens refl

-- ---- faults that are final

-- a fault on this line counts where the text is too long
long_stays : (last line kind : ℕ) → line ≤ last → kind ≤ 12 → too_long {X = Program} 12 last (Faulty line kind) ≡ Faulty line kind
long_stays last line kind l k = go (nat_lt line last) (line == last) (nat_lt kind 12) refl refl refl
  where
    go : (a b c : Bool) → nat_lt line last ≡ a → (line == last) ≡ b → nat_lt kind 12 ≡ c → ◌≡◌ {A = Outcome Program} (cond (a || (b && c)) (Faulty line kind) (Faulty last 12)) (Faulty line kind)
    go true b c e f g = refl
    go false true true e f g = refl
    go false b false e f g =
        let p : last ≤ line = ltb-false line last e in
        let q : 12 ≤ kind = ltb-false kind 12 g in
        let same : last ≡ line = omega (arith, p, l) in
        let twelve : 12 ≡ kind = omega (arith, q, k) in
        both b same twelve
      where
        both : (t : Bool) → last ≡ line → 12 ≡ kind → ◌≡◌ {A = Outcome Program} (cond (t && false) (Faulty line kind) (Faulty last 12)) (Faulty line kind)
        both true s w = λ i. Faulty (s i) (w i)
        both false s w = λ i. Faulty (s i) (w i)
    go false false true e f g =
        let p : last ≤ line = ltb-false line last e in
        let same : line ≡ last = omega (arith, p, l) in
        absurd (cc (f, same_lines line last same))
      where
        same_lines : (m n : ℕ) → m ≡ n → (m == n) ≡ true
        same_lines m n h = eq-eqb m n h

-- what a fault comes to, on the last line or before
fault_stays : (size last line kind : ℕ) → line ≤ last → kind ≤ 12 → ◌≡◌ {A = Outcome Program} (cond (nat_le size longest_text) (outcome_from lp_reading last (Failed line kind)) (too_long 12 last (outcome_from lp_reading last (Failed line kind)))) (Faulty line kind)
fault_stays size last line kind l k = go (nat_le size longest_text)
  where
    go : (t : Bool) → ◌≡◌ {A = Outcome Program} (cond t (Faulty line kind) (too_long 12 last (Faulty line kind))) (Faulty line kind)
    go true = refl
    go false = long_stays last line kind l k

-- the fault stands on a line that has ended; or on the one that hasn't, whatever follows
record IsPast (s : Stream (Stage LpContext)) (line kind : ℕ) : Type 0 where
  pub progress : s.progress ≡ Failed line kind
  pub ended : line ≤ s.ended

record IsHere (s : Stream (Stage LpContext)) (line kind : ℕ) : Type 0 where
  pub filled : is_filled s.line ≡ true
  pub ended : line ≤ s.ended + 1
  pub reads : (more : List ℕ) → line_read lp_reading s.progress (s.ended + 1) (s.line ++ more) ≡ Failed line kind

abbrev feed_line : Stream (Stage LpContext) → Stream (Stage LpContext)
feed_line s = record { progress = line_read lp_reading s.progress (s.ended + 1) s.line; ended = s.ended + 1; line = []; size = s.size + 1 }

abbrev longer_line : Stream (Stage LpContext) → ℕ → Stream (Stage LpContext)
longer_line s b = record { progress = s.progress; ended = s.ended; line = s.line ++ b ∷ []; size = s.size + 1 }

pub filled_more : (line : List ℕ) (b : ℕ) → is_filled (line ++ b ∷ []) ≡ true
filled_more [] b = refl
filled_more (x ∷ line) b = refl

past_read : (s : Stream (Stage LpContext)) (line kind : ℕ) (bytes : List ℕ) → IsPast s line kind → line_read lp_reading s.progress (s.ended + 1) bytes ≡ Failed line kind
past_read s line kind bytes h = ap (λ p. line_read lp_reading p (s.ended + 1) bytes) h.progress ∙ tokens_failed line kind (s.ended + 1) (line_tokens bytes)

past_put : (s : Stream (Stage LpContext)) (line kind b : ℕ) → IsPast s line kind → IsPast (byte_read lp_reading s b) line kind
past_put s line kind b h = go (is_line_feed b)
  where
    go : (t : Bool) → IsPast (cond t (feed_line s) (longer_line s b)) line kind
    go true = record { progress = past_read s line kind s.line h; ended = let e = h.ended in omega (arith, e) }
    go false = record { progress = h.progress; ended = h.ended }

here_line : (s : Stream (Stage LpContext)) (line kind : ℕ) → IsHere s line kind → line_read lp_reading s.progress (s.ended + 1) s.line ≡ Failed line kind
here_line s line kind h = ap (line_read lp_reading s.progress (s.ended + 1)) (sym (append-nil s.line)) ∙ h.reads []

here_put : (s : Stream (Stage LpContext)) (line kind b : ℕ) → IsHere s line kind → IsPast (byte_read lp_reading s b) line kind ⊎ IsHere (byte_read lp_reading s b) line kind
here_put s line kind b h = go (is_line_feed b)
  where
    go : (t : Bool) → IsPast (cond t (feed_line s) (longer_line s b)) line kind ⊎ IsHere (cond t (feed_line s) (longer_line s b)) line kind
    go true = inl (record { progress = here_line s line kind h; ended = h.ended })
    go false = inr (record {
      filled = filled_more s.line b;
      ended = h.ended;
      reads = λ more. ap (line_read lp_reading s.progress (s.ended + 1)) (append_assoc s.line (b ∷ []) more) ∙ h.reads (b ∷ more);
    })

abbrev IsFinal : Stream (Stage LpContext) → (line kind : ℕ) → Type 0
IsFinal s line kind = IsPast s line kind ⊎ IsHere s line kind

final_put : (s : Stream (Stage LpContext)) (line kind b : ℕ) → IsFinal s line kind → IsFinal (stream_with lp_reading s b) line kind
final_put s line kind b h = go (nat_le s.size longest_text) h
  where
    go : (t : Bool) → IsFinal s line kind → IsFinal (cond t (byte_read lp_reading s b) s) line kind
    go true (inl p) = inl (past_put s line kind b p)
    go true (inr p) = here_put s line kind b p
    go false p = p

final_closed : (s : Stream (Stage LpContext)) (line kind : ℕ) → kind ≤ 12 → IsFinal s line kind → closed lp_reading s ≡ Faulty line kind
final_closed s line kind k (inl h) =
    ap (λ p. cond (nat_le s.size longest_text) (outcome_from lp_reading (last_line s) p) (too_long 12 (last_line s) (outcome_from lp_reading (last_line s) p))) progress
    ∙ fault_stays s.size (last_line s) line kind (last (is_filled s.line) h.ended) k
  where
    either : (t : Bool) (p q : Progress (Stage LpContext)) → p ≡ Failed line kind → q ≡ Failed line kind → cond t p q ≡ Failed line kind
    either true p q e f = e
    either false p q e f = f

    progress : last_progress lp_reading s ≡ Failed line kind
    progress = either (is_filled s.line) (line_read lp_reading s.progress (s.ended + 1) s.line) s.progress (past_read s line kind s.line h) h.progress

    last : (t : Bool) → line ≤ s.ended → line ≤ cond t (s.ended + 1) s.ended
    last true e = omega (arith, e)
    last false e = e
final_closed s line kind k (inr h) =
    ap (λ t. cond (nat_le s.size longest_text) (outcome_from lp_reading (cond t (s.ended + 1) s.ended) (cond t read s.progress)) (too_long 12 (cond t (s.ended + 1) s.ended) (outcome_from lp_reading (cond t (s.ended + 1) s.ended) (cond t read s.progress)))) h.filled
    ∙ ap (λ p. cond (nat_le s.size longest_text) (outcome_from lp_reading (s.ended + 1) p) (too_long 12 (s.ended + 1) (outcome_from lp_reading (s.ended + 1) p))) (here_line s line kind h)
    ∙ fault_stays s.size (s.ended + 1) line kind h.ended k
  where
    read : Progress (Stage LpContext)
    read = line_read lp_reading s.progress (s.ended + 1) s.line

-- such a fault is the text's, whatever follows
final : (bytes : List ℕ) (s : Stream (Stage LpContext)) (line kind : ℕ) → kind ≤ 12 → IsFinal s line kind → closed lp_reading (fold (stream_with lp_reading) s bytes) ≡ Faulty line kind
final [] s line kind k h = final_closed s line kind k h
final (b ∷ bytes) s line kind k h = final bytes (stream_with lp_reading s b) line kind k (final_put s line kind b h)

-- ---- what is kept stands for the stream

-- the tokens behind are read alike, whatever follows
record StandsFor (m : LpBytes) (s : Stream (Stage LpContext)) : Type 0 where
  pub ended : s.ended ≡ m.ended
  pub size : s.size ≡ m.size
  pub few : m.size ≤ longest_text
  pub filled : is_filled s.line ≡ is_filled m.rest
  pub clean : in_comment m.rest ≡ false → list_any is_comment m.rest ≡ false
  pub reads : (more : List ℕ) → line_read lp_reading s.progress (m.ended + 1) (s.line ++ more)
      ≡ tokens_read (m.ended + 1) (Going m.stage) (tokens_from m.front (m.rest ++ more))

-- a fault is the text's, whatever follows
abbrev Stands : Progress LpBytes → Stream (Stage LpContext) → Type 0
Stands (Going m) s = StandsFor m s
Stands (Failed line kind) s =
    kind ≤ 12 → (bytes : List ℕ) → closed lp_reading (fold (stream_with lp_reading) s bytes) ≡ Faulty line kind

-- what the line says as far as it came
line_is : (m : LpBytes) (s : Stream (Stage LpContext)) → StandsFor m s → line_read lp_reading s.progress (s.ended + 1) s.line ≡ part_read m
line_is m s h =
    ap (λ (n : ℕ). line_read lp_reading s.progress (n + 1) s.line) h.ended
    ∙ ap (line_read lp_reading s.progress (m.ended + 1)) (sym (append-nil s.line))
    ∙ h.reads []
    ∙ ap (λ (bytes : List ℕ). tokens_read (m.ended + 1) (Going m.stage) (tokens_from m.front bytes)) (append-nil m.rest)

-- behind a line feed
feed_stands : (m : LpBytes) (s : Stream (Stage LpContext)) → m.size < longest_text → StandsFor m s → Stands (feed_put m) (feed_line s)
feed_stands m s few h = go (part_read m) (line_is m s h) (on_line (m.ended + 1) m.stage (tokens_from m.front m.rest))
  where
    go : (p : Progress (Stage LpContext)) → line_read lp_reading s.progress (s.ended + 1) s.line ≡ p → IsOnLine (m.ended + 1) p → Stands (behind p (m.ended + 1) true [] (m.size + 1)) (feed_line s)
    go (Going stage) e o = record {
      ended = ap (λ (n : ℕ). n + 1) h.ended;
      size = ap (λ (n : ℕ). n + 1) h.size;
      few = omega (arith, few);
      filled = refl;
      clean = λ c. refl;
      reads = λ more. ap (λ p. line_read lp_reading p (m.ended + 1 + 1) more) e;
    }
    go (Failed line kind) e o = λ k bytes. final bytes (feed_line s) line kind k (inl (record {
      progress = e;
      ended = let same = h.ended in omega (arith, o, same);
    }))

-- behind another byte
longer_reads : (m : LpBytes) (s : Stream (Stage LpContext)) (b : ℕ) → StandsFor m s → (more : List ℕ) → line_read lp_reading s.progress (m.ended + 1) ((s.line ++ b ∷ []) ++ more) ≡ tokens_read (m.ended + 1) (Going m.stage) (tokens_from m.front (m.rest ++ b ∷ more))
longer_reads m s b h more = ap (line_read lp_reading s.progress (m.ended + 1)) (append_assoc s.line (b ∷ []) more) ∙ h.reads (b ∷ more)

comment_stands : (m : LpBytes) (s : Stream (Stage LpContext)) (b : ℕ) → m.size < longest_text → StandsFor m s → in_comment m.rest ≡ true → StandsFor (record m { size = m.size + 1 }) (longer_line s b)
comment_stands m s b few h c = record {
  ended = h.ended;
  size = ap (λ (n : ℕ). n + 1) h.size;
  few = omega (arith, few);
  filled = filled_more s.line b ∙ sym (some m.rest c);
  clean = λ e. absurd (cc (c, e));
  reads = λ more. longer_reads m s b h more ∙ ap (tokens_read (m.ended + 1) (Going m.stage)) (nothing m.front more);
}
  where
    some : (rest : List ℕ) → in_comment rest ≡ true → is_filled rest ≡ true
    some [] e = absurd (cc)
    some (x ∷ xs) e = refl

    nothing : (t : Bool) (more : List ℕ) → tokens_from t (m.rest ++ b ∷ more) ≡ tokens_from t (m.rest ++ more)
    nothing t more = same t (comment_rest m.rest (b ∷ more) c ∙ sym (comment_rest m.rest more c))
      where
        same : (u : Bool) → line_pieces (m.rest ++ b ∷ more) ≡ line_pieces (m.rest ++ more) → tokens_from u (m.rest ++ b ∷ more) ≡ tokens_from u (m.rest ++ more)
        same true e = ap tokens_of e
        same false e = ap (map token_of) e

cut_stands : (m : LpBytes) (s : Stream (Stage LpContext)) (b : ℕ) → m.size < longest_text → StandsFor m s → in_comment m.rest ≡ false → is_cut m b ≡ true → Stands (behind (part_read m) m.ended false (b ∷ []) (m.size + 1)) (longer_line s b)
cut_stands m s b few h c cut = go (part_read m) reads (on_line (m.ended + 1) m.stage (tokens_from m.front m.rest))
  where
    reads : (more : List ℕ) → line_read lp_reading s.progress (m.ended + 1) ((s.line ++ b ∷ []) ++ more) ≡ tokens_read (m.ended + 1) (part_read m) (tokens_from false (b ∷ more))
    reads more =
        longer_reads m s b h more ∙ ap (tokens_read (m.ended + 1) (Going m.stage)) (cut_tokens m b more (h.clean c) cut)
        ∙ fold-append (λ p item. item_read lp_reading p (m.ended + 1) item) (Going m.stage) (tokens_from m.front m.rest) (tokens_from false (b ∷ more))

    go : (p : Progress (Stage LpContext)) → ((more : List ℕ) → line_read lp_reading s.progress (m.ended + 1) ((s.line ++ b ∷ []) ++ more) ≡ tokens_read (m.ended + 1) p (tokens_from false (b ∷ more))) → IsOnLine (m.ended + 1) p
        → Stands (behind p m.ended false (b ∷ []) (m.size + 1)) (longer_line s b)
    go (Going stage) e o = record {
      ended = h.ended;
      size = ap (λ (n : ℕ). n + 1) h.size;
      few = omega (arith, few);
      filled = filled_more s.line b;
      clean = λ f. or_from (is_comment b) false f refl;
      reads = e;
    }
    go (Failed line kind) e o = λ k bytes. final bytes (longer_line s b) line kind k (inr (record {
      filled = filled_more s.line b;
      ended = let same = h.ended in omega (arith, o, same);
      reads = λ more. ap (λ (n : ℕ). line_read lp_reading s.progress (n + 1) ((s.line ++ b ∷ []) ++ more)) h.ended ∙ e more ∙ tokens_failed line kind (m.ended + 1) (tokens_from false (b ∷ more));
    }))

longer_stands : (m : LpBytes) (s : Stream (Stage LpContext)) (b : ℕ) → m.size < longest_text → StandsFor m s → in_comment m.rest ≡ false → is_cut m b ≡ false → StandsFor (record m { rest = m.rest ++ b ∷ []; size = m.size + 1 }) (longer_line s b)
longer_stands m s b few h c cut = record {
  ended = h.ended;
  size = ap (λ (n : ℕ). n + 1) h.size;
  few = omega (arith, few);
  filled = filled_more s.line b ∙ sym (filled_more m.rest b);
  clean = λ e. list_any-append is_comment m.rest (b ∷ []) ∙ or_from (list_any is_comment m.rest) (list_any is_comment (b ∷ [])) (h.clean c) (or_from (is_comment b) false (left_false (is_comment b) (ends_with m.rest b && not (m.front && hangs (line_pieces m.rest))) cut) refl);
  reads = λ more. longer_reads m s b h more ∙ ap (λ (bytes : List ℕ). tokens_read (m.ended + 1) (Going m.stage) (tokens_from m.front bytes)) (sym (append_assoc m.rest (b ∷ []) more));
}

put_stands : (m : LpBytes) (s : Stream (Stage LpContext)) (b : ℕ) → m.size < longest_text → StandsFor m s → Stands (byte_put m b) (longer_line s b)
put_stands m s b few h = go (in_comment m.rest) (is_cut m b) refl refl
  where
    go : (c d : Bool) → in_comment m.rest ≡ c → is_cut m b ≡ d → Stands (cond c (Going (record m { size = m.size + 1 })) (cond d (behind (part_read m) m.ended false (b ∷ []) (m.size + 1)) (Going (record m { rest = m.rest ++ b ∷ []; size = m.size + 1 })))) (longer_line s b)
    go true d e f = comment_stands m s b few h e
    go false true e f = cut_stands m s b few h e f
    go false false e f = longer_stands m s b few h e f

-- ---- the first byte too many

full : (bytes : List ℕ) (s : Stream (Stage LpContext)) → longest_text < s.size → fold (stream_with lp_reading) s bytes ≡ s
full [] s h = refl
full (b ∷ bytes) s h =
    ap (λ t. fold (stream_with lp_reading) t bytes) (cond-false (nat_le s.size longest_text) (byte_read lp_reading s b) s (lt-leb s.size longest_text h)) ∙ full bytes s h

-- the fault behind the last line doesn't count
behind_long : (last kind : ℕ) → too_long {X = Program} 12 last (Faulty (last + 1) kind) ≡ Faulty last 12
behind_long last kind = go (nat_lt (last + 1) last) (last + 1 == last) (le-ltb (last + 1) last (omega arith)) (false_from_ne_true (last + 1 == last) (λ e. let h : last + 1 ≡ last = eqb-true (last + 1) last e in absurd (omega (arith, h))))
  where
    go : (a b : Bool) → a ≡ false → b ≡ false → ◌≡◌ {A = Outcome Program} (cond (a || (b && nat_lt kind 12)) (Faulty (last + 1) kind) (Faulty last 12)) (Faulty last 12)
    go true b e f = absurd (cc)
    go false true e f = absurd (cc)
    go false false e f = refl

quiet_long : (last : ℕ) (stage : Stage LpContext) → too_long 12 last (outcome_from lp_reading last (Going stage)) ≡ Faulty last 12
quiet_long last stage = go (lp_reading.end_fault stage)
  where
    go : (o : Option ℕ) → ◌≡◌ {A = Outcome Program} (too_long 12 last (outcome_at o (last + 1) (Means (lp_reading.result stage)))) (Faulty last 12)
    go None = refl
    go (Some kind) = behind_long last kind

-- what a text comes to that ends there
long_closed : (s : Stream (Stage LpContext)) (last : ℕ) (p : Progress (Stage LpContext)) → longest_text < s.size → last_line s ≡ last → last_progress lp_reading s ≡ p → closed lp_reading s ≡ too_long 12 last (outcome_from lp_reading last p)
long_closed s last p l e f =
    cond-false (nat_le s.size longest_text) (outcome_from lp_reading (last_line s) (last_progress lp_reading s)) (too_long 12 (last_line s) (outcome_from lp_reading (last_line s) (last_progress lp_reading s))) (lt-leb s.size longest_text l)
    ∙ (λ i. too_long 12 (e i) (outcome_from lp_reading (e i) (f i)))

long_stands : (m : LpBytes) (u : Stream (Stage LpContext)) (p : Progress (Stage LpContext)) → longest_text < u.size → last_line u ≡ m.ended + 1 → last_progress lp_reading u ≡ p → IsOnLine (m.ended + 1) p → Stands (beyond p (m.ended + 1)) u
long_stands m u (Going stage) l e f o = λ k bytes. ap (closed lp_reading) (full bytes u l) ∙ long_closed u (m.ended + 1) (Going stage) l e f ∙ quiet_long (m.ended + 1) stage
long_stands m u (Failed line kind) l e f o = λ k bytes. ap (closed lp_reading) (full bytes u l) ∙ long_closed u (m.ended + 1) (Failed line kind) l e f ∙ long_stays (m.ended + 1) line kind (omega (arith, o)) k

last_stands : (m : LpBytes) (s : Stream (Stage LpContext)) (b : ℕ) → longest_text ≤ m.size → StandsFor m s → Stands (last_put m b) (byte_read lp_reading s b)
last_stands m s b l h = go (is_line_feed b)
  where
    long : longest_text < s.size + 1
    long = let e = h.size in omega (arith, l, e)

    go : (t : Bool) → Stands (beyond (part_read (record m { rest = cond t m.rest (m.rest ++ b ∷ []) })) (m.ended + 1)) (cond t (feed_line s) (longer_line s b))
    go true = long_stands m (feed_line s) (part_read m) long (ap (λ (n : ℕ). n + 1) h.ended) (line_is m s h) (on_line (m.ended + 1) m.stage (tokens_from m.front m.rest))
    go false =
        long_stands m (longer_line s b) (part_read (record m { rest = m.rest ++ b ∷ [] })) long
        (ap (λ t. cond t (s.ended + 1) s.ended) (filled_more s.line b) ∙ ap (λ (n : ℕ). n + 1) h.ended)
        (
        ap (λ t. cond t (line_read lp_reading s.progress (s.ended + 1) (s.line ++ b ∷ [])) s.progress) (filled_more s.line b)
        ∙ ap (λ (n : ℕ). line_read lp_reading s.progress (n + 1) (s.line ++ b ∷ [])) h.ended
        ∙ h.reads (b ∷ [])
        )
        (on_line (m.ended + 1) m.stage (tokens_from m.front (m.rest ++ b ∷ [])))

-- ---- bytes

taken_stands : (p : Progress LpBytes) (s : Stream (Stage LpContext)) (b : ℕ) → Stands p s → Stands (byte_taken p b) (stream_with lp_reading s b)
taken_stands (Failed line kind) s b h = λ k bytes. h k (b ∷ bytes)
taken_stands (Going m) s b h = subst (Stands (byte_taken (Going m) b)) (sym here) (go (nat_lt m.size longest_text) refl)
  where
    here : stream_with lp_reading s b ≡ byte_read lp_reading s b
    here = cond-true (nat_le s.size longest_text) (byte_read lp_reading s b) s (le-leb s.size longest_text (subst (λ (n : ℕ). n ≤ longest_text) (sym h.size) h.few))

    inner : m.size < longest_text → (t : Bool) → Stands (cond t (feed_put m) (byte_put m b)) (cond t (feed_line s) (longer_line s b))
    inner few true = feed_stands m s few h
    inner few false = put_stands m s b few h

    go : (t : Bool) → nat_lt m.size longest_text ≡ t → Stands (cond t (cond (is_line_feed b) (feed_put m) (byte_put m b)) (last_put m b)) (byte_read lp_reading s b)
    go true e = inner (ltb-true m.size longest_text e) (is_line_feed b)
    go false e = last_stands m s b (ltb-false m.size longest_text e) h

all_stand : (bytes : List ℕ) (p : Progress LpBytes) (s : Stream (Stage LpContext)) → Stands p s → Stands (fold byte_taken p bytes) (fold (stream_with lp_reading) s bytes)
all_stand [] p s h = h
all_stand (b ∷ bytes) p s h = all_stand bytes (byte_taken p b) (stream_with lp_reading s b) (taken_stands p s b h)

first_stands : Stands (Going first_bytes) (no_stream lp_reading)
first_stands = record {
  ended = refl;
  size = refl;
  few = omega arith;
  filled = refl;
  clean = λ e. refl;
  reads = λ more. refl;
}

text_stands : (text : List ℕ) → Stands (text_taken text) (stream_of lp_reading text)
text_stands text = all_stand text (Going first_bytes) (no_stream lp_reading) first_stands

-- ---- outcomes

-- a text that has no fault as far as its tokens have ended, and ends here
pub going_text : TextsAreRead lp_reading lp_reading → (text : List ℕ) (m : LpBytes) → text_taken text ≡ Going m → outcome_of lp_reading text ≡ outcome_from lp_reading (cond (is_filled m.rest) (m.ended + 1) m.ended) (part_read m)
unfolding read_outcome
going_text law text m e = sym (law text) ∙ going m (stream_of lp_reading text) (subst (λ p. Stands p (stream_of lp_reading text)) e (text_stands text))
  where
    going : (m : LpBytes) (s : Stream (Stage LpContext)) → StandsFor m s → closed lp_reading s ≡ outcome_from lp_reading (cond (is_filled m.rest) (m.ended + 1) m.ended) (part_read m)
    going m s h =
        cond-true (nat_le s.size longest_text) (outcome_from lp_reading (last_line s) (last_progress lp_reading s)) (too_long 12 (last_line s) (outcome_from lp_reading (last_line s) (last_progress lp_reading s))) (le-leb s.size longest_text (subst (λ (n : ℕ). n ≤ longest_text) (sym h.size) h.few))
        ∙ (λ i. outcome_from lp_reading (last i) (progress (is_filled s.line) refl i))
      where
        last : last_line s ≡ cond (is_filled m.rest) (m.ended + 1) m.ended
        last = ap (λ t. cond t (s.ended + 1) s.ended) h.filled ∙ ap (λ (n : ℕ). cond (is_filled m.rest) (n + 1) n) h.ended

        empty : (line : List ℕ) → is_filled line ≡ false → line ≡ []
        empty [] f = refl
        empty (x ∷ xs) f = absurd (cc)

        progress : (t : Bool) → is_filled s.line ≡ t → cond (is_filled s.line) (line_read lp_reading s.progress (s.ended + 1) s.line) s.progress ≡ part_read m
        progress true f = ap (λ t. cond t (line_read lp_reading s.progress (s.ended + 1) s.line) s.progress) f ∙ line_is m s h
        progress false f =
            ap (λ t. cond t (line_read lp_reading s.progress (s.ended + 1) s.line) s.progress) f
            ∙ ap (line_read lp_reading s.progress (s.ended + 1)) (sym (empty s.line f)) ∙ line_is m s h

-- a fault is the text's, whatever follows
pub failed_text : TextsAreRead lp_reading lp_reading → (text rest : List ℕ) (line kind : ℕ) → text_taken text ≡ Failed line kind → kind ≤ 12 → outcome_of lp_reading (text ++ rest) ≡ Faulty line kind
unfolding read_outcome
failed_text law text rest line kind e k =
    sym (law (text ++ rest)) ∙ ap (closed lp_reading) (fold-append (stream_with lp_reading) (no_stream lp_reading) text rest)
    ∙ subst (λ p. Stands p (stream_of lp_reading text)) e (text_stands text) k rest

-- and stays known
pub failed_more : (text rest : List ℕ) (line kind : ℕ) → text_taken text ≡ Failed line kind → text_taken (text ++ rest) ≡ Failed line kind
failed_more text rest line kind e = fold-append byte_taken (Going first_bytes) text rest ∙ ap (λ p. fold byte_taken p rest) e ∙ over rest
  where
    over : (bytes : List ℕ) → fold byte_taken (Failed line kind) bytes ≡ Failed line kind
    over [] = refl
    over (b ∷ bytes) = over bytes
