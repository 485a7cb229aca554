-- What one byte more comes to, in each case.
use Rattle.std.proofs.Common.{◌≡◌, ℕ, ◌+◌, ◌<◌, ◌≤◌, true, false, cond, List, [], ◌∷◌, ◌++◌, Option, None, Some, is_some, refl, sym, ap, ◌∙◌}
use Rattle.std.specs.Prelude.{nat_lt}
use Rattle.std.proofs.lemmas.Bool.{cond-true, cond-false, lt-ltb, le-ltb}
use Rattle.cip_problem.specs.Limits.{longest_text}
use Rattle.cip_text_rules.specs.Lines.{is_line_feed}
use Rattle.cip_text_rules.specs.LineStream.{Progress, Going}
use Rattle.cip_text.specs.declared.faults.KnownFault.{KnownFault}
use Rattle.cip_text.specs.PieceStands.{progress_of}
use Rattle.cip_text_rules.specs.LpBytes.{LpBytes, part_read, behind, in_comment, is_cut, byte_put, feed_put, last_put, byte_taken}

-- ---- a byte of the line

-- in a comment
pub put_comment : (f : Option KnownFault) (m : LpBytes) (byte : ℕ) → f ≡ None → in_comment m.rest ≡ true → progress_of f (record m { size = m.size + 1 }) ≡ byte_put m byte
put_comment f m byte none e =
    ap (λ g. progress_of g (record m { size = m.size + 1 })) none
    ∙ sym (cond-true (in_comment m.rest) (Going (record m { size = m.size + 1 })) (cond (is_cut m byte) (behind (part_read m) m.ended false (byte ∷ []) (m.size + 1)) (Going (record m { rest = m.rest ++ byte ∷ []; size = m.size + 1 }))) e)

-- behind tokens that have ended
pub put_cut : (p : Progress LpBytes) (m : LpBytes) (byte : ℕ) → in_comment m.rest ≡ false → is_cut m byte ≡ true → p ≡ behind (part_read m) m.ended false (byte ∷ []) (m.size + 1) → p ≡ byte_put m byte
put_cut p m byte e f h =
    h
    ∙ sym (cond-false (in_comment m.rest) (Going (record m { size = m.size + 1 })) (cond (is_cut m byte) (behind (part_read m) m.ended false (byte ∷ []) (m.size + 1)) (Going (record m { rest = m.rest ++ byte ∷ []; size = m.size + 1 }))) e
    ∙ cond-true (is_cut m byte) (behind (part_read m) m.ended false (byte ∷ []) (m.size + 1)) (Going (record m { rest = m.rest ++ byte ∷ []; size = m.size + 1 })) f)

-- behind another byte
pub put_longer : (f : Option KnownFault) (m : LpBytes) (byte : ℕ) (rest : List ℕ) → f ≡ None → in_comment m.rest ≡ false → is_cut m byte ≡ false → rest ≡ m.rest ++ byte ∷ [] → progress_of f (record m { rest = rest; size = m.size + 1 }) ≡ byte_put m byte
put_longer f m byte rest none e g same =
    (λ i. progress_of (none i) (record m { rest = same i; size = m.size + 1 }))
    ∙ sym (cond-false (in_comment m.rest) (Going (record m { size = m.size + 1 })) (cond (is_cut m byte) (behind (part_read m) m.ended false (byte ∷ []) (m.size + 1)) (Going (record m { rest = m.rest ++ byte ∷ []; size = m.size + 1 }))) e
    ∙ cond-false (is_cut m byte) (behind (part_read m) m.ended false (byte ∷ []) (m.size + 1)) (Going (record m { rest = m.rest ++ byte ∷ []; size = m.size + 1 })) g)

-- ---- a byte of the text

pub none_is : (f : Option KnownFault) → is_some f ≡ false → f ≡ None
none_is None e = refl
none_is (Some f) e = absurd (cc)

-- behind a fault
pub taken_failed : (f : Option KnownFault) (m : LpBytes) (byte : ℕ) → is_some f ≡ true → progress_of f m ≡ byte_taken (progress_of f m) byte
taken_failed None m byte e = absurd (cc)
taken_failed (Some f) m byte e = refl

-- the first byte too many
pub taken_last : (f : Option KnownFault) (m : LpBytes) (byte : ℕ) → f ≡ None → longest_text ≤ m.size → last_put m byte ≡ byte_taken (progress_of f m) byte
taken_last f m byte none l =
    sym (ap (λ g. byte_taken (progress_of g m) byte) none
    ∙ cond-false (nat_lt m.size longest_text) (cond (is_line_feed byte) (feed_put m) (byte_put m byte)) (last_put m byte) (le-ltb m.size longest_text l))

-- a line feed
pub taken_feed : (f : Option KnownFault) (m : LpBytes) (byte : ℕ) → f ≡ None → m.size < longest_text → is_line_feed byte ≡ true → feed_put m ≡ byte_taken (progress_of f m) byte
taken_feed f m byte none l e =
    sym (ap (λ g. byte_taken (progress_of g m) byte) none
    ∙ cond-true (nat_lt m.size longest_text) (cond (is_line_feed byte) (feed_put m) (byte_put m byte)) (last_put m byte) (lt-ltb m.size longest_text l)
    ∙ cond-true (is_line_feed byte) (feed_put m) (byte_put m byte) e)

-- another byte
pub taken_put : (f : Option KnownFault) (m : LpBytes) (byte : ℕ) → f ≡ None → m.size < longest_text → is_line_feed byte ≡ false → byte_put m byte ≡ byte_taken (progress_of f m) byte
taken_put f m byte none l e =
    sym (ap (λ g. byte_taken (progress_of g m) byte) none
    ∙ cond-true (nat_lt m.size longest_text) (cond (is_line_feed byte) (feed_put m) (byte_put m byte)) (last_put m byte) (lt-ltb m.size longest_text l)
    ∙ cond-false (is_line_feed byte) (feed_put m) (byte_put m byte) e)
