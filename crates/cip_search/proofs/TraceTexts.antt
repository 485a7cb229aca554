-- What the text of an answer with a trace tells.
use lib.Chars.{codes}
use Rattle.std.specs.Prelude.{◌≡◌, ◌≢◌, ℕ, suc, List, [], ◌∷◌, ◌++◌, pos}
use Rattle.std.specs.List.{AllByRecursion}
use Rattle.std.proofs.Common.{refl, sym, ap, ◌∙◌, subst, arith, append_assoc, append-nil, get_or}
use Rattle.std.proofs.lemmas.List.Elements.{recursion_from_All}
use Rattle.cip_rational.specs.Rational.{integer, denominator}
use Rattle.cip_rational.proofs.Rational.Lowest.{numerator-integer, denominator-integer}
use Rattle.cip_rational.specs.NumberText.{natural_text, integer_text, denominator_text, fraction_text}
use Rattle.cip_rational.proofs.NumberText.{IsFractionByte, fraction_text_plain, natural_text_injective}
use Rattle.cip_search.specs.Figures.{status_word, line, figure_lines, end_line}
use Rattle.cip_search.specs.TraceTexts.{Traced, trace_line, trace_lines, traced_end}
use Rattle.cip_search.specs.TraceStatements.{IsPlainLine, TraceIsTold}
use Rattle.cip_search.proofs.AnswerTexts.{cancelled}

-- ---- digits

-- the text of a whole number
pub whole_text : (n : ℕ) → fraction_text (integer (pos n)) ≡ natural_text n
unfolding fraction_text
whole_text n =
    ap (λ z. integer_text z ++ denominator_text (denominator (integer (pos n)))) (numerator-integer (pos n))
    ∙ ap (λ d. natural_text n ++ denominator_text d) (denominator-integer (pos n))
    ∙ append-nil (natural_text n)

no_blank : (text : List ℕ) → AllByRecursion IsFractionByte text → AllByRecursion (λ byte. byte ≢ 32) text
no_blank [] plain = tt
no_blank (byte ∷ bytes) plain = (λ e. grind (arith, plain.0), no_blank bytes plain.1)

pub digits-no_blank : (n : ℕ) → AllByRecursion (λ byte. byte ≢ 32) (natural_text n)
digits-no_blank n =
    subst (λ text. AllByRecursion (λ byte. byte ≢ 32) text) (whole_text n)
    (no_blank (fraction_text (integer (pos n))) (recursion_from_All IsFractionByte (fraction_text (integer (pos n))) (fraction_text_plain (integer (pos n)))))

-- ---- lines

-- what comes before a mark, and what comes after it
pub parted : (mark : ℕ) (xs ys us vs : List ℕ) → AllByRecursion (λ byte. byte ≢ mark) xs → AllByRecursion (λ byte. byte ≢ mark) ys → xs ++ mark ∷ us ≡ ys ++ mark ∷ vs → (xs ≡ ys) × (us ≡ vs)
parted mark [] [] us vs p q e = (refl, cc)
parted mark [] (y ∷ ys) us vs p q e = absurd (q.0 (cc))
parted mark (x ∷ xs) [] us vs p q e = absurd (p.0 (cc))
parted mark (x ∷ xs) (y ∷ ys) us vs p q e =
    let head : x ≡ y = cc in
    let tail : xs ++ mark ∷ us ≡ ys ++ mark ∷ vs = cc in
    let rest = parted mark xs ys us vs p.1 q.1 tail in
    (ap (λ byte. byte ∷ xs) head ∙ ap (λ bytes. y ∷ bytes) rest.0, rest.1)

-- a line, and then more
line_then : (number : ℕ) (traced : Traced) (rest : List ℕ) → trace_line number traced ++ rest ≡ codes "trace " ++ (natural_text number ++ 32 ∷ (natural_text traced.id ++ 32 ∷ (traced.name ++ 32 ∷ (traced.word ++ 10 ∷ rest))))
line_then number traced rest = simp append_assoc

names_of_bytes : (text : List ℕ) → AllByRecursion (λ byte. (byte ≢ 32) × (byte ≢ 10)) text → AllByRecursion (λ byte. byte ≢ 32) text
names_of_bytes [] plain = tt
names_of_bytes (byte ∷ bytes) plain = (plain.0.0, names_of_bytes bytes plain.1)

name-no_blank : (traced : Traced) → IsPlainLine traced → AllByRecursion (λ byte. byte ≢ 32) traced.name
name-no_blank traced plain = names_of_bytes traced.name (recursion_from_All (λ byte. (byte ≢ 32) × (byte ≢ 10)) traced.name plain.name)

word-no_feed : (traced : Traced) → IsPlainLine traced → AllByRecursion (λ byte. byte ≢ 10) traced.word
word-no_feed traced plain = recursion_from_All (λ byte. byte ≢ 10) traced.word plain.word

same_line : (traced other : Traced) → traced.id ≡ other.id → traced.name ≡ other.name → traced.word ≡ other.word → traced ≡ other
same_line traced other id name word =
    ap (λ x. record { id = x; name = traced.name; word = traced.word }) id
    ∙ ap (λ x. record { id = other.id; name = x; word = traced.word }) name
    ∙ ap (λ x. record { id = other.id; name = other.name; word = x }) word

-- two lines of one number, each with more after it
line_parted : (number : ℕ) (traced other : Traced) (xs ys : List ℕ) → IsPlainLine traced → IsPlainLine other → trace_line number traced ++ xs ≡ trace_line number other ++ ys → (traced ≡ other) × (xs ≡ ys)
line_parted number traced other xs ys p q e =
    let same = sym (line_then number traced xs) ∙ e ∙ line_then number other ys in
    let numbers = cancelled (codes "trace ") _ _ same in
    let blank = cancelled (natural_text number) _ _ numbers in
    let ids = parted 32 (natural_text traced.id) (natural_text other.id) _ _ (digits-no_blank traced.id) (digits-no_blank other.id) (cancelled (32 ∷ []) _ _ blank) in
    let names = parted 32 traced.name other.name _ _ (name-no_blank traced p) (name-no_blank other q) ids.1 in
    let words = parted 10 traced.word other.word xs ys (word-no_feed traced p) (word-no_feed other q) names.1 in
    (same_line traced other (natural_text_injective traced.id other.id ids.0) names.0 words.0, words.1)

lines_told : (number : ℕ) (lines others : List Traced) → AllByRecursion IsPlainLine lines → AllByRecursion IsPlainLine others → trace_lines number lines ++ end_line ≡ trace_lines number others ++ end_line → lines ≡ others
lines_told number [] [] p q e = refl
lines_told number [] (other ∷ others) p q e = let byte : 101 ≡ 116 = ap (λ t. get_or t 0 0) e in absurd (omega (arith, byte))
lines_told number (traced ∷ lines) [] p q e = let byte : 116 ≡ 101 = ap (λ t. get_or t 0 0) e in absurd (omega (arith, byte))
lines_told number (traced ∷ lines) (other ∷ others) p q e =
    let same = sym (append_assoc (trace_line number traced) (trace_lines (suc number) lines) end_line) ∙ e ∙ append_assoc (trace_line number other) (trace_lines (suc number) others) end_line in
    let parts = line_parted number traced other _ _ p.0 q.0 same in
    let rest = lines_told (suc number) lines others p.1 q.1 parts.1 in
    ap (λ x. x ∷ lines) parts.0 ∙ ap (λ xs. other ∷ xs) rest

pub trace_told : TraceIsTold
trace_told names figures lines others p q e =
    let front = line (codes "status") (status_word figures.status) ++ figure_lines names figures in
    lines_told 1 lines others (recursion_from_All IsPlainLine lines p) (recursion_from_All IsPlainLine others q)
    (cancelled front (traced_end lines) (traced_end others) e)
