-- The lines of a trace that are written one after another.
use Rattle.std.proofs.Common.{◌≡◌, ◌+◌, ◌<◌, ℕ, List, [], ◌∷◌, ◌++◌, length, take, drop, get_or, map, zero, suc, refl, sym, ap, ◌∙◌, ◌^◌, subst, arith, append_assoc, append-nil}
use Rattle.std.specs.Prelude.{Result, IsErr, decimal}
use lib.Chars.{codes}
use Rattle.cip_rational.specs.NumberText.{natural_text}
use Rattle.cip_rational.proofs.NumberText.{natural_text_decimal}
use Rattle.cip_io.specs.Sink.{SinkTells, PushesPart}
use Rattle.cip_search.specs.Figures.{line}
use Rattle.cip_search.specs.TraceTexts.{Traced, trace_line, trace_lines}
use Rattle.cip_report.specs.Writing.{Passes, Writes}
use Rattle.cip_report.proofs.WritingLemmas.{three_parts, first_of_three, second_of_three, third_of_three}

parts_of : (trace blank number id name word feed : List ℕ) → ((((trace ++ number) ++ (blank ++ id)) ++ (blank ++ name)) ++ (blank ++ word)) ++ feed ≡ ((trace ++ (number ++ (blank ++ (id ++ blank)))) ++ name) ++ (blank ++ (word ++ feed))
parts_of trace blank number id name word feed = simp append_assoc

-- a line, by what is written one after another
traced_parts : (number id name word : List ℕ) → line (codes "trace " ++ number ++ 32 ∷ id ++ 32 ∷ name) word ≡ (codes "trace " ++ (number ++ (32 ∷ (id ++ 32 ∷ [])))) ++ name ++ (32 ∷ (word ++ 10 ∷ []))
traced_parts number id name word = parts_of (codes "trace ") (32 ∷ []) number id name word (10 ∷ [])

-- what is written of a line first
abbrev pub line_front : (number id : List ℕ) → List ℕ
line_front number id = codes "trace " ++ (number ++ (32 ∷ (id ++ 32 ∷ [])))

pub written_front : (number id : ℕ) (first second : List ℕ) → first ≡ decimal number → second ≡ decimal id → number + id < 2 ^ 70 → line_front first second ≡ line_front (natural_text number) (natural_text id)
written_front number id first second f s few =
    rw (f ∙ sym (natural_text_decimal number (omega (arith, few))), s ∙ sym (natural_text_decimal id (omega (arith, few)))) refl

-- that failed
pub front_failed : {T E : Type 0} (result : Result T E) (old new : SinkTells) (front : List ℕ) (number : ℕ) (told : Traced) (shown buffered : List ℕ) → IsErr result → shown ≡ line_front (natural_text number) (natural_text told.id) → PushesPart old new (front ++ shown) → Writes result old new (front ++ trace_line number told) buffered
front_failed result old new front number told shown buffered failed same part =
    subst (λ t. Writes result old new (front ++ t) buffered) (sym (traced_parts (natural_text number) (natural_text told.id) told.name told.word))
    (first_of_three result old new front (line_front (natural_text number) (natural_text told.id)) told.name (32 ∷ (told.word ++ 10 ∷ [])) buffered failed
    (subst (λ t. PushesPart old new (front ++ t)) same part))

-- the name of the plugin failed
pub name_failed : {T E : Type 0} (result : Result T E) (old mid new : SinkTells) (front : List ℕ) (number : ℕ) (told : Traced) (shown name held buffered : List ℕ) → IsErr result → shown ≡ line_front (natural_text number) (natural_text told.id) → name ≡ told.name → Passes old mid (front ++ shown) held → PushesPart mid new (held ++ name) → Writes result old new (front ++ trace_line number told) buffered
name_failed result old mid new front number told shown name held buffered failed same named done part =
    subst (λ t. Writes result old new (front ++ t) buffered) (sym (traced_parts (natural_text number) (natural_text told.id) told.name told.word))
    (second_of_three result old mid new front (line_front (natural_text number) (natural_text told.id)) told.name (32 ∷ (told.word ++ 10 ∷ [])) held buffered failed
    (subst (λ t. Passes old mid (front ++ t) held) same done) (subst (λ t. PushesPart mid new (held ++ t)) named part))

-- the word came last
pub word_last : {T E : Type 0} (result : Result T E) (old mid next new : SinkTells) (front : List ℕ) (number : ℕ) (told : Traced) (shown name held kept buffered : List ℕ) → shown ≡ line_front (natural_text number) (natural_text told.id) → name ≡ told.name → Passes old mid (front ++ shown) held → Passes mid next (held ++ name) kept → Writes result next new (kept ++ (32 ∷ (told.word ++ 10 ∷ []))) buffered → Writes result old new (front ++ trace_line number told) buffered
word_last result old mid next new front number told shown name held kept buffered same named done more last =
    subst (λ t. Writes result old new (front ++ t) buffered) (sym (traced_parts (natural_text number) (natural_text told.id) told.name told.word))
    (third_of_three result old mid next new front (line_front (natural_text number) (natural_text told.id)) told.name (32 ∷ (told.word ++ 10 ∷ [])) held kept buffered
    (subst (λ t. Passes old mid (front ++ t) held) same done) (subst (λ t. Passes mid next (held ++ t) kept) named more) last)

-- the lines by those before one, its own and those after it
pub trace_parts : {X : Type 0} (told : X → Traced) (from : ℕ) (lines : List X) (place number : ℕ) (x : X) → number ≡ from + place → place < length lines → x ≡ get_or lines place x → trace_lines from (map told lines) ≡ trace_lines from (map told (take place lines)) ++ trace_line number (told x) ++ trace_lines (suc number) (map told (drop (suc place) lines))
trace_parts told from [] place number x at within same = absurd (omega arith)
trace_parts told from (first ∷ lines) zero number x at within same =
    let number_is : number ≡ from = omega (arith, at) in
    let first_is : x ≡ first = same in
    rw (first_is, number_is) refl
trace_parts told from (first ∷ lines) (suc place) number x at within same =
    ap (λ text. trace_line from (told first) ++ text) (trace_parts told (suc from) lines place number x (omega (arith, at)) (omega (arith, within)) same)
    ∙ three_parts (trace_line from (told first)) _ _ _

-- the lines up to one
pub trace_lines-more : {X : Type 0} (told : X → Traced) (from : ℕ) (lines : List X) (place number : ℕ) (x : X) → number ≡ from + place → place < length lines → x ≡ get_or lines place x → trace_lines from (map told (take (suc place) lines)) ≡ trace_lines from (map told (take place lines)) ++ trace_line number (told x)
trace_lines-more told from [] place number x at within same = absurd (omega arith)
trace_lines-more told from (first ∷ lines) zero number x at within same =
    let number_is : number ≡ from = omega (arith, at) in
    let first_is : x ≡ first = same in
    rw (first_is, number_is) (append-nil (trace_line from (told first)))
trace_lines-more told from (first ∷ lines) (suc place) number x at within same =
    ap (λ text. trace_line from (told first) ++ text) (trace_lines-more told (suc from) lines place number x (omega (arith, at)) (omega (arith, within)) same)
    ∙ sym (append_assoc (trace_line from (told first)) _ _)
