-- Texts that are written one after another.
use Rattle.std.proofs.Common.{◌≡◌, ◌+◌, ◌<◌, ◌≤◌, ℕ, List, [], ◌++◌, length, take, drop, get_or, map, Bor, zero, suc, refl, sym, ap, ◌∙◌, Some, None, Ok, Err, arith, append_assoc, append-nil, length-append, ◌∷◌, subst}
use lib.Chars.{codes}
use Rattle.std.specs.Prelude.{Option, Result, IsErr, OnOk, MatchResult, slice_get, flat_map}
use Rattle.std.specs.Io.KnownBytes.{append_known}
use Rattle.std.proofs.Math.Seq.{take-append-add}
use Rattle.std.proofs.lemmas.Grind.{flat_map-append}
use Rattle.std.proofs.lemmas.List.{take-append-le, take_more, take-append-drop}
use Rattle.std.proofs.lemmas.Option.{same_Some}
use Rattle.cip_io.specs.Faults.{CountsFaults, Rose}
use Rattle.cip_io.specs.Sink.{SinkTells, TakesAll, PushesPart}
use Rattle.cip_rational.specs.Rational.{ℚ}
use Rattle.cip_rational.specs.NumberText.{fraction_text}
use Rattle.cip_search.specs.Figures.{line, point_lines}
use Rattle.cip_report.specs.Writing.{Passes, Writes}

-- the name of what has none
abbrev pub no_name : List ℕ
no_name = []

-- two appended to what is known are one
append_known-append : (old : Option (List ℕ)) (xs ys : List ℕ) → append_known (append_known old xs) ys ≡ append_known old (xs ++ ys)
append_known-append None xs ys = refl
append_known-append (Some bytes) xs ys = rw append_assoc refl

none_more : (old : Option (List ℕ)) → old ≡ append_known old []
none_more None = refl
none_more (Some bytes) = ap Some (sym (append-nil bytes))

-- a text that is buffered whole
pub Passes-held : (tells : SinkTells) (text held : List ℕ) → held ≡ text → Passes tells tells text held
Passes-held tells text held e = record { handed = []; taken = none_more tells.taken; whole = sym e }

-- a text, and then one more, both written
pub Passes-more : (old mid new : SinkTells) (text held more buffered : List ℕ) → Passes old mid text held → Passes mid new (held ++ more) buffered → Passes old new (text ++ more) buffered
Passes-more old mid new text held more buffered first next = record {
  handed = first.handed ++ next.handed;
  taken = rw (next.taken, first.taken) (append_known-append old.taken first.handed next.handed);
  whole =
      ap (λ front. front ++ more) first.whole ∙ append_assoc first.handed held more
      ∙ ap (λ rest. first.handed ++ rest) next.whole ∙ sym (append_assoc first.handed next.handed buffered);
}

PushesPart-more : (old mid new : SinkTells) (text held more : List ℕ) → Passes old mid text held → PushesPart mid new (held ++ more) → PushesPart old new (text ++ more)
PushesPart-more old mid new text held more first next =
    let whole : text ++ more ≡ first.handed ++ (held ++ more) = rw (first.whole, append_assoc) refl in
    let seam : take (length first.handed + next.count) (first.handed ++ (held ++ more)) ≡ first.handed ++ take next.count (held ++ more) =
    take-append-add first.handed (held ++ more) next.count in
    let short = next.short in
    record {
      count = length first.handed + next.count;
      short = omega (arith, ap length whole, length-append first.handed (held ++ more));
      taken = rw (next.taken, first.taken, whole, seam) (append_known-append old.taken first.handed (take next.count (held ++ more)));
    }

PushesPart-front : (old new : SinkTells) (text rest : List ℕ) → PushesPart old new text → PushesPart old new (text ++ rest)
PushesPart-front old new text rest part =
    let short = part.short in
    let within : part.count ≤ length text = omega arith in
    record {
      count = part.count;
      short = omega (arith, length-append text rest);
      taken = rw (part.taken, take-append-le part.count text rest within) refl;
    }

-- a text, and then one more
Writes-more : {T E : Type 0} (result : Result T E) (old mid new : SinkTells) (text held more buffered : List ℕ) → Passes old mid text held → Writes result mid new (held ++ more) buffered → Writes result old new (text ++ more) buffered
Writes-more (Ok x) old mid new text held more buffered first next = Passes-more old mid new text held more buffered first next
Writes-more (Err e) old mid new text held more buffered first next = PushesPart-more old mid new text held more first next

-- a text whose front failed
pub Writes-err : {T E : Type 0} (result : Result T E) (old new : SinkTells) (text rest buffered : List ℕ) → IsErr result → PushesPart old new text → Writes result old new (text ++ rest) buffered
Writes-err (Ok x) old new text rest buffered failed part = absurd (cc)
Writes-err (Err e) old new text rest buffered failed part = PushesPart-front old new text rest part

-- a text, and then one more that failed
Writes-more_err : {T E : Type 0} (result : Result T E) (old mid new : SinkTells) (text held more rest buffered : List ℕ) → IsErr result → Passes old mid text held → PushesPart mid new (held ++ more) → Writes result old new (text ++ more ++ rest) buffered
Writes-more_err result old mid new text held more rest buffered failed first next =
    Writes-err result old new (text ++ more) rest buffered failed (PushesPart-more old mid new text held more first next)

-- a text that was handed on whole, and then bytes that were pushed
pub Writes-pushed : {T E : Type 0} (result : Result T E) (old mid new : SinkTells) (text held bytes buffered : List ℕ) → Passes old mid text held → held ≡ [] → buffered ≡ [] → MatchResult result (λ _. TakesAll mid new bytes) (λ _. PushesPart mid new bytes) → Writes result old new (text ++ bytes) buffered
Writes-pushed (Ok x) old mid new text held bytes buffered first none empty pushed =
    let handed : text ≡ first.handed = rw (first.whole, none) (append-nil first.handed) in
    record {
      handed = text ++ bytes;
      taken = rw (pushed, first.taken, handed) (append_known-append old.taken first.handed bytes);
      whole = rw empty (sym (append-nil (text ++ bytes)));
    }
Writes-pushed (Err e) old mid new text held bytes buffered first none empty pushed =
    PushesPart-more old mid new text held bytes first (subst (λ held. PushesPart mid new (held ++ bytes)) (sym none) pushed)

-- three texts, by their parts
pub three_parts : (front first second third : List ℕ) → front ++ (first ++ second ++ third) ≡ front ++ first ++ second ++ third
three_parts front first second third = simp append_assoc

-- of three texts the first failed
pub first_of_three : {T E : Type 0} (result : Result T E) (old new : SinkTells) (front first second third buffered : List ℕ) → IsErr result → PushesPart old new (front ++ first) → Writes result old new (front ++ (first ++ second ++ third)) buffered
first_of_three result old new front first second third buffered failed part =
    subst (λ text. Writes result old new text buffered) (sym (three_parts front first second third))
    (subst (λ text. Writes result old new text buffered) (sym (append_assoc (front ++ first) second third))
    (Writes-err result old new (front ++ first) (second ++ third) buffered failed part))

-- the second failed
pub second_of_three : {T E : Type 0} (result : Result T E) (old mid new : SinkTells) (front first second third held buffered : List ℕ) → IsErr result → Passes old mid (front ++ first) held → PushesPart mid new (held ++ second) → Writes result old new (front ++ (first ++ second ++ third)) buffered
second_of_three result old mid new front first second third held buffered failed done part =
    subst (λ text. Writes result old new text buffered) (sym (three_parts front first second third))
    (Writes-more_err result old mid new (front ++ first) held second third buffered failed done part)

-- the third came last
pub third_of_three : {T E : Type 0} (result : Result T E) (old mid next new : SinkTells) (front first second third held kept buffered : List ℕ) → Passes old mid (front ++ first) held → Passes mid next (held ++ second) kept → Writes result next new (kept ++ third) buffered → Writes result old new (front ++ (first ++ second ++ third)) buffered
third_of_three result old mid next new front first second third held kept buffered done more last =
    subst (λ text. Writes result old new text buffered) (sym (three_parts front first second third))
    (Writes-more result old next new (front ++ first ++ second) kept third buffered (Passes-more old mid next (front ++ first) held second kept done more) last)

-- three texts that were all written
pub Passes-three : (old mid next new : SinkTells) (front first second third held kept buffered : List ℕ) → Passes old mid (front ++ first) held → Passes mid next (held ++ second) kept → Passes next new (kept ++ third) buffered → Passes old new (front ++ (first ++ second ++ third)) buffered
Passes-three old mid next new front first second third held kept buffered done more last =
    third_of_three {T = ℕ} {E = ℕ} (Ok 0) old mid next new front first second third held kept buffered done more last

-- a text that failed
pub Writes-part : {T E : Type 0} (result : Result T E) (old new : SinkTells) (text buffered : List ℕ) → IsErr result → PushesPart old new text → Writes result old new text buffered
Writes-part (Ok x) old new text buffered failed part = absurd (cc)
Writes-part (Err e) old new text buffered failed part = part

pub failed_told : {T E : Type 0} (result : Result T E) (old new : SinkTells) (text buffered : List ℕ) → IsErr result → Writes result old new text buffered → MatchResult result (λ _. TakesAll old new text) (λ _. PushesPart old new text)
failed_told (Ok x) old new text buffered failed h = absurd (cc)
failed_told (Err e) old new text buffered failed h = h

-- what was buffered is handed on
pub Writes-flushed : {T E : Type 0} (result : Result T E) (old mid new : SinkTells) (text held buffered : List ℕ) → Passes old mid text held → Writes result mid new held buffered → OnOk result (buffered ≡ []) → MatchResult result (λ _. TakesAll old new text) (λ _. PushesPart old new text)
Writes-flushed (Ok x) old mid new text held buffered first last empty =
    let handed : held ≡ last.handed = rw (last.whole, empty) (append-nil last.handed) in
    rw (last.taken, first.taken, first.whole, handed) (append_known-append old.taken first.handed last.handed)
Writes-flushed (Err e) old mid new text held buffered first part empty =
    let part_more : PushesPart mid new (held ++ []) = subst (λ text. PushesPart mid new text) (sym (append-nil held)) part in
    subst (λ text. PushesPart old new text) (append-nil text) (PushesPart-more old mid new text held [] first part_more)

-- the lines of a point, by those of the columns before one, its own and those after it
pub point_parts : (names : List (List ℕ)) (values : List ℚ) (number : ℕ) (name : List ℕ) (value : ℚ) → number < length values → slice_get names number ≡ Some name → value ≡ get_or values number value → point_lines names values ≡ point_lines (take number names) (take number values) ++ line name (fraction_text value) ++ point_lines (drop (suc number) names) (drop (suc number) values)
point_parts [] values number name value within named same = absurd (cc)
point_parts (first ∷ names) [] number name value within named same = absurd (omega arith)
point_parts (first ∷ names) (only ∷ values) zero name value within named same =
    let first_same : first ≡ name = cc in
    rw (first_same, same) refl
point_parts (first ∷ names) (only ∷ values) (suc number) name value within named same =
    ap (λ text. line first (fraction_text only) ++ text) (point_parts names values number name value (omega arith) named same)
    ∙ three_parts (line first (fraction_text only)) _ _ _

-- the lines of the columns up to one
pub point_lines-more : (names : List (List ℕ)) (values : List ℚ) (number : ℕ) (name : List ℕ) (value : ℚ) → number < length values → slice_get names number ≡ Some name → value ≡ get_or values number value → point_lines (take (suc number) names) (take (suc number) values) ≡ point_lines (take number names) (take number values) ++ line name (fraction_text value)
point_lines-more [] values number name value within named same = absurd (cc)
point_lines-more (first ∷ names) [] number name value within named same = absurd (omega arith)
point_lines-more (first ∷ names) (only ∷ values) zero name value within named same =
    let first_same : first ≡ name = cc in
    rw (first_same, same) (append-nil (line name (fraction_text only)))
point_lines-more (first ∷ names) (only ∷ values) (suc number) name value within named same =
    ap (λ text. line first (fraction_text only) ++ text) (point_lines-more names values number name value (omega arith) named same)
    ∙ sym (append_assoc (line first (fraction_text only)) _ _)

-- the name of a column with what stands in front of it
pub named : (shown : List ℕ → List ℕ) (names : List (List ℕ)) (number : ℕ) (name : List ℕ) → slice_get names number ≡ Some name → slice_get (map shown names) number ≡ Some (shown name)
named shown [] number name e = absurd (cc)
named shown (first ∷ names) zero name e = ap (λ n. Some (shown n)) (same_Some first name e)
named shown (first ∷ names) (suc number) name e = named shown names number name e

-- of two texts the first failed
pub first_of_two : {T E : Type 0} (result : Result T E) (old new : SinkTells) (front first second buffered : List ℕ) → IsErr result → PushesPart old new (front ++ first) → Writes result old new (front ++ (first ++ second)) buffered
first_of_two result old new front first second buffered failed part =
    subst (λ text. Writes result old new text buffered) (append_assoc front first second)
    (Writes-err result old new (front ++ first) second buffered failed part)

-- the second came last
pub second_of_two : {T E : Type 0} (result : Result T E) (old mid new : SinkTells) (front first second held buffered : List ℕ) → Passes old mid (front ++ first) held → Writes result mid new (held ++ second) buffered → Writes result old new (front ++ (first ++ second)) buffered
second_of_two result old mid new front first second held buffered done last =
    subst (λ text. Writes result old new text buffered) (append_assoc front first second)
    (Writes-more result old mid new (front ++ first) held second buffered done last)

-- ---- a list of texts

-- the texts, one behind the other
abbrev pub joined : List (Bor (List ℕ)) → List ℕ
joined texts = flat_map (λ (text : Bor (List ℕ)). text.now) texts

joined_more : (texts : List (Bor (List ℕ))) (k : ℕ) (text : Bor (List ℕ)) → k < length texts → joined (take (k + 1) texts) ≡ joined (take k texts) ++ (get_or texts k text).now
joined_more texts k text l =
    ap joined (take_more texts k text l)
    ∙ flat_map-append (λ (t : Bor (List ℕ)). t.now) (take k texts) (get_or texts k text ∷ [])
    ∙ ap (λ t. joined (take k texts) ++ t) (append-nil (get_or texts k text).now)

joined_parts : (texts : List (Bor (List ℕ))) (k : ℕ) (text : Bor (List ℕ)) → k < length texts → joined texts ≡ joined (take k texts) ++ (get_or texts k text).now ++ joined (drop (k + 1) texts)
joined_parts texts k text l =
    ap joined (sym (take-append-drop (k + 1) texts))
    ∙ flat_map-append (λ (t : Bor (List ℕ)). t.now) (take (k + 1) texts) (drop (k + 1) texts)
    ∙ ap (λ t. t ++ joined (drop (k + 1) texts)) (joined_more texts k text l)

-- one text more of a list
pub joined_passes : (texts : List (Bor (List ℕ))) (k : ℕ) (text : Bor (List ℕ)) (old mid new : SinkTells) (front held buffered : List ℕ) → k < length texts → Passes old mid (front ++ joined (take k texts)) held → Passes mid new (held ++ (get_or texts k text).now) buffered → Passes old new (front ++ joined (take (k + 1) texts)) buffered
joined_passes texts k text old mid new front held buffered l first next =
    subst (λ t. Passes old new t buffered)
    (append_assoc front (joined (take k texts)) (get_or texts k text).now ∙ ap (λ t. front ++ t) (sym (joined_more texts k text l)))
    (Passes-more old mid new (front ++ joined (take k texts)) held (get_or texts k text).now buffered first next)

-- one text of a list failed
pub joined_fails : {T E : Type 0} (result : Result T E) (texts : List (Bor (List ℕ))) (k : ℕ) (text : Bor (List ℕ)) (old mid new : SinkTells) (front held buffered : List ℕ) → IsErr result → k < length texts → Passes old mid (front ++ joined (take k texts)) held → PushesPart mid new (held ++ (get_or texts k text).now) → Writes result old new (front ++ joined texts) buffered
joined_fails result texts k text old mid new front held buffered failed l first part =
    subst (λ t. Writes result old new (front ++ t) buffered) (sym (joined_parts texts k text l))
    (second_of_three result old mid new front (joined (take k texts)) (get_or texts k text).now (joined (drop (k + 1) texts)) held buffered failed first part)

-- ---- texts in other words

pub Passes-as : (old new : SinkTells) (front text shown buffered : List ℕ) → shown ≡ text → Passes old new (front ++ shown) buffered → Passes old new (front ++ text) buffered
Passes-as old new front text shown buffered e h = subst (λ t. Passes old new (front ++ t) buffered) e h

pub PushesPart-as : (old new : SinkTells) (front text shown : List ℕ) → shown ≡ text → PushesPart old new (front ++ shown) → PushesPart old new (front ++ text)
PushesPart-as old new front text shown e h = subst (λ t. PushesPart old new (front ++ t)) e h

pub Writes-as : {T E : Type 0} (result : Result T E) (old new : SinkTells) (front text shown buffered : List ℕ) → shown ≡ text → Writes result old new (front ++ shown) buffered → Writes result old new (front ++ text) buffered
Writes-as result old new front text shown buffered e h = subst (λ t. Writes result old new (front ++ t) buffered) e h

-- two parts of a text
pub Writes-parts : {T E : Type 0} (result : Result T E) (old new : SinkTells) (front first way second value side end buffered : List ℕ) → first ≡ value → second ≡ side → Writes result old new (front ++ (first ++ (way ++ (second ++ end)))) buffered → Writes result old new (front ++ (value ++ (way ++ (side ++ end)))) buffered
Writes-parts result old new front first way second value side end buffered f s h =
    subst (λ x. Writes result old new (front ++ (x ++ (way ++ (side ++ end)))) buffered) f
    (subst (λ y. Writes result old new (front ++ (first ++ (way ++ (y ++ end)))) buffered) s h)

-- ---- the line of a status, which is written first

pub status_passes : (old mid : SinkTells) (front word shown held : List ℕ) → front ≡ [] → word ≡ shown → Passes old mid (front ++ line (codes "status") word) held → Passes old mid (line (codes "status") shown) held
status_passes old mid front word shown held none e h =
    subst (λ w. Passes old mid (line (codes "status") w) held) e (subst (λ f. Passes old mid (f ++ line (codes "status") word) held) none h)

pub status_fails : (old new : SinkTells) (front word shown : List ℕ) → front ≡ [] → word ≡ shown → PushesPart old new (front ++ line (codes "status") word) → PushesPart old new (line (codes "status") shown)
status_fails old new front word shown none e h =
    subst (λ w. PushesPart old new (line (codes "status") w)) e (subst (λ f. PushesPart old new (f ++ line (codes "status") word)) none h)

-- ---- counts of faults

-- behind calls that left the count as it was, one failed
pub counts_failed : {T E : Type 0} (result : Result T E) (old mid new : ℕ) → IsErr result → mid ≡ old → Rose mid new → CountsFaults result old new
counts_failed (Ok x) old mid new failed same rose = absurd (cc)
counts_failed (Err e) old mid new failed same rose = (tt, subst (λ n. Rose n new) same rose)

-- behind such calls comes one more
pub counts_behind : {T E : Type 0} (result : Result T E) (old mid new : ℕ) → mid ≡ old → CountsFaults result mid new → CountsFaults result old new
counts_behind result old mid new same h = subst (λ n. CountsFaults result n new) same h
