-- What the text of an answer tells.
--     answer_text_injective      it determines the figures
--     answer_text-usage, -read_fault, -no_memory, -refusal      it is none of the texts that have no figures
use Rattle.std.specs.Prelude.{◌≡◌, ◌≢◌, ◌==◌, ◌||◌, ℕ, Bool, true, false, List, [], ◌∷◌, ◌++◌, length, Option, None, Some, IfSome, All}
use Rattle.std.specs.List.{AllByRecursion}
use Rattle.std.proofs.Common.{refl, sym, ap, ◌∙◌, arith, append_assoc, if◌then◌else◌, map, get_or}
use Rattle.std.proofs.lemmas.List.{append_cancel_right, length-map}
use Rattle.std.proofs.lemmas.List.Elements.{All-from_recursion, recursion_from_All}
use Rattle.std.proofs.lemmas.Bool.{eqb-false, false≢true, or_parts}
use Rattle.std.specs.Str.{bytes_eq}
use lib.Chars.{codes}
use Rattle.cip_rational.specs.Rational.{ℚ}
use Rattle.cip_rational.specs.NumberText.{natural_text, fraction_text}
use Rattle.cip_rational.proofs.NumberText.{natural_text_injective, fraction_text_plain, fraction_text_injective, IsFractionByte}
use Rattle.cip_search.specs.Leaf.{Leaf}
use Rattle.cip_search.specs.Figures.{Overflow, AtRow, AtCost, AtMoves, Status, Optimal, Infeasible, Unbounded, NodeLimit, Gap, Wide, NoMemory, Held, Figures, Names, FitNames, status_word, line, end_line, figure_text, point_lines, held_cost, held_lines, cost_lines, leaf_name, choice_text, choice_lines, leaf_lines, ray_name, ray_lines, overflow_text, shown_lines, unless_infeasible, figure_lines, answer_text, usage_text, read_fault_text, no_memory_text, refusal_text}

-- texts that the test tells apart
pub apart : (text other : List ℕ) → bytes_eq text other ≡ false → bytes_eq other other ≡ true → text ≢ other
apart text other differ same e = false≢true (sym differ ∙ ap (λ t. bytes_eq t other) e ∙ same)

-- ---- lines

-- no byte is a line feed
abbrev pub HasNoFeed : List ℕ → Type 0
HasNoFeed text = AllByRecursion (λ byte. byte ≢ 10) text

abbrev pub has_feed : List ℕ → Bool
has_feed [] = false
has_feed (byte ∷ bytes) = byte == 10 || has_feed bytes

pub HasNoFeed-from_test : (text : List ℕ) → has_feed text ≡ false → HasNoFeed text
HasNoFeed-from_test [] test = tt
HasNoFeed-from_test (byte ∷ bytes) test =
    let parts = or_parts (byte == 10) (has_feed bytes) test in
    (eqb-false byte 10 parts.0, HasNoFeed-from_test bytes parts.1)

pub fraction_bytes : (text : List ℕ) → AllByRecursion IsFractionByte text → HasNoFeed text
fraction_bytes [] plain = tt
fraction_bytes (byte ∷ bytes) plain = (λ e. grind (arith, plain.0), fraction_bytes bytes plain.1)

pub fraction_text-no_feed : (x : ℚ) → HasNoFeed (fraction_text x)
fraction_text-no_feed x =
    fraction_bytes (fraction_text x) (recursion_from_All IsFractionByte (fraction_text x) (fraction_text_plain x))

-- what comes before a line feed, and what comes after it
parted : (xs ys us vs : List ℕ) → HasNoFeed xs → HasNoFeed ys → xs ++ 10 ∷ us ≡ ys ++ 10 ∷ vs → (xs ≡ ys) × (us ≡ vs)
parted [] [] us vs p q e = (refl, cc)
parted [] (y ∷ ys) us vs p q e = absurd (q.0 (cc))
parted (x ∷ xs) [] us vs p q e = absurd (p.0 (cc))
parted (x ∷ xs) (y ∷ ys) us vs p q e =
    let head : x ≡ y = cc in
    let tail : xs ++ 10 ∷ us ≡ ys ++ 10 ∷ vs = cc in
    let rest = parted xs ys us vs p.1 q.1 tail in
    (ap (λ byte. byte ∷ xs) head ∙ ap (λ bytes. y ∷ bytes) rest.0, rest.1)

-- the same, cancelled
pub cancelled : (word xs ys : List ℕ) → word ++ xs ≡ word ++ ys → xs ≡ ys
cancelled [] xs ys e = e
cancelled (byte ∷ word) xs ys e = cancelled word xs ys (cc)

-- a line, and then more
pub line_then : (word figure rest : List ℕ) → line word figure ++ rest ≡ word ++ 32 ∷ (figure ++ 10 ∷ rest)
line_then word figure rest = simp append_assoc

-- two lines of one word, each with more after it
line_parted :
    (word figure other xs ys : List ℕ) → HasNoFeed figure → HasNoFeed other
    → line word figure ++ xs ≡ line word other ++ ys → (figure ≡ other) × (xs ≡ ys)
line_parted word figure other xs ys p q e =
    let left = line_then word figure xs in
    let right = line_then word other ys in
    let same : word ++ 32 ∷ (figure ++ 10 ∷ xs) ≡ word ++ 32 ∷ (other ++ 10 ∷ ys) = sym left ∙ e ∙ right in
    let blank = cancelled word (32 ∷ (figure ++ 10 ∷ xs)) (32 ∷ (other ++ 10 ∷ ys)) same in
    parted figure other xs ys p q (cc)

-- ---- figures

pub none-no_feed : HasNoFeed (codes "none")
none-no_feed = HasNoFeed-from_test (codes "none") refl

pub figure_text-no_feed : (figure : Option ℚ) → HasNoFeed (figure_text figure)
figure_text-no_feed None = none-no_feed
figure_text-no_feed (Some figure) = fraction_text-no_feed figure

-- `none` is no fraction
pub none_is_no_fraction : (text : List ℕ) → AllByRecursion IsFractionByte text → text ≢ codes "none"
none_is_no_fraction [] plain e = cc
none_is_no_fraction (byte ∷ bytes) plain e = let n : byte ≡ 110 = cc in grind (arith, plain.0, n)

pub fraction_is_not_none : (x : ℚ) → fraction_text x ≢ codes "none"
fraction_is_not_none x =
    none_is_no_fraction (fraction_text x) (recursion_from_All IsFractionByte (fraction_text x) (fraction_text_plain x))

pub figure_text_injective : (figure other : Option ℚ) → figure_text figure ≡ figure_text other → figure ≡ other
figure_text_injective None None e = refl
figure_text_injective None (Some other) e = absurd (fraction_is_not_none other (sym e))
figure_text_injective (Some figure) None e = absurd (fraction_is_not_none figure e)
figure_text_injective (Some figure) (Some other) e = ap (λ x. Some x) (fraction_text_injective figure other e)

pub status_word-no_feed : (status : Status) → HasNoFeed (status_word status)
status_word-no_feed Optimal = HasNoFeed-from_test (codes "optimal") refl
status_word-no_feed Infeasible = HasNoFeed-from_test (codes "infeasible") refl
status_word-no_feed (Unbounded ray) = HasNoFeed-from_test (codes "unbounded") refl
status_word-no_feed NodeLimit = HasNoFeed-from_test (codes "nodelimit") refl
status_word-no_feed Gap = HasNoFeed-from_test (codes "gap") refl
status_word-no_feed (Wide leaf place) = HasNoFeed-from_test (codes "wide") refl
status_word-no_feed NoMemory = HasNoFeed-from_test (codes "nomemory") refl

-- ---- points

-- the lines of two points with one value for each name, with more after them
point_lines_parted :
    (names : List (List ℕ)) (point other : List ℚ) (rest more : List ℕ)
    → length point ≡ length names → length other ≡ length names
    → point_lines names point ++ rest ≡ point_lines names other ++ more → (point ≡ other) × (rest ≡ more)
point_lines_parted [] [] [] rest more p q e = (refl, e)
point_lines_parted [] (value ∷ point) other rest more p q e = absurd (cc)
point_lines_parted [] [] (value ∷ other) rest more p q e = absurd (cc)
point_lines_parted (name ∷ names) [] other rest more p q e = absurd (cc)
point_lines_parted (name ∷ names) (value ∷ point) [] rest more p q e = absurd (cc)
point_lines_parted (name ∷ names) (value ∷ point) (one ∷ other) rest more p q e =
    let text = fraction_text value in
    let text' = fraction_text one in
    let left = append_assoc (line name text) (point_lines names point) rest in
    let right = append_assoc (line name text') (point_lines names other) more in
    let same = sym left ∙ e ∙ right in
    let parts = line_parted name text text' _ _ (fraction_text-no_feed value) (fraction_text-no_feed one) same in
    let others = point_lines_parted names point other rest more (omega arith) (omega arith) parts.1 in (
      ap (λ x. x ∷ point) (fraction_text_injective value one parts.0) ∙ ap (λ xs. one ∷ xs) others.0,
      others.1,
    )

-- the cost tells whether there is a point
held_parted :
    (names : List (List ℕ)) (held other : Option Held) (rest more : List ℕ)
    → IfSome held (λ h. length h.point ≡ length names) → IfSome other (λ h. length h.point ≡ length names)
    → held_cost held ≡ held_cost other → held_lines names held ++ rest ≡ held_lines names other ++ more
    → (held ≡ other) × (rest ≡ more)
held_parted names None None rest more p q cost e = (refl, e)
held_parted names None (Some other) rest more p q cost e = absurd (cc)
held_parted names (Some held) None rest more p q cost e = absurd (cc)
held_parted names (Some held) (Some other) rest more p q cost e =
    let costs : held.cost ≡ other.cost = cc in
    let points = point_lines_parted names held.point other.point rest more p q e in (
      ap (λ x. Some (record { cost = x; point = held.point })) costs
          ∙ ap (λ xs. Some (record { cost = other.cost; point = xs })) points.0,
      points.1,
    )

-- ---- what is shown

overflow_told : (place other : Overflow) → overflow_text place ++ 10 ∷ end_line ≡ overflow_text other ++ 10 ∷ end_line → place ≡ other
overflow_told (AtRow name) (AtRow other) e =
    ap AtRow (append_cancel_right name other (10 ∷ end_line) (cancelled (codes "row ") (name ++ 10 ∷ end_line) (other ++ 10 ∷ end_line) e))
overflow_told (AtRow name) AtCost e = let byte : 114 ≡ 99 = ap (λ t. get_or t 0 0) e in absurd (omega (arith, byte))
overflow_told AtCost (AtRow other) e = let byte : 99 ≡ 114 = ap (λ t. get_or t 0 0) e in absurd (omega (arith, byte))
overflow_told AtCost AtCost e = refl
overflow_told (AtMoves number) (AtMoves other) e =
    ap AtMoves (natural_text_injective number other (append_cancel_right (natural_text number) (natural_text other) (10 ∷ end_line) (cancelled (codes "moves ") (natural_text number ++ 10 ∷ end_line) (natural_text other ++ 10 ∷ end_line) e)))
overflow_told (AtMoves number) (AtRow name) e = let byte : 109 ≡ 114 = ap (λ t. get_or t 0 0) e in absurd (omega (arith, byte))
overflow_told (AtMoves number) AtCost e = let byte : 109 ≡ 99 = ap (λ t. get_or t 0 0) e in absurd (omega (arith, byte))
overflow_told (AtRow name) (AtMoves number) e = let byte : 114 ≡ 109 = ap (λ t. get_or t 0 0) e in absurd (omega (arith, byte))
overflow_told AtCost (AtMoves number) e = let byte : 99 ≡ 109 = ap (λ t. get_or t 0 0) e in absurd (omega (arith, byte))

overflow_parted : (place other : Overflow) → line (codes "overflow") (overflow_text place) ++ end_line ≡ line (codes "overflow") (overflow_text other) ++ end_line → place ≡ other
overflow_parted place other e =
    let same = sym (line_then (codes "overflow") (overflow_text place) end_line) ∙ e ∙ line_then (codes "overflow") (overflow_text other) end_line in
    overflow_told place other (cancelled (codes "overflow ") (overflow_text place ++ 10 ∷ end_line) (overflow_text other ++ 10 ∷ end_line) same)

pub choice_text-no_feed : (on : Bool) → HasNoFeed (choice_text on)
choice_text-no_feed true = HasNoFeed-from_test (codes "on") refl
choice_text-no_feed false = HasNoFeed-from_test (codes "off") refl

pub choice_text_injective : (on other : Bool) → choice_text on ≡ choice_text other → on ≡ other
choice_text_injective true true e = refl
choice_text_injective true false e = absurd (apart (codes "on") (codes "off") refl refl e)
choice_text_injective false true e = absurd (apart (codes "off") (codes "on") refl refl e)
choice_text_injective false false e = refl

-- the lines of two lists of choices with one for each name, with more after them
choice_lines_parted :
    (names : List (List ℕ)) (on other : List Bool) (rest more : List ℕ)
    → length on ≡ length names → length other ≡ length names
    → choice_lines names on ++ rest ≡ choice_lines names other ++ more → (on ≡ other) × (rest ≡ more)
choice_lines_parted [] [] [] rest more p q e = (refl, e)
choice_lines_parted [] (is_on ∷ on) other rest more p q e = absurd (cc)
choice_lines_parted [] [] (is_on ∷ other) rest more p q e = absurd (cc)
choice_lines_parted (name ∷ names) [] other rest more p q e = absurd (cc)
choice_lines_parted (name ∷ names) (is_on ∷ on) [] rest more p q e = absurd (cc)
choice_lines_parted (name ∷ names) (is_on ∷ on) (one ∷ other) rest more p q e =
    let text = choice_text is_on in
    let text' = choice_text one in
    let left = append_assoc (line name text) (choice_lines names on) rest in
    let right = append_assoc (line name text') (choice_lines names other) more in
    let same = sym left ∙ e ∙ right in
    let parts = line_parted name text text' _ _ (choice_text-no_feed is_on) (choice_text-no_feed one) same in
    let others = choice_lines_parted names on other rest more (omega arith) (omega arith) parts.1 in (
      ap (λ x. x ∷ on) (choice_text_injective is_on one parts.0) ∙ ap (λ xs. one ∷ xs) others.0,
      others.1,
    )

-- a leaf, with more after it
leaf_parted :
    (names : Names) (leaf other : Leaf) (rest more : List ℕ)
    → length leaf.values ≡ length names.wholes → length leaf.on ≡ length names.semis
    → length other.values ≡ length names.wholes → length other.on ≡ length names.semis
    → leaf_lines names leaf ++ rest ≡ leaf_lines names other ++ more → (leaf ≡ other) × (rest ≡ more)
leaf_parted names leaf other rest more p on q on' e =
    let same = sym (append_assoc (point_lines (map leaf_name names.wholes) leaf.values) _ rest) ∙ e ∙ append_assoc (point_lines (map leaf_name names.wholes) other.values) _ more in
    let long = length-map names.wholes leaf_name in
    let long' = length-map names.semis leaf_name in
    let values = point_lines_parted (map leaf_name names.wholes) leaf.values other.values _ _ (p ∙ sym long) (q ∙ sym long) same in
    let choices = choice_lines_parted (map leaf_name names.semis) leaf.on other.on rest more (on ∙ sym long') (on' ∙ sym long') values.1 in (
      ap (λ x. record { values = x; on = leaf.on }) values.0 ∙ ap (λ x. record { values = other.values; on = x }) choices.0,
      choices.1,
    )

-- a leaf with what overflows
shown_parted :
    (names : Names) (leaf leaf' : Leaf) (place place' : Overflow)
    → length leaf.values ≡ length names.wholes → length leaf.on ≡ length names.semis
    → length leaf'.values ≡ length names.wholes → length leaf'.on ≡ length names.semis
    → (leaf_lines names leaf ++ line (codes "overflow") (overflow_text place)) ++ end_line
    ≡ (leaf_lines names leaf' ++ line (codes "overflow") (overflow_text place')) ++ end_line
    → Wide leaf place ≡ Wide leaf' place'
shown_parted names leaf leaf' place place' p on q on' e =
    let same = sym (append_assoc (leaf_lines names leaf) _ end_line) ∙ e ∙ append_assoc (leaf_lines names leaf') _ end_line in
    let leaves = leaf_parted names leaf leaf' _ _ p on q on' same in
    ap (λ l. Wide l place) leaves.0 ∙ ap (λ o. Wide leaf' o) (overflow_parted place place' leaves.1)

-- a ray
ray_parted : (names : List (List ℕ)) (ray other : List ℚ) → length ray ≡ length names → length other ≡ length names → ray_lines names ray ++ end_line ≡ ray_lines names other ++ end_line → Unbounded ray ≡ Unbounded other
ray_parted names ray other p q e =
    let long = length-map names ray_name in
    ap Unbounded (point_lines_parted (map ray_name names) ray other end_line end_line (p ∙ sym long) (q ∙ sym long) e).0

-- ---- answers

-- the text by its parts
answer_parts :
    (names : Names) (figures : Figures)
    → answer_text names figures
    ≡ line (codes "status") (status_word figures.status) ++ (figure_lines names figures ++ end_line)
answer_parts names figures =
    append_assoc (line (codes "status") (status_word figures.status)) (figure_lines names figures) end_line

-- the lines of figures by their parts, with the end
figure_parts :
    (cost bound held shown : List ℕ)
    → (cost ++ bound ++ held ++ shown) ++ end_line ≡ cost ++ (bound ++ (held ++ (shown ++ end_line)))
figure_parts cost bound held shown = simp append_assoc

same_figures :
    (figures other : Figures) → figures.status ≡ other.status → figures.held ≡ other.held
    → figures.bound ≡ other.bound → figures ≡ other
same_figures figures other status held bound =
    ap (λ x. record { status = x; held = figures.held; bound = figures.bound }) status
    ∙ ap (λ x. record { status = other.status; held = x; bound = figures.bound }) held
    ∙ ap (λ x. record { status = other.status; held = other.held; bound = x }) bound

-- figures of one text have the points and bounds of another, and what is shown has one text
record AreParted (figures other : Figures) (shown others : List ℕ) : Type 0 where
  held : figures.held ≡ other.held
  bound : figures.bound ≡ other.bound
  after : shown ++ end_line ≡ others ++ end_line

lines_parted :
    (names : List (List ℕ)) (figures other : Figures) (shown others : List ℕ)
    → IfSome figures.held (λ h. length h.point ≡ length names) → IfSome other.held (λ h. length h.point ≡ length names)
    → (cost_lines figures ++ held_lines names figures.held ++ shown) ++ end_line
    ≡ (cost_lines other ++ held_lines names other.held ++ others) ++ end_line → AreParted figures other shown others
lines_parted names figures other shown others p q e =
    let same =
    sym (figure_parts (line (codes "cost") (figure_text (held_cost figures.held))) (line (codes "bound") (figure_text figures.bound)) (held_lines names figures.held) shown)
    ∙ e
    ∙ figure_parts (line (codes "cost") (figure_text (held_cost other.held))) (line (codes "bound") (figure_text other.bound)) (held_lines names other.held) others in
    let figure = figure_text-no_feed (held_cost figures.held) in
    let figure' = figure_text-no_feed (held_cost other.held) in
    let cost = line_parted (codes "cost") _ _ _ _ figure figure' same in
    let bound = line_parted (codes "bound") _ _ _ _ (figure_text-no_feed figures.bound) (figure_text-no_feed other.bound) cost.1 in
    let held = held_parted names figures.held other.held _ _ p q (figure_text_injective _ _ cost.0) bound.1 in
    record { held = held.0; bound = figure_text_injective figures.bound other.bound bound.0; after = held.1 }

-- the number of a status, from its word
pub word_kind : List ℕ → ℕ
word_kind word =
    if bytes_eq word (codes "optimal") then 0
    else (if bytes_eq word (codes "infeasible") then 1
    else (if bytes_eq word (codes "nodelimit") then 2 else (if bytes_eq word (codes "wide") then 3
    else (if bytes_eq word (codes "unbounded") then 5 else (if bytes_eq word (codes "gap") then 6 else 4)))))

unfoldable pub kind : Status → ℕ
kind Optimal = 0
kind Infeasible = 1
kind (Unbounded ray) = 5
kind NodeLimit = 2
kind Gap = 6
kind (Wide leaf place) = 3
kind NoMemory = 4

pub kind_of_word : (status : Status) → word_kind (status_word status) ≡ kind status
unfolding word_kind kind
kind_of_word Optimal = refl
kind_of_word Infeasible = refl
kind_of_word (Unbounded ray) = refl
kind_of_word NodeLimit = refl
kind_of_word Gap = refl
kind_of_word (Wide leaf place) = refl
kind_of_word NoMemory = refl

pub same_kind : (status other : Status) → status_word status ≡ status_word other → kind status ≡ kind other
same_kind status other e = sym (kind_of_word status) ∙ ap word_kind e ∙ kind_of_word other

-- figures with these statuses and the same lines are the same
module _ (names : Names) (held held' : Option Held) (bound bound' : Option ℚ) where
  abbrev first : Status → Figures
  first status = record { status = status; held = held; bound = bound }

  abbrev second : Status → Figures
  second status = record { status = status; held = held'; bound = bound' }

  lines_alike : (status : Status) (shown : List ℕ) → FitNames names (first status) → FitNames names (second status) → (cost_lines (first status) ++ held_lines names.columns held ++ shown) ++ end_line ≡ (cost_lines (second status) ++ held_lines names.columns held' ++ shown) ++ end_line → first status ≡ second status
  lines_alike status shown p q e =
      let parts = lines_parted names.columns (first status) (second status) shown shown p.point q.point e in
      same_figures (first status) (second status) refl parts.held parts.bound

  alike : (status other : Status) → FitNames names (first status) → FitNames names (second other) → kind status ≡ kind other → figure_lines names (first status) ++ end_line ≡ figure_lines names (second other) ++ end_line → first status ≡ second other
  unfolding kind
  alike Optimal Optimal p q k e = lines_alike Optimal [] p q e
  alike Infeasible Infeasible p q k e = same_figures (first Infeasible) (second Infeasible) refl (p.end_.0 ∙ sym q.end_.0) (p.end_.1 ∙ sym q.end_.1)
  alike (Unbounded ray) (Unbounded ray') p q k e =
      let parts = lines_parted names.columns (first (Unbounded ray)) (second (Unbounded ray')) _ _ p.point q.point e in
      same_figures (first (Unbounded ray)) (second (Unbounded ray')) (ray_parted names.columns ray ray' p.end_.0 q.end_.0 parts.after) parts.held parts.bound
  alike NodeLimit NodeLimit p q k e = lines_alike NodeLimit [] p q e
  alike Gap Gap p q k e = lines_alike Gap [] p q e
  alike (Wide leaf place) (Wide leaf' place') p q k e =
      let parts = lines_parted names.columns (first (Wide leaf place)) (second (Wide leaf' place')) _ _ p.point q.point e in
      same_figures (first (Wide leaf place)) (second (Wide leaf' place')) (shown_parted names leaf leaf' place place' p.end_.0 p.end_.1 q.end_.0 q.end_.1 parts.after) parts.held parts.bound
  alike NoMemory NoMemory p q k e = lines_alike NoMemory [] p q e
  alike status other p q k e = absurd (omega (arith, k))

pub answer_text_injective :
    (names : Names) (figures other : Figures) → FitNames names figures → FitNames names other
    → answer_text names figures ≡ answer_text names other → figures ≡ other
answer_text_injective names figures other p q e =
    let same = sym (answer_parts names figures) ∙ e ∙ answer_parts names other in
    let status = line_parted (codes "status") _ _ _ _ (status_word-no_feed figures.status) (status_word-no_feed other.status) same in
    alike names figures.held other.held figures.bound other.bound figures.status other.status p q (same_kind figures.status other.status status.0) status.1

-- ---- the texts that have no figures

-- an answer that begins with a line of status says that status, and goes on with the lines of its figures
status_first :
    (names : Names) (figures : Figures) (word rest : List ℕ) → has_feed word ≡ false
    → answer_text names figures ≡ line (codes "status") word ++ rest
    → (status_word figures.status ≡ word) × (figure_lines names figures ++ end_line ≡ rest)
status_first names figures word rest test e =
    line_parted (codes "status") _ _ _ _ (status_word-no_feed figures.status) (HasNoFeed-from_test word test)
    (sym (answer_parts names figures) ∙ e)

not_usage : (status : Status) → status_word status ≢ codes "usage"
not_usage Optimal e = apart (codes "optimal") (codes "usage") refl refl e
not_usage Infeasible e = apart (codes "infeasible") (codes "usage") refl refl e
not_usage (Unbounded ray) e = apart (codes "unbounded") (codes "usage") refl refl e
not_usage NodeLimit e = apart (codes "nodelimit") (codes "usage") refl refl e
not_usage Gap e = apart (codes "gap") (codes "usage") refl refl e
not_usage (Wide leaf place) e = apart (codes "wide") (codes "usage") refl refl e
not_usage NoMemory e = apart (codes "nomemory") (codes "usage") refl refl e

not_read_fault : (status : Status) → status_word status ≢ codes "readfault"
not_read_fault Optimal e = apart (codes "optimal") (codes "readfault") refl refl e
not_read_fault Infeasible e = apart (codes "infeasible") (codes "readfault") refl refl e
not_read_fault (Unbounded ray) e = apart (codes "unbounded") (codes "readfault") refl refl e
not_read_fault NodeLimit e = apart (codes "nodelimit") (codes "readfault") refl refl e
not_read_fault Gap e = apart (codes "gap") (codes "readfault") refl refl e
not_read_fault (Wide leaf place) e = apart (codes "wide") (codes "readfault") refl refl e
not_read_fault NoMemory e = apart (codes "nomemory") (codes "readfault") refl refl e

not_refused : (status : Status) → status_word status ≢ codes "refused"
not_refused Optimal e = apart (codes "optimal") (codes "refused") refl refl e
not_refused Infeasible e = apart (codes "infeasible") (codes "refused") refl refl e
not_refused (Unbounded ray) e = apart (codes "unbounded") (codes "refused") refl refl e
not_refused NodeLimit e = apart (codes "nodelimit") (codes "refused") refl refl e
not_refused Gap e = apart (codes "gap") (codes "refused") refl refl e
not_refused (Wide leaf place) e = apart (codes "wide") (codes "refused") refl refl e
not_refused NoMemory e = apart (codes "nomemory") (codes "refused") refl refl e

pub answer_text-usage : (names : Names) (figures : Figures) → answer_text names figures ≢ usage_text
answer_text-usage names figures e =
    not_usage figures.status (status_first names figures (codes "usage") end_line refl e).0

pub answer_text-read_fault : (names : Names) (figures : Figures) → answer_text names figures ≢ read_fault_text
answer_text-read_fault names figures e =
    not_read_fault figures.status (status_first names figures (codes "readfault") end_line refl e).0

-- it has a line of the cost
no_memory_lines : (names : Names) (figures : Figures) (status : Status) → figures.status ≡ status → kind status ≡ 4 → figure_lines names figures ++ end_line ≢ end_line
unfolding kind
no_memory_lines names figures NoMemory s k e =
    let lines = ap (λ t. unless_infeasible t (cost_lines figures ++ held_lines names.columns figures.held ++ shown_lines names t) ++ end_line) s in
    let same = sym lines ∙ e in cc
no_memory_lines names figures status s k e = absurd (omega (arith, k))

kind_of_no_memory : kind NoMemory ≡ 4
unfolding kind
kind_of_no_memory = refl

pub answer_text-no_memory : (names : Names) (figures : Figures) → answer_text names figures ≢ no_memory_text
answer_text-no_memory names figures e =
    let first = status_first names figures (codes "nomemory") end_line refl e in
    no_memory_lines names figures figures.status refl (same_kind figures.status NoMemory first.0 ∙ kind_of_no_memory) first.1

refusal_parts :
    (text number kind : List ℕ)
    → refusal_text text number kind
    ≡ line (codes "status") (codes "refused")
    ++ (line (codes "text") text ++ (line (codes "line") number ++ (line (codes "kind") kind ++ end_line)))
refusal_parts text number kind =
    let first = line (codes "text") text in
    let second = line (codes "line") number in
    let third = line (codes "kind") kind in
    let status = line (codes "status") (codes "refused") in
    append_assoc (status ++ first ++ second) third end_line ∙ append_assoc (status ++ first) second (third ++ end_line)
    ∙ append_assoc status first (second ++ (third ++ end_line))

pub answer_text-refusal :
    (names : Names) (figures : Figures) (text number kind : List ℕ)
    → answer_text names figures ≢ refusal_text text number kind
answer_text-refusal names figures text number kind e =
    let first = status_first names figures (codes "refused") _ refl (e ∙ refusal_parts text number kind) in
    not_refused figures.status first.0

-- a refusal says `refused`, and so has none of the texts of other words
not_refusal : (text number kind word : List ℕ) → has_feed word ≡ false → bytes_eq (codes "refused") word ≡ false → bytes_eq word word ≡ true → refusal_text text number kind ≢ line (codes "status") word ++ end_line
not_refusal text number kind word test differ same e =
    let words = line_parted (codes "status") (codes "refused") word _ _ (HasNoFeed-from_test (codes "refused") refl) (HasNoFeed-from_test word test) (sym (refusal_parts text number kind) ∙ e) in
    apart (codes "refused") word differ same words.0

pub refused_apart : (text number kind : List ℕ) → All (λ other. refusal_text text number kind ≢ other) (usage_text ∷ read_fault_text ∷ no_memory_text ∷ [])
refused_apart text number kind =
    All-from_recursion (λ other. refusal_text text number kind ≢ other) (usage_text ∷ read_fault_text ∷ no_memory_text ∷ []) (
      not_refusal text number kind (codes "usage") refl refl refl,
      (not_refusal text number kind (codes "readfault") refl refl refl, (not_refusal text number kind (codes "nomemory") refl refl refl, tt)),
    )
