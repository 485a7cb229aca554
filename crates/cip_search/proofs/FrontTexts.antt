-- The front of an answer, up to its last line, tells the figures, whatever stands behind it.
--     front_told      two fronts with more behind them that are the same are those of the same figures
use Rattle.std.specs.Prelude.{◌≡◌, ◌≢◌, ℕ, Bool, List, [], ◌∷◌, ◌++◌, length, Option, None, Some, IfSome, pos}
use Rattle.std.proofs.Common.{refl, sym, ap, ◌∙◌, subst, arith, append_assoc, map, get_or}
use Rattle.std.proofs.lemmas.List.{length-map}
use Rattle.std.proofs.lemmas.List.Elements.{recursion_from_All}
use lib.Chars.{codes}
use Rattle.cip_rational.specs.Rational.{ℚ, integer}
use Rattle.cip_rational.specs.NumberText.{natural_text, fraction_text}
use Rattle.cip_rational.proofs.NumberText.{natural_text_injective, fraction_text_injective}
use Rattle.cip_search.specs.Leaf.{Leaf}
use Rattle.cip_search.specs.Figures.{Overflow, AtRow, AtCost, AtMoves, Status, Optimal, Infeasible, Unbounded, NodeLimit, Gap, Wide, NoMemory, Held, Figures, Names, FitNames, status_word, line, figure_text, point_lines, held_cost, held_lines, cost_lines, leaf_name, choice_text, choice_lines, leaf_lines, ray_name, ray_lines, overflow_text, figure_lines}
use Rattle.cip_search.proofs.AnswerTexts.{HasNoFeed, HasNoFeed-from_test, fraction_text-no_feed, line_then, figure_text-no_feed, figure_text_injective, status_word-no_feed, choice_text-no_feed, choice_text_injective, kind, same_kind, cancelled}
use Rattle.cip_search.specs.TraceStatements.{HasPlainName, HasPlainEnd}
use Rattle.cip_search.proofs.TraceTexts.{whole_text, parted}

pub line_parted : (word figure other xs ys : List ℕ) → HasNoFeed figure → HasNoFeed other → line word figure ++ xs ≡ line word other ++ ys → (figure ≡ other) × (xs ≡ ys)
line_parted word figure other xs ys p q e =
    let same = sym (line_then word figure xs) ∙ e ∙ line_then word other ys in
    let blank = cancelled word (32 ∷ (figure ++ 10 ∷ xs)) (32 ∷ (other ++ 10 ∷ ys)) same in
    parted 10 figure other xs ys p q (cancelled (32 ∷ []) _ _ blank)

-- ---- figures

-- ---- points

-- the lines of two points with one value for each name, with more after them
point_lines_parted :
    (names : List (List ℕ)) (point other : List ℚ) (rest more : List ℕ)
    → length point ≡ length names → length other ≡ length names
    → point_lines names point ++ rest ≡ point_lines names other ++ more → (point ≡ other) × (rest ≡ more)
point_lines_parted [] [] [] rest more p q e = (refl, e)
point_lines_parted [] (value ∷ point) other rest more p q e = absurd (cc)
point_lines_parted [] [] (value ∷ other) rest more p q e = absurd (cc)
point_lines_parted (name ∷ names) [] other rest more p q e = absurd (cc)
point_lines_parted (name ∷ names) (value ∷ point) [] rest more p q e = absurd (cc)
point_lines_parted (name ∷ names) (value ∷ point) (one ∷ other) rest more p q e =
    let text = fraction_text value in
    let text' = fraction_text one in
    let left = append_assoc (line name text) (point_lines names point) rest in
    let right = append_assoc (line name text') (point_lines names other) more in
    let same = sym left ∙ e ∙ right in
    let parts = line_parted name text text' _ _ (fraction_text-no_feed value) (fraction_text-no_feed one) same in
    let others = point_lines_parted names point other rest more (omega arith) (omega arith) parts.1 in (
      ap (λ x. x ∷ point) (fraction_text_injective value one parts.0) ∙ ap (λ xs. one ∷ xs) others.0,
      others.1,
    )

-- the cost tells whether there is a point
held_parted :
    (names : List (List ℕ)) (held other : Option Held) (rest more : List ℕ)
    → IfSome held (λ h. length h.point ≡ length names) → IfSome other (λ h. length h.point ≡ length names)
    → held_cost held ≡ held_cost other → held_lines names held ++ rest ≡ held_lines names other ++ more
    → (held ≡ other) × (rest ≡ more)
held_parted names None None rest more p q cost e = (refl, e)
held_parted names None (Some other) rest more p q cost e = absurd (cc)
held_parted names (Some held) None rest more p q cost e = absurd (cc)
held_parted names (Some held) (Some other) rest more p q cost e =
    let costs : held.cost ≡ other.cost = cc in
    let points = point_lines_parted names held.point other.point rest more p q e in (
      ap (λ x. Some (record { cost = x; point = held.point })) costs
          ∙ ap (λ xs. Some (record { cost = other.cost; point = xs })) points.0,
      points.1,
    )

-- ---- what is shown

pub feedless_both : (text other : List ℕ) → HasNoFeed text → HasNoFeed other → HasNoFeed (text ++ other)
feedless_both [] other p q = q
feedless_both (byte ∷ text) other p q = (p.0, feedless_both text other p.1 q)

pub digits-no_feed : (n : ℕ) → HasNoFeed (natural_text n)
digits-no_feed n = subst HasNoFeed (whole_text n) (fraction_text-no_feed (integer (pos n)))

overflow-no_feed : (place : Overflow) → HasPlainName place → HasNoFeed (overflow_text place)
overflow-no_feed (AtRow name) plain = feedless_both (codes "row ") name (HasNoFeed-from_test (codes "row ") refl) (recursion_from_All (λ byte. byte ≢ 10) name plain)
overflow-no_feed AtCost plain = HasNoFeed-from_test (codes "cost") refl
overflow-no_feed (AtMoves number) plain = feedless_both (codes "moves ") (natural_text number) (HasNoFeed-from_test (codes "moves ") refl) (digits-no_feed number)

overflow_text_injective : (place other : Overflow) → overflow_text place ≡ overflow_text other → place ≡ other
overflow_text_injective (AtRow name) (AtRow other) e = ap AtRow (cancelled (codes "row ") name other e)
overflow_text_injective (AtRow name) AtCost e = let byte : 114 ≡ 99 = ap (λ t. get_or t 0 0) e in absurd (omega (arith, byte))
overflow_text_injective (AtRow name) (AtMoves number) e = let byte : 114 ≡ 109 = ap (λ t. get_or t 0 0) e in absurd (omega (arith, byte))
overflow_text_injective AtCost (AtRow other) e = let byte : 99 ≡ 114 = ap (λ t. get_or t 0 0) e in absurd (omega (arith, byte))
overflow_text_injective AtCost AtCost e = refl
overflow_text_injective AtCost (AtMoves number) e = let byte : 99 ≡ 109 = ap (λ t. get_or t 0 0) e in absurd (omega (arith, byte))
overflow_text_injective (AtMoves number) (AtRow name) e = let byte : 109 ≡ 114 = ap (λ t. get_or t 0 0) e in absurd (omega (arith, byte))
overflow_text_injective (AtMoves number) AtCost e = let byte : 109 ≡ 99 = ap (λ t. get_or t 0 0) e in absurd (omega (arith, byte))
overflow_text_injective (AtMoves number) (AtMoves other) e = ap AtMoves (natural_text_injective number other (cancelled (codes "moves ") _ _ e))

-- the lines of two lists of choices with one for each name, with more after them
choice_lines_parted :
    (names : List (List ℕ)) (on other : List Bool) (rest more : List ℕ)
    → length on ≡ length names → length other ≡ length names
    → choice_lines names on ++ rest ≡ choice_lines names other ++ more → (on ≡ other) × (rest ≡ more)
choice_lines_parted [] [] [] rest more p q e = (refl, e)
choice_lines_parted [] (is_on ∷ on) other rest more p q e = absurd (cc)
choice_lines_parted [] [] (is_on ∷ other) rest more p q e = absurd (cc)
choice_lines_parted (name ∷ names) [] other rest more p q e = absurd (cc)
choice_lines_parted (name ∷ names) (is_on ∷ on) [] rest more p q e = absurd (cc)
choice_lines_parted (name ∷ names) (is_on ∷ on) (one ∷ other) rest more p q e =
    let text = choice_text is_on in
    let text' = choice_text one in
    let left = append_assoc (line name text) (choice_lines names on) rest in
    let right = append_assoc (line name text') (choice_lines names other) more in
    let same = sym left ∙ e ∙ right in
    let parts = line_parted name text text' _ _ (choice_text-no_feed is_on) (choice_text-no_feed one) same in
    let others = choice_lines_parted names on other rest more (omega arith) (omega arith) parts.1 in (
      ap (λ x. x ∷ on) (choice_text_injective is_on one parts.0) ∙ ap (λ xs. one ∷ xs) others.0,
      others.1,
    )

-- a leaf, with more after it
leaf_parted :
    (names : Names) (leaf other : Leaf) (rest more : List ℕ)
    → length leaf.values ≡ length names.wholes → length leaf.on ≡ length names.semis
    → length other.values ≡ length names.wholes → length other.on ≡ length names.semis
    → leaf_lines names leaf ++ rest ≡ leaf_lines names other ++ more → (leaf ≡ other) × (rest ≡ more)
leaf_parted names leaf other rest more p on q on' e =
    let same = sym (append_assoc (point_lines (map leaf_name names.wholes) leaf.values) _ rest) ∙ e ∙ append_assoc (point_lines (map leaf_name names.wholes) other.values) _ more in
    let long = length-map names.wholes leaf_name in
    let long' = length-map names.semis leaf_name in
    let values = point_lines_parted (map leaf_name names.wholes) leaf.values other.values _ _ (p ∙ sym long) (q ∙ sym long) same in
    let choices = choice_lines_parted (map leaf_name names.semis) leaf.on other.on rest more (on ∙ sym long') (on' ∙ sym long') values.1 in (
      ap (λ x. record { values = x; on = leaf.on }) values.0 ∙ ap (λ x. record { values = other.values; on = x }) choices.0,
      choices.1,
    )

-- a leaf with what overflows, and more behind it
shown_parted : (names : Names) (leaf leaf' : Leaf) (place place' : Overflow) (rest more : List ℕ) → length leaf.values ≡ length names.wholes → length leaf.on ≡ length names.semis → length leaf'.values ≡ length names.wholes → length leaf'.on ≡ length names.semis → HasPlainName place → HasPlainName place' → (leaf_lines names leaf ++ line (codes "overflow") (overflow_text place)) ++ rest ≡ (leaf_lines names leaf' ++ line (codes "overflow") (overflow_text place')) ++ more → Wide leaf place ≡ Wide leaf' place'
shown_parted names leaf leaf' place place' rest more p on q on' plain plain' e =
    let same = sym (append_assoc (leaf_lines names leaf) _ rest) ∙ e ∙ append_assoc (leaf_lines names leaf') _ more in
    let leaves = leaf_parted names leaf leaf' _ _ p on q on' same in
    let places = line_parted (codes "overflow") (overflow_text place) (overflow_text place') rest more (overflow-no_feed place plain) (overflow-no_feed place' plain') leaves.1 in
    ap (λ l. Wide l place) leaves.0 ∙ ap (λ o. Wide leaf' o) (overflow_text_injective place place' places.0)

-- a ray, and more behind it
ray_parted : (names : List (List ℕ)) (ray other : List ℚ) (rest more : List ℕ) → length ray ≡ length names → length other ≡ length names → ray_lines names ray ++ rest ≡ ray_lines names other ++ more → Unbounded ray ≡ Unbounded other
ray_parted names ray other rest more p q e =
    let long = length-map names ray_name in
    ap Unbounded (point_lines_parted (map ray_name names) ray other rest more (p ∙ sym long) (q ∙ sym long) e).0

-- ---- fronts

-- the lines of figures by their parts, with more behind them
figure_parts : (cost bound held shown rest : List ℕ) → (cost ++ bound ++ held ++ shown) ++ rest ≡ cost ++ (bound ++ (held ++ (shown ++ rest)))
figure_parts cost bound held shown rest = simp append_assoc

same_figures :
    (figures other : Figures) → figures.status ≡ other.status → figures.held ≡ other.held
    → figures.bound ≡ other.bound → figures ≡ other
same_figures figures other status held bound =
    ap (λ x. record { status = x; held = figures.held; bound = figures.bound }) status
    ∙ ap (λ x. record { status = other.status; held = x; bound = figures.bound }) held
    ∙ ap (λ x. record { status = other.status; held = other.held; bound = x }) bound

-- figures of one text have the points and bounds of another, and what is shown has one text
record AreParted (figures other : Figures) (shown others : List ℕ) : Type 0 where
  held : figures.held ≡ other.held
  bound : figures.bound ≡ other.bound
  after : shown ≡ others

lines_parted : (names : List (List ℕ)) (figures other : Figures) (shown others rest more : List ℕ) → IfSome figures.held (λ h. length h.point ≡ length names) → IfSome other.held (λ h. length h.point ≡ length names) → (cost_lines figures ++ held_lines names figures.held ++ shown) ++ rest ≡ (cost_lines other ++ held_lines names other.held ++ others) ++ more → AreParted figures other (shown ++ rest) (others ++ more)
lines_parted names figures other shown others rest more p q e =
    let same =
    sym (figure_parts (line (codes "cost") (figure_text (held_cost figures.held))) (line (codes "bound") (figure_text figures.bound)) (held_lines names figures.held) shown rest)
    ∙ e
    ∙ figure_parts (line (codes "cost") (figure_text (held_cost other.held))) (line (codes "bound") (figure_text other.bound)) (held_lines names other.held) others more in
    let figure = figure_text-no_feed (held_cost figures.held) in
    let figure' = figure_text-no_feed (held_cost other.held) in
    let cost = line_parted (codes "cost") _ _ _ _ figure figure' same in
    let bound = line_parted (codes "bound") _ _ _ _ (figure_text-no_feed figures.bound) (figure_text-no_feed other.bound) cost.1 in
    let held = held_parted names figures.held other.held _ _ p q (figure_text_injective _ _ cost.0) bound.1 in
    record { held = held.0; bound = figure_text_injective figures.bound other.bound bound.0; after = held.1 }

-- figures with these statuses, of which the lines with more behind them are the same, are the same
module _ (names : Names) (held held' : Option Held) (bound bound' : Option ℚ) (rest more : List ℕ) where
  abbrev first : Status → Figures
  first status = record { status = status; held = held; bound = bound }

  abbrev second : Status → Figures
  second status = record { status = status; held = held'; bound = bound' }

  lines_alike : (status : Status) (shown : List ℕ) → FitNames names (first status) → FitNames names (second status) → (cost_lines (first status) ++ held_lines names.columns held ++ shown) ++ rest ≡ (cost_lines (second status) ++ held_lines names.columns held' ++ shown) ++ more → first status ≡ second status
  lines_alike status shown p q e =
      let parts = lines_parted names.columns (first status) (second status) shown shown rest more p.point q.point e in
      same_figures (first status) (second status) refl parts.held parts.bound

  alike : (status other : Status) → FitNames names (first status) → FitNames names (second other) → HasPlainEnd status → HasPlainEnd other → kind status ≡ kind other → figure_lines names (first status) ++ rest ≡ figure_lines names (second other) ++ more → first status ≡ second other
  unfolding kind
  alike Optimal Optimal p q a b k e = lines_alike Optimal [] p q e
  alike Infeasible Infeasible p q a b k e = same_figures (first Infeasible) (second Infeasible) refl (p.end_.0 ∙ sym q.end_.0) (p.end_.1 ∙ sym q.end_.1)
  alike (Unbounded ray) (Unbounded ray') p q a b k e =
      let parts = lines_parted names.columns (first (Unbounded ray)) (second (Unbounded ray')) _ _ rest more p.point q.point e in
      same_figures (first (Unbounded ray)) (second (Unbounded ray')) (ray_parted names.columns ray ray' rest more p.end_.0 q.end_.0 parts.after) parts.held parts.bound
  alike NodeLimit NodeLimit p q a b k e = lines_alike NodeLimit [] p q e
  alike Gap Gap p q a b k e = lines_alike Gap [] p q e
  alike (Wide leaf place) (Wide leaf' place') p q a b k e =
      let parts = lines_parted names.columns (first (Wide leaf place)) (second (Wide leaf' place')) _ _ rest more p.point q.point e in
      same_figures (first (Wide leaf place)) (second (Wide leaf' place')) (shown_parted names leaf leaf' place place' rest more p.end_.0 p.end_.1 q.end_.0 q.end_.1 a b parts.after) parts.held parts.bound
  alike NoMemory NoMemory p q a b k e = lines_alike NoMemory [] p q e
  alike status other p q a b k e = absurd (omega (arith, k))

-- two fronts with more behind them
pub front_told : (names : Names) (figures other : Figures) (rest more : List ℕ) → FitNames names figures → FitNames names other → HasPlainEnd figures.status → HasPlainEnd other.status → line (codes "status") (status_word figures.status) ++ figure_lines names figures ++ rest ≡ line (codes "status") (status_word other.status) ++ figure_lines names other ++ more → figures ≡ other
front_told names figures other rest more p q a b e =
    let same = sym (append_assoc (line (codes "status") (status_word figures.status)) (figure_lines names figures) rest) ∙ e ∙ append_assoc (line (codes "status") (status_word other.status)) (figure_lines names other) more in
    let status = line_parted (codes "status") _ _ _ _ (status_word-no_feed figures.status) (status_word-no_feed other.status) same in
    alike names figures.held other.held figures.bound other.bound rest more figures.status other.status p q a b (same_kind figures.status other.status status.0) status.1
