-- The point of a text: each column's value is that of the one line that gives it.
use Rattle.std.proofs.Common.{◌≡◌, ℕ, Bool, true, false, cond, not, ◌||◌, List, [], ◌∷◌, ◌++◌, map, Option, None, Some, refl, sym, ap, subst, ◌∙◌}
use Rattle.std.specs.Prelude.{⊤, is_none, flat_map, unwrap_or}
use Rattle.std.specs.List.{AllByRecursion, AllZip, list_any}
use Rattle.std.specs.Str.{bytes_eq}
use Rattle.std.proofs.lemmas.List.{append-nil, append_assoc}
use Rattle.std.proofs.lemmas.List.Folds.{list_any-append}
use Rattle.std.proofs.lemmas.Bool.{or_from}
use Rattle.cip_rational.specs.Rational.{ℚ, zeroℚ}
use Rattle.cip_problem.specs.Program.{Program}
use Rattle.cip_rational.specs.Numeral.{Numeral, value_of}
use Rattle.cip_text_rules.specs.MpsWords.{is_in}
use Rattle.cip_text_rules.specs.MpsProgram.{number_or_zero}
use Rattle.cip_text_rules.proofs.Quiet.{kept, left_false, right_false}
use Rattle.cip_text_rules.proofs.MpsNames.{bytes_same, bytes_self}
use Rattle.cip_text_rules.specs.LineTexts.{Numbered, items_in, HasResult}
use Rattle.cip_text_rules.specs.LineStatements.{AreQuiet, known_after, known_of, IsDescribed}
use Rattle.cip_text_rules.proofs.LineOutcomes.{described}
use Rattle.cip_text_rules.specs.PointRules.{PointLine, BadLine, ValueLine, Given, given_in, is_given, number_given, point_rules, lacks_column, point_given, point_reading}
use Rattle.cip_text_rules.specs.PointStatements.{given_by, IsGivenOnce, IsPointOf}
use Rattle.cip_text_rules.proofs.BlockLaws.{not_false}

-- ---- what is known are the lines

-- the columns that lines give
abbrev given_of : List (Numbered PointLine) → List Given
given_of items = flat_map (λ now. given_in now.item) items

known_is : (program : Program) (items : List (Numbered PointLine)) (given : List Given) → known_after (point_reading program) given items ≡ given ++ given_of items
known_is program [] given = sym (append-nil given)
known_is program (now ∷ others) given = known_is program others (given ++ given_in now.item) ∙ append_assoc given (given_in now.item) (given_of others)

-- ---- lines without fault

-- the columns are named, have a value, and none is given before
abbrev pub AreNew : Program → List Given → List Given → Type 0
AreNew program before [] = ⊤
AreNew program before (g ∷ others) =
    ((is_in program.column_names g.column ≡ true) × ((is_given before g.column ≡ false) × (is_none (value_of g.number) ≡ false))) × AreNew program (before ++ g ∷ []) others

are_new : (program : Program) (items : List (Numbered PointLine)) (given : List Given) → AreQuiet (point_reading program) given items → AreNew program given (given_of items)
are_new program [] given q = tt
are_new program (now ∷ others) given q = go now.item (kept (point_rules program given now.item) q.0) (are_new program others (given ++ given_in now.item) q.1)
  where
    go : (item : PointLine) → AllByRecursion (λ r. r.broken ≡ false) (point_rules program given item) → AreNew program (given ++ given_in item) (given_of others) → AreNew program given (given_in item ++ given_of others)
    go BadLine k more = absurd (let e = k.0 in cc)
    go (ValueLine column number) k more = ((not_false _ k.1.0, (k.1.1.0, k.1.1.1.0)), more)

-- ---- one line for each column

-- no column stands twice, and each has a value
abbrev pub AreOnce : List Given → Type 0
AreOnce [] = ⊤
AreOnce (g ∷ others) = ((is_given others g.column ≡ false) × (is_none (value_of g.number) ≡ false)) × AreOnce others

not_before : (name : List ℕ) (before : List Given) (g : Given) → is_given (before ++ g ∷ []) name ≡ (is_given before name || (bytes_eq name g.column || false))
not_before name before g = list_any-append (λ x. bytes_eq name x.column) before (g ∷ [])

-- what is new behind a column doesn't give it again
not_again : (program : Program) (name : List ℕ) (before rest : List Given) → is_given before name ≡ true → AreNew program before rest → is_given rest name ≡ false
not_again program name before [] h n = refl
not_again program name before (g ∷ rest) h n =
    or_from (bytes_eq name g.column) (is_given rest name) (other (bytes_eq name g.column) refl)
    (not_again program name (before ++ g ∷ []) rest (not_before name before g ∙ ap (λ b. b || (bytes_eq name g.column || false)) h) n.1)
  where
    other : (b : Bool) → bytes_eq name g.column ≡ b → bytes_eq name g.column ≡ false
    other false e = e
    other true e =
        let same : name ≡ g.column = bytes_same name g.column e in
        let gone : is_given before name ≡ false = ap (is_given before) same ∙ n.0.1.0 in
        absurd (let p = h in cc)

given_last : (before : List Given) (g : Given) → is_given (before ++ g ∷ []) g.column ≡ true
given_last before g = not_before g.column before g ∙ ap (λ b. is_given before g.column || (b || false)) (bytes_self g.column) ∙ or_true (is_given before g.column)
  where
    or_true : (b : Bool) → (b || true) ≡ true
    or_true true = refl
    or_true false = refl

once : (program : Program) (before rest : List Given) → AreNew program before rest → AreOnce rest
once program before [] n = tt
once program before (g ∷ rest) n =
    ((not_again program g.column (before ++ g ∷ []) rest (given_last before g) n.1, n.0.1.1), once program (before ++ g ∷ []) rest n.1)

all_known : (program : Program) (before rest : List Given) → AreNew program before rest → AllByRecursion (λ g. is_in program.column_names g.column ≡ true) rest
all_known program before [] n = tt
all_known program before (g ∷ rest) n = (n.0.0, all_known program (before ++ g ∷ []) rest n.1)

-- ---- a column's value

value_there : (number : Numeral) → is_none (value_of number) ≡ false → value_of number ≡ Some (number_or_zero (Some number))
value_there number e = go (value_of number) e
  where
    go : (o : Option ℚ) → is_none o ≡ false → o ≡ Some (unwrap_or o zeroℚ)
    go None e = absurd (cc)
    go (Some value) e = refl

given_once : (given : List Given) (name : List ℕ) → AreOnce given → is_given given name ≡ true → IsGivenOnce given name (number_or_zero (number_given given name))
given_once [] name o e = absurd (cc)
given_once (g ∷ rest) name o e = go (bytes_eq name g.column) refl e (given_once rest name o.1)
  where
    go : (b : Bool) → bytes_eq name g.column ≡ b → (b || is_given rest name) ≡ true → (is_given rest name ≡ true → IsGivenOnce rest name (number_or_zero (number_given rest name))) → IsGivenOnce (g ∷ rest) name (number_or_zero (cond b (Some g.number) (number_given rest name)))
    go true p e h =
        let same : g.column ≡ name = sym (bytes_same name g.column p) in
        record {
          before = [];
          number = g.number;
          after = rest;
          are_given = ap (λ n. record { column = n; number = g.number } ∷ rest) same;
          none_before = refl;
          none_after = subst (λ n. is_given rest n ≡ false) same o.0.0;
          is_value = value_there g.number o.0.1;
        }
    go false p e h =
        let r = h e in
        record {
          before = g ∷ r.before;
          number = r.number;
          after = r.after;
          are_given = ap (λ x. g ∷ x) r.are_given;
          none_before = or_from (bytes_eq name g.column) (is_given r.before name) p r.none_before;
          none_after = r.none_after;
          is_value = r.is_value;
        }

all_given : (given : List Given) (names : List (List ℕ)) → AreOnce given → list_any (λ name. not (is_given given name)) names ≡ false → AllZip (IsGivenOnce given) names (map (λ name. number_or_zero (number_given given name)) names)
all_given given [] o e = tt
all_given given (name ∷ names) o e =
    (given_once given name o (not_false _ (left_false _ _ e)), all_given given names o (right_false _ _ e))

no_five : (b : Bool) → ◌≡◌ {A = Option ℕ} (cond b (Some 5) None) None → b ≡ false
no_five false e = refl
no_five true e = absurd (cc)

pub points_are_of_lines : (program : Program) (text : List ℕ) (point : List ℚ) → HasResult (point_reading program) text point → IsPointOf program text point
points_are_of_lines program text point h = go (described (point_reading program) text point h)
  where
    items : List (Numbered PointLine)
    items = items_in (point_reading program) text

    is_known : known_of (point_reading program) text ≡ given_by program text
    is_known = known_is program items []

    go : IsDescribed (point_reading program) text point → IsPointOf program text point
    go d =
        let new : AreNew program [] (given_by program text) = are_new program items [] d.quiet in
        let full : lacks_column program (given_by program text) ≡ false = ap (lacks_column program) (sym is_known) ∙ no_five (lacks_column program (known_of (point_reading program) text)) d.no_fault in
        record {
          values = subst (AllZip (IsGivenOnce (given_by program text)) program.column_names) (ap (point_given program) (sym is_known) ∙ d.is_value) (all_given (given_by program text) program.column_names (once program [] (given_by program text) new) full);
          known = all_known program [] (given_by program text) new;
        }
