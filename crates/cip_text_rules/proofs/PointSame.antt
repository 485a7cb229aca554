-- The values that are kept stand for the columns that were given.
use Rattle.std.proofs.Common.{◌≡◌, ℕ, zero, suc, Bool, true, false, cond, not, ◌||◌, List, [], ◌∷◌, ◌++◌, length, map, Option, None, Some, refl, sym, ap, subst, ◌∙◌}
use Rattle.std.specs.Prelude.{is_none, is_some, unwrap_or, replicate}
use Rattle.std.specs.List.{AllByRecursion, list_any}
use Rattle.std.specs.Str.{bytes_eq}
use Rattle.std.proofs.lemmas.List.{length-set}
use Rattle.cip_rational.specs.Rational.{ℚ, zeroℚ}
use Rattle.cip_problem.specs.Program.{Program}
use Rattle.cip_rational.specs.Numeral.{Numeral, value_of}
use Rattle.cip_text_rules.specs.MpsWords.{next, number_in, is_in}
use Rattle.cip_text_rules.specs.MpsRules.{least}
use Rattle.cip_text_rules.specs.MpsProgram.{number_or_zero}
use Rattle.cip_text_rules.proofs.Quiet.{kept}
use Rattle.cip_text_rules.proofs.MpsNames.{bytes_same, bytes_self, bytes_flip}
use Rattle.cip_text_rules.specs.MpsSteps.{changed}
use Rattle.cip_text_rules.proofs.LookUps.{AreApart, changed_map, is_in-cons}
use Rattle.cip_text_rules.proofs.LineSame.{StandsFor}
use Rattle.cip_problem.specs.NamesOnce.{StandOnce}
use Rattle.cip_text_rules.specs.PointRules.{PointLine, BadLine, ValueLine, Given, given_in, is_given, number_given, point_rules, point_fault, point_reading}
use Rattle.cip_text_rules.specs.PointSteps.{no_values, value_held, point_tests, put_value, values_with, point_steps}
use Rattle.cip_text_rules.proofs.BlockLaws.{all_push}
use Rattle.cip_text_rules.proofs.BlockSame.{map_same, are_apart}

-- ---- values

-- the value of a number, if there is one
abbrev pub value_if : Option Numeral → Option ℚ
value_if None = None
value_if (Some number) = value_of number

-- the value that was given for a column
abbrev pub held_for : List Given → List ℕ → Option ℚ
held_for given name = value_if (number_given given name)

-- what is kept of the columns that were given, all of which have values
pub record Keeps (program : Program) (given : List Given) (values : List (Option ℚ)) : Type 0 where
  pub are : values ≡ map (held_for given) program.column_names
  pub exact : AllByRecursion (λ g. is_none (value_of g.number) ≡ false) given

some_not : {X : Type 0} (o : Option X) → is_none o ≡ false → is_some o ≡ true
some_not None e = absurd (cc)
some_not (Some x) e = refl

held_is : (given : List Given) (name : List ℕ) → AllByRecursion (λ g. is_none (value_of g.number) ≡ false) given → is_some (held_for given name) ≡ is_given given name
held_is [] name h = refl
held_is (g ∷ rest) name h = go (bytes_eq name g.column) (held_is rest name h.1)
  where
    go : (b : Bool) → is_some (value_if (number_given rest name)) ≡ is_given rest name → is_some (value_if (cond b (Some g.number) (number_given rest name))) ≡ (b || is_given rest name)
    go true e = some_not (value_of g.number) h.0
    go false e = e

-- ---- look-ups

held_shift : (v : Option ℚ) (vs : List (Option ℚ)) (o : Option ℕ) → value_held (v ∷ vs) (next o) ≡ value_held vs o
held_shift v vs None = refl
held_shift v vs (Some k) = refl

held_at : (h : List ℕ → Option ℚ) (names : List (List ℕ)) (name : List ℕ) → is_in names name ≡ true → value_held (map h names) (number_in names name) ≡ h name
held_at h [] name e = absurd (cc)
held_at h (x ∷ xs) name e = go (bytes_eq name x) refl (sym (is_in-cons x xs name) ∙ e) (held_at h xs name)
  where
    go : (b : Bool) → bytes_eq name x ≡ b → (b || is_in xs name) ≡ true → (is_in xs name ≡ true → value_held (map h xs) (number_in xs name) ≡ h name) → value_held (h x ∷ map h xs) (cond b (Some 0) (next (number_in xs name))) ≡ h name
    go true p e r = ap h (sym (bytes_same name x p))
    go false p e r = held_shift (h x) (map h xs) (number_in xs name) ∙ r e

-- ---- faults

tests_same : (program : Program) (given : List Given) (values : List (Option ℚ)) (now : PointLine) → Keeps program given values → least (point_tests program values now) ≡ point_fault program given now
tests_same program given values BadLine k = refl
tests_same program given values (ValueLine column number) k = go (is_in program.column_names column) refl
  where
    go : (b : Bool) → is_in program.column_names column ≡ b
        → ◌≡◌ {A = Option ℕ} (cond (not b) (Some 2) (cond (is_some (value_held values (number_in program.column_names column))) (Some 3) (cond (is_none (value_of number)) (Some 4) None))) (cond (not b) (Some 2) (cond (is_given given column) (Some 3) (cond (is_none (value_of number)) (Some 4) None)))
    go false e = refl
    go true e =
        ap (λ t. cond {A = Option ℕ} t (Some 3) (cond (is_none (value_of number)) (Some 4) None))
        (ap (λ vs. is_some (value_held vs (number_in program.column_names column))) k.are
        ∙ ap is_some (held_at (held_for given) program.column_names column e) ∙ held_is given column k.exact)

-- ---- puts

put_changed : (values : List (Option ℚ)) (o : Option ℕ) (value : Option ℚ) → put_value values o value ≡ changed None values o (λ old. value)
put_changed values None value = refl
put_changed values (Some k) value = refl

given_last : (given : List Given) (g : Given) → is_given given g.column ≡ false → number_given (given ++ g ∷ []) g.column ≡ Some g.number
given_last [] g e = ap (λ b. cond b (Some g.number) None) (bytes_self g.column)
given_last (x ∷ xs) g e = go (bytes_eq g.column x.column) e (given_last xs g)
  where
    go : (b : Bool) → (b || is_given xs g.column) ≡ false → (is_given xs g.column ≡ false → number_given (xs ++ g ∷ []) g.column ≡ Some g.number) → cond b (Some x.number) (number_given (xs ++ g ∷ []) g.column) ≡ Some g.number
    go true e r = absurd (cc)
    go false e r = r e

given_other : (given : List Given) (g : Given) (name : List ℕ) → bytes_eq name g.column ≡ false → number_given (given ++ g ∷ []) name ≡ number_given given name
given_other [] g name e = ap (λ b. cond b (Some g.number) None) e
given_other (x ∷ xs) g name e = ap (cond (bytes_eq name x.column) (Some x.number)) (given_other xs g name e)

put_is : (program : Program) (given : List Given) (column : List ℕ) (number : Numeral) → StandOnce program.column_names → is_given given column ≡ false → put_value (map (held_for given) program.column_names) (number_in program.column_names column) (value_of number) ≡ map (held_for (given ++ record { column = column; number = number } ∷ [])) program.column_names
put_is program given column number d e =
    put_changed (map (held_for given) program.column_names) (number_in program.column_names column) (value_of number)
    ∙ ap (λ names. changed None (map (held_for given) program.column_names) (number_in names column) (λ old. value_of number)) (sym (map_same program.column_names))
    ∙ changed_map None program.column_names (λ x. x) (held_for given) (held_for (given ++ g ∷ [])) column (λ old. value_of number)
    (subst AreApart (sym (map_same program.column_names)) (are_apart program.column_names d))
    (λ x same. sym (ap (held_for (given ++ g ∷ [])) same ∙ ap value_if (given_last given g e)))
    (λ x other. sym (ap value_if (given_other given g x (bytes_flip x column ∙ other))))
  where
    g : Given
    g = record { column = column; number = number }

next_keeps : (program : Program) → StandOnce program.column_names → (given : List Given) (values : List (Option ℚ)) (now : PointLine) → Keeps program given values → point_fault program given now ≡ None → Keeps program (given ++ given_in now) (values_with program values now)
next_keeps program d given values BadLine k e = absurd (cc)
next_keeps program d given values (ValueLine column number) k e = go (kept (point_rules program given (ValueLine column number)) e)
  where
    go : AllByRecursion (λ r. r.broken ≡ false) (point_rules program given (ValueLine column number)) → Keeps program (given ++ record { column = column; number = number } ∷ []) (values_with program values (ValueLine column number))
    go t = record {
      are = ap (λ vs. put_value vs (number_in program.column_names column) (value_of number)) k.are ∙ put_is program given column number d t.1.1.0;
      exact = all_push (λ g. is_none (value_of g.number) ≡ false) given (record { column = column; number = number }) k.exact t.1.1.1.0;
    }

-- ---- the end

first_is : (names : List (List ℕ)) → ◌≡◌ {A = List (Option ℚ)} (replicate (length names) None) (map (held_for []) names)
first_is [] = refl
first_is (name ∷ names) = ap (λ vs. None ∷ vs) (first_is names)

none_not : {X : Type 0} (o : Option X) → is_none o ≡ not (is_some o)
none_not None = refl
none_not (Some x) = refl

lacks_is : (given : List Given) (names : List (List ℕ)) → AllByRecursion (λ g. is_none (value_of g.number) ≡ false) given → list_any is_none (map (held_for given) names) ≡ list_any (λ name. not (is_given given name)) names
lacks_is given [] h = refl
lacks_is given (name ∷ names) h =
    let p : is_none (held_for given name) ≡ not (is_given given name) = none_not (held_for given name) ∙ ap not (held_is given name h) in
    let q : list_any is_none (map (held_for given) names) ≡ list_any (λ x. not (is_given given x)) names = lacks_is given names h in
    λ i. p i || q i

point_is : (given : List Given) (names : List (List ℕ)) → map (λ value. unwrap_or value zeroℚ) (map (held_for given) names) ≡ map (λ name. number_or_zero (number_given given name)) names
point_is given [] = refl
point_is given (name ∷ names) =
    let p : unwrap_or (held_for given name) zeroℚ ≡ number_or_zero (number_given given name) = go (number_given given name) in
    let q = point_is given names in
    λ i. p i ∷ q i
  where
    go : (o : Option Numeral) → unwrap_or (value_if o) zeroℚ ≡ number_or_zero o
    go None = refl
    go (Some number) = refl

pub stands : (program : Program) → StandOnce program.column_names → StandsFor (point_reading program) (point_steps program) (Keeps program)
stands program d = record {
  items = refl;
  long = refl;
  start = record { are = first_is program.column_names; exact = tt };
  fault = λ given values now k. tests_same program given values now k;
  next = λ given values now k e. next_keeps program d given values now k e;
  end_fault = λ given values k.
      ap (λ vs. cond (list_any is_none vs) (Some 5) None) k.are
      ∙ ap (λ b. cond b (Some 5) None) (lacks_is given program.column_names k.exact);
  result = λ given values k e. ap (map (λ value. unwrap_or value zeroℚ)) k.are ∙ point_is given program.column_names;
}

-- ---- places

pub first_places : (program : Program) → length (no_values program) ≡ length program.column_names
first_places program = go (length program.column_names)
  where
    go : (n : ℕ) → length {A = Option ℚ} (replicate n None) ≡ n
    go zero = refl
    go (suc n) = ap suc (go n)

pub later_places : (program : Program) (values : List (Option ℚ)) (now : PointLine) → length (values_with program values now) ≡ length values
later_places program values BadLine = refl
later_places program values (ValueLine column number) = go (number_in program.column_names column)
  where
    go : (o : Option ℕ) → length (put_value values o (value_of number)) ≡ length values
    go None = refl
    go (Some k) = length-set values k (value_of number)
