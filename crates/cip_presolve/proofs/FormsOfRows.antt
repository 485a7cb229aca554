-- The form that an equality of two terms gives a column.
use Rattle.std.proofs.Common.{◌≡◌, ℕ, ◌<◌, ◌≤◌, List, [], ◌∷◌, length, Option, None, Some, IfSome, slice_get, sym, ap, ◌∙◌, subst, arith}
use Rattle.std.proofs.lemmas.Option.{same_Some}
use Rattle.std.proofs.Math.ListN.{get_or}
use Rattle.cip_rational.specs.Rational.{ℚ, zeroℚ}
use Rattle.cip_problem.specs.Program.{Term, Sides, Row, Program}
use Rattle.cip_problem.specs.RowTerms.{AreTerms}
use Rattle.cip_presolve.specs.Forms.{Form}
use Rattle.cip_presolve.specs.Equalities.{equality_form, IsEquality}
use Rattle.cip_search.proofs.Equalities.{first_follows, first_holds, second_follows, second_holds}
use Rattle.cip_presolve.specs.RowReading.{only_value}
use Rattle.cip_presolve.proofs.Recosted.{both_sides}
use Rattle.cip_presolve.specs.ColumnForms.{GivesForm, RowGives}

-- a row has these two terms alone, and is an equality
pub record HasTwoTerms (row : Row) (first second : Term) (value : ℚ) : Type 0 where
  pub terms : row.terms ≡ first ∷ second ∷ []
  pub equality : IsEquality row value
  pub first_nonzero : ¬ (first.coefficient ≡ zeroℚ)
  pub second_nonzero : ¬ (second.coefficient ≡ zeroℚ)

nonzero_both : (terms : List Term) (first second : Term) → terms ≡ first ∷ second ∷ [] → AreTerms terms → (¬ (first.coefficient ≡ zeroℚ)) × (¬ (second.coefficient ≡ zeroℚ))
nonzero_both terms first second e h =
    let k : AreTerms (first ∷ second ∷ []) = subst (λ (ts : List Term). AreTerms ts) e h in
    (k.nonzero 0 (omega arith), k.nonzero 1 (omega arith))

pub two_items : (ts : List Term) (first second : Term) → 2 ≤ length ts → length ts < 3 → first ≡ get_or ts 0 first → second ≡ get_or ts 1 second → ts ≡ first ∷ second ∷ []
two_items [] first second l u e k = absurd (omega (arith, l))
two_items (a ∷ []) first second l u e k = absurd (omega (arith, l))
two_items (a ∷ b ∷ []) first second l u e k = ap (λ t. t ∷ b ∷ []) (sym e) ∙ ap (λ t. first ∷ t ∷ []) (sym k)
two_items (a ∷ b ∷ c ∷ ts) first second l u e k = absurd (omega (arith, u))

pub two_found_by : (row : Row) (first second : Term) (sides : Sides) (value : ℚ) → only_value sides ≡ Some value → sides.low ≡ row.low → sides.high ≡ row.high → row.terms ≡ first ∷ second ∷ [] → AreTerms row.terms → HasTwoTerms row first second value
two_found_by row first second sides value o l h e a =
    let both = both_sides sides value o in
    let n = nonzero_both row.terms first second e a in
    record { terms = e; equality = record { low = sym l ∙ both.0; high = sym h ∙ both.1 }; first_nonzero = n.0; second_nonzero = n.1 }

given_by_first : (row : Row) (first second : Term) (value : ℚ) → HasTwoTerms row first second value → GivesForm row first.column (equality_form first.coefficient second.coefficient value second.column)
given_by_first row first second value h = record {
  follows = λ x s. first_follows row first.column second.column first.coefficient second.coefficient value x h.terms h.equality h.first_nonzero s;
  holds = λ x v. first_holds row first.column second.column first.coefficient second.coefficient value x h.terms h.equality h.first_nonzero v;
}

given_by_second : (row : Row) (first second : Term) (value : ℚ) → HasTwoTerms row first second value → GivesForm row second.column (equality_form second.coefficient first.coefficient value first.column)
given_by_second row first second value h = record {
  follows = λ x s. second_follows row first.column second.column first.coefficient second.coefficient value x h.terms h.equality h.second_nonzero s;
  holds = λ x v. second_holds row first.column second.column first.coefficient second.coefficient value x h.terms h.equality h.second_nonzero v;
}

-- what was found of a form, as an option
pub first_given : (row : Row) (first second : Term) (value : ℚ) (column : ℕ) (found : Option Form) → HasTwoTerms row first second value → first.column ≡ column → IfSome found (λ form. form ≡ equality_form first.coefficient second.coefficient value second.column) → IfSome found (GivesForm row column)
first_given row first second value column None h c e = tt
first_given row first second value column (Some form) h c e =
    subst (λ f. GivesForm row column f) (sym e) (subst (λ n. GivesForm row n (equality_form first.coefficient second.coefficient value second.column)) c (given_by_first row first second value h))

pub second_given : (row : Row) (first second : Term) (value : ℚ) (column : ℕ) (found : Option Form) → HasTwoTerms row first second value → second.column ≡ column → IfSome found (λ form. form ≡ equality_form second.coefficient first.coefficient value first.column) → IfSome found (GivesForm row column)
second_given row first second value column None h c e = tt
second_given row first second value column (Some form) h c e =
    subst (λ f. GivesForm row column f) (sym e) (subst (λ n. GivesForm row n (equality_form second.coefficient first.coefficient value first.column)) c (given_by_second row first second value h))

pub ruleset forms_given = (first_given, second_given)

pub gives_at : (program : Program) (place : ℕ) (row : Row) (column : ℕ) (found : Option Form) → slice_get program.rows place ≡ Some row → IfSome found (GivesForm row column) → IfSome found (RowGives program place column)
gives_at program place row column None e h = tt
gives_at program place row column (Some form) e h = λ other g. subst (λ (r : Row). GivesForm r column form) (same_Some row other (sym e ∙ g)) h

pub ruleset row_gives = (gives_at)

pub same_parts : (one other : Form) → one.constant ≡ other.constant → one.factor ≡ other.factor → one.source ≡ other.source → one ≡ other
same_parts one other c f s =
    ap (λ q. record { constant = q; factor = one.factor; source = one.source }) c
    ∙ ap (λ q. record { constant = other.constant; factor = q; source = one.source }) f
    ∙ ap (λ n. record { constant = other.constant; factor = other.factor; source = n }) s

pub ruleset same_forms = (same_parts)
