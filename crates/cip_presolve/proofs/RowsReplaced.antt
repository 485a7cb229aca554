-- A row with the form of a column in its place.
use Rattle.std.proofs.Common.{◌≡◌, ℕ, ◌<◌, List, [], ◌∷◌, sym, ap, ◌∙◌, subst, arith}
use Rattle.cip_rational.specs.Rational.{ℚ, ◌+ℚ◌, ◌*ℚ◌, zeroℚ, negate}
use Rattle.cip_rational.proofs.Linear.{linear_same}
use Rattle.cip_problem.specs.Program.{Term, Row}
use Rattle.cip_problem.specs.Activity.{activity, value_at, StandsBelow}
use Rattle.cip_presolve.specs.Forms.{Form}
use Rattle.cip_presolve.specs.RowSteps.{side_less}
use Rattle.cip_presolve.specs.ColumnForms.{IsReplacedIn}
use Rattle.cip_presolve.specs.PutTerms.{product_of, HasAll}

pub other_way : (row new : Row) (first second : Term) (terms : List Term) → HasAll row second first terms new → HasAll row first second terms new
other_way row new first second terms a = record {
  activity = λ x. let e = a.activity x in linear_same (activity row.terms x ∷ activity new.terms x ∷ product_of first x ∷ product_of second x ∷ activity terms x ∷ []) (λ s w. omega (arith, s.same_out));
  low = a.low;
  high = a.high;
  stands = λ n h k l s. a.stands n h l k s;
}

pub ruleset turned = (other_way)

pub replaced_is : (row empty new : Row) (own other : Term) (column : ℕ) (form : Form) (coefficient shift more : ℚ) → shift ≡ coefficient *ℚ form.constant → more ≡ coefficient *ℚ form.factor → own.column ≡ column → own.coefficient ≡ negate coefficient → other.column ≡ form.source → other.coefficient ≡ more → empty.terms ≡ [] → empty.low ≡ side_less row.low shift → empty.high ≡ side_less row.high shift → HasAll empty own other row.terms new → IsReplacedIn row column form new
replaced_is row empty new own other column form coefficient shift more e f oc oq sc sq t l u a = record {
  replaced = record {
    coefficient = coefficient;
    activity = λ x. comes x;
    low = a.low ∙ l ∙ ap (side_less row.low) e;
    high = a.high ∙ u ∙ ap (side_less row.high) e;
  };
  stands = λ n h k s. a.stands n (subst (λ (ts : List Term). StandsBelow n ts) (sym t) (λ i d q. absurd (omega (arith, q)))) (subst (λ c. c < n) (sym oc) k) (subst (λ c. c < n) (sym sc) s) h;
}
  where
    own_product : (x : List ℚ) → product_of own x ≡ negate coefficient *ℚ value_at x column
    own_product x = ap (λ q. q *ℚ value_at x own.column) oq ∙ ap (λ c. negate coefficient *ℚ value_at x c) oc

    other_product : (x : List ℚ) → product_of other x ≡ (coefficient *ℚ form.factor) *ℚ value_at x form.source
    other_product x = ap (λ q. q *ℚ value_at x other.column) (sq ∙ f) ∙ ap (λ c. (coefficient *ℚ form.factor) *ℚ value_at x c) sc

    comes : (x : List ℚ) → activity new.terms x ≡ activity row.terms x +ℚ (negate coefficient *ℚ value_at x column +ℚ (coefficient *ℚ form.factor) *ℚ value_at x form.source)
    comes x =
        let sum = a.activity x in
        let nothing : activity empty.terms x ≡ zeroℚ = ap (λ (ts : List Term). activity ts x) t in
        let p = own_product x in
        let q = other_product x in
        linear_same (activity new.terms x ∷ activity empty.terms x ∷ activity row.terms x ∷ product_of own x ∷ product_of other x ∷ (negate coefficient *ℚ value_at x column) ∷ ((coefficient *ℚ form.factor) *ℚ value_at x form.source) ∷ []) (λ s w. omega (arith, s.same_out))

pub ruleset replacing = (replaced_is)
