-- The definitions at values.
use lib.Chars.{codes}
use Rattle.std.proofs.Common.{◌≡◌, ◌≢◌, arith, ℕ, true, false, List, [], ◌∷◌, ◌++◌, All, None, Some, refl, ap, ◌∙◌, zero-lt-suc}
use Rattle.std.specs.Prelude.{AllPairs, ℤ, pos, negsuc}
use Rattle.std.proofs.lemmas.List.Elements.{All-from_recursion}
use Rattle.std.proofs.lemmas.List.Kept.{AllPairs-cons}
use Rattle.cip_rational.specs.Gcd.{gcd}
use Rattle.cip_rational.specs.Rational.{integer, ratio, numerator, denominator}
use Rattle.cip_rational.proofs.Rational.Lowest.{numerator-integer, denominator-integer, numerator-ratio, denominator-ratio}
use Rattle.cip_rational.specs.NumberText.{integer_text, denominator_text, fraction_text}
use Rattle.cip_search.specs.Figures.{Optimal, Unbounded, NodeLimit, Wide, AtRow, AtCost, AtMoves, answer_text, usage_text, read_fault_text, no_memory_text}
use Rattle.cip_search.specs.Checks.{Above, Below, BreaksBound, BreaksRow, Feasible, WideCost, WideRow, check_text}
use Rattle.cip_search.specs.AnswerStatements.{same_names, whole_leaf}
use Rattle.cip_search.proofs.AnswerTexts.{apart}

-- the text of a whole number
integer_figure : (z : ℤ) → fraction_text (integer z) ≡ integer_text z ++ []
unfolding fraction_text
integer_figure z =
    ap (λ n. integer_text n ++ denominator_text (denominator (integer z))) (numerator-integer z)
    ∙ ap (λ d. integer_text z ++ denominator_text d) (denominator-integer z)

-- -2 / 4 is -1 / 2
half_numerator : numerator (ratio (negsuc 1) 4) ≡ negsuc 0
unfolding gcd
half_numerator = numerator-ratio (negsuc 1) 4 (zero-lt-suc 3)

half_denominator : denominator (ratio (negsuc 1) 4) ≡ 2
unfolding gcd
half_denominator = denominator-ratio (negsuc 1) 4 (zero-lt-suc 3)

half_figure : fraction_text (ratio (negsuc 1) 4) ≡ codes "-1/2"
unfolding fraction_text
half_figure =
    ap (λ n. integer_text n ++ denominator_text (denominator (ratio (negsuc 1) 4))) half_numerator
    ∙ ap (λ d. integer_text (negsuc 0) ++ denominator_text d) half_denominator

pub optimal :
    answer_text (same_names (codes "a" ∷ codes "b" ∷ codes "c" ∷ [])) (record {
      status = Optimal;
      held = Some (record {
        cost = integer (pos 13);
        point = integer (pos 2) ∷ integer (pos 0) ∷ integer (pos 1) ∷ [];
      });
      bound = Some (integer (pos 13));
    })
    ≡ codes "status optimal\ncost 13\nbound 13\na 2\nb 0\nc 1\nend\n"
optimal = simp integer_figure

pub no_point :
    answer_text (same_names (codes "a" ∷ [])) (record { status = NodeLimit; held = None; bound = Some (integer (pos 3)) })
    ≡ codes "status nodelimit\ncost none\nbound 3\nend\n"
no_point = simp integer_figure

pub wide_by_moves :
    answer_text (record { columns = codes "y" ∷ []; wholes = []; semis = [] }) (record {
      status = Wide (whole_leaf []) (AtMoves 1);
      held = None;
      bound = Some (integer (pos 0));
    })
    ≡ codes "status wide\ncost none\nbound 0\noverflow moves 1\nend\n"
wide_by_moves = simp integer_figure

pub wide_with_choices :
    answer_text
    (record {
      columns = codes "x" ∷ codes "y" ∷ codes "z" ∷ [];
      wholes = codes "y" ∷ [];
      semis = codes "x" ∷ codes "z" ∷ [];
    })
    (record {
      status = Wide (record { values = integer (pos 3) ∷ []; on = true ∷ false ∷ [] }) AtCost;
      held = None;
      bound = Some (integer (pos 0));
    })
    ≡ codes "status wide\ncost none\nbound 0\nleaf y 3\nleaf x on\nleaf z off\noverflow cost\nend\n"
wide_with_choices = simp integer_figure

pub unbounded :
    answer_text (record { columns = codes "x" ∷ codes "y" ∷ []; wholes = codes "x" ∷ []; semis = [] }) (record {
      status = Unbounded (integer (pos 0) ∷ integer (pos 1) ∷ []);
      held = Some (record { cost = integer (pos 0); point = integer (pos 0) ∷ integer (pos 0) ∷ [] });
      bound = None;
    })
    ≡ codes "status unbounded\ncost 0\nbound none\nx 0\ny 0\nray x 0\nray y 1\nend\n"
unbounded = simp integer_figure

pub negative_ratio :
    answer_text (same_names (codes "x" ∷ [])) (record {
      status = Optimal;
      held = Some (record { cost = integer (negsuc 6); point = ratio (negsuc 1) 4 ∷ [] });
      bound = None;
    })
    ≡ codes "status optimal\ncost -7\nbound none\nx -1/2\nend\n"
negative_ratio = simp (integer_figure, half_figure)

pub wide :
    answer_text (same_names (codes "x" ∷ [])) (record {
      status = Wide (whole_leaf (integer (pos 18) ∷ [])) (AtRow (codes "R1"));
      held = Some (record { cost = integer (negsuc 16); point = integer (pos 17) ∷ [] });
      bound = Some (integer (negsuc 17));
    })
    ≡ codes "status wide\ncost -17\nbound -18\nx 17\nleaf x 18\noverflow row R1\nend\n"
wide = simp integer_figure

after_usage : All (λ other. usage_text ≢ other) (read_fault_text ∷ no_memory_text ∷ [])
after_usage =
    All-from_recursion (λ other. usage_text ≢ other) (read_fault_text ∷ no_memory_text ∷ [])
    (apart usage_text read_fault_text refl refl, (apart usage_text no_memory_text refl refl, tt))

after_read_fault : All (λ other. read_fault_text ≢ other) (no_memory_text ∷ [])
after_read_fault =
    All-from_recursion (λ other. read_fault_text ≢ other) (no_memory_text ∷ []) (apart read_fault_text no_memory_text refl refl, tt)

abbrev Differ : List ℕ → List ℕ → Type 0
Differ text other = text ≢ other

-- no two of the texts without figures are the same
pub fixed_texts_differ : AllPairs (λ text other. text ≢ other) (usage_text ∷ read_fault_text ∷ no_memory_text ∷ [])
fixed_texts_differ =
    AllPairs-cons Differ usage_text (read_fault_text ∷ no_memory_text ∷ []) after_usage
    (AllPairs-cons Differ read_fault_text (no_memory_text ∷ []) after_read_fault
    (AllPairs-cons Differ no_memory_text [] (All-from_recursion (Differ no_memory_text) [] tt)
    (λ i j d below within. absurd (omega arith))))

-- ---- the answers to `check`

check_row : check_text (BreaksRow (codes "R1") (integer (pos 6)) (Above (integer (pos 5)))) ≡ codes "status broken\nrow R1 6 above 5\nend\n"
check_row = simp integer_figure

check_bound : check_text (BreaksBound (codes "c") (integer (negsuc 0)) (Below (integer (pos 0)))) ≡ codes "status broken\nbound c -1 below 0\nend\n"
check_bound = simp integer_figure

check_feasible : check_text (Feasible (integer (pos 13))) ≡ codes "status feasible\ncost 13\nend\n"
check_feasible = simp integer_figure

check_wide : check_text (WideRow (codes "R1")) ≡ codes "status wide\nrow R1\nend\n"
check_wide = refl

check_wide_cost : check_text WideCost ≡ codes "status wide\ncost\nend\n"
check_wide_cost = refl
