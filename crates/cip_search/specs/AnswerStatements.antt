-- The laws of the texts, each as one statement, and the definitions at values: functions of `src/lib.rt` have them as
-- contracts.
use lib.Chars.{codes}
use Rattle.std.specs.Prelude.{◌≡◌, ◌≢◌, ℕ, pos, negsuc, true, false, List, [], ◌∷◌, All, AllPairs, None, Some}
use Rattle.cip_rational.specs.Rational.{ℚ, integer, ratio}
use Rattle.cip_search.specs.Leaf.{Leaf}
use Rattle.cip_search.specs.Figures.{Optimal, NodeLimit, Figures, FitNames, Names, Infeasible, Unbounded, Wide, AtRow, AtCost, AtMoves, answer_text, usage_text, read_fault_text, no_memory_text, refusal_text}

-- two figures with one text, for one list of names, are the same
abbrev pub AnswerTellsFigures : Type 0
AnswerTellsFigures =
    (names : Names) (figures other : Figures)
    → FitNames names figures → FitNames names other
    → answer_text names figures ≡ answer_text names other → figures ≡ other

-- the texts without figures are no answers, and differ from each other
pub record FixedTextsStandApart : Type 0 where
  pub usage : (names : Names) (figures : Figures) → answer_text names figures ≢ usage_text
  pub read_fault : (names : Names) (figures : Figures) → answer_text names figures ≢ read_fault_text
  pub no_memory : (names : Names) (figures : Figures) → answer_text names figures ≢ no_memory_text
  pub refusal :
      (names : Names) (figures : Figures) (text number kind : List ℕ)
      → answer_text names figures ≢ refusal_text text number kind
  pub differ : AllPairs (λ text other. text ≢ other) (usage_text ∷ read_fault_text ∷ no_memory_text ∷ [])
  pub refused :
      (text number kind : List ℕ)
      → All (λ other. refusal_text text number kind ≢ other) (usage_text ∷ read_fault_text ∷ no_memory_text ∷ [])

-- the names of columns that are all whole
abbrev pub same_names : List (List ℕ) → Names
same_names names = record { columns = names; wholes = names; semis = [] }

-- a leaf of a program without semi-continuous columns
abbrev pub whole_leaf : List ℚ → Leaf
whole_leaf values = record { values = values; on = [] }

-- the definitions at values
pub record Examples : Type 0 where
  pub optimal :
      answer_text (same_names (codes "a" ∷ codes "b" ∷ codes "c" ∷ [])) (record {
        status = Optimal;
        held = Some (record {
          cost = integer (pos 13);
          point = integer (pos 2) ∷ integer (pos 0) ∷ integer (pos 1) ∷ [];
        });
        bound = Some (integer (pos 13));
      })
      ≡ codes "status optimal\ncost 13\nbound 13\na 2\nb 0\nc 1\nend\n"
  pub no_point :
      answer_text (same_names (codes "a" ∷ [])) (record {
        status = NodeLimit;
        held = None;
        bound = Some (integer (pos 3));
      })
      ≡ codes "status nodelimit\ncost none\nbound 3\nend\n"
  pub negative_ratio :
      answer_text (same_names (codes "x" ∷ [])) (record {
        status = Optimal;
        held = Some (record { cost = integer (negsuc 6); point = ratio (negsuc 1) 4 ∷ [] });
        bound = None;
      })
      ≡ codes "status optimal\ncost -7\nbound none\nx -1/2\nend\n"
  pub infeasible :
      answer_text (same_names (codes "a" ∷ [])) (record { status = Infeasible; held = None; bound = None })
      ≡ codes "status infeasible\nend\n"
  pub wide :
      answer_text (same_names (codes "x" ∷ [])) (record {
        status = Wide (whole_leaf (integer (pos 18) ∷ [])) (AtRow (codes "R1"));
        held = Some (record { cost = integer (negsuc 16); point = integer (pos 17) ∷ [] });
        bound = Some (integer (negsuc 17));
      })
      ≡ codes "status wide\ncost -17\nbound -18\nx 17\nleaf x 18\noverflow row R1\nend\n"
  pub wide_by_moves :
      answer_text (record { columns = codes "y" ∷ []; wholes = []; semis = [] }) (record {
        status = Wide (whole_leaf []) (AtMoves 1);
        held = None;
        bound = Some (integer (pos 0));
      })
      ≡ codes "status wide\ncost none\nbound 0\noverflow moves 1\nend\n"
  pub wide_with_choices :
      answer_text
      (record {
        columns = codes "x" ∷ codes "y" ∷ codes "z" ∷ [];
        wholes = codes "y" ∷ [];
        semis = codes "x" ∷ codes "z" ∷ [];
      })
      (record {
        status = Wide (record { values = integer (pos 3) ∷ []; on = true ∷ false ∷ [] }) AtCost;
        held = None;
        bound = Some (integer (pos 0));
      })
      ≡ codes "status wide\ncost none\nbound 0\nleaf y 3\nleaf x on\nleaf z off\noverflow cost\nend\n"
  pub unbounded :
      answer_text (record { columns = codes "x" ∷ codes "y" ∷ []; wholes = codes "x" ∷ []; semis = [] }) (record {
        status = Unbounded (integer (pos 0) ∷ integer (pos 1) ∷ []);
        held = Some (record { cost = integer (pos 0); point = integer (pos 0) ∷ integer (pos 0) ∷ [] });
        bound = None;
      })
      ≡ codes "status unbounded\ncost 0\nbound none\nx 0\ny 0\nray x 0\nray y 1\nend\n"
  pub usage : usage_text ≡ codes "status usage\nend\n"
