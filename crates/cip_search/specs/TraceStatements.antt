-- The laws of the texts of traces and of `self`, each as one statement, and the definitions at values: functions of
-- `src/lib.rt` have them as contracts.
use lib.Chars.{codes}
use Rattle.std.specs.Prelude.{◌≡◌, ◌≢◌, ⊤, ℕ, pos, List, [], ◌∷◌, All, None, Some}
use Rattle.cip_rational.specs.Rational.{integer}
use Rattle.cip_search.specs.Figures.{Overflow, AtRow, AtCost, AtMoves, Status, Optimal, Infeasible, Unbounded, NodeLimit, Gap, Wide, NoMemory, Figures, FitNames, Names, status_word, held_cost, answer_text}
use Rattle.cip_search.specs.SelfTexts.{Drawn, self_text}
use Rattle.cip_search.specs.TraceTexts.{Traced, trace_line, traced_text}

-- without lines the text is that of the answer
abbrev pub UntracedIsPlain : Type 0
UntracedIsPlain = (names : Names) (figures : Figures) → traced_text names figures [] ≡ answer_text names figures

-- the name has neither a blank nor a line feed, and the word has no line feed
pub record IsPlainLine (traced : Traced) : Type 0 where
  pub name : All (λ byte. (byte ≢ 32) × (byte ≢ 10)) traced.name
  pub word : All (λ byte. byte ≢ 10) traced.word

-- lines with one text, behind the same figures, are the same
abbrev pub TraceIsTold : Type 0
TraceIsTold =
    (names : Names) (figures : Figures) (lines others : List Traced)
    → All IsPlainLine lines → All IsPlainLine others
    → traced_text names figures lines ≡ traced_text names figures others → lines ≡ others

-- the name of what overflows has no line feed
abbrev pub HasPlainName : Overflow → Type 0
HasPlainName (AtRow name) = All (λ byte. byte ≢ 10) name
HasPlainName AtCost = ⊤
HasPlainName (AtMoves number) = ⊤

-- the row that an end tells to overflow, if it tells one, has a name without a line feed
abbrev pub HasPlainEnd : Status → Type 0
HasPlainEnd Optimal = ⊤
HasPlainEnd Infeasible = ⊤
HasPlainEnd (Unbounded ray) = ⊤
HasPlainEnd NodeLimit = ⊤
HasPlainEnd Gap = ⊤
HasPlainEnd (Wide leaf place) = HasPlainName place
HasPlainEnd NoMemory = ⊤

-- figures with one text are the same, whatever lines stand behind them
abbrev pub FiguresAreTold : Type 0
FiguresAreTold =
    (names : Names) (figures other : Figures) (lines others : List Traced)
    → FitNames names figures → FitNames names other → HasPlainEnd figures.status → HasPlainEnd other.status
    → traced_text names figures lines ≡ traced_text names other others → figures ≡ other

-- a line of a plugin by its number, with its name and a word
abbrev pub traced_as : (id : ℕ) → (name word : List ℕ) → Traced
traced_as id name word = record { id = id; name = name; word = word }

-- the definitions at values
pub record TraceExamples : Type 0 where
  pub init : trace_line 1 (traced_as 0 (codes "sentry") (codes "init")) ≡ codes "trace 1 0 sentry init\n"
  pub dropped : trace_line 65 (traced_as 12 (codes "a?") (codes "dropped 36")) ≡ codes "trace 65 12 a? dropped 36\n"
  pub refused :
      trace_line 100 (traced_as 3 (codes "x") (codes "refused WrongSign")) ≡ codes "trace 100 3 x refused WrongSign\n"
  pub behind :
      traced_text (record { columns = []; wholes = []; semis = [] })
      (record { status = Infeasible; held = None; bound = None })
      (traced_as 0 (codes "sentry") (codes "init") ∷ traced_as 1 (codes "late") (codes "exit") ∷ [])
      ≡ codes "status infeasible\ntrace 1 0 sentry init\ntrace 2 1 late exit\nend\n"

-- two figures of which the same is printed as an answer to `self`: the word of the status, the cost and the bound
pub record PrintAlike (figures other : Figures) : Type 0 where
  pub word : status_word figures.status ≡ status_word other.status
  pub cost : held_cost figures.held ≡ held_cost other.held
  pub bound : figures.bound ≡ other.bound

-- two answers to `self` with one text are of one program, and the same is printed of their figures
abbrev pub SelfIsTold : Type 0
SelfIsTold =
    (drawn others : Drawn) (figures other : Figures)
    → self_text drawn figures ≡ self_text others other → (drawn ≡ others) × PrintAlike figures other

-- a program with a seed, so many columns and rows, and so many entries
abbrev pub drawn_as : (seed columns rows entries : ℕ) → Drawn
drawn_as seed columns rows entries = record { seed = seed; columns = columns; rows = rows; entries = entries }

-- the text of `self` at values
pub record SelfExamples : Type 0 where
  pub optimal :
      self_text (drawn_as 0 1 0 0) (record {
        status = Optimal;
        held = Some (record { cost = integer (pos 45); point = integer (pos 3) ∷ [] });
        bound = Some (integer (pos 45));
      })
      ≡ codes "self 0 1 0\nentries 0\nstatus optimal\ncost 45\nbound 45\nend\n"
  pub infeasible :
      self_text (drawn_as 12 256 30 64) (record { status = Infeasible; held = None; bound = None })
      ≡ codes "self 12 256 30\nentries 64\nstatus infeasible\ncost none\nbound none\nend\n"
