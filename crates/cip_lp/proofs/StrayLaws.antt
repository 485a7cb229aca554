-- Tokens that stand where none of their kind can.
use Rattle.std.proofs.Common.{◌≡◌, ℕ, Bool, List, refl}
use Rattle.cip_text_rules.specs.LpWords.{Relation}
use Rattle.cip_text_rules.specs.LpTokens.{Token, Name, Sign, Number, Relates, Colon, Free, Infinite}
use Rattle.cip_text_rules.specs.LpPlaces.{Where, fails, moves}
use Rattle.cip_text_rules.specs.LpGrammar.{row_read, cost_read, bound_read, settled_cost, settled_row}
use Rattle.cip_lp.specs.declared.places.Place.{Place as Kept}
use Rattle.cip_lp.specs.declared.places.Stage.{Stage}
use Rattle.cip_lp.specs.declared.places.Stage.TheVariants.{Start, Labelled, FirstName, FirstSign, FirstNumber, SecondStart, SecondSign, SecondNumber, SecondName, AfterTerm, TermSign, TermNumber, LastDue, LastSign, BoundName, BoundDue, BoundSign, LimitSign, LimitRead, LimitDue, BoundedName}
use Rattle.cip_lp.specs.LpStages.{place_at}

pub row_name_stray : (w : Where) (stage : Stage) (place : Kept) (name : List ℕ) → (stage ≡ Start → ⊥) → (stage ≡ Labelled → ⊥) → (stage ≡ FirstSign → ⊥) → (stage ≡ FirstNumber → ⊥) → (stage ≡ SecondStart → ⊥) → (stage ≡ SecondSign → ⊥) → (stage ≡ SecondNumber → ⊥) → (stage ≡ TermSign → ⊥) → (stage ≡ TermNumber → ⊥) → row_read w (place_at stage place) (Name name) ≡ fails w 3
row_name_stray w Start place name h0 h1 h2 h3 h4 h5 h6 h7 h8 = absurd (h0 refl)
row_name_stray w Labelled place name h0 h1 h2 h3 h4 h5 h6 h7 h8 = absurd (h1 refl)
row_name_stray w FirstName place name h0 h1 h2 h3 h4 h5 h6 h7 h8 = refl
row_name_stray w FirstSign place name h0 h1 h2 h3 h4 h5 h6 h7 h8 = absurd (h2 refl)
row_name_stray w FirstNumber place name h0 h1 h2 h3 h4 h5 h6 h7 h8 = absurd (h3 refl)
row_name_stray w SecondStart place name h0 h1 h2 h3 h4 h5 h6 h7 h8 = absurd (h4 refl)
row_name_stray w SecondSign place name h0 h1 h2 h3 h4 h5 h6 h7 h8 = absurd (h5 refl)
row_name_stray w SecondNumber place name h0 h1 h2 h3 h4 h5 h6 h7 h8 = absurd (h6 refl)
row_name_stray w SecondName place name h0 h1 h2 h3 h4 h5 h6 h7 h8 = refl
row_name_stray w AfterTerm place name h0 h1 h2 h3 h4 h5 h6 h7 h8 = refl
row_name_stray w TermSign place name h0 h1 h2 h3 h4 h5 h6 h7 h8 = absurd (h7 refl)
row_name_stray w TermNumber place name h0 h1 h2 h3 h4 h5 h6 h7 h8 = absurd (h8 refl)
row_name_stray w LastDue place name h0 h1 h2 h3 h4 h5 h6 h7 h8 = refl
row_name_stray w LastSign place name h0 h1 h2 h3 h4 h5 h6 h7 h8 = refl
row_name_stray w BoundName place name h0 h1 h2 h3 h4 h5 h6 h7 h8 = refl
row_name_stray w BoundDue place name h0 h1 h2 h3 h4 h5 h6 h7 h8 = refl
row_name_stray w BoundSign place name h0 h1 h2 h3 h4 h5 h6 h7 h8 = refl
row_name_stray w LimitSign place name h0 h1 h2 h3 h4 h5 h6 h7 h8 = refl
row_name_stray w LimitRead place name h0 h1 h2 h3 h4 h5 h6 h7 h8 = refl
row_name_stray w LimitDue place name h0 h1 h2 h3 h4 h5 h6 h7 h8 = refl
row_name_stray w BoundedName place name h0 h1 h2 h3 h4 h5 h6 h7 h8 = refl

pub row_number_stray : (w : Where) (stage : Stage) (place : Kept) (text : List ℕ) → (stage ≡ Start → ⊥) → (stage ≡ Labelled → ⊥) → (stage ≡ FirstSign → ⊥) → (stage ≡ SecondStart → ⊥) → (stage ≡ SecondSign → ⊥) → (stage ≡ TermSign → ⊥) → (stage ≡ LastDue → ⊥) → (stage ≡ LastSign → ⊥) → row_read w (place_at stage place) (Number text) ≡ fails w 3
row_number_stray w Start place text h0 h1 h2 h3 h4 h5 h6 h7 = absurd (h0 refl)
row_number_stray w Labelled place text h0 h1 h2 h3 h4 h5 h6 h7 = absurd (h1 refl)
row_number_stray w FirstName place text h0 h1 h2 h3 h4 h5 h6 h7 = refl
row_number_stray w FirstSign place text h0 h1 h2 h3 h4 h5 h6 h7 = absurd (h2 refl)
row_number_stray w FirstNumber place text h0 h1 h2 h3 h4 h5 h6 h7 = refl
row_number_stray w SecondStart place text h0 h1 h2 h3 h4 h5 h6 h7 = absurd (h3 refl)
row_number_stray w SecondSign place text h0 h1 h2 h3 h4 h5 h6 h7 = absurd (h4 refl)
row_number_stray w SecondNumber place text h0 h1 h2 h3 h4 h5 h6 h7 = refl
row_number_stray w SecondName place text h0 h1 h2 h3 h4 h5 h6 h7 = refl
row_number_stray w AfterTerm place text h0 h1 h2 h3 h4 h5 h6 h7 = refl
row_number_stray w TermSign place text h0 h1 h2 h3 h4 h5 h6 h7 = absurd (h5 refl)
row_number_stray w TermNumber place text h0 h1 h2 h3 h4 h5 h6 h7 = refl
row_number_stray w LastDue place text h0 h1 h2 h3 h4 h5 h6 h7 = absurd (h6 refl)
row_number_stray w LastSign place text h0 h1 h2 h3 h4 h5 h6 h7 = absurd (h7 refl)
row_number_stray w BoundName place text h0 h1 h2 h3 h4 h5 h6 h7 = refl
row_number_stray w BoundDue place text h0 h1 h2 h3 h4 h5 h6 h7 = refl
row_number_stray w BoundSign place text h0 h1 h2 h3 h4 h5 h6 h7 = refl
row_number_stray w LimitSign place text h0 h1 h2 h3 h4 h5 h6 h7 = refl
row_number_stray w LimitRead place text h0 h1 h2 h3 h4 h5 h6 h7 = refl
row_number_stray w LimitDue place text h0 h1 h2 h3 h4 h5 h6 h7 = refl
row_number_stray w BoundedName place text h0 h1 h2 h3 h4 h5 h6 h7 = refl

pub row_sign_stray : (w : Where) (stage : Stage) (place : Kept) (minus : Bool) → (stage ≡ Start → ⊥) → (stage ≡ Labelled → ⊥) → (stage ≡ SecondStart → ⊥) → (stage ≡ AfterTerm → ⊥) → (stage ≡ LastDue → ⊥) → row_read w (place_at stage place) (Sign minus) ≡ fails w 3
row_sign_stray w Start place minus h0 h1 h2 h3 h4 = absurd (h0 refl)
row_sign_stray w Labelled place minus h0 h1 h2 h3 h4 = absurd (h1 refl)
row_sign_stray w FirstName place minus h0 h1 h2 h3 h4 = refl
row_sign_stray w FirstSign place minus h0 h1 h2 h3 h4 = refl
row_sign_stray w FirstNumber place minus h0 h1 h2 h3 h4 = refl
row_sign_stray w SecondStart place minus h0 h1 h2 h3 h4 = absurd (h2 refl)
row_sign_stray w SecondSign place minus h0 h1 h2 h3 h4 = refl
row_sign_stray w SecondNumber place minus h0 h1 h2 h3 h4 = refl
row_sign_stray w SecondName place minus h0 h1 h2 h3 h4 = refl
row_sign_stray w AfterTerm place minus h0 h1 h2 h3 h4 = absurd (h3 refl)
row_sign_stray w TermSign place minus h0 h1 h2 h3 h4 = refl
row_sign_stray w TermNumber place minus h0 h1 h2 h3 h4 = refl
row_sign_stray w LastDue place minus h0 h1 h2 h3 h4 = absurd (h4 refl)
row_sign_stray w LastSign place minus h0 h1 h2 h3 h4 = refl
row_sign_stray w BoundName place minus h0 h1 h2 h3 h4 = refl
row_sign_stray w BoundDue place minus h0 h1 h2 h3 h4 = refl
row_sign_stray w BoundSign place minus h0 h1 h2 h3 h4 = refl
row_sign_stray w LimitSign place minus h0 h1 h2 h3 h4 = refl
row_sign_stray w LimitRead place minus h0 h1 h2 h3 h4 = refl
row_sign_stray w LimitDue place minus h0 h1 h2 h3 h4 = refl
row_sign_stray w BoundedName place minus h0 h1 h2 h3 h4 = refl

pub row_relation_stray : (w : Where) (stage : Stage) (place : Kept) (relation : Relation) → (stage ≡ FirstNumber → ⊥) → (stage ≡ SecondNumber → ⊥) → (stage ≡ AfterTerm → ⊥) → row_read w (place_at stage place) (Relates relation) ≡ fails w 3
row_relation_stray w Start place relation h0 h1 h2 = refl
row_relation_stray w Labelled place relation h0 h1 h2 = refl
row_relation_stray w FirstName place relation h0 h1 h2 = refl
row_relation_stray w FirstSign place relation h0 h1 h2 = refl
row_relation_stray w FirstNumber place relation h0 h1 h2 = absurd (h0 refl)
row_relation_stray w SecondStart place relation h0 h1 h2 = refl
row_relation_stray w SecondSign place relation h0 h1 h2 = refl
row_relation_stray w SecondNumber place relation h0 h1 h2 = absurd (h1 refl)
row_relation_stray w SecondName place relation h0 h1 h2 = refl
row_relation_stray w AfterTerm place relation h0 h1 h2 = absurd (h2 refl)
row_relation_stray w TermSign place relation h0 h1 h2 = refl
row_relation_stray w TermNumber place relation h0 h1 h2 = refl
row_relation_stray w LastDue place relation h0 h1 h2 = refl
row_relation_stray w LastSign place relation h0 h1 h2 = refl
row_relation_stray w BoundName place relation h0 h1 h2 = refl
row_relation_stray w BoundDue place relation h0 h1 h2 = refl
row_relation_stray w BoundSign place relation h0 h1 h2 = refl
row_relation_stray w LimitSign place relation h0 h1 h2 = refl
row_relation_stray w LimitRead place relation h0 h1 h2 = refl
row_relation_stray w LimitDue place relation h0 h1 h2 = refl
row_relation_stray w BoundedName place relation h0 h1 h2 = refl

pub row_colon_stray : (w : Where) (stage : Stage) (place : Kept) → (stage ≡ FirstName → ⊥) → row_read w (place_at stage place) Colon ≡ fails w 3
row_colon_stray w Start place h0 = refl
row_colon_stray w Labelled place h0 = refl
row_colon_stray w FirstName place h0 = absurd (h0 refl)
row_colon_stray w FirstSign place h0 = refl
row_colon_stray w FirstNumber place h0 = refl
row_colon_stray w SecondStart place h0 = refl
row_colon_stray w SecondSign place h0 = refl
row_colon_stray w SecondNumber place h0 = refl
row_colon_stray w SecondName place h0 = refl
row_colon_stray w AfterTerm place h0 = refl
row_colon_stray w TermSign place h0 = refl
row_colon_stray w TermNumber place h0 = refl
row_colon_stray w LastDue place h0 = refl
row_colon_stray w LastSign place h0 = refl
row_colon_stray w BoundName place h0 = refl
row_colon_stray w BoundDue place h0 = refl
row_colon_stray w BoundSign place h0 = refl
row_colon_stray w LimitSign place h0 = refl
row_colon_stray w LimitRead place h0 = refl
row_colon_stray w LimitDue place h0 = refl
row_colon_stray w BoundedName place h0 = refl

pub cost_name_stray : (w : Where) (stage : Stage) (place : Kept) (name : List ℕ) → (stage ≡ Start → ⊥) → (stage ≡ Labelled → ⊥) → (stage ≡ TermSign → ⊥) → (stage ≡ TermNumber → ⊥) → cost_read w (place_at stage place) (Name name) ≡ fails w 3
cost_name_stray w Start place name h0 h1 h2 h3 = absurd (h0 refl)
cost_name_stray w Labelled place name h0 h1 h2 h3 = absurd (h1 refl)
cost_name_stray w FirstName place name h0 h1 h2 h3 = refl
cost_name_stray w FirstSign place name h0 h1 h2 h3 = refl
cost_name_stray w FirstNumber place name h0 h1 h2 h3 = refl
cost_name_stray w SecondStart place name h0 h1 h2 h3 = refl
cost_name_stray w SecondSign place name h0 h1 h2 h3 = refl
cost_name_stray w SecondNumber place name h0 h1 h2 h3 = refl
cost_name_stray w SecondName place name h0 h1 h2 h3 = refl
cost_name_stray w AfterTerm place name h0 h1 h2 h3 = refl
cost_name_stray w TermSign place name h0 h1 h2 h3 = absurd (h2 refl)
cost_name_stray w TermNumber place name h0 h1 h2 h3 = absurd (h3 refl)
cost_name_stray w LastDue place name h0 h1 h2 h3 = refl
cost_name_stray w LastSign place name h0 h1 h2 h3 = refl
cost_name_stray w BoundName place name h0 h1 h2 h3 = refl
cost_name_stray w BoundDue place name h0 h1 h2 h3 = refl
cost_name_stray w BoundSign place name h0 h1 h2 h3 = refl
cost_name_stray w LimitSign place name h0 h1 h2 h3 = refl
cost_name_stray w LimitRead place name h0 h1 h2 h3 = refl
cost_name_stray w LimitDue place name h0 h1 h2 h3 = refl
cost_name_stray w BoundedName place name h0 h1 h2 h3 = refl

pub cost_sign_stray : (w : Where) (stage : Stage) (place : Kept) (minus : Bool) → (stage ≡ Start → ⊥) → (stage ≡ Labelled → ⊥) → (stage ≡ AfterTerm → ⊥) → cost_read w (place_at stage place) (Sign minus) ≡ fails w 3
cost_sign_stray w Start place minus h0 h1 h2 = absurd (h0 refl)
cost_sign_stray w Labelled place minus h0 h1 h2 = absurd (h1 refl)
cost_sign_stray w FirstName place minus h0 h1 h2 = refl
cost_sign_stray w FirstSign place minus h0 h1 h2 = refl
cost_sign_stray w FirstNumber place minus h0 h1 h2 = refl
cost_sign_stray w SecondStart place minus h0 h1 h2 = refl
cost_sign_stray w SecondSign place minus h0 h1 h2 = refl
cost_sign_stray w SecondNumber place minus h0 h1 h2 = refl
cost_sign_stray w SecondName place minus h0 h1 h2 = refl
cost_sign_stray w AfterTerm place minus h0 h1 h2 = absurd (h2 refl)
cost_sign_stray w TermSign place minus h0 h1 h2 = refl
cost_sign_stray w TermNumber place minus h0 h1 h2 = refl
cost_sign_stray w LastDue place minus h0 h1 h2 = refl
cost_sign_stray w LastSign place minus h0 h1 h2 = refl
cost_sign_stray w BoundName place minus h0 h1 h2 = refl
cost_sign_stray w BoundDue place minus h0 h1 h2 = refl
cost_sign_stray w BoundSign place minus h0 h1 h2 = refl
cost_sign_stray w LimitSign place minus h0 h1 h2 = refl
cost_sign_stray w LimitRead place minus h0 h1 h2 = refl
cost_sign_stray w LimitDue place minus h0 h1 h2 = refl
cost_sign_stray w BoundedName place minus h0 h1 h2 = refl

pub cost_number_stray : (w : Where) (stage : Stage) (place : Kept) (text : List ℕ) → (stage ≡ Start → ⊥) → (stage ≡ Labelled → ⊥) → (stage ≡ TermSign → ⊥) → cost_read w (place_at stage place) (Number text) ≡ fails w 3
cost_number_stray w Start place text h0 h1 h2 = absurd (h0 refl)
cost_number_stray w Labelled place text h0 h1 h2 = absurd (h1 refl)
cost_number_stray w FirstName place text h0 h1 h2 = refl
cost_number_stray w FirstSign place text h0 h1 h2 = refl
cost_number_stray w FirstNumber place text h0 h1 h2 = refl
cost_number_stray w SecondStart place text h0 h1 h2 = refl
cost_number_stray w SecondSign place text h0 h1 h2 = refl
cost_number_stray w SecondNumber place text h0 h1 h2 = refl
cost_number_stray w SecondName place text h0 h1 h2 = refl
cost_number_stray w AfterTerm place text h0 h1 h2 = refl
cost_number_stray w TermSign place text h0 h1 h2 = absurd (h2 refl)
cost_number_stray w TermNumber place text h0 h1 h2 = refl
cost_number_stray w LastDue place text h0 h1 h2 = refl
cost_number_stray w LastSign place text h0 h1 h2 = refl
cost_number_stray w BoundName place text h0 h1 h2 = refl
cost_number_stray w BoundDue place text h0 h1 h2 = refl
cost_number_stray w BoundSign place text h0 h1 h2 = refl
cost_number_stray w LimitSign place text h0 h1 h2 = refl
cost_number_stray w LimitRead place text h0 h1 h2 = refl
cost_number_stray w LimitDue place text h0 h1 h2 = refl
cost_number_stray w BoundedName place text h0 h1 h2 = refl

pub cost_colon_stray : (w : Where) (stage : Stage) (place : Kept) → (stage ≡ FirstName → ⊥) → cost_read w (place_at stage place) Colon ≡ fails w 3
cost_colon_stray w Start place h0 = refl
cost_colon_stray w Labelled place h0 = refl
cost_colon_stray w FirstName place h0 = absurd (h0 refl)
cost_colon_stray w FirstSign place h0 = refl
cost_colon_stray w FirstNumber place h0 = refl
cost_colon_stray w SecondStart place h0 = refl
cost_colon_stray w SecondSign place h0 = refl
cost_colon_stray w SecondNumber place h0 = refl
cost_colon_stray w SecondName place h0 = refl
cost_colon_stray w AfterTerm place h0 = refl
cost_colon_stray w TermSign place h0 = refl
cost_colon_stray w TermNumber place h0 = refl
cost_colon_stray w LastDue place h0 = refl
cost_colon_stray w LastSign place h0 = refl
cost_colon_stray w BoundName place h0 = refl
cost_colon_stray w BoundDue place h0 = refl
cost_colon_stray w BoundSign place h0 = refl
cost_colon_stray w LimitSign place h0 = refl
cost_colon_stray w LimitRead place h0 = refl
cost_colon_stray w LimitDue place h0 = refl
cost_colon_stray w BoundedName place h0 = refl

pub bound_name_stray : (w : Where) (stage : Stage) (place : Kept) (name : List ℕ) → (stage ≡ Start → ⊥) → (stage ≡ LimitDue → ⊥) → (stage ≡ BoundedName → ⊥) → bound_read w (place_at stage place) (Name name) ≡ fails w 3
bound_name_stray w Start place name h0 h1 h2 = absurd (h0 refl)
bound_name_stray w Labelled place name h0 h1 h2 = refl
bound_name_stray w FirstName place name h0 h1 h2 = refl
bound_name_stray w FirstSign place name h0 h1 h2 = refl
bound_name_stray w FirstNumber place name h0 h1 h2 = refl
bound_name_stray w SecondStart place name h0 h1 h2 = refl
bound_name_stray w SecondSign place name h0 h1 h2 = refl
bound_name_stray w SecondNumber place name h0 h1 h2 = refl
bound_name_stray w SecondName place name h0 h1 h2 = refl
bound_name_stray w AfterTerm place name h0 h1 h2 = refl
bound_name_stray w TermSign place name h0 h1 h2 = refl
bound_name_stray w TermNumber place name h0 h1 h2 = refl
bound_name_stray w LastDue place name h0 h1 h2 = refl
bound_name_stray w LastSign place name h0 h1 h2 = refl
bound_name_stray w BoundName place name h0 h1 h2 = refl
bound_name_stray w BoundDue place name h0 h1 h2 = refl
bound_name_stray w BoundSign place name h0 h1 h2 = refl
bound_name_stray w LimitSign place name h0 h1 h2 = refl
bound_name_stray w LimitRead place name h0 h1 h2 = refl
bound_name_stray w LimitDue place name h0 h1 h2 = absurd (h1 refl)
bound_name_stray w BoundedName place name h0 h1 h2 = absurd (h2 refl)

pub bound_relation_stray : (w : Where) (stage : Stage) (place : Kept) (relation : Relation) → (stage ≡ BoundName → ⊥) → (stage ≡ LimitRead → ⊥) → (stage ≡ BoundedName → ⊥) → bound_read w (place_at stage place) (Relates relation) ≡ fails w 3
bound_relation_stray w Start place relation h0 h1 h2 = refl
bound_relation_stray w Labelled place relation h0 h1 h2 = refl
bound_relation_stray w FirstName place relation h0 h1 h2 = refl
bound_relation_stray w FirstSign place relation h0 h1 h2 = refl
bound_relation_stray w FirstNumber place relation h0 h1 h2 = refl
bound_relation_stray w SecondStart place relation h0 h1 h2 = refl
bound_relation_stray w SecondSign place relation h0 h1 h2 = refl
bound_relation_stray w SecondNumber place relation h0 h1 h2 = refl
bound_relation_stray w SecondName place relation h0 h1 h2 = refl
bound_relation_stray w AfterTerm place relation h0 h1 h2 = refl
bound_relation_stray w TermSign place relation h0 h1 h2 = refl
bound_relation_stray w TermNumber place relation h0 h1 h2 = refl
bound_relation_stray w LastDue place relation h0 h1 h2 = refl
bound_relation_stray w LastSign place relation h0 h1 h2 = refl
bound_relation_stray w BoundName place relation h0 h1 h2 = absurd (h0 refl)
bound_relation_stray w BoundDue place relation h0 h1 h2 = refl
bound_relation_stray w BoundSign place relation h0 h1 h2 = refl
bound_relation_stray w LimitSign place relation h0 h1 h2 = refl
bound_relation_stray w LimitRead place relation h0 h1 h2 = absurd (h1 refl)
bound_relation_stray w LimitDue place relation h0 h1 h2 = refl
bound_relation_stray w BoundedName place relation h0 h1 h2 = absurd (h2 refl)

pub bound_sign_stray : (w : Where) (stage : Stage) (place : Kept) (minus : Bool) → (stage ≡ Start → ⊥) → (stage ≡ BoundDue → ⊥) → (stage ≡ BoundedName → ⊥) → bound_read w (place_at stage place) (Sign minus) ≡ fails w 3
bound_sign_stray w Start place minus h0 h1 h2 = absurd (h0 refl)
bound_sign_stray w Labelled place minus h0 h1 h2 = refl
bound_sign_stray w FirstName place minus h0 h1 h2 = refl
bound_sign_stray w FirstSign place minus h0 h1 h2 = refl
bound_sign_stray w FirstNumber place minus h0 h1 h2 = refl
bound_sign_stray w SecondStart place minus h0 h1 h2 = refl
bound_sign_stray w SecondSign place minus h0 h1 h2 = refl
bound_sign_stray w SecondNumber place minus h0 h1 h2 = refl
bound_sign_stray w SecondName place minus h0 h1 h2 = refl
bound_sign_stray w AfterTerm place minus h0 h1 h2 = refl
bound_sign_stray w TermSign place minus h0 h1 h2 = refl
bound_sign_stray w TermNumber place minus h0 h1 h2 = refl
bound_sign_stray w LastDue place minus h0 h1 h2 = refl
bound_sign_stray w LastSign place minus h0 h1 h2 = refl
bound_sign_stray w BoundName place minus h0 h1 h2 = refl
bound_sign_stray w BoundDue place minus h0 h1 h2 = absurd (h1 refl)
bound_sign_stray w BoundSign place minus h0 h1 h2 = refl
bound_sign_stray w LimitSign place minus h0 h1 h2 = refl
bound_sign_stray w LimitRead place minus h0 h1 h2 = refl
bound_sign_stray w LimitDue place minus h0 h1 h2 = refl
bound_sign_stray w BoundedName place minus h0 h1 h2 = absurd (h2 refl)

pub bound_free_stray : (w : Where) (stage : Stage) (place : Kept) → (stage ≡ BoundName → ⊥) → bound_read w (place_at stage place) Free ≡ fails w 3
bound_free_stray w Start place h0 = refl
bound_free_stray w Labelled place h0 = refl
bound_free_stray w FirstName place h0 = refl
bound_free_stray w FirstSign place h0 = refl
bound_free_stray w FirstNumber place h0 = refl
bound_free_stray w SecondStart place h0 = refl
bound_free_stray w SecondSign place h0 = refl
bound_free_stray w SecondNumber place h0 = refl
bound_free_stray w SecondName place h0 = refl
bound_free_stray w AfterTerm place h0 = refl
bound_free_stray w TermSign place h0 = refl
bound_free_stray w TermNumber place h0 = refl
bound_free_stray w LastDue place h0 = refl
bound_free_stray w LastSign place h0 = refl
bound_free_stray w BoundName place h0 = absurd (h0 refl)
bound_free_stray w BoundDue place h0 = refl
bound_free_stray w BoundSign place h0 = refl
bound_free_stray w LimitSign place h0 = refl
bound_free_stray w LimitRead place h0 = refl
bound_free_stray w LimitDue place h0 = refl
bound_free_stray w BoundedName place h0 = refl

pub bound_number_stray : (w : Where) (stage : Stage) (place : Kept) (text : List ℕ) → (stage ≡ Start → ⊥) → (stage ≡ BoundDue → ⊥) → (stage ≡ BoundSign → ⊥) → (stage ≡ LimitSign → ⊥) → (stage ≡ BoundedName → ⊥) → bound_read w (place_at stage place) (Number text) ≡ fails w 3
bound_number_stray w Start place text h0 h1 h2 h3 h4 = absurd (h0 refl)
bound_number_stray w Labelled place text h0 h1 h2 h3 h4 = refl
bound_number_stray w FirstName place text h0 h1 h2 h3 h4 = refl
bound_number_stray w FirstSign place text h0 h1 h2 h3 h4 = refl
bound_number_stray w FirstNumber place text h0 h1 h2 h3 h4 = refl
bound_number_stray w SecondStart place text h0 h1 h2 h3 h4 = refl
bound_number_stray w SecondSign place text h0 h1 h2 h3 h4 = refl
bound_number_stray w SecondNumber place text h0 h1 h2 h3 h4 = refl
bound_number_stray w SecondName place text h0 h1 h2 h3 h4 = refl
bound_number_stray w AfterTerm place text h0 h1 h2 h3 h4 = refl
bound_number_stray w TermSign place text h0 h1 h2 h3 h4 = refl
bound_number_stray w TermNumber place text h0 h1 h2 h3 h4 = refl
bound_number_stray w LastDue place text h0 h1 h2 h3 h4 = refl
bound_number_stray w LastSign place text h0 h1 h2 h3 h4 = refl
bound_number_stray w BoundName place text h0 h1 h2 h3 h4 = refl
bound_number_stray w BoundDue place text h0 h1 h2 h3 h4 = absurd (h1 refl)
bound_number_stray w BoundSign place text h0 h1 h2 h3 h4 = absurd (h2 refl)
bound_number_stray w LimitSign place text h0 h1 h2 h3 h4 = absurd (h3 refl)
bound_number_stray w LimitRead place text h0 h1 h2 h3 h4 = refl
bound_number_stray w LimitDue place text h0 h1 h2 h3 h4 = refl
bound_number_stray w BoundedName place text h0 h1 h2 h3 h4 = absurd (h4 refl)

pub bound_infinite_stray : (w : Where) (stage : Stage) (place : Kept) (text : List ℕ) → (stage ≡ Start → ⊥) → (stage ≡ BoundDue → ⊥) → (stage ≡ BoundSign → ⊥) → (stage ≡ LimitSign → ⊥) → (stage ≡ BoundedName → ⊥) → bound_read w (place_at stage place) (Infinite text) ≡ fails w 3
bound_infinite_stray w Start place text h0 h1 h2 h3 h4 = absurd (h0 refl)
bound_infinite_stray w Labelled place text h0 h1 h2 h3 h4 = refl
bound_infinite_stray w FirstName place text h0 h1 h2 h3 h4 = refl
bound_infinite_stray w FirstSign place text h0 h1 h2 h3 h4 = refl
bound_infinite_stray w FirstNumber place text h0 h1 h2 h3 h4 = refl
bound_infinite_stray w SecondStart place text h0 h1 h2 h3 h4 = refl
bound_infinite_stray w SecondSign place text h0 h1 h2 h3 h4 = refl
bound_infinite_stray w SecondNumber place text h0 h1 h2 h3 h4 = refl
bound_infinite_stray w SecondName place text h0 h1 h2 h3 h4 = refl
bound_infinite_stray w AfterTerm place text h0 h1 h2 h3 h4 = refl
bound_infinite_stray w TermSign place text h0 h1 h2 h3 h4 = refl
bound_infinite_stray w TermNumber place text h0 h1 h2 h3 h4 = refl
bound_infinite_stray w LastDue place text h0 h1 h2 h3 h4 = refl
bound_infinite_stray w LastSign place text h0 h1 h2 h3 h4 = refl
bound_infinite_stray w BoundName place text h0 h1 h2 h3 h4 = refl
bound_infinite_stray w BoundDue place text h0 h1 h2 h3 h4 = absurd (h1 refl)
bound_infinite_stray w BoundSign place text h0 h1 h2 h3 h4 = absurd (h2 refl)
bound_infinite_stray w LimitSign place text h0 h1 h2 h3 h4 = absurd (h3 refl)
bound_infinite_stray w LimitRead place text h0 h1 h2 h3 h4 = refl
bound_infinite_stray w LimitDue place text h0 h1 h2 h3 h4 = refl
bound_infinite_stray w BoundedName place text h0 h1 h2 h3 h4 = absurd (h4 refl)

pub cost_settles_none : (w : Where) (stage : Stage) (place : Kept) (token : Token) → (stage ≡ FirstName → ⊥) → (stage ≡ TermNumber → ⊥) → settled_cost w (place_at stage place) token ≡ moves w w.place
cost_settles_none w Start place token h0 h1 = refl
cost_settles_none w Labelled place token h0 h1 = refl
cost_settles_none w FirstName place token h0 h1 = absurd (h0 refl)
cost_settles_none w FirstSign place token h0 h1 = refl
cost_settles_none w FirstNumber place token h0 h1 = refl
cost_settles_none w SecondStart place token h0 h1 = refl
cost_settles_none w SecondSign place token h0 h1 = refl
cost_settles_none w SecondNumber place token h0 h1 = refl
cost_settles_none w SecondName place token h0 h1 = refl
cost_settles_none w AfterTerm place token h0 h1 = refl
cost_settles_none w TermSign place token h0 h1 = refl
cost_settles_none w TermNumber place token h0 h1 = absurd (h1 refl)
cost_settles_none w LastDue place token h0 h1 = refl
cost_settles_none w LastSign place token h0 h1 = refl
cost_settles_none w BoundName place token h0 h1 = refl
cost_settles_none w BoundDue place token h0 h1 = refl
cost_settles_none w BoundSign place token h0 h1 = refl
cost_settles_none w LimitSign place token h0 h1 = refl
cost_settles_none w LimitRead place token h0 h1 = refl
cost_settles_none w LimitDue place token h0 h1 = refl
cost_settles_none w BoundedName place token h0 h1 = refl

pub row_settles_none : (w : Where) (stage : Stage) (place : Kept) (token : Token) → (stage ≡ FirstName → ⊥) → (stage ≡ SecondNumber → ⊥) → (stage ≡ SecondName → ⊥) → settled_row w (place_at stage place) token ≡ moves w w.place
row_settles_none w Start place token h0 h1 h2 = refl
row_settles_none w Labelled place token h0 h1 h2 = refl
row_settles_none w FirstName place token h0 h1 h2 = absurd (h0 refl)
row_settles_none w FirstSign place token h0 h1 h2 = refl
row_settles_none w FirstNumber place token h0 h1 h2 = refl
row_settles_none w SecondStart place token h0 h1 h2 = refl
row_settles_none w SecondSign place token h0 h1 h2 = refl
row_settles_none w SecondNumber place token h0 h1 h2 = absurd (h1 refl)
row_settles_none w SecondName place token h0 h1 h2 = absurd (h2 refl)
row_settles_none w AfterTerm place token h0 h1 h2 = refl
row_settles_none w TermSign place token h0 h1 h2 = refl
row_settles_none w TermNumber place token h0 h1 h2 = refl
row_settles_none w LastDue place token h0 h1 h2 = refl
row_settles_none w LastSign place token h0 h1 h2 = refl
row_settles_none w BoundName place token h0 h1 h2 = refl
row_settles_none w BoundDue place token h0 h1 h2 = refl
row_settles_none w BoundSign place token h0 h1 h2 = refl
row_settles_none w LimitSign place token h0 h1 h2 = refl
row_settles_none w LimitRead place token h0 h1 h2 = refl
row_settles_none w LimitDue place token h0 h1 h2 = refl
row_settles_none w BoundedName place token h0 h1 h2 = refl
