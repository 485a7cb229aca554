-- The places of rows and the marks of blocks stand for what the words have said.
use Rattle.std.proofs.Common.{◌≡◌, ℕ, zero, suc, ◌+◌, ◌<◌, ◌==◌, Bool, true, false, cond, not, ◌||◌, List, [], ◌∷◌, ◌++◌, length, map, Option, None, Some, refl, sym, ap, subst, ◌∙◌, set, arith}
use Rattle.std.specs.Prelude.{is_none, unwrap_or, replicate, nat_lt, if◌then◌else◌}
use Rattle.std.specs.List.{list_any}
use Rattle.std.specs.Str.{bytes_eq}
use Rattle.std.proofs.lemmas.List.Folds.{list_any-append}
use Rattle.std.proofs.lemmas.Bool.{ltb-true, lt-ltb, eq-eqb, eqb-true, false_from_ne_true}
use Rattle.cip_problem.specs.Program.{Program}
use Rattle.cip_problem.specs.WellFormed.{columns}
use Rattle.cip_text_rules.specs.MpsWords.{next, number_in, is_in, meaning_in}
use Rattle.cip_text_rules.specs.MpsRules.{least}
use Rattle.cip_text_rules.proofs.Quiet.{kept, left_false}
use Rattle.cip_text_rules.proofs.MpsNames.{bytes_same, bytes_self, bytes_flip}
use Rattle.cip_text_rules.specs.MpsSteps.{changed}
use Rattle.cip_text_rules.proofs.LookUps.{AreApart, changed_map, is_in-cons}
use Rattle.cip_text_rules.proofs.LineSame.{StandsFor}
use Rattle.cip_text_rules.specs.BlockWords.{Keyword, WordPlace, KeywordDue, ZeroDue, CountDue, BlockDue, NamesOf, WordSaying, Opens, OutOfPlace, Zero, Count, Number, RowName, keywords, meaning_said, word_said, from_zero}
use Rattle.cip_problem.specs.BlockParts.{numbers_from, has_number, is_linking, is_open, blocks_of}
use Rattle.cip_problem.specs.NamesOnce.{StandOnce}
use Rattle.cip_text_rules.specs.NamedRows.{NamedRow, is_named, block_named, row_blocks}
use Rattle.cip_text_rules.specs.BlockRules.{BlockFacts, block_rules, block_fault, block_facts_with, is_no_block, is_bad_word, begun_in, begun_with, count_with, named_with, block_count, block_end_rules, lacks_zero, lacks_count, lacks_number, lacks_block, block_reading}
use Rattle.cip_text_rules.proofs.BlockNumbers.{within, within_below, below_within, part_of}
use Rattle.cip_text_rules.proofs.BlockLaws.{PlaceFits, Fits, fits_first, fits_next, not_false, NoneBroken}
use Rattle.cip_text_rules.specs.BlockSteps.{RowPlace, Unnamed, place_of, block_at, is_placed, BlockState, is_taken, row_place, block_tests, begin_block, begun_after, put_row, rows_after, state_with, count_of, blocks_at, block_end_tests, block_steps}

-- ---- what is kept

-- the place of a row by the names
abbrev pub place_named : List NamedRow → List ℕ → RowPlace
place_named [] name = Unnamed
place_named (row ∷ others) name = if bytes_eq name row.name then place_of row.block else place_named others name

-- whether each of so many blocks was begun
abbrev pub marks : ℕ → List ℕ → List Bool
marks n begun = map (has_number begun) (numbers_from 0 n)

-- a state stands for the facts
pub record Holds (program : Program) (facts : BlockFacts) (state : BlockState) : Type 0 where
  pub place : state.place ≡ facts.place
  pub count : state.count ≡ facts.count
  pub begun : state.begun ≡ marks (block_count facts) facts.begun
  pub rows : state.rows ≡ map (place_named facts.named) program.row_names
  pub fits : Fits program facts
  pub unbegun : facts.count ≡ None → facts.begun ≡ []

-- ---- look-ups

placed_of : (o : Option ℕ) → is_placed (place_of o) ≡ true
placed_of None = refl
placed_of (Some b) = refl

placed_named : (named : List NamedRow) (name : List ℕ) → is_placed (place_named named name) ≡ is_named named name
placed_named [] name = refl
placed_named (row ∷ others) name = go (bytes_eq name row.name) (placed_named others name)
  where
    go : (b : Bool) → is_placed (place_named others name) ≡ is_named others name → is_placed (cond b (place_of row.block) (place_named others name)) ≡ (b || is_named others name)
    go true e = placed_of row.block
    go false e = e

place_shift : (p : RowPlace) (ps : List RowPlace) (o : Option ℕ) → row_place (p ∷ ps) (next o) ≡ row_place ps o
place_shift p ps None = refl
place_shift p ps (Some k) = refl

place_at : (h : List ℕ → RowPlace) (names : List (List ℕ)) (name : List ℕ) → is_in names name ≡ true → row_place (map h names) (number_in names name) ≡ h name
place_at h [] name e = absurd (cc)
place_at h (x ∷ xs) name e = go (bytes_eq name x) refl (sym (is_in-cons x xs name) ∙ e) (place_at h xs name)
  where
    go : (b : Bool) → bytes_eq name x ≡ b → (b || is_in xs name) ≡ true → (is_in xs name ≡ true → row_place (map h xs) (number_in xs name) ≡ h name) → row_place (h x ∷ map h xs) (cond b (Some 0) (next (number_in xs name))) ≡ h name
    go true p e r = ap h (sym (bytes_same name x p))
    go false p e r = place_shift (h x) (map h xs) (number_in xs name) ∙ r e

within_is : (n k : ℕ) → within n k ≡ nat_lt k n
within_is n k = go (within n k) refl (nat_lt k n) refl
  where
    go : (a : Bool) → within n k ≡ a → (b : Bool) → nat_lt k n ≡ b → within n k ≡ nat_lt k n
    go true p b q = p ∙ sym (lt-ltb k n (within_below n k p))
    go false p false q = p ∙ sym q
    go false p true q = let w : within n k ≡ true = below_within n k (ltb-true k n q) in w ∙ sym q

taken_is : (n : ℕ) (begun : List ℕ) (o : Option ℕ) → is_taken (marks n begun) o ≡ is_no_block n begun o
taken_is n begun None = refl
taken_is n begun (Some k) = part_of (has_number begun) true n k ∙ go (within n k) (within_is n k)
  where
    go : (a : Bool) → a ≡ nat_lt k n → cond a (has_number begun k) true ≡ (not (nat_lt k n) || has_number begun k)
    go true e = ap (λ b. not b || has_number begun k) e
    go false e = ap (λ b. not b || has_number begun k) e

-- ---- faults

tests_same : (program : Program) (facts : BlockFacts) (state : BlockState) (now : WordSaying) → Holds program facts state → least (block_tests program state now) ≡ least (block_rules program facts now)
tests_same program facts state (Opens keyword) h = ap (λ c. cond {A = Option ℕ} (is_bad_word c (Opens keyword)) (Some 1) None) h.count
tests_same program facts state OutOfPlace h = refl
tests_same program facts state Zero h = refl
tests_same program facts state (Count number) h = refl
tests_same program facts state (Number number) h =
    ap (λ t. cond {A = Option ℕ} t (Some 3) None) (ap (λ b. is_taken b (from_zero number)) h.begun ∙ taken_is (block_count facts) facts.begun (from_zero number))
tests_same program facts state (RowName block name) h = go (is_in program.row_names name) refl
  where
    go : (b : Bool) → is_in program.row_names name ≡ b
        → ◌≡◌ {A = Option ℕ} (cond (not b) (Some 4) (cond (is_placed (row_place state.rows (number_in program.row_names name))) (Some 5) None)) (cond (not b) (Some 4) (cond (is_named facts.named name) (Some 5) None))
    go false e = refl
    go true e =
        ap (λ t. cond {A = Option ℕ} t (Some 5) None)
        (ap (λ rs. is_placed (row_place rs (number_in program.row_names name))) h.rows
        ∙ ap is_placed (place_at (place_named facts.named) program.row_names name e) ∙ placed_named facts.named name)

-- ---- rows

put_changed : (rows : List RowPlace) (o : Option ℕ) (place : RowPlace) → put_row rows o place ≡ changed Unnamed rows o (λ old. place)
put_changed rows None place = refl
put_changed rows (Some k) place = refl

pub map_same : {X : Type 0} (xs : List X) → map (λ x. x) xs ≡ xs
map_same [] = refl
map_same (x ∷ xs) = ap (λ ys. x ∷ ys) (map_same xs)

pub in_any : (names : List (List ℕ)) (name : List ℕ) → is_in names name ≡ list_any (bytes_eq name) names
in_any [] name = refl
in_any (other ∷ names) name = is_in-cons other names name ∙ ap (λ b. bytes_eq name other || b) (in_any names name)

pub are_apart : (names : List (List ℕ)) → StandOnce names → AreApart names
are_apart [] d = tt
are_apart (name ∷ names) d = (in_any names name ∙ d.0, are_apart names d.1)

named_last : (named : List NamedRow) (row : NamedRow) → is_named named row.name ≡ false → place_named (named ++ row ∷ []) row.name ≡ place_of row.block
named_last [] row e = ap (λ b. cond b (place_of row.block) Unnamed) (bytes_self row.name)
named_last (x ∷ xs) row e = go (bytes_eq row.name x.name) e (named_last xs row)
  where
    go : (b : Bool) → (b || is_named xs row.name) ≡ false → (is_named xs row.name ≡ false → place_named (xs ++ row ∷ []) row.name ≡ place_of row.block) → cond b (place_of x.block) (place_named (xs ++ row ∷ []) row.name) ≡ place_of row.block
    go true e r = absurd (cc)
    go false e r = r e

named_other : (named : List NamedRow) (row : NamedRow) (name : List ℕ) → bytes_eq name row.name ≡ false → place_named (named ++ row ∷ []) name ≡ place_named named name
named_other [] row name e = ap (λ b. cond b (place_of row.block) Unnamed) e
named_other (x ∷ xs) row name e = ap (cond (bytes_eq name x.name) (place_of x.block)) (named_other xs row name e)

row_put : (program : Program) (named : List NamedRow) (block : Option ℕ) (name : List ℕ) → StandOnce program.row_names → is_named named name ≡ false → put_row (map (place_named named) program.row_names) (number_in program.row_names name) (place_of block) ≡ map (place_named (named ++ record { name = name; block = block } ∷ [])) program.row_names
row_put program named block name d e =
    put_changed (map (place_named named) program.row_names) (number_in program.row_names name) (place_of block)
    ∙ ap (λ names. changed Unnamed (map (place_named named) program.row_names) (number_in names name) (λ old. place_of block)) (sym (map_same program.row_names))
    ∙ changed_map Unnamed program.row_names (λ x. x) (place_named named) (place_named (named ++ row ∷ [])) name (λ old. place_of block)
    (subst AreApart (sym (map_same program.row_names)) (are_apart program.row_names d))
    (λ x same. sym (ap (place_named (named ++ row ∷ [])) same ∙ named_last named row e))
    (λ x other. sym (named_other named row x (bytes_flip x name ∙ other)))
  where
    row : NamedRow
    row = record { name = name; block = block }

-- ---- marks

no_marks : (a n : ℕ) → replicate n false ≡ map (has_number []) (numbers_from a n)
no_marks a zero = refl
no_marks a (suc n) = ap (λ bs. false ∷ bs) (no_marks (a + 1) n)

mark_all : (begun : List ℕ) (k a n : ℕ) → k < a → map (has_number begun) (numbers_from a n) ≡ map (has_number (begun ++ k ∷ [])) (numbers_from a n)
mark_all begun k a zero h = refl
mark_all begun k a (suc n) h =
    let p : has_number begun a ≡ has_number (begun ++ k ∷ []) a = sym (list_any-append (λ m. m == a) begun (k ∷ []) ∙ ap (λ b. has_number begun a || (b || false)) (false_from_ne_true (k == a) (λ e. let q : k ≡ a = eqb-true k a e in omega (arith, q, h))) ∙ or_nothing (has_number begun a)) in
    let q = mark_all begun k (a + 1) n (omega (arith, h)) in
    λ i. p i ∷ q i
  where
    or_nothing : (b : Bool) → (b || (false || false)) ≡ b
    or_nothing true = refl
    or_nothing false = refl

mark_at : (begun : List ℕ) (a n k : ℕ) → k < n → set (map (has_number begun) (numbers_from a n)) k true ≡ map (has_number (begun ++ (a + k) ∷ [])) (numbers_from a n)
mark_at begun a zero k h = absurd (omega (arith, h))
mark_at begun a (suc n) zero h =
    let same : a + 0 ≡ a = omega arith in
    let p : true ≡ has_number (begun ++ (a + 0) ∷ []) a = sym (list_any-append (λ m. m == a) begun ((a + 0) ∷ []) ∙ ap (λ b. has_number begun a || (b || false)) (eq-eqb (a + 0) a same) ∙ or_yes (has_number begun a)) in
    let q = mark_all begun (a + 0) (a + 1) n (omega (arith, same)) in
    λ i. p i ∷ q i
  where
    or_yes : (b : Bool) → (b || (true || false)) ≡ true
    or_yes true = refl
    or_yes false = refl
mark_at begun a (suc n) (suc k) h =
    let p : has_number begun a ≡ has_number (begun ++ (a + suc k) ∷ []) a = sym (list_any-append (λ m. m == a) begun ((a + suc k) ∷ []) ∙ ap (λ b. has_number begun a || (b || false)) (false_from_ne_true (a + suc k == a) (λ e. let q : a + suc k ≡ a = eqb-true (a + suc k) a e in omega (arith, q))) ∙ or_nothing (has_number begun a)) in
    let q : set (map (has_number begun) (numbers_from (a + 1) n)) k true ≡ map (has_number (begun ++ (a + suc k) ∷ [])) (numbers_from (a + 1) n) = mark_at begun (a + 1) n k (omega (arith, h)) ∙ ap (λ m. map (has_number (begun ++ m ∷ [])) (numbers_from (a + 1) n)) (add_suc a k) in
    λ i. p i ∷ q i
  where
    or_nothing : (b : Bool) → (b || (false || false)) ≡ b
    or_nothing true = refl
    or_nothing false = refl

    add_suc : (m j : ℕ) → (m + 1) + j ≡ m + suc j
    add_suc m j = omega arith

free_below : (n : ℕ) (begun : List ℕ) (k : ℕ) → is_no_block n begun (Some k) ≡ false → k < n
free_below n begun k e = ltb-true k n (not_false (nat_lt k n) (left_false (not (nat_lt k n)) (has_number begun k) e))

begin_is : (n : ℕ) (begun : List ℕ) (o : Option ℕ) → is_no_block n begun o ≡ false → begin_block (marks n begun) o ≡ marks n (begun ++ begun_in o)
begin_is n begun None e = absurd (cc)
begin_is n begun (Some k) e = mark_at begun 0 n k (free_below n begun k e) ∙ ap (λ m. marks n (begun ++ m ∷ [])) (zero_add k)
  where
    zero_add : (m : ℕ) → 0 + m ≡ m
    zero_add m = omega arith

none_begun : (count : Option ℕ) (begun : List ℕ) (o : Option ℕ) → is_no_block (unwrap_or count 0) begun o ≡ false → count ≡ None → ⊥
none_begun count begun None e d = cc
none_begun count begun (Some k) e d =
    let h : k < unwrap_or count 0 = free_below (unwrap_or count 0) begun k e in
    let z : unwrap_or count 0 ≡ 0 = ap (λ (o : Option ℕ). unwrap_or o 0) d in
    omega (arith, h, z)

-- ---- a word

-- the number of blocks is said only where it wasn't
count_new : (keyword : Option Keyword) (place : WordPlace) (count : Option ℕ) (word : List ℕ) (number : Option ℕ) → PlaceFits count place → meaning_said keyword place word ≡ Count number → count ≡ None
count_new (Some keyword) KeywordDue count word number f e = absurd (cc)
count_new (Some keyword) (NamesOf block) count word number f e = absurd (cc)
count_new (Some keyword) ZeroDue count word number f e = absurd (cc)
count_new (Some keyword) CountDue count word number f e = absurd (cc)
count_new (Some keyword) BlockDue count word number f e = absurd (cc)
count_new None KeywordDue count word number f e = absurd (cc)
count_new None ZeroDue count word number f e = absurd (go _ e)
  where
    go : (b : Bool) → cond b Zero OutOfPlace ≡ Count number → ⊥
    go true d = cc
    go false d = cc
count_new None CountDue count word number f e = f
count_new None BlockDue count word number f e = absurd (cc)
count_new None (NamesOf block) count word number f e = absurd (cc)

-- the parts of a state that aren't those of the facts
record Follows (program : Program) (facts : BlockFacts) (state : BlockState) (now : WordSaying) : Type 0 where
  begun : begun_after state.begun now ≡ marks (unwrap_or (count_with facts.count now) 0) (begun_with facts.begun now)
  rows : rows_after program.row_names state.rows now ≡ map (place_named (named_with facts.named now)) program.row_names
  unbegun : count_with facts.count now ≡ None → begun_with facts.begun now ≡ []

follows : (program : Program) → StandOnce program.row_names → (facts : BlockFacts) (state : BlockState) (now : WordSaying) → Holds program facts state → NoneBroken program facts now → ((number : Option ℕ) → now ≡ Count number → facts.count ≡ None) → Follows program facts state now
follows program d facts state (Opens keyword) h t n = record { begun = h.begun; rows = h.rows; unbegun = h.unbegun }
follows program d facts state OutOfPlace h t n = record { begun = h.begun; rows = h.rows; unbegun = h.unbegun }
follows program d facts state Zero h t n = record { begun = h.begun; rows = h.rows; unbegun = h.unbegun }
follows program d facts state (Count None) h t n = absurd (let e = t.1.0 in cc)
follows program d facts state (Count (Some count)) h t n = record {
  begun = no_marks 0 count ∙ ap (marks count) (sym (h.unbegun (n (Some count) refl)));
  rows = h.rows;
  unbegun = λ e. absurd (cc);
}
follows program d facts state (Number number) h t n = record {
  begun = ap (λ b. begin_block b (from_zero number)) h.begun ∙ begin_is (block_count facts) facts.begun (from_zero number) t.1.1.0;
  rows = h.rows;
  unbegun = λ e. absurd (none_begun facts.count facts.begun (from_zero number) t.1.1.0 e);
}
follows program d facts state (RowName block name) h t n = record {
  begun = h.begun;
  rows = ap (λ rs. put_row rs (number_in program.row_names name) (place_of block)) h.rows ∙ row_put program facts.named block name d t.1.1.1.1.0;
  unbegun = h.unbegun;
}

next_holds : (program : Program) → StandOnce program.row_names → (facts : BlockFacts) (state : BlockState) (word : List ℕ) → Holds program facts state → block_fault program facts word ≡ None → Holds program (block_facts_with facts word) (state_with program state (word_said state.place word))
next_holds program d facts state word h e =
    subst (λ place. Holds program (block_facts_with facts word) (state_with program state (word_said place word))) (sym h.place)
    (go (follows program d facts state (word_said facts.place word) h (kept (block_rules program facts (word_said facts.place word)) e)
    (λ number same. count_new (meaning_in keywords word) facts.place facts.count word number h.fits.place same)))
  where
    go : Follows program facts state (word_said facts.place word) → Holds program (block_facts_with facts word) (state_with program state (word_said facts.place word))
    go f = record {
      place = refl;
      count = ap (λ count. count_with count (word_said facts.place word)) h.count;
      begun = f.begun;
      rows = f.rows;
      fits = fits_next program facts word e h.fits;
      unbegun = f.unbegun;
    }

-- ---- the end

block_of_place : (o : Option ℕ) → block_at (place_of o) ≡ o
block_of_place None = refl
block_of_place (Some b) = refl

block_of_name : (named : List NamedRow) (name : List ℕ) → block_at (place_named named name) ≡ block_named named name
block_of_name [] name = refl
block_of_name (row ∷ others) name = go (bytes_eq name row.name) (block_of_name others name)
  where
    go : (b : Bool) → block_at (place_named others name) ≡ block_named others name → block_at (cond b (place_of row.block) (place_named others name)) ≡ cond b row.block (block_named others name)
    go true e = block_of_place row.block
    go false e = e

blocks_same : (named : List NamedRow) (names : List (List ℕ)) → map block_at (map (place_named named) names) ≡ map (block_named named) names
blocks_same named [] = refl
blocks_same named (name ∷ names) = let p = block_of_name named name in let q = blocks_same named names in λ i. p i ∷ q i

row_blocks_are : (program : Program) (facts : BlockFacts) (state : BlockState) → Holds program facts state → blocks_at state ≡ row_blocks program facts.named
row_blocks_are program facts state h = ap (map block_at) h.rows ∙ blocks_same facts.named program.row_names

unmarked : (begun : List ℕ) (a n : ℕ) → list_any not (map (has_number begun) (numbers_from a n)) ≡ list_any (λ block. not (has_number begun block)) (numbers_from a n)
unmarked begun a zero = refl
unmarked begun a (suc n) = ap (λ b. not (has_number begun a) || b) (unmarked begun (a + 1) n)

lacks_is : (program : Program) (facts : BlockFacts) (state : BlockState) → Holds program facts state → (is_none state.count || list_any not state.begun) ≡ lacks_block facts
lacks_is program facts state h =
    let c = h.count in
    let b : list_any not state.begun ≡ list_any (λ block. not (has_number facts.begun block)) (numbers_from 0 (block_count facts)) = ap (list_any not) h.begun ∙ unmarked facts.begun 0 (block_count facts) in
    λ i. is_none (c i) || b i

-- the rules behind the last line, by what they look at
abbrev end_kind : Program → WordPlace → ℕ → List (Option ℕ) → Bool → Option ℕ
end_kind program place n bs lacks =
    cond (lacks_zero place) (Some 1)
    (cond (lacks_count place) (Some 2)
    (cond (lacks_number place) (Some 3)
    (cond (list_any (is_linking program n bs) (numbers_from 0 (columns program))) (Some 6)
    (cond (list_any (is_open program n bs) (numbers_from 0 (columns program))) (Some 7) (cond lacks (Some 8) None)))))

end_same : (program : Program) (facts : BlockFacts) (state : BlockState) → Holds program facts state → least (block_end_tests program state) ≡ least (block_end_rules program facts)
end_same program facts state h =
    let p = h.place in
    let c = h.count in
    let b = row_blocks_are program facts state h in
    let l = lacks_is program facts state h in
    λ i. end_kind program (p i) (unwrap_or (c i) 0) (b i) (l i)

result_same : (program : Program) (facts : BlockFacts) (state : BlockState) → Holds program facts state → blocks_of program (count_of state) (blocks_at state) ≡ blocks_of program (block_count facts) (row_blocks program facts.named)
result_same program facts state h =
    let c = h.count in
    let b = row_blocks_are program facts state h in
    λ i. blocks_of program (unwrap_or (c i) 0) (b i)

unnamed : (names : List (List ℕ)) → replicate (length names) Unnamed ≡ map (place_named []) names
unnamed [] = refl
unnamed (name ∷ names) = ap (λ ps. Unnamed ∷ ps) (unnamed names)

pub stands : (program : Program) → StandOnce program.row_names → StandsFor (block_reading program) (block_steps program) (Holds program)
stands program d = record {
  items = refl;
  long = refl;
  start = record { place = refl; count = refl; begun = refl; rows = unnamed program.row_names; fits = fits_first program; unbegun = λ e. refl };
  fault = λ facts state word h. ap (λ place. least (block_tests program state (word_said place word))) h.place ∙ tests_same program facts state (word_said facts.place word) h;
  next = λ facts state word h e. next_holds program d facts state word h e;
  end_fault = λ facts state h. end_same program facts state h;
  result = λ facts state h e. result_same program facts state h;
}
