-- One pass over the rows finds the owner of each column.
use Rattle.std.proofs.Common.{◌≡◌, ◌≢◌, ◌⊎◌, inl, inr, ℕ, zero, suc, ◌+◌, ◌<◌, ◌==◌, Bool, true, false, cond, not, ◌&&◌, ◌||◌, List, [], ◌∷◌, length, Option, None, Some, refl, sym, ap, subst, ◌∙◌, get_or, set, arith}
use Rattle.std.specs.Prelude.{fold, is_some, replicate, nat_lt, All, IfSome}
use Rattle.std.specs.List.{filter, list_any}
use Rattle.std.proofs.lemmas.List.{length-set, length-replicate, get_or-set_same, get_or-set_other}
use Rattle.std.proofs.lemmas.List.Elements.{All-head, All-tail}
use Rattle.std.proofs.lemmas.Bool.{eq-eqb, eqb-true, false_from_ne_true, or_cases, or_from, or_left, and_from, and_right, or_right}
use Rattle.cip_problem.specs.Activity.{StandsBelow}
use Rattle.cip_problem.specs.Program.{Term, Row, Program}
use Rattle.cip_problem.specs.WellFormed.{columns}
use Rattle.cip_text_rules.proofs.Quiet.{left_false, right_false}
use Rattle.cip_problem.specs.BlockParts.{numbers_from, has_number, is_block, stands_on, has_entry, is_column_of, blocks_with, is_linking}
use Rattle.cip_text_rules.proofs.BlockNumbers.{within, within_below, below_within, passes_below, passes_item, chosen, none_of, not_empty, one_number, EntryAt, entry_found}
use Rattle.cip_text_rules.specs.BlockOwners.{Owners, no_owners, owner_at, owned_at, entry_owned, row_owned, owners_from, owners_of, OwnersTell}
use Rattle.cip_text_rules.proofs.BlockLaws.{not_false, not_true, block_is, is_this}
use Rattle.cip_text_rules.proofs.SemiNamed.{or_none, or_assoc}
use Rattle.cip_rational.proofs.InRange.{both_left, both_right}

-- ---- what the owners are, by the entries that were met

-- an entry of a column in a row of a block was met
abbrev Met : Type 0
Met = ℕ → ℕ → Bool

-- two blocks have an entry of one column
record Linked (n : ℕ) (met : Met) : Type 0 where
  column : ℕ
  first : ℕ
  second : ℕ
  below : column < n
  has_first : met first column ≡ true
  has_second : met second column ≡ true
  differ : first ≢ second

record Tells (n : ℕ) (met : Met) (owners : Owners) : Type 0 where
  size : length owners.blocks ≡ n
  owner : (j b : ℕ) → owner_at owners j ≡ Some b → met b j ≡ true
  none : (j b : ℕ) → j < n → owner_at owners j ≡ None → met b j ≡ false
  quiet : owners.links ≡ false → (j b : ℕ) → j < n → met b j ≡ true → owner_at owners j ≡ Some b
  loud : owners.links ≡ true → Linked n met

tells_same : (n : ℕ) (met other : Met) (owners : Owners) → ((b j : ℕ) → met b j ≡ other b j) → Tells n met owners → Tells n other owners
tells_same n met other owners same t = record {
  size = t.size;
  owner = λ j b e. sym (same b j) ∙ t.owner j b e;
  none = λ j b h e. sym (same b j) ∙ t.none j b h e;
  quiet = λ q j b h e. t.quiet q j b h (same b j ∙ e);
  loud = λ q.
      let l = t.loud q in
      record {
        column = l.column;
        first = l.first;
        second = l.second;
        below = l.below;
        has_first = sym (same l.first l.column) ∙ l.has_first;
        has_second = sym (same l.second l.column) ∙ l.has_second;
        differ = l.differ;
      };
}

-- ---- tests

-- one entry more
abbrev met_with : Met → (block column : ℕ) → Met
met_with met block column b j = met b j || (block == b && column == j)

met_before : (met : Met) (block column b j : ℕ) → met b j ≡ true → met_with met block column b j ≡ true
met_before met block column b j e = or_left (met b j) (block == b && column == j) e

met_now : (met : Met) (block column : ℕ) → met_with met block column block column ≡ true
met_now met block column = or_right (met block column) (block == block && column == column) (and_from (block == block) (column == column) (eq-eqb block block refl) (eq-eqb column column refl))

met_elsewhere : (met : Met) (block column b j : ℕ) → j ≢ column → met b j ≡ false → met_with met block column b j ≡ false
met_elsewhere met block column b j n e = or_from (met b j) (block == b && column == j) e (and_right (block == b) (column == j) (false_from_ne_true (column == j) (λ q. n (sym (eqb-true column j q)))))

linked_before : (n : ℕ) (met : Met) (block column : ℕ) → Linked n met → Linked n (met_with met block column)
linked_before n met block column l = record {
  column = l.column;
  first = l.first;
  second = l.second;
  below = l.below;
  has_first = met_before met block column l.first l.column l.has_first;
  has_second = met_before met block column l.second l.column l.has_second;
  differ = l.differ;
}

-- which column this is
same_or_other : (j column : ℕ) → (j ≡ column) ⊎ (j ≢ column)
same_or_other j column = go (j == column) refl
  where
    go : (t : Bool) → (j == column) ≡ t → (j ≡ column) ⊎ (j ≢ column)
    go true e = inl (eqb-true j column e)
    go false e = inr (λ p. let q : (j == column) ≡ true = eq-eqb j column p in cc)

-- ---- one entry

-- the first entry of a column
new_owner : (n : ℕ) (met : Met) (owners : Owners) (block column : ℕ) → column < n → owner_at owners column ≡ None → Tells n met owners → Tells n (met_with met block column) (owned_at None block column owners)
new_owner n met owners block column h e t = record {
  size = length-set owners.blocks column (Some block) ∙ t.size;
  owner = λ j b p. owner j b p (same_or_other j column);
  none = λ j b k p. none j b k p (same_or_other j column);
  quiet = λ q j b k p. quiet q j b k p (same_or_other j column);
  loud = λ q. linked_before n met block column (t.loud q);
}
  where
    here : get_or (set owners.blocks column (Some block)) column None ≡ Some block
    here = get_or-set_same owners.blocks column (Some block) None (subst (λ (m : ℕ). column < m) (sym t.size) h)

    there : (j : ℕ) → j ≢ column → get_or (set owners.blocks column (Some block)) j None ≡ get_or owners.blocks j None
    there j k = get_or-set_other owners.blocks column j (Some block) None k

    owner : (j b : ℕ) → get_or (set owners.blocks column (Some block)) j None ≡ Some b → (j ≡ column) ⊎ (j ≢ column) → met_with met block column b j ≡ true
    owner j b p (inl k) =
        let q : Some block ≡ Some b = sym here ∙ ap (λ m. get_or (set owners.blocks column (Some block)) m None) (sym k) ∙ p in
        let r : block ≡ b = cc in
        ap (met_with met block column b) k ∙ ap (λ m. met_with met block column m column) (sym r) ∙ met_now met block column
    owner j b p (inr k) = met_before met block column b j (t.owner j b (sym (there j k) ∙ p))

    none : (j b : ℕ) → j < n → get_or (set owners.blocks column (Some block)) j None ≡ None → (j ≡ column) ⊎ (j ≢ column) → met_with met block column b j ≡ false
    none j b l p (inl k) =
        let q : Some block ≡ None = sym here ∙ ap (λ m. get_or (set owners.blocks column (Some block)) m None) (sym k) ∙ p in
        absurd (cc)
    none j b l p (inr k) = met_elsewhere met block column b j k (t.none j b l (sym (there j k) ∙ p))

    quiet : owners.links ≡ false → (j b : ℕ) → j < n → met_with met block column b j ≡ true → (j ≡ column) ⊎ (j ≢ column) → get_or (set owners.blocks column (Some block)) j None ≡ Some b
    quiet q j b l p (inl k) =
        let gone : met b j ≡ false = ap (met b) k ∙ t.none column b h e in
        let now : (block == b && column == j) ≡ true = second (met b j) (block == b && column == j) gone p in
        ap (λ m. get_or (set owners.blocks column (Some block)) m None) k ∙ here ∙ ap Some (eqb-true block b (both_left (block == b) (column == j) now))
      where
        second : (x y : Bool) → x ≡ false → (x || y) ≡ true → y ≡ true
        second false y e d = d
        second true y e d = absurd (cc)
    quiet q j b l p (inr k) = there j k ∙ t.quiet q j b l (first (met b j) refl)
      where
        first : (x : Bool) → met b j ≡ x → met b j ≡ true
        first true e = e
        first false e = let z : met_with met block column b j ≡ false = met_elsewhere met block column b j k e in absurd (cc)

-- a later entry of a column
old_owner : (n : ℕ) (met : Met) (owners : Owners) (owner block column : ℕ) → column < n → owner_at owners column ≡ Some owner → Tells n met owners → Tells n (met_with met block column) (owned_at (Some owner) block column owners)
old_owner n met owners owner block column h e t = record {
  size = t.size;
  owner = λ j b p. met_before met block column b j (t.owner j b p);
  none = λ j b k p. met_elsewhere met block column b j (λ s. let q : None ≡ Some owner = sym p ∙ ap (owner_at owners) s ∙ e in cc) (t.none j b k p);
  quiet = λ q j b k p. quiet (left_false owners.links _ q) (not_false (owner == block) (right_false owners.links _ q)) j b k (or_cases (met b j) (block == b && column == j) p);
  loud = λ q. loud (or_cases owners.links (not (owner == block)) q);
}
  where
    quiet : owners.links ≡ false → (owner == block) ≡ true → (j b : ℕ) → j < n → (met b j ≡ true) ⊎ ((block == b && column == j) ≡ true) → owner_at owners j ≡ Some b
    quiet q s j b k (inl p) = t.quiet q j b k p
    quiet q s j b k (inr p) =
        let c : column ≡ j = eqb-true column j (both_right (block == b) (column == j) p) in
        let d : owner ≡ b = eqb-true owner block s ∙ eqb-true block b (both_left (block == b) (column == j) p) in
        ap (owner_at owners) (sym c) ∙ e ∙ ap Some d

    loud : (owners.links ≡ true) ⊎ (not (owner == block) ≡ true) → Linked n (met_with met block column)
    loud (inl q) = linked_before n met block column (t.loud q)
    loud (inr q) = record {
      column = column;
      first = owner;
      second = block;
      below = h;
      has_first = met_before met block column owner column (t.owner column owner e);
      has_second = met_now met block column;
      differ = λ p. let z : (owner == block) ≡ true = eq-eqb owner block p in let w : (owner == block) ≡ false = not_true (owner == block) q in cc;
    }

entry_tells : (n : ℕ) (met : Met) (owners : Owners) (block column : ℕ) → column < n → Tells n met owners → Tells n (met_with met block column) (entry_owned block owners column)
entry_tells n met owners block column h t = go (owner_at owners column) refl
  where
    go : (o : Option ℕ) → owner_at owners column ≡ o → Tells n (met_with met block column) (owned_at o block column owners)
    go None e = new_owner n met owners block column h e t
    go (Some owner) e = old_owner n met owners owner block column h e t

-- ---- one row, and all rows

regroup : (m c d l : Bool) → ((m || (c && d)) || (c && l)) ≡ (m || (c && (d || l)))
regroup true c d l = refl
regroup false true d l = refl
regroup false false d l = refl

nothing_met : (m c : Bool) → m ≡ (m || (c && false))
nothing_met true c = refl
nothing_met false true = refl
nothing_met false false = refl

terms_tell : (n : ℕ) (block : ℕ) (terms : List Term) (met : Met) (owners : Owners) → StandsBelow n terms → Tells n met owners → Tells n (λ b j. met b j || (block == b && list_any (λ t. t.column == j) terms)) (fold (λ o t. entry_owned block o t.column) owners terms)
terms_tell n block [] met owners s t = tells_same n met (λ b j. met b j || (block == b && false)) owners (λ b j. nothing_met (met b j) (block == b)) t
terms_tell n block (x ∷ xs) met owners s t =
    tells_same n (λ b j. met_with met block x.column b j || (block == b && list_any (λ y. y.column == j) xs))
    (λ b j. met b j || (block == b && (x.column == j || list_any (λ y. y.column == j) xs)))
    (fold (λ o y. entry_owned block o y.column) (entry_owned block owners x.column) xs)
    (λ b j. regroup (met b j) (block == b) (x.column == j) (list_any (λ y. y.column == j) xs))
    (terms_tell n block xs (met_with met block x.column) (entry_owned block owners x.column) (All-tail (λ y. y.column < n) x xs s)
    (entry_tells n met owners block x.column (All-head (λ y. y.column < n) x xs s) t))

row_tells : (n : ℕ) (block : Option ℕ) (row : Row) (met : Met) (owners : Owners) → StandsBelow n row.terms → Tells n met owners → Tells n (λ b j. met b j || (is_block b block && stands_on j row)) (row_owned block row owners)
row_tells n None row met owners s t = tells_same n met (λ b j. met b j || false) owners (λ b j. or_nothing (met b j)) t
  where
    or_nothing : (m : Bool) → m ≡ (m || false)
    or_nothing true = refl
    or_nothing false = refl
row_tells n (Some block) row met owners s t = terms_tell n block row.terms met owners s t

rows_tell : (n : ℕ) (bs : List (Option ℕ)) (rows : List Row) (met : Met) (owners : Owners) → All (λ row. StandsBelow n row.terms) rows → Tells n met owners → Tells n (λ b j. met b j || has_entry b j bs rows) (owners_from owners bs rows)
rows_tell n [] rows met owners s t = tells_same n met (λ b j. met b j || false) owners (λ b j. or_none (met b j)) t
rows_tell n (block ∷ bs) [] met owners s t = tells_same n met (λ b j. met b j || false) owners (λ b j. or_none (met b j)) t
rows_tell n (block ∷ bs) (row ∷ rows) met owners s t =
    tells_same n (λ b j. (met b j || (is_block b block && stands_on j row)) || has_entry b j bs rows)
    (λ b j. met b j || ((is_block b block && stands_on j row) || has_entry b j bs rows))
    (owners_from (row_owned block row owners) bs rows)
    (λ b j. or_assoc (met b j) (is_block b block && stands_on j row) (has_entry b j bs rows))
    (rows_tell n bs rows (λ b j. met b j || (is_block b block && stands_on j row)) (row_owned block row owners) (All-tail (λ r. StandsBelow n r.terms) row rows s)
    (row_tells n block row met owners (All-head (λ r. StandsBelow n r.terms) row rows s) t))

no_owner : (n j : ℕ) → get_or (replicate {A = Option ℕ} n None) j None ≡ None
no_owner zero zero = refl
no_owner zero (suc j) = refl
no_owner (suc n) zero = refl
no_owner (suc n) (suc j) = no_owner n j

first_tells : (n : ℕ) → Tells n (λ b j. false) (no_owners n)
first_tells n = record {
  size = length-replicate n None;
  owner = λ j b e. absurd (let q : None ≡ Some b = sym (no_owner n j) ∙ e in cc);
  none = λ j b h e. refl;
  quiet = λ q j b h e. absurd (cc);
  loud = λ q. absurd (cc);
}

program_tells : (program : Program) (bs : List (Option ℕ)) → All (λ row. StandsBelow (columns program) row.terms) program.rows → Tells (columns program) (λ b j. is_column_of program bs b j) (owners_of program bs)
program_tells program bs s = rows_tell (columns program) bs program.rows (λ b j. false) (no_owners (columns program)) s (first_tells (columns program))

-- ---- blocks of a column

-- a block with an entry is among so many
block_within : (program : Program) (count : ℕ) (bs : List (Option ℕ)) → All (λ o. IfSome o (λ b. b < count)) bs → (b j : ℕ) → is_column_of program bs b j ≡ true → within count b ≡ true
block_within program count bs h b j e =
    let f : EntryAt b j bs program.rows = entry_found b j bs program.rows e in
    let l : f.row < length bs = passes_below (is_block b) bs f.row f.of_block in
    let o : get_or bs f.row None ≡ Some b = block_is b (get_or bs f.row None) (sym (passes_item (is_block b) bs f.row None l) ∙ f.of_block) in
    below_within count b (subst (λ (x : Option ℕ). IfSome x (λ c. c < count)) o (h f.row None l))

among : (program : Program) (count : ℕ) (bs : List (Option ℕ)) → All (λ o. IfSome o (λ b. b < count)) bs → (b j : ℕ) → is_column_of program bs b j ≡ true → has_number (blocks_with program count bs j) b ≡ true
among program count bs h b j e = chosen (λ block. is_column_of program bs block j) count b ∙ and_from (within count b) (is_column_of program bs b j) (block_within program count bs h b j e) e

-- a test that no two numbers pass chooses one at the most
none_chosen : (p : ℕ → Bool) (a n : ℕ) → ((k : ℕ) → p (a + k) ≡ false) → length (filter p (numbers_from a n)) ≡ 0
none_chosen p a zero h = refl
none_chosen p a (suc n) h = go (p a) (ap p same ∙ h 0) (none_chosen p (a + 1) n (λ k. ap p (add_suc a k) ∙ h (suc k)))
  where
    same : a ≡ a + 0
    same = omega arith

    add_suc : (m k : ℕ) → (m + 1) + k ≡ m + suc k
    add_suc m k = omega arith

    go : (t : Bool) → t ≡ false → length (filter p (numbers_from (a + 1) n)) ≡ 0 → length (cond t (a ∷ filter p (numbers_from (a + 1) n)) (filter p (numbers_from (a + 1) n))) ≡ 0
    go true e r = absurd (cc)
    go false e r = r

one_chosen : (p : ℕ → Bool) (a n : ℕ) → ((b c : ℕ) → p b ≡ true → p c ≡ true → b ≡ c) → nat_lt 1 (length (filter p (numbers_from a n))) ≡ false
one_chosen p a zero h = refl
one_chosen p a (suc n) h = go (p a) refl (one_chosen p (a + 1) n h)
  where
    later : p a ≡ true → (k : ℕ) → p ((a + 1) + k) ≡ false
    later e k = false_from_ne_true (p ((a + 1) + k)) (λ q. let s : a ≡ (a + 1) + k = h a ((a + 1) + k) e q in omega (arith, s))

    go : (t : Bool) → p a ≡ t → nat_lt 1 (length (filter p (numbers_from (a + 1) n))) ≡ false → nat_lt 1 (length (cond t (a ∷ filter p (numbers_from (a + 1) n)) (filter p (numbers_from (a + 1) n)))) ≡ false
    go true e r = ap (λ m. nat_lt 1 (suc m)) (none_chosen p (a + 1) n (later e))
    go false e r = r

any_within : (p : ℕ → Bool) (n k : ℕ) → within n k ≡ true → p k ≡ true → list_any p (numbers_from 0 n) ≡ true
any_within p n k w e = go (list_any p (numbers_from 0 n)) refl
  where
    go : (t : Bool) → list_any p (numbers_from 0 n) ≡ t → list_any p (numbers_from 0 n) ≡ true
    go true q = q
    go false q = let z : p k ≡ false = none_of p n k q w in absurd (cc)

no_number : (p : ℕ → Bool) (a n : ℕ) → ((k : ℕ) → within n k ≡ true → p (a + k) ≡ false) → list_any p (numbers_from a n) ≡ false
no_number p a zero h = refl
no_number p a (suc n) h = or_from (p a) (list_any p (numbers_from (a + 1) n)) (ap p same ∙ h 0 refl) (no_number p (a + 1) n (λ k w. ap p (add_suc a k) ∙ h (suc k) w))
  where
    same : a ≡ a + 0
    same = omega arith

    add_suc : (m k : ℕ) → (m + 1) + k ≡ m + suc k
    add_suc m k = omega arith

-- ---- what the owners tell

links_are : (program : Program) (count : ℕ) (bs : List (Option ℕ)) → All (λ o. IfSome o (λ b. b < count)) bs → Tells (columns program) (λ b j. is_column_of program bs b j) (owners_of program bs) → list_any (is_linking program count bs) (numbers_from 0 (columns program)) ≡ (owners_of program bs).links
links_are program count bs h t = go (owners_of program bs).links refl
  where
    two : Linked (columns program) (λ b j. is_column_of program bs b j) → list_any (is_linking program count bs) (numbers_from 0 (columns program)) ≡ true
    two l = any_within (is_linking program count bs) (columns program) l.column (below_within (columns program) l.column l.below) (linking (nat_lt 1 (length (blocks_with program count bs l.column))) refl)
      where
        linking : (x : Bool) → nat_lt 1 (length (blocks_with program count bs l.column)) ≡ x → nat_lt 1 (length (blocks_with program count bs l.column)) ≡ true
        linking true e = e
        linking false e = absurd (l.differ (one_number (blocks_with program count bs l.column) l.first l.second e (among program count bs h l.first l.column l.has_first) (among program count bs h l.second l.column l.has_second)))

    one : (owners_of program bs).links ≡ false → (j : ℕ) → within (columns program) j ≡ true → is_linking program count bs j ≡ false
    one q j w = one_chosen (λ block. is_column_of program bs block j) 0 count
        (λ b c e d.
        let r : Some b ≡ Some c = sym (t.quiet q j b (within_below (columns program) j w) e) ∙ t.quiet q j c (within_below (columns program) j w) d in
        cc)

    go : (x : Bool) → (owners_of program bs).links ≡ x → list_any (is_linking program count bs) (numbers_from 0 (columns program)) ≡ (owners_of program bs).links
    go true e = two (t.loud e) ∙ sym e
    go false e = no_number (is_linking program count bs) 0 (columns program) (λ k w. ap (is_linking program count bs) (zero_add k) ∙ one e k w) ∙ sym e
      where
        zero_add : (k : ℕ) → 0 + k ≡ k
        zero_add k = omega arith

owned_is : (program : Program) (count : ℕ) (bs : List (Option ℕ)) → All (λ o. IfSome o (λ b. b < count)) bs → Tells (columns program) (λ b j. is_column_of program bs b j) (owners_of program bs) → (j : ℕ) → j < columns program → nat_lt 0 (length (blocks_with program count bs j)) ≡ is_some (owner_at (owners_of program bs) j)
owned_is program count bs h t j l = go (owner_at (owners_of program bs) j) refl
  where
    zero_add : (k : ℕ) → 0 + k ≡ k
    zero_add k = omega arith

    go : (o : Option ℕ) → owner_at (owners_of program bs) j ≡ o → nat_lt 0 (length (blocks_with program count bs j)) ≡ is_some o
    go None e = ap (nat_lt 0) (none_chosen (λ block. is_column_of program bs block j) 0 count (λ k. ap (λ block. is_column_of program bs block j) (zero_add k) ∙ t.none j k l e))
    go (Some b) e = not_empty (blocks_with program count bs j) b (among program count bs h b j (t.owner j b e))

owner_is : (program : Program) (bs : List (Option ℕ)) → Tells (columns program) (λ b j. is_column_of program bs b j) (owners_of program bs) → (b j : ℕ) → j < columns program → (owners_of program bs).links ≡ false → is_column_of program bs b j ≡ is_block b (owner_at (owners_of program bs) j)
owner_is program bs t b j l q = go (is_column_of program bs b j) refl (is_block b (owner_at (owners_of program bs) j)) refl
  where
    go : (x : Bool) → is_column_of program bs b j ≡ x → (y : Bool) → is_block b (owner_at (owners_of program bs) j) ≡ y → is_column_of program bs b j ≡ is_block b (owner_at (owners_of program bs) j)
    go true e y d = e ∙ sym (is_this b (owner_at (owners_of program bs) j) (t.quiet q j b l e))
    go false e false d = e ∙ sym d
    go false e true d = let z : is_column_of program bs b j ≡ true = t.owner j b (block_is b (owner_at (owners_of program bs) j) d) in absurd (cc)

pub owners_are_right : (program : Program) (count : ℕ) (bs : List (Option ℕ)) → All (λ row. StandsBelow (columns program) row.terms) program.rows → All (λ o. IfSome o (λ b. b < count)) bs → OwnersTell program count bs
owners_are_right program count bs s h =
    let t = program_tells program bs s in
    record { links = links_are program count bs h t; owned = owned_is program count bs h t; owner = owner_is program bs t }
