-- Rows that are found by the index of a pool.
use Rattle.std.proofs.Common.{◌≡◌, ◌≢◌, ℕ, zero, suc, ◌+◌, ◌<◌, ◌≤◌, Bool, true, false, cond, List, [], ◌∷◌, ◌++◌, length, get_or, insert, filter, All, Contains, refl, sym, ap, ◌∙◌, subst, arith, inl, inr, true≢false, IsTrue, MatchBool, ◌↔◌, nat_le, not, ◌==◌, le-leb}
use Rattle.std.specs.List.{AllWithin, HoldsAt}
use Rattle.std.specs.List.Sorted.{IsNonDecreasingBy}
use Rattle.std.proofs.lemmas.Bool.{cases_eq, cases_lt}
use Rattle.std.proofs.lemmas.List.Elements.{All-weaker, All-contains, All-push, All-filter, filter_passes}
use Rattle.std.proofs.lemmas.List.Kept.{IsNonDecreasingBy-filter}
use Rattle.std.proofs.lemmas.List.Sorted.{IsNonDecreasingBy-insert}
use Rattle.std.proofs.lemmas.List.Edits.{length-insert, get_or-insert_below, get_or-insert_at, get_or-insert_above}
use Rattle.cip_problem.specs.Program.{Row, Sides}
use Rattle.cip_cert.specs.declared.rows.PoolRow.{PoolRow}
use Rattle.cip_cert.specs.Pool.{AreRising}
use Rattle.cip_cert.specs.Resting.{released}
use Rattle.cip_rows.specs.declared.index.Entry.{Entry}
use Rattle.cip_rows.specs.Mixed.{fingerprint}
use Rattle.cip_rows.specs.RowIndex.{AreSorted, IsIndex, IsEntered, entry_of}
use Rattle.cip_rows.specs.RowPools.{Serves, IsKnown, IsUnknown}

-- ---- looking up

-- no row whose entry this is serves
abbrev pub IsPassed : List PoolRow → Row → List Sides → Entry → Type 0
IsPassed rows row box entry = All (λ kept. entry ≡ entry_of kept → ¬ Serves row box kept) rows

pub passed_other : (rows : List PoolRow) (row : Row) (box : List Sides) (print : ℕ) (entry : Entry) → print ≡ fingerprint row → entry.print ≢ print → IsPassed rows row box entry
passed_other rows row box print entry p n k d l e s = n (ap (λ (x : Entry). x.print) e ∙ ap fingerprint s.equal ∙ sym p)

pub passed_before : (rows : List PoolRow) (row : Row) (box : List Sides) (entries : List Entry) (print at : ℕ) → print ≡ fingerprint row → AllWithin (λ (entry : Entry). entry.print < print) entries 0 at → AllWithin (IsPassed rows row box) entries 0 at
passed_before rows row box entries print at p before k d l h = passed_other rows row box print (get_or entries k d) p (λ e. absurd (omega (arith, e, before k d l h)))

entry_default : (entries : List Entry) (i : ℕ) (d e : Entry) → i < length entries → get_or entries i d ≡ get_or entries i e
entry_default [] i d e h = absurd (omega (arith, h))
entry_default (x ∷ xs) zero d e h = refl
entry_default (x ∷ xs) (suc i) d e h = entry_default xs i d e (omega (arith, h))

-- an entry of which no row with its id serves
pub passed_next : (rows : List PoolRow) (row : Row) (box : List Sides) (entries : List Entry) (at : ℕ) (entry : Entry) → at < length entries → AllWithin (IsPassed rows row box) entries 0 at → All (λ (kept : PoolRow). kept.id ≡ (get_or entries at entry).id → ¬ Serves row box kept) rows → AllWithin (IsPassed rows row box) entries 0 (at + 1)
passed_next rows row box entries at entry l b h k d z m j e n f s = elim (cases_lt k at) [
  | inl below ↦ b k d z below j e n f s
  | inr above ↦
      let same : k ≡ at = omega (arith, above, m) in
      h j e n (ap (λ (x : Entry). x.id) (sym f) ∙ ap (λ i. (get_or entries i d).id) same ∙ ap (λ (x : Entry). x.id) (entry_default entries at d entry l)) s
]

-- after the last entry with the fingerprint
pub passed_rest : (rows : List PoolRow) (row : Row) (box : List Sides) (entries : List Entry) (print at : ℕ) (entry : Entry) → print ≡ fingerprint row → AreSorted entries → at < length entries → (get_or entries at entry).print ≢ print → print ≤ (get_or entries at entry).print → AllWithin (IsPassed rows row box) entries 0 at → AllWithin (IsPassed rows row box) entries 0 (length entries)
passed_rest rows row box entries print at entry p sorted l n from b k d z m = elim (cases_lt k at) [
  | inl h ↦ b k d z h
  | inr h ↦ passed_other rows row box print (get_or entries k d) p (λ e. absurd (n (omega (arith, e, from, sorted at k entry h m, ap (λ (x : Entry). x.print) (entry_default entries k d entry m)))))
]

pub unknown : (rows : List PoolRow) (row : Row) (box : List Sides) (entries : List Entry) → IsIndex rows entries → AllWithin (IsPassed rows row box) entries 0 (length entries) → IsUnknown rows row box
unknown rows row box entries index passed k d l s =
    All-contains (IsPassed rows row box) entries (entry_of (get_or rows k d)) (λ i e m. passed i e (omega arith) m) (index.covers k d l) k d l refl s

-- ---- the row with an id

row_default : (rows : List PoolRow) (i : ℕ) (d e : PoolRow) → i < length rows → get_or rows i d ≡ get_or rows i e
row_default [] i d e h = absurd (omega (arith, h))
row_default (x ∷ xs) zero d e h = refl
row_default (x ∷ xs) (suc i) d e h = row_default xs i d e (omega (arith, h))

pub known_as : (rows : List PoolRow) (row : Row) (box : List Sides) (id place : ℕ) (kept : PoolRow) → place < length rows → HoldsAt (λ (r : PoolRow). r.id ≡ id) rows place → kept ≡ get_or rows place kept → Serves row box kept → IsKnown rows row box id
known_as rows row box id place kept l h r s = (place, kept, l, sym r, (ap (λ (x : PoolRow). x.id) r ∙ h kept, s))

pub not_known_as : (rows : List PoolRow) (row : Row) (box : List Sides) (id place : ℕ) (kept : PoolRow) → AreRising rows → place < length rows → HoldsAt (λ (r : PoolRow). r.id ≡ id) rows place → kept ≡ get_or rows place kept → ¬ Serves row box kept → All (λ (r : PoolRow). r.id ≡ id → ¬ Serves row box r) rows
not_known_as rows row box id place kept rising l h r n k d m e s = elim (cases_eq k place) [
  | inl f ↦ n (subst (Serves row box) (ap (λ i. get_or rows i d) f ∙ row_default rows place d kept l ∙ sym r) s)
  | inr f ↦
      elim (cases_lt k place) [
        | inl b ↦ absurd (omega (arith, rising k place d b l, e, h d))
        | inr b ↦ absurd (omega (arith, rising place k d (omega (arith, b, f)) m, e, h d))
      ]
]

pub known_tested : (rows : List PoolRow) (row : Row) (box : List Sides) (id place : ℕ) (kept : PoolRow) → AreRising rows → place < length rows → HoldsAt (λ (r : PoolRow). r.id ≡ id) rows place → kept ≡ get_or rows place kept → (t : Bool) → (IsTrue t ↔ Serves row box kept) → MatchBool t (IsKnown rows row box id) (All (λ (r : PoolRow). r.id ≡ id → ¬ Serves row box r) rows)
known_tested rows row box id place kept rising l h r true (a, b) = known_as rows row box id place kept l h r (a refl)
known_tested rows row box id place kept rising l h r false (a, b) = not_known_as rows row box id place kept rising l h r (λ s. true≢false (sym (b s)))

pub no_such_id : (rows : List PoolRow) (id place : ℕ) → AreRising rows → AllWithin (λ (kept : PoolRow). kept.id < id) rows 0 place → AllWithin (λ (kept : PoolRow). id ≤ kept.id) rows place (length rows) → ((d : PoolRow) → place < length rows → (get_or rows place d).id ≢ id) → All (λ (kept : PoolRow). kept.id ≢ id) rows
no_such_id rows id place rising before after other k d l e = elim (cases_lt k place) [
  | inl b ↦ absurd (omega (arith, before k d (omega arith) b, e))
  | inr b ↦
      elim (cases_eq k place) [
        | inl f ↦ other d (omega (arith, f, l)) (subst (λ i. (get_or rows i d).id ≡ id) f e)
        | inr n ↦ absurd (omega (arith, e, rising place k d (omega (arith, b, n)) l, after place d (omega arith) (omega (arith, b, l))))
      ]
]

-- ---- changes

contains_filtered : (p : Entry → Bool) (xs : List Entry) (x : Entry) → p x ≡ true → Contains xs x → Contains (filter p xs) x
contains_filtered p [] x t (k, l, e) = absurd (omega (arith, l))
contains_filtered p (y ∷ ys) x t (zero, l, e) = rw (ap p e ∙ t) (0, omega arith, e)
contains_filtered p (y ∷ ys) x t (suc k, l, e) = chosen (p y) (contains_filtered p ys x t (k, omega (arith, l), e))
  where
    chosen : (b : Bool) → Contains (filter p ys) x → Contains (cond b (y ∷ filter p ys) (filter p ys)) x
    chosen true (j, m, f) = (suc j, omega (arith, m), f)
    chosen false h = h

-- the index of some rows without the entries of the others
pub index_kept : (rows others : List PoolRow) (entries : List Entry) (q : Entry → Bool) → IsIndex rows entries → All (λ kept. Contains entries (entry_of kept)) others → All (λ kept. q (entry_of kept) ≡ true) others → IsIndex others (filter q entries)
index_kept rows others entries q index covers passes = record {
  sorted = IsNonDecreasingBy-filter (λ (entry : Entry). entry.print) q entries index.sorted;
  covers = λ k d l. contains_filtered q entries (entry_of (get_or others k d)) (passes k d l) (covers k d l);
}

contains_inserted : (xs : List Entry) (i : ℕ) (y x : Entry) → i ≤ length xs → Contains xs x → Contains (insert xs i y) x
contains_inserted xs i y x h (k, l, e) = elim (cases_lt k i) [
  | inl b ↦ (k, omega (arith, l, length-insert xs i y h), get_or-insert_below xs i y x k b h ∙ e)
  | inr b ↦ (k + 1, omega (arith, l, length-insert xs i y h), get_or-insert_above xs i y x k b h ∙ e)
]

-- an entry that is put where its fingerprint belongs
pub entered : (entries : List Entry) (entry : Entry) (place : ℕ) → AreSorted entries → place ≤ length entries → AllWithin (λ (e : Entry). e.print < entry.print) entries 0 place → AllWithin (λ (e : Entry). entry.print ≤ e.print) entries place (length entries) → IsEntered entries entry (insert entries place entry)
entered entries entry place sorted h before after = record {
  sorted = IsNonDecreasingBy-insert (λ (e : Entry). e.print) entries place entry sorted h (λ k d l. omega (arith, before k d (omega arith) l)) after;
  own = (place, omega (arith, h, length-insert entries place entry h), get_or-insert_at entries place entry entry h);
  others = λ other c. contains_inserted entries place entry other h c;
}

-- the index with the entry of another row
pub index_entered : (rows : List PoolRow) (entries after : List Entry) (kept : PoolRow) (print : ℕ) → print ≡ fingerprint kept.row → IsIndex rows entries → IsEntered entries (record { print = print; id = kept.id; rests = kept.rests }) after → IsIndex (rows ++ kept ∷ []) after
index_entered rows entries after kept print p index e = record {
  sorted = e.sorted;
  covers = All-push (λ r. Contains after (entry_of r)) rows kept (All-weaker (λ r. Contains entries (entry_of r)) (λ r. Contains after (entry_of r)) (λ r c. e.others (entry_of r) c) rows index.covers)
      (subst (λ n. Contains after (record { print = n; id = kept.id; rests = kept.rests })) p e.own);
}

-- no id is below the first one
pub first_least : (rows : List PoolRow) (first : PoolRow) → AreRising rows → first ≡ get_or rows 0 first → (k : ℕ) (d : PoolRow) → k < length rows → first.id ≤ (get_or rows k d).id
first_least rows first rising r k d l = elim (cases_eq k 0) [
  | inl e ↦ omega (arith, ap (λ i. (get_or rows i d).id) e, ap (λ (x : PoolRow). x.id) r, ap (λ (x : PoolRow). x.id) (row_default rows 0 first d (omega (arith, l))))
  | inr n ↦ omega (arith, rising 0 k d (omega (arith, n)) l, ap (λ (x : PoolRow). x.id) r, ap (λ (x : PoolRow). x.id) (row_default rows 0 first d (omega (arith, l))))
]

-- the index of the last rows
pub index_last : (rows others : List PoolRow) (entries : List Entry) (first : PoolRow) → IsIndex rows entries → AreRising others → All (λ kept. Contains entries (entry_of kept)) others → first ≡ get_or others 0 first → IsIndex others (filter (λ (entry : Entry). nat_le first.id entry.id) entries)
index_last rows others entries first index rising covers r = index_kept rows others entries (λ (entry : Entry). nat_le first.id entry.id) index covers (λ k d l. le-leb _ _ (first_least others first rising r k d l))

-- the index without a row
pub index_retired : (rows : List PoolRow) (entries : List Entry) (id : ℕ) → IsIndex rows entries → IsIndex (filter (λ (kept : PoolRow). not (kept.id == id)) rows) (filter (λ (entry : Entry). not (entry.id == id)) entries)
index_retired rows entries id index =
    index_kept rows (filter (λ (kept : PoolRow). not (kept.id == id)) rows) entries (λ (entry : Entry). not (entry.id == id)) index (All-filter (λ (kept : PoolRow). not (kept.id == id)) (λ kept. Contains entries (entry_of kept)) rows index.covers) (filter_passes (λ (kept : PoolRow). not (kept.id == id)) rows)

-- the index without the rows that rest
pub index_released : (rows : List PoolRow) (entries : List Entry) → IsIndex rows entries → IsIndex (released rows) (filter (λ (entry : Entry). not entry.rests) entries)
index_released rows entries index =
    index_kept rows (released rows) entries (λ (entry : Entry). not entry.rests) index (All-filter (λ (kept : PoolRow). not kept.rests) (λ kept. Contains entries (entry_of kept)) rows index.covers) (filter_passes (λ (kept : PoolRow). not kept.rests) rows)

-- rows by rising id don't fall
pub rising_by : (rows : List PoolRow) → AreRising rows → IsNonDecreasingBy (λ (kept : PoolRow). kept.id) rows
rising_by rows rising i j d h l = elim (cases_eq i j) [
  | inl e ↦ omega (arith, ap (λ k. (get_or rows k d).id) e)
  | inr n ↦ omega (arith, rising i j d (omega (arith, h, n)) l)
]
