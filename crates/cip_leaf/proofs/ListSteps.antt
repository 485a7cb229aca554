-- One more entry of lists that are made entry by entry.
use Rattle.std.proofs.Common.{◌≡◌, ℕ, zero, suc, ◌+◌, ◌<◌, ◌≤◌, Bool, true, false, List, [], ◌∷◌, ◌++◌, length, drop, refl, sym, ap, ◌∙◌, arith, true≢false, add-one, append-nil, append_assoc, subst, map}
use Rattle.std.proofs.lemmas.List.{length-append}
use Rattle.std.proofs.Math.ListN.{get_or}
use Rattle.cip_rational.specs.Rational.{ℚ}
use Rattle.cip_problem.specs.Activity.{value_at}
use Rattle.cip_search.specs.LeafProgram.{at_continuous, merged}
use Rattle.cip_leaf.specs.Building.{numbers_from}
use borrow.Author.Count.{below_more}
use Rattle.std.proofs.lemmas.Option.{slice_get_read, get_or_from_slice_get}
use Rattle.cip_problem.specs.Program.{Row, Term, no_row}
use Rattle.cip_problem.specs.RowTerms.{AreTerms}
use Rattle.cip_bland.specs.Tables.{each}
use Rattle.cip_bland.specs.ProgramState.{terms_at}
use Rattle.cip_simplex.specs.LpEntries.{row_entries, entry_of}

-- an entry goes over from what is left to what is made
moved_over : {X : Type 0} (made more rest behind all : List X) (x : X) → more ≡ made ++ x ∷ [] → rest ≡ x ∷ behind → made ++ rest ≡ all → more ++ behind ≡ all
moved_over made more rest behind all x p e f =
    ap (λ t. t ++ behind) p ∙ append_assoc made (x ∷ []) behind ∙ ap (λ t. made ++ t) (sym e) ∙ f

-- ---- the entries of continuous columns

kept_next : {X : Type 0} (k : ℕ) (ws : List Bool) (xs : List X) (d : X) → length ws ≡ length xs → k < length ws → get_or ws k false ≡ false → at_continuous (drop k ws) (drop k xs) ≡ get_or xs k d ∷ at_continuous (drop (suc k) ws) (drop (suc k) xs)
kept_next k [] xs d e l h = absurd (omega (arith, l))
kept_next k (w ∷ ws) [] d e l h = absurd (omega (arith, e))
kept_next zero (true ∷ ws) (x ∷ xs) d e l h = absurd (true≢false h)
kept_next zero (false ∷ ws) (x ∷ xs) d e l h = refl
kept_next (suc k) (w ∷ ws) (x ∷ xs) d e l h = kept_next k ws xs d (omega (arith, e)) (omega (arith, l)) h

pub kept_more : {X : Type 0} (k : ℕ) (ws : List Bool) (xs : List X) (x : X) (made more all : List X) → length ws ≡ length xs → k < length ws → get_or ws k false ≡ false → x ≡ get_or xs k x → more ≡ made ++ x ∷ [] → made ++ at_continuous (drop k ws) (drop k xs) ≡ all → more ++ at_continuous (drop (k + 1) ws) (drop (k + 1) xs) ≡ all
kept_more k ws xs x made more all e l h is p f =
    rw add-one (moved_over made more (at_continuous (drop k ws) (drop k xs)) (at_continuous (drop (suc k) ws) (drop (suc k) xs)) all x p (kept_next k ws xs x e l h ∙ ap (λ t. t ∷ at_continuous (drop (suc k) ws) (drop (suc k) xs)) (sym is)) f)

none_behind : {X : Type 0} (k : ℕ) (ws : List Bool) (xs : List X) → length ws ≡ length xs → length ws ≤ k → at_continuous (drop k ws) (drop k xs) ≡ []
none_behind zero [] xs e l = refl
none_behind (suc k) [] xs e l = refl
none_behind zero (w ∷ ws) xs e l = absurd (omega (arith, l))
none_behind (suc k) (w ∷ ws) [] e l = absurd (omega (arith, e))
none_behind (suc k) (w ∷ ws) (x ∷ xs) e l = none_behind k ws xs (omega (arith, e)) (omega (arith, l))

pub kept_end : {X : Type 0} (k : ℕ) (ws : List Bool) (xs made all : List X) → length ws ≡ length xs → length ws ≤ k → made ++ at_continuous (drop k ws) (drop k xs) ≡ all → made ≡ all
kept_end k ws xs made all e l f = rw (none_behind k ws xs e l, append-nil) at f

-- ---- new numbers

number_whole : (n k : ℕ) (ws : List Bool) → k < length ws → get_or ws k false ≡ true → numbers_from n (drop k ws) ≡ n ∷ numbers_from n (drop (suc k) ws)
number_whole n k [] l h = absurd (omega (arith, l))
number_whole n zero (true ∷ ws) l h = refl
number_whole n zero (false ∷ ws) l h = absurd (true≢false (sym h))
number_whole n (suc k) (w ∷ ws) l h = number_whole n k ws (omega (arith, l)) h

number_other : (n k : ℕ) (ws : List Bool) → k < length ws → get_or ws k false ≡ false → numbers_from n (drop k ws) ≡ n ∷ numbers_from (n + 1) (drop (suc k) ws)
number_other n k [] l h = absurd (omega (arith, l))
number_other n zero (true ∷ ws) l h = absurd (true≢false h)
number_other n zero (false ∷ ws) l h = refl
number_other n (suc k) (w ∷ ws) l h = number_other n k ws (omega (arith, l)) h

pub numbered_whole : (n k : ℕ) (ws : List Bool) (made more all : List ℕ) → k < length ws → get_or ws k false ≡ true → more ≡ made ++ n ∷ [] → made ++ numbers_from n (drop k ws) ≡ all → more ++ numbers_from n (drop (k + 1) ws) ≡ all
numbered_whole n k ws made more all l h p f =
    rw add-one (moved_over made more (numbers_from n (drop k ws)) (numbers_from n (drop (suc k) ws)) all n p (number_whole n k ws l h) f)

pub numbered_other : (n k : ℕ) (ws : List Bool) (made more all : List ℕ) → k < length ws → get_or ws k false ≡ false → more ≡ made ++ n ∷ [] → made ++ numbers_from n (drop k ws) ≡ all → more ++ numbers_from (n + 1) (drop (k + 1) ws) ≡ all
numbered_other n k ws made more all l h p f =
    subst (λ j. more ++ numbers_from (n + 1) (drop j ws) ≡ all) (sym (add-one k)) (moved_over made more (numbers_from n (drop k ws)) (numbers_from (n + 1) (drop (suc k) ws)) all n p (number_other n k ws l h) f)

numbers_none : (n k : ℕ) (ws : List Bool) → length ws ≤ k → numbers_from n (drop k ws) ≡ []
numbers_none n zero [] l = refl
numbers_none n (suc k) [] l = refl
numbers_none n zero (w ∷ ws) l = absurd (omega (arith, l))
numbers_none n (suc k) (w ∷ ws) l = numbers_none n k ws (omega (arith, l))

pub numbered_end : (n k : ℕ) (ws : List Bool) (made all : List ℕ) → length ws ≤ k → made ++ numbers_from n (drop k ws) ≡ all → made ≡ all
numbered_end n k ws made all l f = rw (numbers_none n k ws l, append-nil) at f

-- ---- points put together

front_whole : (ws : List Bool) (taken : ℕ) (leaf others : List ℚ) → merged (true ∷ ws) (drop taken leaf) others ≡ value_at leaf taken ∷ merged ws (drop (suc taken) leaf) others
front_whole ws zero [] others = refl
front_whole ws (suc taken) [] others = refl
front_whole ws zero (v ∷ vs) others = refl
front_whole ws (suc taken) (v ∷ vs) others = front_whole ws taken vs others

front_other : (ws : List Bool) (put : ℕ) (leaf others : List ℚ) → merged (false ∷ ws) leaf (drop put others) ≡ value_at others put ∷ merged ws leaf (drop (suc put) others)
front_other ws zero leaf [] = refl
front_other ws (suc put) leaf [] = refl
front_other ws zero leaf (v ∷ vs) = refl
front_other ws (suc put) leaf (v ∷ vs) = front_other ws put leaf vs

next_whole : (k taken : ℕ) (ws : List Bool) (leaf others : List ℚ) → k < length ws → get_or ws k false ≡ true → merged (drop k ws) (drop taken leaf) others ≡ value_at leaf taken ∷ merged (drop (suc k) ws) (drop (suc taken) leaf) others
next_whole k taken [] leaf others l h = absurd (omega (arith, l))
next_whole zero taken (true ∷ ws) leaf others l h = front_whole ws taken leaf others
next_whole zero taken (false ∷ ws) leaf others l h = absurd (true≢false (sym h))
next_whole (suc k) taken (w ∷ ws) leaf others l h = next_whole k taken ws leaf others (omega (arith, l)) h

next_other : (k put : ℕ) (ws : List Bool) (leaf others : List ℚ) → k < length ws → get_or ws k false ≡ false → merged (drop k ws) leaf (drop put others) ≡ value_at others put ∷ merged (drop (suc k) ws) leaf (drop (suc put) others)
next_other k put [] leaf others l h = absurd (omega (arith, l))
next_other zero put (true ∷ ws) leaf others l h = absurd (true≢false h)
next_other zero put (false ∷ ws) leaf others l h = front_other ws put leaf others
next_other (suc k) put (w ∷ ws) leaf others l h = next_other k put ws leaf others (omega (arith, l)) h

pub merged_whole : (k taken : ℕ) (ws : List Bool) (leaf others made more all : List ℚ) (v : ℚ) → k < length ws → get_or ws k false ≡ true → v ≡ value_at leaf taken → more ≡ made ++ v ∷ [] → made ++ merged (drop k ws) (drop taken leaf) others ≡ all → more ++ merged (drop (k + 1) ws) (drop (taken + 1) leaf) others ≡ all
merged_whole k taken ws leaf others made more all v l h e p f =
    rw (add-one k, add-one taken) (moved_over made more (merged (drop k ws) (drop taken leaf) others) (merged (drop (suc k) ws) (drop (suc taken) leaf) others) all (value_at leaf taken) (p ∙ ap (λ t. made ++ t ∷ []) e) (next_whole k taken ws leaf others l h) f)

pub merged_other : (k put : ℕ) (ws : List Bool) (leaf others made more all : List ℚ) (v : ℚ) → k < length ws → get_or ws k false ≡ false → v ≡ value_at others put → more ≡ made ++ v ∷ [] → made ++ merged (drop k ws) leaf (drop put others) ≡ all → more ++ merged (drop (k + 1) ws) leaf (drop (put + 1) others) ≡ all
merged_other k put ws leaf others made more all v l h e p f =
    rw (add-one k, add-one put) (moved_over made more (merged (drop k ws) leaf (drop put others)) (merged (drop (suc k) ws) leaf (drop (suc put) others)) all (value_at others put) (p ∙ ap (λ t. made ++ t ∷ []) e) (next_other k put ws leaf others l h) f)

merged_none : (k : ℕ) (ws : List Bool) (leaf others : List ℚ) → length ws ≤ k → merged (drop k ws) leaf others ≡ []
merged_none zero [] leaf others l = refl
merged_none (suc k) [] leaf others l = refl
merged_none zero (w ∷ ws) leaf others l = absurd (omega (arith, l))
merged_none (suc k) (w ∷ ws) leaf others l = merged_none k ws leaf others (omega (arith, l))

pub merged_end : (k : ℕ) (ws : List Bool) (leaf others made all : List ℚ) → length ws ≤ k → made ++ merged (drop k ws) leaf others ≡ all → made ≡ all
merged_end k ws leaf others made all l f = rw (merged_none k ws leaf others l, append-nil) at f

-- ---- how long a list is

pub one_longer : {X : Type 0} (made more : List X) (x : X) (k : ℕ) → more ≡ made ++ x ∷ [] → length made ≡ k → length more ≡ k + 1
one_longer made more x k p e = omega (arith, ap length p, length-append made (x ∷ []), e)

-- ---- the entries of one more row

row_terms : (rows : List Row) (r : ℕ) (row : Row) (terms : List Term) → r < length rows → row ≡ get_or rows r row → terms ≡ row.terms → terms ≡ terms_at rows r
row_terms rows r row terms l e t = t ∙ ap (λ (x : Row). x.terms) (sym (get_or_from_slice_get rows r row no_row (slice_get_read rows (length rows) r row refl l e)))

pub entries_more : (rows : List Row) (r : ℕ) (row : Row) (terms : List Term) (old new : List (ℕ × ℕ × ℚ)) → r < length rows → row ≡ get_or rows r row → terms ≡ row.terms → old ≡ each r (row_entries rows) → new ≡ old ++ map (entry_of r) terms → new ≡ each (r + 1) (row_entries rows)
entries_more rows r row terms old new l e t o n =
    rw add-one (n ∙ ap (λ es. es ++ map (entry_of r) terms) o ∙ ap (λ ts. each r (row_entries rows) ++ map (entry_of r) ts) (row_terms rows r row terms l e t))

pub terms_more : (rows : List Row) (r : ℕ) (row : Row) → r < length rows → row ≡ get_or rows r row → ((k : ℕ) → k < r → AreTerms (terms_at rows k)) → AreTerms row.terms → (k : ℕ) → k < r + 1 → AreTerms (terms_at rows k)
terms_more rows r row l e v here = below_more (λ k. AreTerms (terms_at rows k)) r v (subst AreTerms (row_terms rows r row row.terms l e refl) here)
