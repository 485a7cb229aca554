-- The terms on columns of no block, one more of them, and one more row.
use Rattle.std.proofs.Common.{◌≡◌, ℕ, ◌+◌, ◌<◌, List, [], ◌∷◌, ◌++◌, length, map, take, get_or, None, refl, sym, ap, ap₂, ◌∙◌}
use Rattle.std.specs.Prelude.{slice_index, slice_index_or}
use Rattle.std.proofs.lemmas.List.{append_assoc, append-nil, take_more, map_more}
use Rattle.cip_problem.specs.Program.{Term, Row}
use Rattle.cip_pricing.specs.Decomposition.{Owner}
use Rattle.cip_master.specs.BlockSums.{free_term, free_terms, free_row}
use Rattle.cip_master.proofs.Numbers.{row_of}

free-append : (owners : List Owner) (places : List ℕ) (ts us : List Term)
    → free_terms owners places (ts ++ us) ≡ free_terms owners places ts ++ free_terms owners places us
free-append owners places [] us = refl
free-append owners places (t ∷ ts) us =
    let one : List Term = free_term (slice_index_or owners t.column None) (slice_index places t.column) t in
    ap (λ (vs : List Term). one ++ vs) (free-append owners places ts us)
    ∙ sym (append_assoc one (free_terms owners places ts) (free_terms owners places us))

pub free_more : (owners : List Owner) (places : List ℕ) (ts : List Term) (i : ℕ) (d : Term) → i < length ts
    → free_terms owners places (take (i + 1) ts)
    ≡ free_terms owners places (take i ts)
    ++ free_term (slice_index_or owners (get_or ts i d).column None) (slice_index places (get_or ts i d).column)
    (get_or ts i d)
free_more owners places ts i d h =
    ap (free_terms owners places) (take_more ts i d h)
    ∙ free-append owners places (take i ts) (get_or ts i d ∷ [])
    ∙ ap (λ (vs : List Term). free_terms owners places (take i ts) ++ vs)
    (append-nil (free_term (slice_index_or owners (get_or ts i d).column None)
    (slice_index places (get_or ts i d).column) (get_or ts i d)))

pub rows_more : (owners : List Owner) (places : List ℕ) (rows : List Row) (numbers : List ℕ) (i : ℕ)
    → i < length numbers
    → map (λ number. free_row owners places (row_of rows number)) (take (i + 1) numbers)
    ≡ map (λ number. free_row owners places (row_of rows number)) (take i numbers)
    ++ free_row owners places (row_of rows (get_or numbers i 0)) ∷ []
rows_more owners places rows numbers i h =
    map_more (λ number. free_row owners places (row_of rows number)) numbers i 0 h

-- ---- steps of loops

pub free_next : (owners : List Owner) (places : List ℕ) (row own new : Row) (i : ℕ) (t : Term)
    → i < length row.terms → t ≡ get_or row.terms i t
    → own ≡ free_row owners places (record { terms = take i row.terms; low = row.low; high = row.high })
    → new ≡ record own {
      terms = own.terms
          ++ free_term (slice_index_or owners t.column None) (slice_index places t.column) t;
    }
    → new ≡ free_row owners places (record { terms = take (i + 1) row.terms; low = row.low; high = row.high })
free_next owners places row own new i t l r e f =
    f
    ∙ ap (λ (q : Row). let w : Row = record q {
      terms = q.terms
          ++ free_term (slice_index_or owners t.column None) (slice_index places t.column) t;
    } in w) e
    ∙ ap (λ (ts : List Term). let w : Row = record { terms = ts; low = row.low; high = row.high } in w)
    (ap (λ (u : Term). free_terms owners places (take i row.terms)
    ++ free_term (slice_index_or owners u.column None) (slice_index places u.column) u) r
    ∙ sym (free_more owners places row.terms i t l))

pub rows_next : (owners : List Owner) (places : List ℕ) (rows : List Row) (numbers : List ℕ) (i : ℕ)
    (owns new : List Row) (own row : Row) → i < length numbers
    → owns ≡ map (λ number. free_row owners places (row_of rows number)) (take i numbers)
    → new ≡ owns ++ own ∷ [] → own ≡ free_row owners places row → row ≡ row_of rows (get_or numbers i 0)
    → new ≡ map (λ number. free_row owners places (row_of rows number)) (take (i + 1) numbers)
rows_next owners places rows numbers i owns new own row l e f g h =
    f ∙ ap₂ (λ (os : List Row) (o : Row). os ++ o ∷ []) e (g ∙ ap (free_row owners places) h)
    ∙ sym (rows_more owners places rows numbers i l)
