-- What a line without fault tells: each rule is kept.
use Rattle.std.proofs.Common.{◌≡◌, ℕ, ◌≤◌, ◌==◌, Bool, true, false, ◌&&◌, ◌||◌, cond, List, [], ◌∷◌, length, None, Some, refl, subst, eq-eqb}
use Rattle.std.specs.Prelude.{nat_le}
use Rattle.std.specs.List.{AllByRecursion, list_any}
use Rattle.std.proofs.lemmas.Bool.{leb-true, or_left, and_from, or_right}
use Rattle.std.proofs.Math.Nat.{le_trans, le_refl}
use Rattle.cip_text_rules.specs.MpsSayings.{Saying}
use Rattle.cip_text_rules.specs.MpsFacts.{Facts, row_names, column_names}
use Rattle.cip_text_rules.specs.MpsProgram.{constraints}
use Rattle.cip_text_rules.specs.MpsRules.{Rule, least, rules, fault_of, is_unknown_section, is_out_of_order, lacks_section, is_miscounted, numbers_in, has_huge_value, has_wide_side, names_unknown_row, names_unknown_column, repeats_row, repeats_value, splits_column, has_bad_row_type, has_bad_bound_type, is_bad_marker, lacks_objective, is_too_many, has_long_name, ranges_free_row, is_out_of_profile, kinds_of, entry_count}
use Rattle.cip_text_rules.specs.MpsWords.{is_no_number, is_too_fine}
use Rattle.cip_rational.proofs.InRange.{both_left, both_right}

-- ---- tests

pub left_false : (a b : Bool) → (a || b) ≡ false → a ≡ false
left_false false b e = refl
left_false true b e = absurd (cc)

pub right_false : (a b : Bool) → (a || b) ≡ false → b ≡ false
right_false false b e = e
right_false true b e = absurd (cc)

-- ---- lists of rules

-- no rule is broken
pub kept : (rs : List Rule) → least rs ≡ None → AllByRecursion (λ r. r.broken ≡ false) rs
kept [] e = tt
kept (r ∷ rs) e = go r.broken refl e (kept rs)
  where
    go : (b : Bool) → r.broken ≡ b → cond b (Some r.kind) (least rs) ≡ None → (least rs ≡ None → AllByRecursion (λ x. x.broken ≡ false) rs) → AllByRecursion (λ x. x.broken ≡ false) (r ∷ rs)
    go true p q h = absurd (cc)
    go false p q h = (p, h q)

pub least_broken : (rs : List Rule) (k : ℕ) → least rs ≡ Some k → list_any (λ r. r.kind == k && r.broken) rs ≡ true
least_broken [] k e = absurd (cc)
least_broken (r ∷ rs) k e = go r.broken refl e (least_broken rs k)
  where
    go : (b : Bool) → r.broken ≡ b → cond b (Some r.kind) (least rs) ≡ Some k → (least rs ≡ Some k → list_any (λ x. x.kind == k && x.broken) rs ≡ true) → list_any (λ x. x.kind == k && x.broken) (r ∷ rs) ≡ true
    go true p q h =
        let same : r.kind ≡ k = cc in
        or_left (r.kind == k && r.broken) _ (and_from (r.kind == k) r.broken (eq-eqb r.kind k same) p)
    go false p q h = or_right (r.kind == k && r.broken) _ (h q)

-- the kinds of rules rise, from this one on
abbrev pub rising : ℕ → List Rule → Bool
rising low [] = true
rising low (r ∷ rs) = nat_le low r.kind && rising r.kind rs

above : (low : ℕ) (rs : List Rule) → rising low rs ≡ true → AllByRecursion (λ r. r.broken ≡ true → low ≤ r.kind) rs
above low [] e = tt
above low (r ∷ rs) e =
    let h : low ≤ r.kind = leb-true low r.kind (both_left (nat_le low r.kind) (rising r.kind rs) e) in
    ((λ _. h), weaker low r.kind h rs (above r.kind rs (both_right (nat_le low r.kind) (rising r.kind rs) e)))
  where
    weaker : (a b : ℕ) → a ≤ b → (xs : List Rule) → AllByRecursion (λ x. x.broken ≡ true → b ≤ x.kind) xs → AllByRecursion (λ x. x.broken ≡ true → a ≤ x.kind) xs
    weaker a b h [] t = tt
    weaker a b h (x ∷ xs) t = (λ p. le_trans h (t.0 p), weaker a b h xs t.1)

pub least_least : (low : ℕ) (rs : List Rule) (k : ℕ) → rising low rs ≡ true → least rs ≡ Some k → AllByRecursion (λ r. r.broken ≡ true → k ≤ r.kind) rs
least_least low [] k h e = tt
least_least low (r ∷ rs) k h e = go r.broken refl e (least_least r.kind rs k (both_right (nat_le low r.kind) (rising r.kind rs) h))
  where
    go : (b : Bool) → r.broken ≡ b → cond b (Some r.kind) (least rs) ≡ Some k → (least rs ≡ Some k → AllByRecursion (λ x. x.broken ≡ true → k ≤ x.kind) rs) → AllByRecursion (λ x. x.broken ≡ true → k ≤ x.kind) (r ∷ rs)
    go true p q t =
        let same : r.kind ≡ k = cc in
        subst (λ (n : ℕ). AllByRecursion (λ x. x.broken ≡ true → n ≤ x.kind) (r ∷ rs)) same
        ((λ _. le_refl r.kind), above r.kind rs (both_right (nat_le low r.kind) (rising r.kind rs) h))
    go false p q t = ((λ b. absurd (cc)), t q)

pub rules_rise : (facts : Facts) (now : Saying) → rising 0 (rules facts now) ≡ true
rules_rise facts now = refl

-- ---- the rules of a line

pub record Keeps (facts : Facts) (now : Saying) : Type 0 where
  pub known_section : is_unknown_section now ≡ false
  pub in_order : is_out_of_order facts.parts now ≡ false
  pub not_missing : lacks_section facts.parts now ≡ false
  pub counted : is_miscounted now ≡ false
  pub numbers : list_any is_no_number (numbers_in now) ≡ false
  pub not_huge : (has_huge_value now || has_wide_side facts now) ≡ false
  pub not_fine : list_any is_too_fine (numbers_in now) ≡ false
  pub known_rows : names_unknown_row (row_names facts) now ≡ false
  pub known_column : names_unknown_column (column_names facts) now ≡ false
  pub new_row : repeats_row (row_names facts) now ≡ false
  pub new_value : repeats_value facts now ≡ false
  pub together : splits_column (column_names facts) now ≡ false
  pub row_type : has_bad_row_type now ≡ false
  pub bound_type : has_bad_bound_type now ≡ false
  pub marker : is_bad_marker now ≡ false
  pub has_objective : lacks_objective (kinds_of facts) now ≡ false
  pub not_many : is_too_many (length (constraints facts)) (column_names facts) (entry_count facts.coefficients) now ≡ false
  pub short_name : has_long_name now ≡ false
  pub no_free_range : ranges_free_row facts.rows now ≡ false
  pub in_profile : is_out_of_profile facts now ≡ false

pub keeps : (facts : Facts) (now : Saying) → fault_of facts now ≡ None → Keeps facts now
keeps facts now e = go (kept (rules facts now) e)
  where
    go : AllByRecursion (λ r. r.broken ≡ false) (rules facts now) → Keeps facts now
    go t = record {
      known_section = t.0;
      in_order = t.1.0;
      not_missing = t.1.1.0;
      counted = t.1.1.1.0;
      numbers = t.1.1.1.1.0;
      not_huge = t.1.1.1.1.1.0;
      not_fine = t.1.1.1.1.1.1.0;
      known_rows = t.1.1.1.1.1.1.1.0;
      known_column = t.1.1.1.1.1.1.1.1.0;
      new_row = t.1.1.1.1.1.1.1.1.1.0;
      new_value = t.1.1.1.1.1.1.1.1.1.1.0;
      together = t.1.1.1.1.1.1.1.1.1.1.1.0;
      row_type = t.1.1.1.1.1.1.1.1.1.1.1.1.0;
      bound_type = t.1.1.1.1.1.1.1.1.1.1.1.1.1.0;
      marker = t.1.1.1.1.1.1.1.1.1.1.1.1.1.1.0;
      has_objective = t.1.1.1.1.1.1.1.1.1.1.1.1.1.1.1.0;
      not_many = t.1.1.1.1.1.1.1.1.1.1.1.1.1.1.1.1.0;
      short_name = t.1.1.1.1.1.1.1.1.1.1.1.1.1.1.1.1.1.0;
      no_free_range = t.1.1.1.1.1.1.1.1.1.1.1.1.1.1.1.1.1.1.0;
      in_profile = t.1.1.1.1.1.1.1.1.1.1.1.1.1.1.1.1.1.1.1.0;
    }
