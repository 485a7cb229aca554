use Rattle.std.proofs.lemmas.Grind.{common_steps}
use Rattle.std.proofs.Common.{◌≡◌, ℕ, ◌<◌, List, Option, ap, sym, subst, ◌∙◌, arith}
use Rattle.std.specs.Prelude.{All, IfSome}
use Rattle.std.proofs.lemmas.Result.{IfOk-weaker}
use Rattle.cip_problem.specs.BlockParts.{blocks_by}
use Rattle.cip_text_rules.specs.BlockSteps.{count_of}
use Rattle.cip_blocks.specs.BlockWordsRead.{state_of}
use Rattle.cip_blocks.proofs.EndLaws.{kept_below, kept_columns, kept_blocks}
use Rattle.cip_blocks.proofs.block_words.BlockWords.blocks.Goals as goal

among : (n m : ℕ) (xs ys : List (Option ℕ)) → m ≡ n → ys ≡ xs → All (λ b. IfSome b (λ c. c < n)) xs → All (λ b. IfSome b (λ c. c < m)) ys
among n m xs ys e f h = subst (λ (k : ℕ). All (λ b. IfSome b (λ c. c < k)) ys) (sym e) (subst (λ (zs : List (Option ℕ)). All (λ b. IfSome b (λ c. c < n)) zs) (sym f) h)

pub new-requires-clause-rows_below : goal.new-requires-clause-rows_below
new-requires-clause-rows_below c =
    let words = c.args.self.now in
    among (count_of (state_of words)) c.len-count.result _ c.as_slice.result.now (c.len-count.ensures ∙ words.begun_sized) (c.as_slice.ensures.value ∙ c.requires.ending.rows) (kept_below words)

pub new-requires-clause-columns_below : goal.new-requires-clause-columns_below
new-requires-clause-columns_below c =
    let words = c.args.self.now in
    among (count_of (state_of words)) c.len-count.result _ c.as_slice-2.result.now (c.len-count.ensures ∙ words.begun_sized) c.as_slice-2.ensures.value (kept_columns c.owners_are_right.ensures words c.args.ending.now c.requires.ending c.requires.no_fault)

pub returns : goal.returns
returns c =
    let words = c.args.self.now in
    let ending = c.args.ending.now in
    let made =
    ap (λ n. blocks_by n c.as_slice.result.now c.as_slice-2.result.now) (c.len-count.ensures ∙ words.begun_sized)
    ∙ ap (λ rs. blocks_by (count_of (state_of words)) rs c.as_slice-2.result.now) c.as_slice.ensures.value
    ∙ ap (λ cs. blocks_by (count_of (state_of words)) ending.row_blocks.items cs) c.as_slice-2.ensures.value
    ∙ kept_blocks c.owners_are_right.ensures words ending c.requires.ending c.requires.no_fault in
    IfOk-weaker c.new.result _ _ (λ blocks e. e ∙ made) c.new.ensures

pub new-requires-clause-few_rows : goal.new-requires-clause-few_rows
new-requires-clause-few_rows c = grind (arith, common_steps)

pub new-requires-clause-few_columns : goal.new-requires-clause-few_columns
new-requires-clause-few_columns c = grind (arith, common_steps)
