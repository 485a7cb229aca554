use Rattle.std.proofs.lemmas.Grind.{common_steps}
use Rattle.std.proofs.Common.{◌≡◌, ℕ, ◌<◌, ◌≤◌, ap, inl, inr, length, arith}
use Rattle.std.proofs.lemmas.Bool.{cases_lt}
use Rattle.cip_dict.specs.WholeLines.{Whole, over}
use Rattle.cip_dict.proofs.Places.{next_of}
use Rattle.cip_dict.proofs.WholeParts.{first_over, last_over}
use Rattle.cip_dict.proofs.whole.next_step.Goals as goal

-- the variable at a place that is that of k, before the end
stands : (p n len first k : ℕ) → (n ≤ p → first ≡ len) → k < len → first ≡ k → p < n
stands p n len first k last l e =
    elim (cases_lt p n) [
      | inl w ↦ w
      | inr w ↦ (let f : first ≡ len = last w in absurd (omega (arith, f, l, e)))
    ]

pub take_number-n-requires-clause-there : goal.take_number-n-requires-clause-there
take_number-n-requires-clause-there c = λ e. stands c.args.here (length c.args.row.now) c.args.len c.head_at-first.result.0 c.least-k.result c.head_at-first.ensures.last (omega (arith, c.if-k-len.false)) e

pub take_number-y-requires-clause-there : goal.take_number-y-requires-clause-there
take_number-y-requires-clause-there c = λ e. stands c.args.there (length c.args.new.now) c.args.len c.head_at-second.result.0 c.least-k.result c.head_at-second.ensures.last (omega (arith, c.if-k-len.false)) e

pub returns-then-k-len-clause-next : goal.returns-then-k-len-clause-next
returns-then-k-len-clause-next c =
    next_of c.args.len (over 1 c.args.row.now) (over 1 c.args.new.now) c.args.here c.args.there c.head_at-first.result.0 c.head_at-second.result.0 c.least-k.result
    c.requires.row_kept (first_over c.args.row.now c.args.here c.head_at-first.result.0 (λ b l. ap (λ (e : Whole). e.0) (c.head_at-first.ensures.first b l))) (last_over c.args.row.now c.args.here c.head_at-first.result.0 c.args.len c.head_at-first.ensures.last)
    c.requires.new_kept (first_over c.args.new.now c.args.there c.head_at-second.result.0 (λ b l. ap (λ (e : Whole). e.0) (c.head_at-second.ensures.first b l))) (last_over c.args.new.now c.args.there c.head_at-second.result.0 c.args.len c.head_at-second.ensures.last)
    c.least-k.ensures.first c.least-k.ensures.second c.least-k.ensures.greatest

pub returns-clause-next : goal.returns-clause-next
returns-clause-next c =
    next_of c.args.len (over 1 c.args.row.now) (over 1 c.args.new.now) c.args.here c.args.there c.head_at-first.result.0 c.head_at-second.result.0 c.least-k.result
    c.requires.row_kept (first_over c.args.row.now c.args.here c.head_at-first.result.0 (λ b l. ap (λ (e : Whole). e.0) (c.head_at-first.ensures.first b l))) (last_over c.args.row.now c.args.here c.head_at-first.result.0 c.args.len c.head_at-first.ensures.last)
    c.requires.new_kept (first_over c.args.new.now c.args.there c.head_at-second.result.0 (λ b l. ap (λ (e : Whole). e.0) (c.head_at-second.ensures.first b l))) (last_over c.args.new.now c.args.there c.head_at-second.result.0 c.args.len c.head_at-second.ensures.last)
    c.least-k.ensures.first c.least-k.ensures.second c.least-k.ensures.greatest

pub returns-clause-row_small : goal.returns-clause-row_small
returns-clause-row_small c = grind (arith, common_steps)

pub returns-clause-new_small : goal.returns-clause-new_small
returns-clause-new_small c = grind (arith, common_steps)

pub returns-clause-row_value : goal.returns-clause-row_value
returns-clause-row_value c = grind (arith, common_steps)

pub returns-clause-new_value : goal.returns-clause-new_value
returns-clause-new_value c = grind (arith, common_steps)

pub returns-then-k-len-clause-new_past : goal.returns-then-k-len-clause-new_past
returns-then-k-len-clause-new_past c = grind (arith, common_steps)

pub take_number-y-requires-clause-kept : goal.take_number-y-requires-clause-kept
take_number-y-requires-clause-kept c = grind (arith, common_steps)

pub returns-then-k-len-clause-row_past : goal.returns-then-k-len-clause-row_past
returns-then-k-len-clause-row_past c = grind (arith, common_steps)

pub take_number-n-requires-clause-kept : goal.take_number-n-requires-clause-kept
take_number-n-requires-clause-kept c = grind (arith, common_steps)

pub returns-clause-new_past : goal.returns-clause-new_past
returns-clause-new_past c = grind (arith, common_steps)

pub returns-clause-row_past : goal.returns-clause-row_past
returns-clause-row_past c = grind (arith, common_steps)

pub returns-clause-within : goal.returns-clause-within
returns-clause-within c = grind (arith, common_steps)

pub take_number-y-requires-clause-small : goal.take_number-y-requires-clause-small
take_number-y-requires-clause-small c = grind (arith, common_steps)

pub returns-then-k-len-clause-new_value : goal.returns-then-k-len-clause-new_value
returns-then-k-len-clause-new_value c = grind (arith, common_steps)

pub returns-then-k-len-clause-row_value : goal.returns-then-k-len-clause-row_value
returns-then-k-len-clause-row_value c = grind (arith, common_steps)

pub take_number-n-requires-clause-small : goal.take_number-n-requires-clause-small
take_number-n-requires-clause-small c = grind (arith, common_steps)

pub returns-then-k-len-clause-within : goal.returns-then-k-len-clause-within
returns-then-k-len-clause-within c = grind (arith, common_steps)

pub head_at-second-requires-clause-kept : goal.head_at-second-requires-clause-kept
head_at-second-requires-clause-kept c = grind (arith, common_steps)

pub head_at-second-requires-clause-small : goal.head_at-second-requires-clause-small
head_at-second-requires-clause-small c = grind (arith, common_steps)

pub head_at-first-requires-clause-kept : goal.head_at-first-requires-clause-kept
head_at-first-requires-clause-kept c = grind (arith, common_steps)

pub head_at-first-requires-clause-small : goal.head_at-first-requires-clause-small
head_at-first-requires-clause-small c = grind (arith, common_steps)
