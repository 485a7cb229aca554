use Rattle.std.proofs.lemmas.Grind.{common_steps}
use Rattle.std.proofs.Common.{◌≡◌, ◌∙◌, ◌++◌, ◌∷◌, [], ◌+◌, List, false, length, sym, ap, subst, subst₂, arith}
use Rattle.cip_problem.specs.Program.{Sides}
use Rattle.cip_problem.specs.Activity.{StandsBelow}
use Rattle.cip_cert.specs.declared.rows.PoolRow.{PoolRow}
use Rattle.cip_rows.specs.RowIndex.{IsIndex}
use Rattle.cip_rows.specs.RowPools.{Pool, IsSoundPool, is_full, with_row}
use Rattle.cip_rows.proofs.IndexedRows.{index_entered}
use Rattle.cip_rows.proofs.KeptRows.{one_more}
use Rattle.cip_rows.proofs.pools.RowPool.push.Goals as goal

pub entered-requires : goal.entered-requires
entered-requires c = c.self.invariant.1.sorted

pub push_reserved-requires : goal.push_reserved-requires
push_reserved-requires c = c.in-Ok.ensures.entered.1

pub invariant_of-self : goal.invariant_of-self
invariant_of-self c =
    let pool : Pool = record { columns = c.self.inside.columns; rows = c.self.inside.rows.items; next = c.self.inside.next } in
    let kept : PoolRow = record { id = c.self.inside.next; row = c.args.row; scope = c.in-Ok.scope; rests = c.args.rests } in
    let same : pool ≡ c.args.self.now = c.self.view_is in
    let rows : c.push_reserved.new.self.items ≡ c.self.inside.rows.items ++ kept ∷ [] = c.push_reserved.ensures.items ∙ ap (λ (xs : List PoolRow). xs ++ kept ∷ []) c.in-Ok.ensures.rows in
    let stands : StandsBelow pool.columns c.args.row.terms = subst (λ (p : Pool). StandsBelow p.columns c.args.row.terms) (sym same) c.requires.stands in
    let columns : length c.in-Ok.scope ≡ pool.columns = ap (λ (box : List Sides). length box) c.in-Ok.ensures.entered.0 ∙ c.requires.columns ∙ sym (ap (λ (p : Pool). p.columns) same) in
    let room : is_full pool ≡ false = ap is_full same ∙ c.requires.new.1 in (
      subst (λ (xs : List PoolRow). IsSoundPool (record { columns = pool.columns; rows = xs; next = pool.next + 1 })) (sym rows) (one_more pool c.args.row c.in-Ok.scope c.args.rests c.self.invariant.0 stands columns room),
      subst (λ (xs : List PoolRow). IsIndex xs c.entered.new.entries.items) (sym rows) (index_entered _ _ _ kept c.args.print c.requires.print c.self.invariant.1 c.in-Ok.ensures.entered.2),
    )

pub returns-in-Ok-clause-added : goal.returns-in-Ok-clause-added
returns-in-Ok-clause-added c =
    let with_scope : List Sides → List PoolRow = λ box. c.self.inside.rows.items ++ record { id = c.self.inside.next; row = c.args.row; scope = box; rests = c.args.rests } ∷ [] in
    let rows : c.push_reserved.new.self.items ≡ with_scope c.args.scope.now = c.push_reserved.ensures.items ∙ ap (λ (xs : List PoolRow). xs ++ record { id = c.self.inside.next; row = c.args.row; scope = c.in-Ok.scope; rests = c.args.rests } ∷ []) c.in-Ok.ensures.rows ∙ ap with_scope c.in-Ok.ensures.entered.0 in (
      c.requires.new.0,
      c.requires.new.1,
      ap (λ (p : Pool). p.next) c.self.view_is,
      ap (λ (xs : List PoolRow). (let p : Pool = record { columns = c.self.inside.columns; rows = xs; next = c.self.inside.next + 1 } in p)) rows ∙ ap (λ (p : Pool). with_row p c.args.row c.args.scope.now c.args.rests) c.self.view_is,
    )

pub returns-in-Ok-clause-columns : goal.returns-in-Ok-clause-columns
returns-in-Ok-clause-columns c = ap (λ (p : Pool). p.columns) c.self.view_is

pub invariant_of-self-in-Err : goal.invariant_of-self-in-Err
invariant_of-self-in-Err c = (
  subst (λ (xs : List PoolRow). IsSoundPool (record { columns = c.self.inside.columns; rows = xs; next = c.self.inside.next })) (sym c.in-Err.ensures.rows) c.self.invariant.0,
  subst₂ IsIndex (sym c.in-Err.ensures.rows) (sym c.in-Err.ensures.entered) c.self.invariant.1,
)

pub returns-in-Err-clause-added : goal.returns-in-Err-clause-added
returns-in-Err-clause-added c = ap (λ (xs : List PoolRow). (let p : Pool = record { columns = c.self.inside.columns; rows = xs; next = c.self.inside.next } in p)) c.in-Err.ensures.rows ∙ c.self.view_is

pub returns-in-Err-clause-columns : goal.returns-in-Err-clause-columns
returns-in-Err-clause-columns c = ap (λ (p : Pool). p.columns) c.self.view_is

pub overflow_add-self : goal.overflow_add-self
overflow_add-self c = grind (arith, common_steps)
