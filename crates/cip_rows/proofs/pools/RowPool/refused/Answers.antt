use Rattle.std.proofs.Common.{List, ◌∙◌, refl, sym, ap, subst, subst₂}
use Rattle.cip_cert.specs.declared.rows.PoolRow.{PoolRow}
use Rattle.cip_cert.specs.Pool.{AreRising}
use Rattle.cip_rows.specs.RowIndex.{IsIndex}
use Rattle.cip_rows.specs.RowPools.{Pool, HaveScopesLike, IsKnown, IsUnknown}
use Rattle.cip_rows.proofs.KeptRows.{scopes_like}
use Rattle.cip_rows.proofs.pools.RowPool.refused.Goals as goal

pub known-requires-clause-rising : goal.known-requires-clause-rising
known-requires-clause-rising c = subst AreRising (sym c.as_slice-rows.ensures.value) c.self.invariant.0.rising

pub known-requires-clause-scopes : goal.known-requires-clause-scopes
known-requires-clause-scopes c = subst (HaveScopesLike c.args.scope.now) (sym c.as_slice-rows.ensures.value) (scopes_like _ c.args.scope.now c.self.invariant.0 (c.requires.columns ∙ sym (ap (λ (p : Pool). p.columns) c.self.view_is)))

pub known-requires-clause-entries : goal.known-requires-clause-entries
known-requires-clause-entries c = subst₂ IsIndex (sym c.as_slice-rows.ensures.value) (sym c.as_slice.ensures.value) c.self.invariant.1

pub known-requires-clause-print : goal.known-requires-clause-print
known-requires-clause-print c = c.requires.print

pub returns-in-Some : goal.returns-in-Some
returns-in-Some c = λ rests. (subst (λ (rows : List PoolRow). IsKnown rows c.args.row.now c.args.scope.now c.in-Some.id) (c.as_slice-rows.ensures.value ∙ ap (λ (p : Pool). p.rows) c.self.view_is) c.in-Some.ensures, refl)

pub returns-in-None : goal.returns-in-None
returns-in-None c = λ rests. (
  subst (λ (rows : List PoolRow). IsUnknown rows c.args.row.now c.args.scope.now) (c.as_slice-rows.ensures.value ∙ ap (λ (p : Pool). p.rows) c.self.view_is) c.in-None.ensures,
  sym c.is_full.ensures ∙ c.if-is_full.true,
  refl,
)

pub returns-in-None-2 : goal.returns-in-None-2
returns-in-None-2 c = (
  subst (λ (rows : List PoolRow). IsUnknown rows c.args.row.now c.args.scope.now) (c.as_slice-rows.ensures.value ∙ ap (λ (p : Pool). p.rows) c.self.view_is) c.in-None.ensures,
  sym c.is_full.ensures ∙ c.if-is_full.false,
)
