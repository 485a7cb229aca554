use Rattle.std.proofs.Common.{◌≡◌, ℕ, ◌<◌, ◌≤◌, false, length}
use Rattle.cip_problem.specs.WellFormed.{columns}
use Rattle.cip_solve.specs.CoreStates.{reduced_of, way_of}
use Rattle.cip_solve.specs.Searching.{IsSameSearch, IsStanding, IsWritten, WasShortAt}
use Rattle.cip_solve.specs.SplitsServed.{splits_in, HasServed}
use Rattle.cip_solve.proofs.turns.Search.explore.Given as goal

abbrev pub invariant-loop : goal.invariant-loop
invariant-loop g l = record {
  standing : IsStanding l.self.work.core l.self.worst;
  written : IsWritten l.self.work.core l.self.marks.items;
  same : IsSameSearch l.fn.self.work.core l.self.work.core;
  plain : g.W.Works.asks ≡ false → l.self.work.core.touched ≡ l.fn.self.work.core.touched;
  short : (entries : ℕ) → 0 < entries → entries ≤ length l.self.work.core.tree.log → WasShortAt l.fn.self.work.core.program (reduced_of l.fn.self.work.core) (way_of l.fn.self.work.core) l.fn.self.work.core.tree.root.bound l.fn.asked l.self.work.core.tree.log entries;
  longer : length l.self.work.core.tree.log ≡ l.counter;
  ready : g.W.Works.is_ready l.works (columns (reduced_of l.self.work.core));
  served : HasServed (splits_in l.self.work.core.tree.log) (g.W.Works.state l.fn.works) (g.W.Works.state l.works);
}
