use Rattle.cip_problem.proofs.Box.SideTests.{low_inside_holds, high_inside_holds, sides_inside_holds, inner_box_holds}
use Rattle.cip_problem.proofs.inner_boxes.Goals as goal

pub returns : goal.returns
returns c = record { low = low_inside_holds; high = high_inside_holds; sides = sides_inside_holds; boxes = inner_box_holds }
