use Rattle.programs.proofs.Accepted.{well_formed}
use Rattle.programs.proofs.print_plan_regardless.Goals as goal

pub work_out_widths-widths-requires : goal.work_out_widths-widths-requires
work_out_widths-widths-requires g c = well_formed _ _ c.in-Ok.is c.check.ensures
