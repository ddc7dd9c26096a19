-- `capi::held_plot::dustroute_place` meets its contract. Assumes nothing.
use native.Mathlib.Omega.{arith}
use Rattle.capi.proofs.HeldLaws.{placed_small, seat_fits}
use Rattle.capi.proofs.held_plot.dustroute_place.Goals as goal

pub pack_refusal-requires : goal.pack_refusal-requires
pack_refusal-requires c = placed_small c.place_block.ensures c.in-Err.is

pub overflow_mul-result : goal.overflow_mul-result
overflow_mul-result c = omega (arith, seat_fits c.place_block.ensures c.in-Ok.place c.in-Ok.is)
