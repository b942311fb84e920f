-- Demand 3: no slit, in the words of the specs.
use Rattle.cuts.specs.Demand3.{NoSlit}
use Rattle.cuts.proofs.NoSlit.{cell_whole, total-over, once_or_twice, outer_once}
use Rattle.cuts.proofs.Shared.{shared_quad}

pub no_slit : NoSlit
no_slit = record {
  sum = total-over;
  within = λ c p. once_or_twice (cell_whole c p).sound;
  shown = λ c p. outer_once (cell_whole c p).sound;
  shared = shared_quad;
}
