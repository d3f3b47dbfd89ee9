use Rattle.meson_edit.proofs.Words.{of_block, Nowhere, reach-fits, list-fits}
use Rattle.meson_edit.proofs.trees.holes.Goals as goal

pub returns : goal.returns
returns c = record {
  holes_fit = λ b path h is. let f = reach-fits Nowhere of_block b path h is in (f.same, f.put);
  lists_fit = λ t path p is. let f = list-fits Nowhere t path p is in (f.same, f.put);
}
