use Rattle.meson_targets.proofs.Words.{subst, IsNamed}
use Rattle.meson_targets.proofs.target_removing.not_in_use.Goals as goal

pub identifier_text-requires : goal.identifier_text-requires
identifier_text-requires c = subst IsNamed c.in-SetTo.is c.requires.named
