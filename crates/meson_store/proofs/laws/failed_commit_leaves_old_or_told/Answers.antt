use Rattle.meson_store.proofs.Leaving.{left-tried, old-new-or-held, old-or-told, told-was-tried}
use Rattle.meson_store.specs.Commit.{still_new}
use Rattle.meson_store.proofs.laws.failed_commit_leaves_old_or_told.Goals as goal

pub returns : goal.returns
returns c = record {
  old_or_told = λ folder old new held left fault f p t. old-or-told held left (still_new fault) p (left-tried folder old new held left fault f p t);
  one_of_three = λ folder old new held left fault f p t. old-new-or-held held left (still_new fault) p (left-tried folder old new held left fault f p t);
  no_other = told-was-tried;
}
