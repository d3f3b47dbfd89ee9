-- Steps keep what their edits do not touch.
use Rattle.meson_steps.proofs.Words.{List, subst, with_bytes, File, Splice, name_of_file, Step, Laid}
use Rattle.meson_edit.proofs.Keeping.{edits-keep}
use Rattle.meson_steps.specs.Steps as making
use Rattle.meson_steps.specs.Keeping.{StepKeeps, StepsKeep, MakingKeeps}
use Rattle.meson_steps.specs.Keeping as keeping
use Rattle.meson_steps.proofs.PatchedFiles.{same_files}

one_keeps : (files : List File) (s : Step) (here : List Splice) (laid : Laid files s here) → StepKeeps files s laid.text
one_keeps files s here laid = record {
  file = laid.file;
  limits = laid.limits;
  spanned = laid.spanned;
  items = laid.items;
  are_items = laid.are_items;
  keeps = edits-keep s.edit laid.limits _ laid.file laid.spanned laid.items laid.are_items (name_of_file s.file files) laid.writes laid.now laid.is_now laid.primitive laid.is_primitive laid.text laid.is_text;
}

pub making_keeps : MakingKeeps
making_keeps files steps splices last bytes (making.none fs) = keeping.none files
making_keeps files steps splices last bytes (making.step fs between end s more here later count laid done rest) =
    let same = same_files between (with_bytes s.file laid.text files) _ done laid.made in
    keeping.step files last s more laid.text (one_keeps files s here laid) (subst (λ b. StepsKeep b more last) same (making_keeps between more later last count rest))
