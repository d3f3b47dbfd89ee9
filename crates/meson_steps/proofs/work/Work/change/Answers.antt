use Rattle.meson_steps.proofs.Words.{◌+◌, ◌++◌, ap, ◌∙◌, length, subst, arith, IsSpannedWithin, wide, view, saturated}
use Rattle.meson_steps.proofs.PatchedFiles.{all_as_many}
use Rattle.meson_steps.proofs.work.Work.change.Goals as goal

pub bytes-bytes-requires : goal.bytes-bytes-requires
bytes-bytes-requires c =
    let same = all_as_many c.args.self.now.files c.applied.new.files c.args.splices.items c.in_ok-splices.ensures.made in
    let inside = c.requires.files in
    omega (arith, same, inside)

pub returns-clause-done : goal.returns-clause-done
returns-clause-done c = record {
  tree = c.in-Ok.tree;
  are_files = c.in_ok-splices.ensures.made;
  are_splices = c.in_ok-push_all.ensures ∙ ap (λ ss. c.args.self.now.splices.items ++ ss) c.in_ok-splices.ensures.same;
  are_trees = c.in_ok-exchange-in-Ok.ensures.done;
  are_saved = c.in_ok-exchange-in-Ok.ensures.saved;
  is_read = subst (λ b. IsSpannedWithin wide b (view b c.in-Ok.tree)) c.bytes-bytes.ensures c.in-Ok.ensures.reads;
  is_relexed = c.saturating_add-self.ensures ∙ ap (λ b. saturated (c.args.self.now.relexed + length b)) c.bytes-bytes.ensures;
}
