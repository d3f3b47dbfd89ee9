use Rattle.meson_steps.proofs.Words.{◌<◌, ◌++◌, ◌∙◌, ap, length, subst, arith, ◌^◌}
use Rattle.meson_steps.proofs.ListChanged.{around_fits, found_own, is_own, old_within, ordered, own_fits, reads_list, size_is, size_within}
use Rattle.meson_steps.proofs.PatchedFiles.{all_as_many}
use Rattle.meson_steps.proofs.work.Work.read_list.Goals as goal

pub bytes-bytes-requires : goal.bytes-bytes-requires
bytes-bytes-requires c =
    let same = all_as_many c.args.self.now.files c.applied.new.files c.args.splices.items c.in_ok-splices.ensures.made in
    let inside = c.requires.files in
    omega (arith, same, inside)

pub move_by-requires : goal.move_by-requires
move_by-requires c =
    let fits : length c.bytes-bytes.result.now < 2 ^ 64 = omega arith in
    own_fits c.args.self.now.files c.args.file c.args.splices.items c.args.spot c.requires.read c.bytes.result.now c.bytes.ensures c.applied.new.files c.in_ok-splices.ensures.made
    c.bytes-bytes.result.now c.bytes-bytes.ensures c.part.result.now c.part.ensures c.in_ok-list.list c.in_ok-list.ensures.reads fits

pub returns-clause-done : goal.returns-clause-done
returns-clause-done c = λ m.
    let files = c.args.self.now.files in
    let made = c.in_ok-splices.ensures.made in
    let new = c.applied.new.files in
    let list = c.in_ok-list.list in
    let old_fits : length c.bytes.result.now < 2 ^ 64 = omega arith in
    let new_fits : length c.bytes-bytes.result.now < 2 ^ 64 = omega arith in
    let reads = reads_list files c.args.file c.args.splices.items c.args.spot m c.bytes.result.now c.bytes.ensures new made c.bytes-bytes.result.now c.bytes-bytes.ensures c.part.result.now c.part.ensures in
    record {
      are_files = made;
      are_splices = c.in_ok-push_all.ensures ∙ ap (λ ss. c.args.self.now.splices.items ++ ss) c.in_ok-splices.ensures.same;
      is_relexed = c.saturating_add-self.ensures;
      size = size_is files c.args.file c.args.splices.items c.args.spot m c.bytes.result.now c.bytes.ensures new made c.bytes-bytes.result.now c.bytes-bytes.ensures;
      own = list;
      is_own = is_own files c.args.file c.args.splices.items c.args.spot m c.bytes.result.now c.bytes.ensures new made c.bytes-bytes.result.now c.bytes-bytes.ensures c.part.result.now c.part.ensures
          list c.in_ok-list.ensures.reads;
      found = found_own files c.args.file c.args.splices.items c.args.spot m c.bytes.result.now c.bytes.ensures new made c.bytes-bytes.result.now c.bytes-bytes.ensures c.part.result.now c.part.ensures
          list c.in_ok-list.ensures.reads (c.in_ok-list.ensures.finds m.list reads);
      moved = c.move_by.ensures;
      before_fits = subst (λ b. length b < 2 ^ 64) c.bytes.ensures old_fits;
      after_fits = subst (λ b. length b < 2 ^ 64) c.bytes-bytes.ensures new_fits;
    }

pub overflow_sub-around : goal.overflow_sub-around
overflow_sub-around c = ordered c.args.self.now.files c.args.file c.args.splices.items c.args.spot c.requires.read

pub overflow_sub-around-2 : goal.overflow_sub-around-2
overflow_sub-around-2 c = old_within c.args.self.now.files c.args.file c.args.splices.items c.args.spot c.requires.read c.bytes.result.now c.bytes.ensures

pub overflow_sub-now : goal.overflow_sub-now
overflow_sub-now c =
    around_fits c.args.self.now.files c.args.file c.args.splices.items c.args.spot c.requires.read c.bytes.result.now c.bytes.ensures c.applied.new.files c.in_ok-splices.ensures.made c.bytes-bytes.result.now c.bytes-bytes.ensures

pub part-requires : goal.part-requires
part-requires c =
    size_within c.args.self.now.files c.args.file c.args.splices.items c.args.spot c.requires.read c.bytes.result.now c.bytes.ensures c.applied.new.files c.in_ok-splices.ensures.made c.bytes-bytes.result.now c.bytes-bytes.ensures

pub list_in-requires : goal.list_in-requires
list_in-requires c = (
  c.requires.read.list,
  reads_list c.args.self.now.files c.args.file c.args.splices.items c.args.spot c.requires.read c.bytes.result.now c.bytes.ensures c.applied.new.files c.in_ok-splices.ensures.made c.bytes-bytes.result.now c.bytes-bytes.ensures
      c.part.result.now c.part.ensures,
)
