use Rattle.std.proofs.Common.{◌∙◌, ◌++◌, ap, subst, subst₂, sym}
use Rattle.meson_diff.specs.Alignment.{BeginApart, EndApart, marked, new_lines, old_lines}
use Rattle.meson_diff.specs.Changes.{AreChanges}
use Rattle.meson_diff.specs.declared.entry.Mark.TheVariants.{Kept}
use Rattle.meson_diff.proofs.Changes.{are_changes, kept_before, kept_behind}
use Rattle.meson_diff.proofs.Ends.{begin_apart, end_apart, joined_ends, new_of_ends, old_of_ends, rest_apart}
use Rattle.meson_diff.proofs.Nearest.{from_none}
use Rattle.meson_diff.proofs.aligning.aligned.Goals as goal

pub returns-clause-of_old : goal.returns-clause-of_old
returns-clause-of_old c =
    let between = c.push_between.new.entries.items in
    let parts = joined_ends c.new-entries.result.items c.push_all.new.entries.items c.append.new.self.items c.push_all-2.new.entries.items between
    c.split_at-3.result.0.now c.split_at.result.1.now
    c.new-entries.ensures.items c.in_ok-push_all.ensures c.in_ok-append.ensures.items c.in_ok-push_all-2.ensures in
    let lines = c.in_ok-push_between.ensures.of_old ∙ ap (λ l. old_lines l ++ c.split_at-3.result.1.now) c.new-between.ensures.items in
    old_of_ends c.push_all-2.new.entries.items between c.split_at-3.result.0.now c.split_at-3.result.1.now c.split_at.result.1.now c.split_at.result.0.now c.args.old.now
    parts lines c.split_at-3.ensures.by_index.0 c.split_at.ensures.by_index.0

pub returns-clause-of_new : goal.returns-clause-of_new
returns-clause-of_new c =
    let between = c.push_between.new.entries.items in
    let parts = joined_ends c.new-entries.result.items c.push_all.new.entries.items c.append.new.self.items c.push_all-2.new.entries.items between
    c.split_at-3.result.0.now c.split_at.result.1.now
    c.new-entries.ensures.items c.in_ok-push_all.ensures c.in_ok-append.ensures.items c.in_ok-push_all-2.ensures in
    let lines = c.in_ok-push_between.ensures.of_new ∙ ap (λ l. new_lines l ++ c.split_at-4.result.1.now) c.new-between.ensures.items in
    let one_end = c.split_at-2.ensures.back ∙ sym c.common_tail-tail.ensures.same ∙ sym c.split_at.ensures.back in
    let one_begin = c.split_at-4.ensures.front ∙ sym c.common_head-head.ensures.same ∙ sym c.split_at-3.ensures.front in
    new_of_ends c.push_all-2.new.entries.items between c.split_at-3.result.0.now c.split_at-4.result.1.now c.split_at.result.1.now c.split_at-2.result.0.now c.args.new.now
    parts lines
    (c.split_at-4.ensures.by_index.0 ∙ ap (λ l. l ++ c.split_at-4.result.1.now) one_begin)
    (c.split_at-2.ensures.by_index.0 ∙ ap (λ l. c.split_at-2.result.0.now ++ l) one_end)

pub returns-clause-ends : goal.returns-clause-ends
returns-clause-ends c =
    let between = c.push_between.new.entries.items in
    let old_front = c.split_at.result.0.now in
    let new_front = c.split_at-2.result.0.now in
    let head = c.common_head-head.result in
    let old_lines_are = c.in_ok-push_between.ensures.of_old ∙ ap (λ l. old_lines l ++ c.split_at-3.result.1.now) c.new-between.ensures.items in
    let new_lines_are = c.in_ok-push_between.ensures.of_new ∙ ap (λ l. new_lines l ++ c.split_at-4.result.1.now) c.new-between.ensures.items in
    let ends = subst₂ EndApart (sym c.split_at.ensures.front) (sym c.split_at-2.ensures.front)
    (end_apart c.args.old.now c.args.new.now c.common_tail-tail.result c.common_tail-tail.ensures.apart) in
    let rest_ends = rest_apart old_front new_front c.split_at-3.result.0.now c.split_at-4.result.0.now c.split_at-3.result.1.now c.split_at-4.result.1.now ends
    c.split_at-3.ensures.by_index.0 c.split_at-4.ensures.by_index.0 in
    let rest_begins = subst₂ BeginApart (sym c.split_at-3.ensures.back) (sym c.split_at-4.ensures.back)
    (begin_apart old_front new_front head c.common_head-head.ensures.apart) in
    record {
      head = c.split_at-3.result.0.now;
      between = between;
      tail = c.split_at.result.1.now;
      parts = joined_ends c.new-entries.result.items c.push_all.new.entries.items c.append.new.self.items c.push_all-2.new.entries.items between
          c.split_at-3.result.0.now c.split_at.result.1.now
          c.new-entries.ensures.items c.in_ok-push_all.ensures c.in_ok-append.ensures.items c.in_ok-push_all-2.ensures;
      begin_apart = subst₂ BeginApart (sym old_lines_are) (sym new_lines_are) rest_begins;
      end_apart = subst₂ EndApart (sym old_lines_are) (sym new_lines_are) rest_ends;
      nearest = from_none c.new-between.result.items between c.split_at-3.result.1.now c.split_at-4.result.1.now c.new-between.ensures.items
          c.in_ok-push_between.ensures.nearest;
    }

pub returns-clause-changes : goal.returns-clause-changes
returns-clause-changes c =
    let between = c.push_between.new.entries.items in
    let begin = c.split_at-3.result.0.now in
    let end = c.split_at.result.1.now in
    let parts = joined_ends c.new-entries.result.items c.push_all.new.entries.items c.append.new.self.items c.push_all-2.new.entries.items between begin end
    c.new-entries.ensures.items c.in_ok-push_all.ensures c.in_ok-append.ensures.items c.in_ok-push_all-2.ensures in
    let keeps = from_none c.new-between.result.items between c.split_at-3.result.1.now c.split_at-4.result.1.now c.new-between.ensures.items
    c.in_ok-push_between.ensures.nearest in
    subst AreChanges (sym parts) (kept_before begin (between ++ marked Kept end) (kept_behind between end (are_changes between keeps)))
