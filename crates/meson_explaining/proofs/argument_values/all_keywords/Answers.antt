use Rattle.std.proofs.Common.{◌+◌, ◌++◌, drop, sym, ap, ◌∙◌}
use Rattle.std.specs.Prelude.{option_map}
use Rattle.std.specs.List.{filter_map}
use Rattle.meson_splice.specs.Files.{bytes_at}
use Rattle.meson_syntax.specs.View.{arg_view, args_view}
use Rattle.meson_explaining.specs.ArgumentValues.{keyword_note}
use Rattle.meson_explaining.proofs.ArgumentNotes.{none_kept, one_kept}
use Rattle.meson_explaining.proofs.argument_values.all_keywords.Goals as goal
use Rattle.meson_explaining.proofs.argument_values.all_keywords.Goals.{in-Some+in_ok-push, in_default}

pub loop-i-preserved : goal.loop-i-preserved
loop-i-preserved c =
    let source = bytes_at c.args.file c.args.files.now in
    let args = c.args.args.now in
    let i = c.loop-i.i in
    let d = c.index-args-i.result in
    let all = c.loop-i.notes.items in
    let note = keyword_note c.args.files.now c.args.file (option_map (λ key. key.now) c.args.key) in
    let rest = filter_map note (args_view source (drop (i + 1) args)) in
    let here = ap (λ a. note (arg_view source a)) (sym c.index-args-i.is) ∙ sym c.in_ok-note.ensures in
    elim c.match-branch-2.branch [
      | in-Some+in_ok-push w ↦
          ap (λ v. v.items ++ rest) w.notes-is ∙ ap (λ ps. ps ++ rest) w.in_ok-push.ensures.items
          ∙ one_kept note source args i d c.loop-i-test.true all w.in-Some.note (here ∙ w.in-Some.is) ∙ c.loop-i.invariant
      | in_default w ↦
          ap (λ v. v.items ++ rest) w.notes-is ∙ none_kept note source args i d c.loop-i-test.true all (here ∙ w.in_default.is) ∙ c.loop-i.invariant
    ]
