use Rattle.std.proofs.Common.{rules, ◌≡◌, ◌++◌, ◌<◌, ◌≤◌, length, arith, ap, sym, subst, ◌∙◌, map, string_bytes}
use Rattle.std.specs.Prelude.{false, All}
use Rattle.meson_calls.specs.Folders.{IsFileName}
use Rattle.meson_calls.specs.Notes.{note_view}
use Rattle.meson_calls.specs.Strings.{AreGood, NotesGood, note_words}
use Rattle.meson_calls.proofs.GoodNotes.{good_at, tree_good}
use Rattle.meson_entering.specs.Code.{file_view}
use Rattle.meson_entering.specs.Entering.{note_enters}
use Rattle.meson_entering.proofs.Entered.{notes_enter}
use Rattle.meson_entering.proofs.EnteredNames.{entered_named}
use Rattle.meson_entering.proofs.NoSubdirs.{no_subdirs}
use Rattle.meson_entering.proofs.Turns.{ended, next, through}
use Rattle.meson_entering.proofs.entering.entered_by.Goals as goal

pub returns-then-not-may_enter-clause-all : goal.returns-then-not-may_enter-clause-all
returns-then-not-may_enter-clause-all c =
    let bytes = c.args.file.source.now in
    let nowhere : c.may_enter.result ≡ false = search rules in
    ap (map string_bytes) c.new-names.ensures.items ∙ sym (no_subdirs c.args.reading (file_view c.args.file) bytes c.requires.spanned (c.may_enter.ensures nowhere))

pub add_entered-requires-clause-good : goal.add_entered-requires-clause-good
add_entered-requires-clause-good c =
    let within : c.loop-i.i < length c.in_ok-notes.notes.items = omega (arith, c.loop-i-test.true, c.len-i-end.ensures) in
    let good = subst NotesGood (sym (c.in_ok-notes.ensures ∙ c.in_ok-taken.ensures)) (tree_good c.args.file.source.now c.args.file.tree.now c.requires.spanned) in
    subst (λ n. AreGood (note_words (note_view n).it)) (sym c.index.ensures) (good_at c.in_ok-notes.notes.items c.loop-i.i c.index.result.now within good)

pub loop-i-preserved : goal.loop-i-preserved
loop-i-preserved c =
    let f = file_view c.args.file in
    let within : c.loop-i.i < length c.in_ok-notes.notes.items = omega (arith, c.loop-i-test.true, c.len-i-end.ensures) in
    let is = c.in_ok-add_entered.ensures ∙ ap (λ n. map string_bytes c.loop-i.names.items ++ note_enters c.args.reading f (note_view n)) c.index.ensures in
    next (λ n. note_enters c.args.reading f (note_view n)) c.in_ok-notes.notes.items c.loop-i.i c.index.result.now _ _ _ within is c.loop-i.invariant

pub returns-clause-all : goal.returns-clause-all
returns-clause-all c =
    let f = file_view c.args.file in
    let past : length c.in_ok-notes.notes.items ≤ c.loop-i.i = omega (arith, c.loop-i-test.false, c.len-i-end.ensures) in
    ended (λ n. note_enters c.args.reading f (note_view n)) c.in_ok-notes.notes.items c.loop-i.i _ _ past c.loop-i.invariant
    ∙ through (note_enters c.args.reading f) note_view c.in_ok-notes.notes.items _ (c.in_ok-notes.ensures ∙ c.in_ok-taken.ensures) ∙ notes_enter c.args.reading f

pub returns-clause-named : goal.returns-clause-named
returns-clause-named c = subst (All IsFileName) (sym (returns-clause-all c)) (entered_named c.args.reading (file_view c.args.file) c.requires.named)
