use Rattle.std.proofs.Common.{subst, sym}
use Rattle.std.specs.List.{All}
use Rattle.std.specs.Str.{IsUtf8}
use Rattle.meson_ranges.specs.declared.files.FileEdits.{FileEdits}
use Rattle.meson_ranges.proofs.FilesUtf8.{file_edits_are_utf8}
use Rattle.meson_rewrite.proofs.objects.changes_array.Goals as goal

abbrev AllBoth : FileEdits → Type 0
AllBoth f = All (λ r. IsUtf8 r.edit.was × IsUtf8 r.edit.now) f.edits.items

pub files_array-requires : goal.files_array-requires
files_array-requires c =
    subst (All AllBoth) (sym c.as_slice.ensures.value)
    (file_edits_are_utf8 c.args.old.now c.args.new.now c.in_ok-changes.changes.items c.in_ok-changes.ensures c.requires.old_text c.requires.new_text)
