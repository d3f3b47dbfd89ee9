-- No edit of a file cuts a character.
use Rattle.std.proofs.Common.{ℕ, List, subst, sym}
use Rattle.std.specs.List.{All}
use Rattle.std.specs.Str.{IsUtf8}
use Rattle.std.proofs.lemmas.List.Elements.{All-cons, All-head, All-map, All-nil, All-tail}
use Rattle.meson_splice.specs.declared.file_set.File.{File}
use Rattle.meson_ranges.specs.FileLaws.{FileEditsAreUtf8}
use Rattle.meson_ranges.specs.Files.{AreRangedEdits, differing, equal, no_files}
use Rattle.meson_ranges.specs.Ranges.{ranged}
use Rattle.meson_ranges.specs.declared.files.FileEdits.{FileEdits}
use Rattle.meson_ranges.specs.declared.ranges.RangedEdit.{RangedEdit}
use Rattle.meson_ranges.proofs.Characters.{edits_are_utf8}

abbrev BothUtf8 : RangedEdit → Type 0
BothUtf8 r = IsUtf8 r.edit.was × IsUtf8 r.edit.now

abbrev AllBoth : FileEdits → Type 0
AllBoth change = All BothUtf8 change.edits.items

one_file : (old new : List ℕ) (these : List RangedEdit) → AreRangedEdits old new these → IsUtf8 old → IsUtf8 new → All BothUtf8 these
one_file old new these are u v =
    subst (All BothUtf8) (sym are.with_ranges) (All-map BothUtf8 (ranged old) are.edits (edits_are_utf8 old new are.edits are.are u v))

abbrev IsText : File → Type 0
IsText f = IsUtf8 f.bytes

pub file_edits_are_utf8 : FileEditsAreUtf8
file_edits_are_utf8 _ _ _ no_files us vs = All-nil AllBoth
file_edits_are_utf8 _ _ _ (equal o n old new changes same rest) us vs =
    file_edits_are_utf8 old new changes rest (All-tail IsText o old us) (All-tail IsText n new vs)
file_edits_are_utf8 _ _ _ (differing o n old new change changes differ named are rest) us vs =
    All-cons AllBoth change changes
    (one_file o.bytes n.bytes change.edits.items are (All-head IsText o old us) (All-head IsText n new vs))
    (file_edits_are_utf8 old new changes rest (All-tail IsText o old us) (All-tail IsText n new vs))
