-- The edits of an object make the new files of the old ones.
use Rattle.std.proofs.Common.{◌≡◌, List, ap, inl, inr, map, true}
use Rattle.meson_splice.specs.Files.{IsDistinct}
use Rattle.meson_ranges.proofs.FilesMade.{file_edits_make}
use Rattle.meson_ranges.specs.FileLaws.{with_edits}
use Rattle.meson_ranges.specs.Files.{AreFileEdits}
use Rattle.meson_ranges.specs.declared.files.FileEdits.{FileEdits}
use Rattle.meson_script.specs.declared.session.Report.{Report}
use Rattle.meson_script.specs.declared.session.Session.{Session}
use Rattle.meson_rewrite.proofs.Names.{step-names}
use Rattle.meson_rewrite.specs.ObjectLaws.{EditsOfObjectsMake}
use Rattle.meson_rewrite.specs.Steps.{Does}
use Rattle.meson_rewrite.specs.declared.request.Step.{Step}
use Rattle.meson_rewrite.specs.declared.request.Step.TheVariants.{Run, Tell, Undo, UndoTo, UndoChecked, Redo, ForgetOldest, ForgetAll}

makes : (step : Step) (old new : Session) (report : Report) (changes : List FileEdits) → IsDistinct old.project.files → Does true step old report new
    → AreFileEdits old.project.files new.project.files changes → map (with_edits changes) old.project.files ≡ new.project.files
makes step old new report changes distinct does are =
    file_edits_make old.project.files new.project.files changes distinct (step-names true step old new report does) are

pub edits-of-objects-make : EditsOfObjectsMake
edits-of-objects-make (Run script title) old new report said distinct does (changes, are, listings, text, is) = inr (changes, listings, is, makes (Run script title) old new report changes distinct does are)
edits-of-objects-make (Tell script) old new report said distinct does (changes, are, listings, text, is) = inr (changes, listings, is, makes (Tell script) old new report changes distinct does are)
edits-of-objects-make Undo old new report said distinct does (changes, are, listings, text, is) = inr (changes, listings, is, makes Undo old new report changes distinct does are)
edits-of-objects-make (UndoTo count) old new report said distinct does (changes, are, listings, text, is) = inr (changes, listings, is, makes (UndoTo count) old new report changes distinct does are)
edits-of-objects-make (UndoChecked count kept) old new report said distinct does (changes, are, listings, text, is) =
    inr (changes, listings, is, makes (UndoChecked count kept) old new report changes distinct does are)
edits-of-objects-make Redo old new report said distinct does (changes, are, listings, text, is) = inr (changes, listings, is, makes Redo old new report changes distinct does are)
edits-of-objects-make (ForgetOldest count) old new report said distinct does is = inl (ap (λ p. p.files) does.1.project)
edits-of-objects-make ForgetAll old new report said distinct does is = inl (ap (λ p. p.files) does.1.project)
