-- What is said in JSON, with the members of each object in the order of the bytes of their names.
use Rattle.std.specs.Prelude.{◌≡◌, ◌==◌, Bool, false, not, List, [], codes, length, map, reverse}
use Rattle.serde_json.specs.Data.{Data, array, member, no_members, number, object, string, unsigned}
use Rattle.serde_json.specs.View.{items_of}
use Rattle.serde_json.specs.Written.{compact_text}
use Rattle.meson_splice.specs.declared.change.Change.{Change}
use Rattle.meson_splice.specs.declared.file_set.File.{File}
use Rattle.meson_splice.specs.declared.history.History.{History}
use Rattle.meson_ranges.specs.Files.{AreFileEdits}
use Rattle.meson_ranges.specs.declared.files.FileEdits.{FileEdits}
use Rattle.meson_ranges.specs.declared.positions.Position.{Position}
use Rattle.meson_ranges.specs.declared.ranges.Range.{Range}
use Rattle.meson_ranges.specs.declared.ranges.RangedEdit.{RangedEdit}
use Rattle.meson_script.specs.Listings.{listings_text}
use Rattle.meson_script.specs.declared.session.Report.{Report}
use Rattle.meson_sums.specs.Sums.{digest}
use Rattle.meson_rewrite.specs.Changes.{edited_files}
use Rattle.meson_rewrite.specs.Lines.{line}
use Rattle.meson_rewrite.specs.declared.request.Step.{Step}
use Rattle.meson_rewrite.specs.declared.request.Step.TheVariants.{Tell, ForgetOldest, ForgetAll}
use Rattle.meson_rewrite.specs.declared.said.Said.{Said}

-- ---- the edits of files

abbrev pub position_data : Position → Data
position_data p = object (member (codes "character") (number (unsigned p.character)) (member (codes "line") (number (unsigned p.line)) no_members))

abbrev pub range_data : Range → Data
range_data r = object (member (codes "end") (position_data r.end) (member (codes "start") (position_data r.start) no_members))

-- of the file as it was: the offset of the first byte, the text that is inserted, the text that is removed, and its range
abbrev pub edit_data : RangedEdit → Data
edit_data e = object (member (codes "at") (number (unsigned e.edit.at)) (member (codes "newText") (string e.edit.now)
    (member (codes "oldText") (string e.edit.was) (member (codes "range") (range_data e.range) no_members))))

abbrev pub file_edits_data : FileEdits → Data
file_edits_data f = object (member (codes "edits") (array (items_of (map edit_data f.edits.items))) (member (codes "file") (string f.name.now) no_members))

-- ---- a step

-- what it makes of the files, how many of them differ, what was listed, the number of splices and the title
abbrev pub done_members : Data → List Data → Report → Data
done_members changes listings report =
    object (member (codes "changes") changes
    (member (codes "files") (number (unsigned report.files)) (member (codes "info") (array (items_of listings))
    (member (codes "splices") (number (unsigned report.splices)) (member (codes "title") (string report.title) no_members)))))

abbrev pub done_data : List FileEdits → List Data → Report → Data
done_data changes listings report = done_members (array (items_of (map file_edits_data changes))) listings report

-- the number of changes that the log loses, or that it loses all
abbrev pub forgot_data : Data → Data
forgot_data which = object (member (codes "forgot") which no_members)

-- whether a step that reports this gives a build file other bytes: one that only tells, or only drops changes of the log, gives none
abbrev pub changes_files : Step → Report → Bool
changes_files (Tell script) report = false
changes_files (ForgetOldest count) report = false
changes_files ForgetAll report = false
changes_files _ report = not (report.files == 0)

-- one line of compact JSON on the output, and nothing for errors
abbrev pub says_data : Bool → Data → Said
says_data changed d = record { out = line (compact_text d); err = []; changed = changed }

-- of a step that makes the second files of the first, and lists these
abbrev pub SaysObject : Step → List File → List File → Report → Said → Type 0
SaysObject (ForgetOldest count) old new report said = said ≡ says_data false (forgot_data (number (unsigned count)))
SaysObject ForgetAll old new report said = said ≡ says_data false (forgot_data (string (codes "all")))
SaysObject step old new report said = (changes : List FileEdits) × AreFileEdits old new changes
    × (listings : List Data) × (report.info ≡ listings_text listings) × (said ≡ says_data (changes_files step report) (done_data changes listings report))

-- ---- listings

-- how many files a change edits, the number of its splices and its title
abbrev pub change_data : Change → Data
change_data c = object (member (codes "files") (number (unsigned (length (edited_files c.splices))))
    (member (codes "splices") (number (unsigned (length c.splices))) (member (codes "title") (string c.title) no_members)))

abbrev pub changes_data : List Change → Data
changes_data changes = array (items_of (map change_data changes))

-- what can be done again, the next first, and what can be undone, the newest first
abbrev pub history_data : History → Data
history_data h = object (member (codes "future") (changes_data (reverse h.future)) (member (codes "past") (changes_data (reverse h.past)) no_members))

abbrev pub sum_data : File → Data
sum_data f = object (member (codes "file") (string f.name) (member (codes "sha256") (string (digest f.bytes)) no_members))

-- the digests of files, in order
abbrev pub sums_data : List File → Data
sums_data files = object (member (codes "sums") (array (items_of (map sum_data files))) no_members)
