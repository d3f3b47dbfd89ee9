-- What holds of the objects that answer a step.
use Rattle.std.specs.Prelude.{◌≡◌, ◌⊎◌, List, map, true}
use Rattle.serde_json.specs.Data.{Data}
use Rattle.meson_splice.specs.Files.{IsDistinct}
use Rattle.meson_ranges.specs.FileLaws.{with_edits}
use Rattle.meson_ranges.specs.declared.files.FileEdits.{FileEdits}
use Rattle.meson_script.specs.declared.session.Report.{Report}
use Rattle.meson_script.specs.declared.session.Session.{Session}
use Rattle.meson_rewrite.specs.Objects.{SaysObject, changes_files, done_data, says_data}
use Rattle.meson_rewrite.specs.Steps.{Does}
use Rattle.meson_rewrite.specs.declared.request.Step.{Step}
use Rattle.meson_rewrite.specs.declared.said.Said.{Said}

-- The answer to a step holds edits. Done on the files as they were, they make the files as they are after the step. Or the step changes no file.
abbrev pub EditsOfObjectsMake : Type 0
EditsOfObjectsMake = (step : Step) (old new : Session) (report : Report) (said : Said) → IsDistinct old.project.files → Does true step old report new
    → SaysObject step old.project.files new.project.files report said
    → (new.project.files ≡ old.project.files)
    ⊎ ((changes : List FileEdits) × (listings : List Data) × (said ≡ says_data (changes_files step report) (done_data changes listings report))
    × (map (with_edits changes) old.project.files ≡ new.project.files))
