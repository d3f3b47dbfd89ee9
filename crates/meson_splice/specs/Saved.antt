-- Bytes that were saved before files were changed.
use Rattle.std.specs.List.{list_any}
use Rattle.std.specs.Prelude.{ℕ, Bool, List, [], ◌∷◌, ◌==◌}
use Rattle.meson_splice.specs.Files.{with_bytes}
use Rattle.meson_splice.specs.declared.change.SavedBytes.{SavedBytes}
use Rattle.meson_splice.specs.declared.file_set.File.{File}

-- the files with the saved bytes, of which the first are put back last
abbrev pub bytes_put_back : List SavedBytes → List File → List File
bytes_put_back [] files = files
bytes_put_back (s ∷ saved) files = with_bytes s.place s.bytes (bytes_put_back saved files)

-- whether bytes of the file at that place are saved
abbrev pub bytes_saved : ℕ → List SavedBytes → Bool
bytes_saved place saved = list_any (λ s. s.place == place) saved
