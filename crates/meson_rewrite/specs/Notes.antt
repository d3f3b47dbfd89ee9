-- What was seen of a refused command, for an answer in JSON.
use Rattle.std.specs.Prelude.{List, codes, option_map, Option, Some, None}
use Rattle.serde_json.specs.Data.{Data, Members, member, no_members, number, object, string, unsigned}
use Rattle.meson_splice.specs.declared.file_set.File.{File}
use Rattle.meson_splice.specs.Files.{bytes_at}
use Rattle.meson_ranges.specs.Positions.{position_of}
use Rattle.meson_calls.specs.Loading.{name_of_file}
use Rattle.meson_explaining.specs.declared.explanation.Note.{Note}
use Rattle.meson_explaining.specs.declared.explanation.Spot.{Spot}
use Rattle.meson_rewrite.specs.Objects.{range_data}
use Rattle.meson_rewrite.specs.declared.notes.NotePlace.{NotePlace}
use Rattle.meson_rewrite.specs.declared.notes.PlacedNote.{PlacedNote}

-- ---- where it is

abbrev pub place_of : List File → Spot → NotePlace
place_of files s = record {
  file = name_of_file s.file files;
  at = s.at;
  range = record { start = position_of (bytes_at s.file files) s.at; end = position_of (bytes_at s.file files) s.end };
}

abbrev pub placed_note : List File → Note → PlacedNote
placed_note files n = record { place = option_map (place_of files) n.spot; text = n.text }

-- ---- as an object, with its members in the order of their names

abbrev pub with_place : Option NotePlace → Members → Members
with_place None more = more
with_place (Some p) more = member (codes "at") (number (unsigned p.at)) (member (codes "file") (string p.file) (member (codes "range") (range_data p.range) more))

abbrev pub note_data : PlacedNote → Data
note_data n = object (with_place n.place (member (codes "text") (string n.text) no_members))
