-- The texts of notes as JSON, member after member.
use Rattle.std.proofs.Common.{◌≡◌, ◌∙◌, ℕ, List, [], ◌∷◌, ◌++◌, None, Some, ap, append_assoc, codes, decimal, refl, sym}
use Rattle.json.specs.Print.{escape_byte, quoted}
use Rattle.serde_json.specs.Written.{compact_text}
use Rattle.meson_ranges.specs.declared.ranges.Range.{Range}
use Rattle.meson_rewrite.specs.Notes.{note_data}
use Rattle.meson_rewrite.specs.Objects.{range_data}
use Rattle.meson_rewrite.specs.declared.notes.NotePlace.{NotePlace}
use Rattle.meson_rewrite.specs.declared.notes.PlacedNote.{PlacedNote}

pub range-text : (r : Range)
    → codes "{\"end\":{\"character\":" ++ (decimal r.end.character ++ (codes ",\"line\":" ++ (decimal r.end.line
    ++ (codes "},\"start\":{\"character\":" ++ (decimal r.start.character ++ (codes ",\"line\":" ++ (decimal r.start.line ++ codes "}}"))))))) ≡ compact_text (range_data r)
unfolding escape_byte
range-text r = simp append_assoc

placed-text : (p : NotePlace) (text : List ℕ)
    → codes "{\"at\":" ++ (decimal p.at ++ (codes ",\"file\":" ++ (quoted p.file ++ (codes ",\"range\":" ++ (compact_text (range_data p.range)
    ++ (codes ",\"text\":" ++ (quoted text ++ codes "}"))))))) ≡ compact_text (note_data (record { place = Some p; text = text }))
unfolding escape_byte
placed-text p text = simp append_assoc

plain-text : (text : List ℕ) → codes "{\"text\":" ++ (quoted text ++ codes "}") ≡ compact_text (note_data (record { place = None; text = text }))
unfolding escape_byte
plain-text text = simp append_assoc

pub with-place : (n : PlacedNote) (p : NotePlace) → n.place ≡ Some p
    → codes "{\"at\":" ++ (decimal p.at ++ (codes ",\"file\":" ++ (quoted p.file ++ (codes ",\"range\":" ++ (compact_text (range_data p.range)
    ++ (codes ",\"text\":" ++ (quoted n.text ++ codes "}"))))))) ≡ compact_text (note_data n)
with-place n p is = placed-text p n.text ∙ ap (λ place. compact_text (note_data (record { place = place; text = n.text }))) (sym is)

pub without-place : (n : PlacedNote) → n.place ≡ None → codes "{\"text\":" ++ (quoted n.text ++ codes "}") ≡ compact_text (note_data n)
without-place n is = plain-text n.text ∙ ap (λ place. compact_text (note_data (record { place = place; text = n.text }))) (sym is)
