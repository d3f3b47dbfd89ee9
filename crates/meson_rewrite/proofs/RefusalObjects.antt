-- The text of the object of a refusal, member after member.
use Rattle.std.proofs.Common.{◌≡◌, ℕ, List, [], ◌∷◌, ◌++◌, Option, None, Some, true, false, codes, decimal, map, refl, sym, ap, ◌∙◌, append_assoc}
use Rattle.json.specs.Print.{escape_byte, quoted}
use Rattle.serde_json.specs.Data.{Members, array, member, no_members, object, string}
use Rattle.serde_json.specs.View.{items_of}
use Rattle.serde_json.specs.Written.{compact_text, members_text}
use Rattle.meson_rewrite.specs.Codes.{stop_code}
use Rattle.meson_rewrite.specs.Lines.{stop_text}
use Rattle.meson_rewrite.specs.Refused.{notes_part, number_part, offset_part, text_part, texts_part, with_notes, with_number, with_text, with_texts}
use Rattle.meson_rewrite.specs.Refused.{stop_command, stop_entry, stop_file, stop_help, stop_left, stop_name, stop_notes, stop_object, stop_offset}
use Rattle.meson_rewrite.specs.declared.notes.PlacedNote.{PlacedNote}
use Rattle.meson_rewrite.specs.declared.stop.Stop.{Stop}

number_member : (key : List ℕ) (o : Option ℕ) (more : Members) → members_text true (with_number key o more) ≡ number_part key o ++ members_text true more
number_member key None more = refl
number_member key (Some n) more = ap (λ (l : List ℕ). 44 ∷ l) (sym (append_assoc (quoted key) (58 ∷ decimal n) (members_text true more)))

text_member : (key : List ℕ) (o : Option (List ℕ)) (more : Members) → members_text true (with_text key o more) ≡ text_part key o ++ members_text true more
text_member key None more = refl
text_member key (Some text) more = ap (λ (l : List ℕ). 44 ∷ l) (sym (append_assoc (quoted key) (58 ∷ quoted text) (members_text true more)))

texts_member : (key : List ℕ) (o : Option (List (List ℕ))) (more : Members) → members_text true (with_texts key o more) ≡ texts_part key o ++ members_text true more
texts_member key None more = refl
texts_member key (Some texts) more =
    ap (λ (l : List ℕ). 44 ∷ l) (sym (append_assoc (quoted key) (58 ∷ compact_text (array (items_of (map string texts)))) (members_text true more)))

notes_member : (o : Option (List PlacedNote)) (more : Members) → members_text true (with_notes o more) ≡ notes_part o ++ members_text true more
unfolding escape_byte
notes_member None more = refl
notes_member (Some notes) more = refl

offset_member : (o : Option ℕ) (code : List ℕ) (more : Members)
    → members_text false (with_number (codes "at") o (member (codes "code") (string code) more)) ≡ offset_part o ++ (codes "\"code\":" ++ (quoted code ++ members_text true more))
unfolding escape_byte
offset_member None code more = refl
offset_member (Some at) code more = ap (λ (l : List ℕ). codes "\"at\":" ++ l) (sym (append_assoc (decimal at) (44 ∷ []) _))

message_member : (message : List ℕ) (more : Members)
    → members_text true (member (codes "message") (string message) more) ≡ codes ",\"message\":" ++ (quoted message ++ members_text true more)
unfolding escape_byte
message_member message more = refl

-- what is written, part after part; a long format is written in two halves
abbrev pub parts : Option ℕ → List ℕ → Option ℕ → Option ℕ → Option (List ℕ) → Option (List (List ℕ)) → Option (List (List ℕ)) → List ℕ → Option (List ℕ)
    → Option (List PlacedNote) → List ℕ
parts at code command entry file help left message name notes =
    codes "{\"error\":{" ++ ((offset_part at ++ (codes "\"code\":" ++ (quoted code ++ (number_part (codes "command") command
    ++ (number_part (codes "entry") entry ++ (text_part (codes "file") file ++ (texts_part (codes "help") help ++ (texts_part (codes "left") left
    ++ (codes ",\"message\":" ++ (quoted message ++ text_part (codes "name") name)))))))))) ++ (notes_part notes ++ codes "}}"))

abbrev pub members : Option ℕ → List ℕ → Option ℕ → Option ℕ → Option (List ℕ) → Option (List (List ℕ)) → Option (List (List ℕ)) → List ℕ → Option (List ℕ)
    → Option (List PlacedNote) → Members
members at code command entry file help left message name notes =
    with_number (codes "at") at (member (codes "code") (string code)
    (with_number (codes "command") command (with_number (codes "entry") entry
    (with_text (codes "file") file (with_texts (codes "help") help (with_texts (codes "left") left
    (member (codes "message") (string message) (with_text (codes "name") name (with_notes notes no_members)))))))))

-- a text at the end of twelve, as two halves
append_last : (a b c d e f g h i j k l t u : List ℕ)
    → (a ++ (b ++ (c ++ (d ++ (e ++ (f ++ (g ++ (h ++ (i ++ (j ++ (k ++ (l ++ t)))))))))))) ++ u
    ≡ (a ++ (b ++ (c ++ (d ++ (e ++ (f ++ (g ++ (h ++ (i ++ (j ++ k)))))))))) ++ (l ++ (t ++ u))
append_last a b c d e f g h i j k l t u = simp append_assoc

parts_are_text : (at : Option ℕ) (code : List ℕ) (command entry : Option ℕ) (file : Option (List ℕ)) (help left : Option (List (List ℕ))) (message : List ℕ)
    (name : Option (List ℕ)) (notes : Option (List PlacedNote))
    → compact_text (object (member (codes "error") (object (members at code command entry file help left message name notes)) no_members))
    ≡ parts at code command entry file help left message name notes
unfolding escape_byte
parts_are_text at code command entry file help left message name notes =
    ap (λ (l : List ℕ). codes "{\"error\":{" ++ (l ++ 125 ∷ []))
    (offset_member at code _ ∙ ap (λ (l : List ℕ). offset_part at ++ (codes "\"code\":" ++ (quoted code ++ l)))
    (number_member (codes "command") command _ ∙ ap (λ (l : List ℕ). number_part (codes "command") command ++ l)
    (number_member (codes "entry") entry _ ∙ ap (λ (l : List ℕ). number_part (codes "entry") entry ++ l)
    (text_member (codes "file") file _ ∙ ap (λ (l : List ℕ). text_part (codes "file") file ++ l)
    (texts_member (codes "help") help _ ∙ ap (λ (l : List ℕ). texts_part (codes "help") help ++ l)
    (texts_member (codes "left") left _ ∙ ap (λ (l : List ℕ). texts_part (codes "left") left ++ l)
    (message_member message _ ∙ ap (λ (l : List ℕ). codes ",\"message\":" ++ (quoted message ++ l))
    (text_member (codes "name") name _ ∙ ap (λ (l : List ℕ). text_part (codes "name") name ++ l)
    (notes_member notes no_members)))))))))
    ∙ ap (λ (l : List ℕ). codes "{\"error\":{" ++ l)
    (append_last (offset_part at) (codes "\"code\":") (quoted code) (number_part (codes "command") command) (number_part (codes "entry") entry)
    (text_part (codes "file") file) (texts_part (codes "help") help) (texts_part (codes "left") left) (codes ",\"message\":") (quoted message)
    (text_part (codes "name") name) (notes_part notes) (125 ∷ []) (125 ∷ []))

pub parts_are_object : (stop : Stop) (at : Option ℕ) (code : List ℕ) (command entry : Option ℕ) (file : Option (List ℕ)) (help left : Option (List (List ℕ)))
    (name : Option (List ℕ)) (notes : Option (List PlacedNote))
    → at ≡ stop_offset stop → code ≡ stop_code stop → command ≡ stop_command stop → entry ≡ stop_entry stop → file ≡ stop_file stop → help ≡ stop_help stop
    → left ≡ stop_left stop → name ≡ stop_name stop → notes ≡ stop_notes stop
    → parts at code command entry file help left (stop_text stop) name notes ≡ stop_object stop
parts_are_object stop at code command entry file help left name notes a b c d e f g h k =
    (λ i. parts (a i) (b i) (c i) (d i) (e i) (f i) (g i) (stop_text stop) (h i) (k i))
    ∙ sym (parts_are_text (stop_offset stop) (stop_code stop) (stop_command stop) (stop_entry stop) (stop_file stop) (stop_help stop) (stop_left stop)
    (stop_text stop) (stop_name stop) (stop_notes stop))
