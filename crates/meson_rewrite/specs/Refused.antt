-- Why a run was stopped, as a JSON object.
use Rattle.std.specs.Prelude.{ℕ, List, [], ◌∷◌, ◌++◌, map, codes, Option, Some, None, option_and_then, decimal}
use Rattle.json.specs.Print.{quoted}
use Rattle.serde_json.specs.Data.{Data, number, unsigned, string, array, object, Members, no_members, member}
use Rattle.serde_json.specs.View.{items_of}
use Rattle.serde_json.specs.Written.{compact_text}
use Rattle.meson_lex.specs.declared.fault.LexFault.{LexFault}
use Rattle.meson_lex.specs.declared.fault.LexFault.TheVariants as lex
use Rattle.meson_syntax.specs.declared.fault.ParseFault.{ParseFault}
use Rattle.meson_syntax.specs.declared.fault.ParseFault.TheVariants as parse
use Rattle.meson_splice.specs.declared.fault.SpliceFault.{SpliceFault}
use Rattle.meson_splice.specs.declared.fault.SpliceFault.TheVariants as splice
use Rattle.meson_calls.specs.declared.refusal.Refusal.{Refusal}
use Rattle.meson_calls.specs.declared.refusal.Refusal.TheVariants as refusal
use Rattle.meson_json.specs.declared.fault.ScriptFault.{ScriptFault}
use Rattle.meson_json.specs.declared.fault.ScriptFault.TheVariants as script
use Rattle.meson_store.specs.declared.store_fault.StoreFault.{StoreFault}
use Rattle.meson_store.specs.declared.store_fault.StoreFault.TheVariants as store
use Rattle.meson_rewrite.specs.Codes.{stop_code}
use Rattle.meson_rewrite.specs.Lines.{stop_text}
use Rattle.meson_rewrite.specs.Notes.{note_data}
use Rattle.meson_rewrite.specs.Stops.{stop_advice}
use Rattle.meson_rewrite.specs.declared.advice.Advice.{Advice}
use Rattle.meson_rewrite.specs.declared.advice.Advice.TheVariants as advice
use Rattle.meson_rewrite.specs.declared.notes.PlacedNote.{PlacedNote}
use Rattle.meson_rewrite.specs.declared.stop.Stop.{Stop}
use Rattle.meson_rewrite.specs.declared.stop.Stop.TheVariants.{Script, Parse, Refused, Splice, OtherFiles, Store}

-- ---- the offset in a file

abbrev pub lex_offset : LexFault → ℕ
lex_offset (lex.StrayByte at) = at
lex_offset (lex.OpenString at) = at
lex_offset (lex.BadNumber at) = at
lex_offset (lex.BareCarriageReturn at) = at

abbrev pub file_fault_offset : ParseFault → Option ℕ
file_fault_offset (parse.Lex fault) = Some (lex_offset fault)
file_fault_offset (parse.Unexpected at) = Some at
file_fault_offset (parse.TooDeep at) = Some at
file_fault_offset _ = None

abbrev pub splice_offset : SpliceFault → Option ℕ
splice_offset (splice.OutOfRange file at) = Some at
splice_offset (splice.Stale file at) = Some at
splice_offset _ = None

abbrev pub stop_offset : Stop → Option ℕ
stop_offset (Parse name text fault advice) = file_fault_offset fault
stop_offset (Splice fault run advice) = splice_offset fault
stop_offset _ = None

-- ---- the number of the command, and that of the entry of a script

abbrev pub refused_command : ℕ → Refusal → Option ℕ
refused_command index refusal.OutOfMemory = None
refused_command index _ = Some index

abbrev pub stop_command : Stop → Option ℕ
stop_command (Refused fault subject advice) = refused_command fault.index fault.refusal
stop_command _ = None

abbrev pub script_entry : ScriptFault → Option ℕ
script_entry (script.NotObject index) = Some index
script_entry (script.UnknownType index) = Some index
script_entry (script.BadField index member_) = Some index
script_entry (script.UnknownOperation index) = Some index
script_entry (script.Unsupported index) = Some index
script_entry (script.UnknownMember index member_) = Some index
script_entry _ = None

abbrev pub stop_entry : Stop → Option ℕ
stop_entry (Script fault advice) = script_entry fault
stop_entry _ = None

-- ---- the name of the file

abbrev pub parsed_file : List ℕ → ParseFault → Option (List ℕ)
parsed_file name parse.OutOfMemory = None
parsed_file name _ = Some name

abbrev pub splice_file : SpliceFault → Option (List ℕ)
splice_file (splice.NoFile file) = Some file
splice_file (splice.OutOfRange file at) = Some file
splice_file (splice.Stale file at) = Some file
splice_file _ = None

abbrev pub store_file : StoreFault → Option (List ℕ)
store_file (store.ReadFailed name) = Some name
store_file (store.WriteFailed name still_new) = Some name
store_file (store.NoFile name) = Some name
store_file _ = None

abbrev pub stop_file : Stop → Option (List ℕ)
stop_file (Parse name text fault advice) = parsed_file name fault
stop_file (Splice fault run advice) = splice_file fault
stop_file (OtherFiles name advice) = Some name
stop_file (Store fault advice) = store_file fault
stop_file _ = None

-- ---- the files that may have their new bytes, last first

abbrev pub store_left : StoreFault → Option (List (List ℕ))
store_left (store.WriteFailed name still_new) = Some still_new
store_left _ = None

abbrev pub stop_left : Stop → Option (List (List ℕ))
stop_left (Store fault advice) = store_left fault
stop_left _ = None

-- ---- the name that is meant

-- the key or the variable of the refusal; else the subject, if the command alone names it
abbrev pub refusal_subject : Refusal → Option (List ℕ) → Option (List ℕ)
refusal_subject (refusal.UnknownKey name) subject = Some name
refusal_subject (refusal.WrongKind name) subject = Some name
refusal_subject (refusal.DuplicateKeyword name) subject = Some name
refusal_subject (refusal.NotLiteral name) subject = Some name
refusal_subject (refusal.Shared name) subject = Some name
refusal_subject (refusal.OtherKind key) subject = Some key
refusal_subject (refusal.NoSuchValue key) subject = Some key
refusal_subject (refusal.InUse name) subject = Some name
refusal_subject _ subject = subject

abbrev pub script_subject : ScriptFault → Option (List ℕ)
script_subject (script.BadField index member_) = Some member_
script_subject (script.UnknownMember index member_) = Some member_
script_subject _ = None

abbrev pub stop_name : Stop → Option (List ℕ)
stop_name (Script fault advice) = script_subject fault
stop_name (Refused fault subject advice) = refusal_subject fault.refusal subject
stop_name _ = None

-- ---- what explains it

abbrev pub advice_help : Advice → Option (List (List ℕ))
advice_help (advice.Members notes help) = Some help
advice_help _ = None

abbrev pub stop_help : Stop → Option (List (List ℕ))
stop_help stop = option_and_then advice_help (stop_advice stop)

abbrev pub advice_notes : Advice → Option (List PlacedNote)
advice_notes (advice.Members notes help) = Some notes
advice_notes _ = None

abbrev pub stop_notes : Stop → Option (List PlacedNote)
stop_notes stop = option_and_then advice_notes (stop_advice stop)

-- ---- the object

abbrev pub with_number : List ℕ → Option ℕ → Members → Members
with_number key None more = more
with_number key (Some n) more = member key (number (unsigned n)) more

abbrev pub with_text : List ℕ → Option (List ℕ) → Members → Members
with_text key None more = more
with_text key (Some text) more = member key (string text) more

abbrev pub with_texts : List ℕ → Option (List (List ℕ)) → Members → Members
with_texts key None more = more
with_texts key (Some texts) more = member key (array (items_of (map string texts))) more

abbrev pub with_notes : Option (List PlacedNote) → Members → Members
with_notes None more = more
with_notes (Some notes) more = member (codes "notes") (array (items_of (map note_data notes))) more

-- the members that it has, in the order of their names
abbrev pub stop_members : Stop → Members
stop_members stop =
    with_number (codes "at") (stop_offset stop) (member (codes "code") (string (stop_code stop))
    (with_number (codes "command") (stop_command stop) (with_number (codes "entry") (stop_entry stop)
    (with_text (codes "file") (stop_file stop) (with_texts (codes "help") (stop_help stop) (with_texts (codes "left") (stop_left stop)
    (member (codes "message") (string (stop_text stop)) (with_text (codes "name") (stop_name stop) (with_notes (stop_notes stop) no_members)))))))))

abbrev pub stop_data : Stop → Data
stop_data stop = object (member (codes "error") (object (stop_members stop)) no_members)

-- one line of JSON, without its line end
abbrev pub stop_object : Stop → List ℕ
stop_object stop = compact_text (stop_data stop)

-- ---- for private clauses: what is written of a member, with its comma

abbrev pub offset_part : Option ℕ → List ℕ
offset_part None = []
offset_part (Some at) = codes "\"at\":" ++ (decimal at ++ codes ",")

abbrev pub number_part : List ℕ → Option ℕ → List ℕ
number_part key None = []
number_part key (Some n) = 44 ∷ (quoted key ++ 58 ∷ decimal n)

abbrev pub text_part : List ℕ → Option (List ℕ) → List ℕ
text_part key None = []
text_part key (Some text) = 44 ∷ (quoted key ++ 58 ∷ quoted text)

abbrev pub texts_part : List ℕ → Option (List (List ℕ)) → List ℕ
texts_part key None = []
texts_part key (Some texts) = 44 ∷ (quoted key ++ 58 ∷ compact_text (array (items_of (map string texts))))

abbrev pub notes_part : Option (List PlacedNote) → List ℕ
notes_part None = []
notes_part (Some notes) = codes ",\"notes\":" ++ compact_text (array (items_of (map note_data notes)))
