-- Why a change of a value is refused, in words for people.
use Rattle.std.specs.Prelude.{ℕ, List, [], ◌∷◌, ◌++◌, bytes_eq, codes, if◌then◌else◌, Some}
use Rattle.meson_calls.specs.declared.call.Reading.{Reading}
use Rattle.meson_calls.specs.Loading.{Loaded, project}
use Rattle.meson_calls.specs.Parts.{parts}
use Rattle.meson_calls.specs.Walks.{read_in}
use Rattle.meson_calls.specs.declared.refusal.Refusal.{Refusal}
use Rattle.meson_calls.specs.declared.refusal.Refusal.TheVariants as refusal
use Rattle.meson_steps.specs.declared.argument.ValueName.{ValueName}
use Rattle.meson_explaining.specs.ArgumentPlaces.{place_missing, place_without_file, places_meant}
use Rattle.meson_explaining.specs.ArgumentValues.{hiding_notes, keyword_notes, other_keywords, reached_notes}
use Rattle.meson_explaining.specs.BadNames.{variable_help}
use Rattle.meson_explaining.specs.Stated.{no_project, no_such_value, other_kind, shared, stated, there_already, too_deep, too_large}
use Rattle.meson_explaining.specs.Targets.{read_notes}
use Rattle.meson_explaining.specs.declared.explanation.Explanation.{Explanation}
use Rattle.meson_explaining.specs.declared.explanation.Note.{Note}

-- notes before those of an explanation
abbrev pub after_notes : List Note → Explanation → Explanation
after_notes notes e = record { notes = notes ++ e.notes; help = e.help }

abbrev pub helped : List Note → List ℕ → Explanation
helped notes help = record { notes = notes; help = help ∷ [] }

-- `.` stands for the whole
abbrev pub uncomputed_help : List ℕ → List ℕ
uncomputed_help key =
    if bytes_eq key (codes ".") then codes "arg set gives a variable another value, which as code is on one line, as :[a, b]; arg add adds to a list"
    else codes "arg set replaces a value that is computed by code, as :[a, b]; one that is a variable is changed with variable as the FUNCTION"

-- no one value has the key that is named
abbrev pub key_explanation : Loaded → ValueName → Refusal → Explanation
key_explanation l n refusal.BadName = stated (codes "the key is not the name of a keyword argument") variable_help
key_explanation l n refusal.HiddenKeywords = helped (hiding_notes l n) (codes "kwargs: may hold any keyword; change its dictionary, or its variable by FUNCTION variable")
key_explanation l n (refusal.DuplicateKeyword key) = helped (keyword_notes l (Some key) n) (codes "remove one of them by hand")
key_explanation l n (refusal.NoSuchValue key) = after_notes (reached_notes l n ++ other_keywords l key n) no_such_value
key_explanation l n _ = record { notes = []; help = [] }

-- where build files are read so
abbrev pub value_explanation : Reading → Loaded → ValueName → Refusal → Explanation
value_explanation reading l n refusal.NoProject = no_project l
value_explanation reading l n refusal.NotFound = place_missing reading l n.place
value_explanation reading l n refusal.Ambiguous = places_meant l n.place
value_explanation reading l n (refusal.NotLiteral key) = helped (reached_notes l n) (uncomputed_help key)
value_explanation reading l n (refusal.Shared name) = after_notes (read_notes l name (read_in name (parts (project l)))) shared
value_explanation reading l n (refusal.OtherKind key) = after_notes (reached_notes l n) other_kind
value_explanation reading l n refusal.ThereAlready = after_notes (reached_notes l n) there_already
value_explanation reading l n refusal.NotRemovable = helped (reached_notes l n) (codes "target ID rm_target removes a target; other calls and assignments are removed by hand")
value_explanation reading l n refusal.NoFile = place_without_file l n.place
value_explanation reading l n refusal.TooDeep = too_deep
value_explanation reading l n refusal.TooLarge = too_large
value_explanation reading l n why = key_explanation l n why
