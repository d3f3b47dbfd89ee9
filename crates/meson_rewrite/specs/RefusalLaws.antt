-- What is promised of the object of a refusal, in the words of its line.
use Rattle.std.specs.Prelude.{◌≡◌, ◌⊎◌, ℕ, false, List, [], ◌∷◌, ◌++◌, ◌==◌, codes, decimal, map, Option, None, Some}
use Rattle.std.specs.List.{list_any}
use Rattle.serde_json.specs.Data.{object, string}
use Rattle.serde_json.specs.Find.{get}
use Rattle.meson_calls.specs.Loading.{Loaded}
use Rattle.meson_calls.specs.declared.refusal.Refusal.{Refusal}
use Rattle.meson_steps.specs.declared.command.Command.{Command}
use Rattle.meson_steps.specs.declared.command.Command.TheVariants.{SourcesAdd, SourcesAddSorted, SourcesRemove, SourcesRename, FollowedSources, ExtraAdd, ExtraRemove, TargetAdd, TargetRemove, TargetInfo, KwargsSet, KwargsAdd, KwargsRemove, KwargsDelete, KwargsInfo, OptionsSet, OptionsDelete, Argument, ArgumentInfo, CodeInsert, CodeRemove}
use Rattle.meson_steps.specs.declared.source_change.SourceChange.TheVariants as change
use Rattle.meson_rewrite.specs.Codes.{memory_code, stop_code}
use Rattle.meson_rewrite.specs.Lines.{stop_text}
use Rattle.meson_rewrite.specs.Refused.{stop_command, stop_entry, stop_members}
use Rattle.meson_rewrite.specs.Subjects.{anchor_id, id_in, subject_of}
use Rattle.meson_rewrite.specs.declared.stop.Stop.{Stop}
use Rattle.meson_rewrite.specs.declared.stop.Stop.TheVariants.{Parse}

-- a word and a number before the words of a fault, where it has that number
abbrev pub numbered_place : List ℕ → Option ℕ → List ℕ
numbered_place word None = []
numbered_place word (Some n) = word ++ (decimal n ++ codes ": ")

-- what is before the code in the line of a refusal: the command, the entry of the script or the file that is not valid
abbrev pub place_text : Stop → List ℕ
place_text (Parse name text fault advice) = name ++ codes ": "
place_text stop = numbered_place (codes "command ") (stop_command stop) ++ numbered_place (codes "entry ") (stop_entry stop)

-- The code is the word of the line after its place; or memory ran out.
pub record HasCode (stop : Stop) : Type 0 where
  pub meaning : List ℕ
  pub words : stop_text stop ≡ place_text stop ++ (stop_code stop ++ 32 ∷ meaning)
  pub one_word : list_any (λ b. b == 32) (stop_code stop) ≡ false

abbrev pub CodesAreWords : Type 0
CodesAreWords = (stop : Stop) → ((stop_code stop ≡ memory_code) × (stop_text stop ≡ codes "out of memory")) ⊎ HasCode stop

-- The member `message` is what the line has after `error: `, and the member `code` is the code.
abbrev pub MembersAreWords : Type 0
MembersAreWords = (stop : Stop) → (get (codes "message") (object (stop_members stop)) ≡ Some (string (stop_text stop)))
    × (get (codes "code") (object (stop_members stop)) ≡ Some (string (stop_code stop)))

-- an id, if there is one, and further words
abbrev pub id_and : Option (List ℕ) → List (List ℕ) → List (List ℕ)
id_and None more = more
id_and (Some id) more = id ∷ more

-- the words of a command: its id, its folder and its sources, keys or options
abbrev pub words_of : Command → List (List ℕ)
words_of (SourcesAdd target sources) = target.id ∷ sources
words_of (SourcesAddSorted target sources) = target.id ∷ sources
words_of (SourcesRemove target sources) = target.id ∷ sources
words_of (SourcesRename target old new) = target.id ∷ old ∷ new ∷ []
words_of (FollowedSources target (change.Add names) shared) = target.id ∷ names
words_of (FollowedSources target (change.Remove names) shared) = target.id ∷ names
words_of (FollowedSources target (change.Rename old new) shared) = target.id ∷ old ∷ new ∷ []
words_of (ExtraAdd target sources) = target.id ∷ sources
words_of (ExtraRemove target sources) = target.id ∷ sources
words_of (TargetAdd target kind subdir sources) = target ∷ subdir ∷ sources
words_of (TargetRemove target) = target.id ∷ []
words_of (TargetInfo target reading) = target.id ∷ []
words_of (KwargsSet role name pairs) = name.id ∷ map (λ p. p.0) pairs
words_of (KwargsAdd role name pairs) = name.id ∷ map (λ p. p.0) pairs
words_of (KwargsRemove role name pairs) = name.id ∷ map (λ p. p.0) pairs
words_of (KwargsDelete role name keys) = name.id ∷ keys
words_of (KwargsInfo role name) = name.id ∷ []
words_of (OptionsSet pairs) = map (λ p. p.0) pairs
words_of (OptionsDelete names) = names
words_of (Argument n change) = id_and (id_in n.place.name) n.keys
words_of (ArgumentInfo n) = id_and (id_in n.place.name) n.keys
words_of (CodeInsert place code blank) = id_and (anchor_id place) []
words_of (CodeRemove statement unused) = id_and (id_in statement.name) []

abbrev pub IsAmong : List (List ℕ) → List ℕ → Type 0
IsAmong [] word = ⊥
IsAmong (first ∷ more) word = (first ≡ word) ⊎ IsAmong more word

-- The name that is meant is a word of the command.
abbrev pub SubjectsAreWords : Type 0
SubjectsAreWords = (found : Loaded) (c : Command) (why : Refusal) (name : List ℕ) → subject_of found c why ≡ Some name → IsAmong (words_of c) name
