-- What a line of a file finds, in terms of what begins and what opens on it.
use Rattle.std.specs.Prelude.{◌≡◌, ◌⊎◌, ℕ, true, List, ◌∷◌, Option, Some, Ok}
use Rattle.std.specs.List.{Contains}
use Rattle.meson_lex.specs.declared.kinds.Span.{Span}
use Rattle.meson_splice.specs.Files.{bytes_at, position_of_file}
use Rattle.meson_calls.specs.declared.call.CallRef.{CallRef}
use Rattle.meson_calls.specs.declared.keeper.Opened.{Opened}
use Rattle.meson_calls.specs.Loading.{Loaded, project}
use Rattle.meson_calls.specs.Notes.{Note, notes}
use Rattle.meson_calls.specs.Parts.{parts_of_file}
use Rattle.meson_calls.specs.Project.{BuildFile, Placed, nth_file}
use Rattle.meson_calls.specs.Walks.{lists_opened}
use Rattle.meson_steps.specs.declared.argument.PlaceName.TheVariants as name
use Rattle.meson_steps.specs.declared.argument.Search.{Search}
use Rattle.meson_places.specs.Names.{beginning_at, is_searched, leads_into, line_of, lists_on, offset_of, searched, searched_file, the_place}

-- A call whose opening bracket is on this line of the file of this number, or the value of an assignment that begins on it, is at the place.
pub record BeginsOn (l : Loaded) (file line : ℕ) (c : CallRef) : Type 0 where
  pub note : Placed (Note Span)
  pub is_there : Contains (notes (project l)) note
  pub in_file : note.place.file ≡ file
  pub offset : ℕ
  pub is_offset : offset_of note.it ≡ Some offset
  pub on_line : line_of (bytes_at file l.files) offset ≡ line
  pub is_place : beginning_at note.it note.place ≡ c

-- An array or a dictionary whose bracket opens on it is.
pub record OpensOn (l : Loaded) (file line : ℕ) (c : CallRef) : Type 0 where
  pub tree : BuildFile Span
  pub is_tree : nth_file (project l) file ≡ Some tree
  pub opened : Opened
  pub is_there : Contains (lists_opened (parts_of_file file tree.tree)) opened
  pub on_line : line_of (bytes_at file l.files) opened.at ≡ line
  pub is_place : opened.place ≡ c

-- It begins on the line, and all else that begins on it is within it.
pub record IsOutermost (l : Loaded) (within : Option ℕ) (file line : ℕ) (c : CallRef) : Type 0 where
  pub begins : BeginsOn l file line c
  pub others : (d : CallRef) → is_searched within d ≡ true → BeginsOn l file line d → leads_into d.path.steps c.path.steps ≡ true

-- Nothing begins on the line, and it is the first list in source order that opens on it.
pub record IsFirstList (l : Loaded) (within : Option ℕ) (file line : ℕ) (c : CallRef) : Type 0 where
  pub opens : OpensOn l file line c
  pub nothing : (d : CallRef) → is_searched within d ≡ true → BeginsOn l file line d → ⊥
  pub later : List CallRef
  pub is_first : searched within (lists_on l file line) ≡ c ∷ later

pub record IsOnLine (l : Loaded) (s : Search) (file : List ℕ) (line : ℕ) (c : CallRef) : Type 0 where
  pub within : Option ℕ
  pub is_within : searched_file l.files s.folder ≡ Ok within
  pub in_files : is_searched within c ≡ true
  pub number : ℕ
  pub is_number : position_of_file file l.files ≡ Some number
  pub found : IsOutermost l within number line c ⊎ IsFirstList l within number line c

-- the law: what a line finds begins on that line of that file, or opens on it where nothing begins there, and is the outermost or the first
abbrev pub FindsOnLine : Type 0
FindsOnLine = (l : Loaded) (s : Search) (file : List ℕ) (line : ℕ) → s.name ≡ name.Line file line → (c : CallRef) → the_place l s ≡ Ok c → IsOnLine l s file line c
