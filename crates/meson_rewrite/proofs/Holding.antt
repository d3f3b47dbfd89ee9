-- A store holds the bytes of the files that were found in it.
use Rattle.std.proofs.Common.{◌≡◌, ℕ, List, [], ◌∷◌, ◌++◌, Option, Some, None, Bool, true, false, refl, sym, subst, ap, ◌∙◌, length}
use Rattle.std.specs.Prelude.{cond, nat_lt, option_and_then}
use Rattle.meson_splice.specs.declared.file_set.File.{File}
use Rattle.meson_splice.specs.Files.{position_of_file}
use Rattle.meson_calls.specs.declared.call.Reading.{Reading}
use Rattle.meson_calls.specs.Loading.{max_files}
use Rattle.meson_store.proofs.Restoring.{Each, each-append, each-left, each-right}
use Rattle.meson_store.specs.Content.{Content}
use Rattle.meson_gathering.specs.Gathering.{Collects, Ending, Gathers, are_too_many, ended, files_entered, enters, file_of, from_root, held_bytes, is_unparsed, is_unread, files_with, no_root, unread_root, whole, with_more}

module _ (content : Content) (folder : Option (List ℕ)) where
  -- the store holds these bytes of the file
  abbrev pub IsHeld : File → Type 0
  IsHeld f = held_bytes content folder f.name ≡ Some f.bytes

  held-more : (files : List File) (f : File) (result : List File) → with_more files f ≡ Some result → Each IsHeld files → IsHeld f → Each IsHeld result
  held-more files f result e h k = go (nat_lt (length files) max_files) e
    where
      go : (b : Bool) → cond b (Some (files ++ f ∷ [])) None ≡ Some result → Each IsHeld result
      go true is = let same : files ++ f ∷ [] ≡ result = cc in subst (Each IsHeld) same (each-append IsHeld files (f ∷ []) h (k, tt))
      go false is = absurd (let no : ⊥ = cc in no)

  held-joined : (files : List File) (name : List ℕ) (at : Option ℕ) (bytes : Option (List ℕ)) → held_bytes content folder name ≡ bytes → (now : List File)
      → files_with files name at bytes ≡ Some now → Each IsHeld files → Each IsHeld now
  held-joined files name (Some place) bytes is now e h = let same : files ≡ now = cc in subst (Each IsHeld) same h
  held-joined files name None None is now e h = let same : files ≡ now = cc in subst (Each IsHeld) same h
  held-joined files name None (Some bytes) is now e h = held-more files (file_of name bytes) now e h is

  held-entered : (names : List (List ℕ)) (files result : List File) → files_entered content folder names files ≡ Some result → Each IsHeld files → Each IsHeld result
  held-entered [] files result e h = let same : files ≡ result = cc in subst (Each IsHeld) same h
  held-entered (name ∷ names) files result e h = go (files_with files name (position_of_file name files) (held_bytes content folder name)) refl (held-entered names)
    where
      go : (joins : Option (List File)) → files_with files name (position_of_file name files) (held_bytes content folder name) ≡ joins
          → ((now result : List File) → files_entered content folder names now ≡ Some result → Each IsHeld now → Each IsHeld result) → Each IsHeld result
      go None is more = absurd (let none : None ≡ Some result = sym (ap (option_and_then (files_entered content folder names)) is) ∙ e in (let no : ⊥ = cc in no))
      go (Some now) is more =
          more now result (sym (ap (option_and_then (files_entered content folder names)) is) ∙ e)
          (held-joined files name (position_of_file name files) (held_bytes content folder name) refl now is h)

  held-gathered : (reading : Reading) (looked todo : List File) (end : Ending) → Gathers reading content folder looked todo end → (files : List File) → end ≡ whole files
      → Each IsHeld looked → Each IsHeld todo → Each IsHeld files
  held-gathered reading looked _ _ (ended _) files e h k = let same : looked ≡ files = cc in subst (Each IsHeld) same h
  held-gathered reading looked _ end (enters _ todo more f names _ reads is rest) files e h k =
      let all = held-entered names (looked ++ f ∷ todo) ((looked ++ f ∷ []) ++ more) is (each-append IsHeld looked (f ∷ todo) h k) in
      held-gathered reading (looked ++ f ∷ []) more end rest files e (each-left IsHeld (looked ++ f ∷ []) more all) (each-right IsHeld (looked ++ f ∷ []) more all)
  held-gathered reading looked _ _ (is_unparsed _ todo f fault may apart) files e h k = absurd (let no : ⊥ = cc in no)
  held-gathered reading looked _ _ (is_unread _ todo f names name reads next) files e h k = absurd (let no : ⊥ = cc in no)
  held-gathered reading looked _ _ (are_too_many _ todo f names reads is) files e h k = absurd (let no : ⊥ = cc in no)

  pub held-collected : (reading : Reading) (files : List File) → Collects reading content folder (whole files) → Each IsHeld files
  held-collected reading files c = go (whole files) c refl
    where
      go : (end : Ending) → Collects reading content folder end → end ≡ whole files → Each IsHeld files
      go _ (no_root absent) e = absurd (let no : ⊥ = cc in no)
      go _ unread_root e = absurd (let no : ⊥ = cc in no)
      go end (from_root bytes _ is gathers) e = held-gathered reading [] _ end gathers files e tt (is, tt)
