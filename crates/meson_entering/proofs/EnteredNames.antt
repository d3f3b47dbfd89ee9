-- The files that a build file enters have names of build files.
use Rattle.std.proofs.Common.{List, [], ◌∷◌}
use Rattle.std.specs.Prelude.{Bool, true, false, All, if◌then◌else◌, codes}
use Rattle.std.specs.List.{flat_map}
use Rattle.std.proofs.lemmas.List.Elements.{All-append, All-nil}
use Rattle.meson_calls.specs.declared.call.Reading.{Reading}
use Rattle.meson_calls.specs.Calls.{Call, all_chosen, calls_function, first_argument, part_call}
use Rattle.meson_calls.specs.Folders.{IsFileName}
use Rattle.meson_calls.specs.Parts.{parts_of_file}
use Rattle.meson_calls.specs.Project.{BuildFile, Placed}
use Rattle.meson_entering.specs.Entering.{entered_at, files_entered, files_meant, folders_of}
use Rattle.meson_entering.proofs.FileNames.{all_named}

module _ {S : Type 0} (reading : Reading) (f : BuildFile S) (named : IsFileName f.name) where
  call_named : (c : Placed (Call S)) → All IsFileName (entered_at reading f c)
  call_named c = go (calls_function (codes "subdir") c.it)
    where
      go : (b : Bool) → All IsFileName (if b then files_meant reading f c.place.path.steps c.it else [])
      go true = all_named f.name named reading (folders_of reading f.tree c.place.path.steps (first_argument c.it))
      go false = All-nil IsFileName

  calls_named : (cs : List (Placed (Call S))) → All IsFileName (flat_map (entered_at reading f) cs)
  calls_named [] = All-nil IsFileName
  calls_named (c ∷ cs) = All-append IsFileName (entered_at reading f c) (flat_map (entered_at reading f) cs) (call_named c) (calls_named cs)

  pub entered_named : All IsFileName (files_entered reading f)
  entered_named = calls_named (all_chosen part_call (parts_of_file 0 f.tree))
