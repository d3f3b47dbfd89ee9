-- What is said of a refusal whatever the command is.
use Rattle.std.specs.Prelude.{ℕ, List, [], ◌∷◌, length, codes}
use Rattle.meson_calls.specs.Loading.{Loaded}
use Rattle.meson_explaining.specs.Notes.{further, plain_note}
use Rattle.meson_explaining.specs.declared.explanation.Explanation.{Explanation}

-- ---- no file calls `project`

abbrev pub no_project : Loaded → Explanation
no_project l = record {
  notes = further (codes "build files, none of which calls project") (length l.files);
  help = codes "use --sourcedir with the folder of the build file that calls project" ∷ [];
}

-- ---- one sentence, and what may be done

abbrev pub stated : List ℕ → List ℕ → Explanation
stated note help = record { notes = plain_note note ∷ []; help = help ∷ [] }

abbrev pub too_deep : Explanation
too_deep = stated (codes "at most 64 constructs may be inside one another") (codes "use a variable for what is inside")

abbrev pub too_large : Explanation
too_large = stated (codes "a build file has at most 1048576 bytes") (codes "split the file by subdir")

abbrev pub shared : Explanation
shared = stated (codes "something else reads this variable too") (codes "change it for all with arg and variable as the FUNCTION, or give the value as code")

abbrev pub other_kind : Explanation
other_kind = stated (codes "a word replaces a value of its own kind alone") (codes "give the value as code, a word that begins with a colon")

abbrev pub there_already : Explanation
there_already = stated (codes "the new value is an element or a source already") (codes "remove the old one in place of renaming it")

abbrev pub no_such_value : Explanation
no_such_value = stated (codes "nothing there has this key, number or value") (codes "arg info lists keys and values")
