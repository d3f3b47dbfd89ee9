-- Notes of new targets without a file, and of targets whose variable is used.
use Rattle.std.specs.Prelude.{ℕ, zero, suc, ◌-◌, min, List, [], ◌∷◌, ◌++◌, codes, length, map, take, Option, Some, None}
use Rattle.meson_lex.specs.declared.kinds.Span.{Span}
use Rattle.meson_syntax.specs.Tree.{Expression}
use Rattle.meson_edit.specs.Standing.{expression_span}
use Rattle.meson_calls.specs.Loading.{Loaded, project}
use Rattle.meson_calls.specs.Parts.{parts}
use Rattle.meson_calls.specs.Project.{expression_at}
use Rattle.meson_calls.specs.Walks.{read_in}
use Rattle.meson_calls.specs.declared.call.CallName.{CallName}
use Rattle.meson_calls.specs.declared.call.CallRef.{CallRef}
use Rattle.meson_calls.specs.declared.call.Role.TheVariants as role
use Rattle.meson_inventory.specs.Holdings.{calls_named}
use Rattle.meson_steps.specs.declared.command.Command.{Command}
use Rattle.meson_steps.specs.declared.command.Command.TheVariants as command
use Rattle.meson_explaining.specs.Notes.{few_notes, further, plain_note}
use Rattle.meson_explaining.specs.declared.explanation.Explanation.{Explanation}
use Rattle.meson_explaining.specs.declared.explanation.Note.{Note}

-- ---- the folder of a new target has no build file that is entered

abbrev pub searched_help : List ℕ
searched_help = codes "list shows the build files; a folder is written as src, not as src/ or ./src, and that of the root file as ."

-- the build file of that number, as a whole
abbrev pub file_note : ℕ → Note
file_note n = record { spot = Some (record { file = n; at = 0; end = 0 }); text = codes "a build file of the project" }

-- the first n build files
abbrev pub file_notes : ℕ → List Note
file_notes zero = []
file_notes (suc n) = file_notes n ++ file_note n ∷ []

abbrev pub folder_notes : ℕ → List ℕ → List Note
folder_notes many folder =
    plain_note (codes "the project enters no build file of the folder " ++ folder) ∷ (file_notes (min 3 many) ++ further (codes "further build files") (many - 3))

-- of a folder that alone is searched
abbrev pub no_searched_file : Loaded → Option (List ℕ) → Explanation
no_searched_file l None = record { notes = []; help = [] }
no_searched_file l (Some folder) = record { notes = folder_notes (length l.files) folder; help = searched_help ∷ [] }

abbrev pub no_file : Loaded → Option (List ℕ) → Command → Explanation
no_file l searched (command.TargetAdd target kind folder sources) = record {
  notes = folder_notes (length l.files) folder;
  help = codes "make its build file and enter it by subdir; a folder is written as src, not as src/ or ./src" ∷ [];
}
no_file l searched _ = no_searched_file l searched

-- ---- the variable of a target is used

abbrev pub span_at : Option (Expression Span) → Span
span_at None = record { from = 0; to = 0 }
span_at (Some e) = expression_span e

-- a place where a variable is read
abbrev pub read_note : Loaded → List ℕ → CallRef → Note
read_note l name c = record {
  spot = Some (record { file = c.file; at = (span_at (expression_at (project l) c)).from; end = (span_at (expression_at (project l) c)).to });
  text = name ++ codes " is read here";
}

abbrev pub read_notes : Loaded → List ℕ → List CallRef → List Note
read_notes l name places = map (read_note l name) (take 3 places) ++ further (codes "further places where it is read") (length places - 3)

abbrev pub in_use_help : List ℕ
in_use_help = codes "remove the uses of the variable first; get_variable, set_variable, a second assignment and foreach count too"

abbrev pub used_notes : Loaded → CallName → List ℕ → List Note
used_notes l target name =
    few_notes 1 [] (codes "further calls that the id names") (calls_named l role.Target target) ++ read_notes l name (read_in name (parts (project l)))

abbrev pub in_use : Loaded → Command → List ℕ → Explanation
in_use l (command.TargetRemove target) name = record { notes = used_notes l target name; help = in_use_help ∷ [] }
in_use l _ name = record { notes = []; help = [] }
