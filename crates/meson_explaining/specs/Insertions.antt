-- Why code is not inserted, and why a statement is not removed.
use Rattle.std.specs.Prelude.{ℕ, List, [], ◌++◌, codes, decimal}
use Rattle.meson_calls.specs.declared.call.Reading.{Reading}
use Rattle.meson_calls.specs.declared.refusal.Refusal.{Refusal}
use Rattle.meson_calls.specs.declared.refusal.Refusal.TheVariants as refusal
use Rattle.meson_calls.specs.Loading.{Loaded}
use Rattle.meson_steps.specs.declared.argument.PlaceName.{PlaceName}
use Rattle.meson_steps.specs.declared.argument.PlaceName.TheVariants as name
use Rattle.meson_steps.specs.declared.argument.Search.{Search}
use Rattle.meson_steps.specs.declared.command.CodePlace.{CodePlace}
use Rattle.meson_steps.specs.declared.command.CodePlace.TheVariants as place
use Rattle.meson_explaining.specs.ArgumentPlaces.{and_help, folder_lines, place_missing, place_without_file, places_meant}
use Rattle.meson_explaining.specs.Stated.{no_project, stated, too_deep, too_large}
use Rattle.meson_explaining.specs.declared.explanation.Explanation.{Explanation}

-- ---- beside a statement, where build files are read so

abbrev pub no_statement_on : List ℕ → ℕ → Explanation
no_statement_on file line =
    stated (codes "no statement begins on line " ++ (decimal line ++ (codes " of " ++ file)))
    (codes "list shows the lines of targets, list --of FUNCTION those of other calls, and list --of variable those of assignments")

-- by its line, or as a call or an assignment is not found
abbrev pub statement_by : Reading → Loaded → Search → PlaceName → Explanation
statement_by reading l s (name.Line file line) = and_help (no_statement_on file line) (folder_lines s.folder)
statement_by reading l s _ = place_missing reading l s

abbrev pub within_expression : Explanation
within_expression =
    stated (codes "the call is inside a larger expression") (codes "at FILE:LINE as the FUNCTION and the ID names the statement that begins on a line")

abbrev pub statement_explanation : Reading → Loaded → Search → Refusal → Explanation
statement_explanation reading l s refusal.NoProject = no_project l
statement_explanation reading l s refusal.NotFound = statement_by reading l s s.name
statement_explanation reading l s refusal.Ambiguous = places_meant l s
statement_explanation reading l s refusal.NoFile = place_without_file l s
statement_explanation reading l s refusal.NotStatement = within_expression
statement_explanation reading l s refusal.TooDeep = too_deep
statement_explanation reading l s refusal.TooLarge = too_large
statement_explanation reading l s _ = record { notes = []; help = [] }

-- ---- at the end of a file

abbrev pub no_file_named : List ℕ → Explanation
no_file_named file =
    stated (codes "the project has no build file " ++ file) (codes "list shows the build files of the project")

abbrev pub end_explanation : List ℕ → Refusal → Explanation
end_explanation file refusal.NoFile = no_file_named file
end_explanation file refusal.TooDeep = too_deep
end_explanation file refusal.TooLarge = too_large
end_explanation file _ = record { notes = []; help = [] }

abbrev pub code_explanation : Reading → Loaded → CodePlace → Refusal → Explanation
code_explanation reading l (place.Above s) why = statement_explanation reading l s why
code_explanation reading l (place.Below s) why = statement_explanation reading l s why
code_explanation reading l (place.End file) why = end_explanation file why

-- ---- a statement that stays

abbrev pub needed_elsewhere : List ℕ → Explanation
needed_elsewhere name =
    stated (codes "the statement sets " ++ (name ++ codes ", which is used elsewhere"))
    (codes "remove the uses first; get_variable, a second assignment, foreach and a format string that holds the variable count too")

abbrev pub removal_explanation : Reading → Loaded → Search → Refusal → Explanation
removal_explanation reading l s (refusal.InUse name) = needed_elsewhere name
removal_explanation reading l s why = statement_explanation reading l s why
