-- What evaluations of some build files make.
use Rattle.std.specs.Prelude.{◌≡◌, ℕ, Bool, true, false, List, [], ◌∷◌, map, codes, Option, Some, None}
use Rattle.meson_syntax.specs.declared.operator.Assignment.TheVariants as assigns
use Rattle.meson_syntax.specs.declared.operator.Operator.TheVariants as op
use Rattle.meson_syntax.specs.Paths.{nth}
use Rattle.meson_syntax.specs.Tree.{Nowhere, bare_name, array, breaks, conditional, continues, dictionary, listing, pair, arguments_of, assign, postfix, method, no_tails, tail, selection, branch, no_branches, nothing_else, row, operand, no_operands, block, statements_of}
use Rattle.meson_calls.specs.Project.{Project}
use Rattle.meson_following.specs.Samples.{E, S, adds, alone, beside_s, calling, does, each_of, either_way, elements, enters, enters_each, enters_if_found, holding, set_variable, sets, sets_to, src, sum_of, target, target_with, text, variable, where_x}
use Rattle.meson_meaning.specs.Running.{run}
use Rattle.meson_meaning.specs.States.{Choices, Making, Use}
use Rattle.meson_meaning.specs.Values.{Atom, element, other, single, atoms_of}

-- ---- what is made

-- the name of a file, and the build file from whose folder `files` takes it; or something else
abbrev Told : Type 0
Told = Option (List ℕ × Option ℕ)

abbrev told : Atom Nowhere → Told
told (element l folder) = Some (l.text, folder)
told (single l folder) = Some (l.text, folder)
told other = None

-- a target: the build file whose call makes it, and its sources
abbrev Target : Type 0
Target = ℕ × List Told

abbrev told_target : Making Nowhere → Target
told_target m = (m.file, map told m.sources)

abbrev file : List ℕ → Told
file name = Some (name, None)

-- in the root folder, of these files
abbrev of : List (List ℕ) → Target
of names = (0, map file names)

abbrev or_zero : Option ℕ → ℕ
or_zero None = 0
or_zero (Some n) = n

-- with these answers, and 0 to further questions; variables are touched or not
abbrev choosing : Bool → List ℕ → Choices
choosing touched answers = record { answer = λ n. or_zero (nth answers n); touches = λ n x. touched }

abbrev Makes : Project Nowhere → List ℕ → List Target → Type 0
Makes p answers targets = map told_target (run (choosing true answers) p).made ≡ targets

-- where no variables are touched
abbrev MakesUntouched : Project Nowhere → List ℕ → List Target → Type 0
MakesUntouched p answers targets = map told_target (run (choosing false answers) p).made ≡ targets

-- ---- names and statements

abbrev a : List ℕ
a = codes "a.c"

abbrev b : List ℕ
b = codes "b.c"

abbrev c : List ℕ
c = codes "c.c"

-- answers of whether a condition holds
abbrev holds : ℕ
holds = 1

abbrev fails : ℕ
fails = 0

-- `get_option('x')`
abbrev option_x : E
option_x = calling (codes "get_option") (text (codes "x") ∷ [])

-- `x = get_option('x')` before these
abbrev with_x : List S → Project Nowhere
with_x ss = alone (assign tt (bare_name (codes "x")) assigns.Set option_x ∷ ss)

-- `NAME += e`
abbrev adds_to : E → S
adds_to e = assign tt (bare_name src) assigns.Add e

-- `copy = src`
abbrev copies : S
copies = assign tt (bare_name (codes "copy")) assigns.Set (variable src)

-- `executable('e', ..)`
abbrev target_of : List E → S
target_of es = does (codes "executable") (text (codes "e") ∷ es)

-- a loop that runs through a list of two
abbrev each_two : List S → S
each_two ss = each_of (codes "d") (codes "u" ∷ codes "v" ∷ []) ss

abbrev files_of : List E → E
files_of es = calling (codes "files") es

-- `'lib_@0@'.format(x)`
abbrev formatted : E
formatted = postfix tt (text (codes "lib_@0@")) (tail (method tt (bare_name (codes "format")) (elements (option_x ∷ []))) no_tails)

-- ---- one after another

abbrev pub OneAfterAnother : Type 0
OneAfterAnother =
    Makes (alone (sets a ∷ target ∷ [])) [] (of (a ∷ []) ∷ [])
    -- a further assignment
    × Makes (alone (sets a ∷ sets b ∷ target ∷ [])) [] (of (b ∷ []) ∷ [])
    × Makes (alone (sets a ∷ adds b ∷ target ∷ adds c ∷ target ∷ [])) [] (of (a ∷ b ∷ []) ∷ of (a ∷ b ∷ c ∷ []) ∷ [])
    -- a copy stays as it was
    × Makes (alone (sets a ∷ copies ∷ adds b ∷ target_of (variable (codes "copy") ∷ []) ∷ [])) [] (of (a ∷ []) ∷ [])
    -- nested lists, a text, and `sources:` after them
    × Makes (alone (target_of (array (elements (array (elements (text a ∷ [])) ∷ text b ∷ [])) ∷ text c ∷ []) ∷ [])) [] (of (a ∷ b ∷ c ∷ []) ∷ [])
    × Makes (alone (target_with (codes "sources") (holding a) ∷ [])) [] (of (codes "m.c" ∷ a ∷ []) ∷ [])
    -- what `kwargs:` holds is not followed, and `dependencies:` are no sources
    × Makes (alone (target_with (codes "kwargs") option_x ∷ [])) [] ((0, file (codes "m.c") ∷ None ∷ []) ∷ [])
    × Makes (alone (target_with (codes "dependencies") option_x ∷ [])) [] (of (codes "m.c" ∷ []) ∷ [])
    -- what a function gives is not followed
    × Makes (alone (target_of (option_x ∷ text a ∷ []) ∷ [])) [] ((0, None ∷ file a ∷ []) ∷ [])
    -- a variable that is not set
    × Makes (alone (target ∷ sets a ∷ target ∷ [])) [] []

-- ---- one of two ways

abbrev pub Either : Type 0
Either =
    Makes (with_x (either_way (sets a ∷ []) (sets b ∷ []) ∷ target ∷ [])) (holds ∷ []) (of (a ∷ []) ∷ [])
    × Makes (with_x (either_way (sets a ∷ []) (sets b ∷ []) ∷ target ∷ [])) (fails ∷ []) (of (b ∷ []) ∷ [])
    -- without `else`
    × Makes (with_x (sets a ∷ where_x (adds b ∷ []) ∷ target ∷ [])) (holds ∷ []) (of (a ∷ b ∷ []) ∷ [])
    × Makes (with_x (sets a ∷ where_x (adds b ∷ []) ∷ target ∷ [])) (fails ∷ []) (of (a ∷ []) ∷ [])
    -- a conditional
    × Makes (alone (target_of (conditional tt option_x (holding a) (holding b) ∷ []) ∷ [])) (holds ∷ []) (of (a ∷ []) ∷ [])
    × Makes (alone (target_of (conditional tt option_x (holding a) (holding b) ∷ []) ∷ [])) (fails ∷ []) (of (b ∷ []) ∷ [])
    -- an error in one of the ways
    × Makes (with_x (sets a ∷ where_x (does (codes "error") (text (codes "no") ∷ []) ∷ []) ∷ target ∷ [])) (holds ∷ []) []
    × Makes (with_x (sets a ∷ where_x (does (codes "error") (text (codes "no") ∷ []) ∷ []) ∷ target ∷ [])) (fails ∷ []) (of (a ∷ []) ∷ [])

-- ---- loops

-- `break` or `continue` between two that are added
abbrev between_two : S → List S
between_two s = adds b ∷ s ∷ adds c ∷ []

abbrev pub Turning : Type 0
Turning =
    Makes (alone (sets a ∷ each_two (adds b ∷ []) ∷ target ∷ [])) (0 ∷ []) (of (a ∷ []) ∷ [])
    × Makes (alone (sets a ∷ each_two (adds b ∷ []) ∷ target ∷ [])) (1 ∷ []) (of (a ∷ b ∷ []) ∷ [])
    × Makes (alone (sets a ∷ each_two (adds b ∷ []) ∷ target ∷ [])) (2 ∷ []) (of (a ∷ b ∷ b ∷ []) ∷ [])
    × Makes (alone (sets a ∷ each_two (between_two (breaks tt)) ∷ target ∷ [])) (2 ∷ []) (of (a ∷ b ∷ []) ∷ [])
    × Makes (alone (sets a ∷ each_two (between_two (continues tt)) ∷ target ∷ [])) (2 ∷ []) (of (a ∷ b ∷ b ∷ []) ∷ [])
    -- only where a condition holds: not in the first turn
    × Makes (with_x (sets a ∷ each_two (adds b ∷ where_x (breaks tt ∷ []) ∷ adds c ∷ []) ∷ target ∷ [])) (3 ∷ fails ∷ holds ∷ []) (of (a ∷ b ∷ c ∷ b ∷ []) ∷ [])
    -- a target in each turn
    × Makes (alone (sets a ∷ each_two (adds b ∷ target ∷ []) ∷ [])) (2 ∷ []) (of (a ∷ b ∷ []) ∷ of (a ∷ b ∷ b ∷ []) ∷ [])
    -- the name of the loop is set to something
    × Makes (alone (each_two (target_of (variable (codes "d") ∷ []) ∷ []) ∷ target_of (variable (codes "d") ∷ []) ∷ [])) (1 ∷ [])
    ((0, None ∷ []) ∷ (0, None ∷ []) ∷ [])

-- ---- folders

abbrev done_where_x : List S
done_where_x = where_x (does (codes "subdir_done") [] ∷ []) ∷ adds b ∷ []

-- `subdir('s')`, with `x` and `src` set before it
abbrev entering_s : List S → Project Nowhere
entering_s ss = beside_s (assign tt (bare_name (codes "x")) assigns.Set option_x ∷ sets a ∷ enters (codes "s") ∷ target ∷ []) ss

abbrev pub Folders : Type 0
Folders =
    Makes (entering_s (adds b ∷ [])) [] (of (a ∷ b ∷ []) ∷ [])
    -- a target there
    × Makes (beside_s (sets a ∷ enters (codes "s") ∷ []) (target ∷ [])) [] ((1, file a ∷ []) ∷ [])
    -- `files` of another folder, and of a variable
    × Makes (beside_s (enters (codes "s") ∷ target ∷ []) (sets_to (files_of (text b ∷ [])) ∷ [])) [] ((0, Some (b, Some 1) ∷ []) ∷ [])
    × Makes (beside_s (enters (codes "s") ∷ target_of (files_of (variable src ∷ text a ∷ []) ∷ []) ∷ []) (sets_to (files_of (text b ∷ [])) ∷ [])) []
    ((0, Some (b, Some 1) ∷ Some (a, Some 0) ∷ []) ∷ [])
    -- `subdir_done`, where a condition holds
    × Makes (entering_s done_where_x) (holds ∷ []) (of (a ∷ []) ∷ [])
    × Makes (entering_s done_where_x) (fails ∷ []) (of (a ∷ b ∷ []) ∷ [])
    -- with a condition
    × Makes (beside_s (assign tt (bare_name (codes "d")) assigns.Set option_x ∷ sets a ∷ enters_if_found ∷ target ∷ []) (adds b ∷ [])) (holds ∷ []) (of (a ∷ b ∷ []) ∷ [])
    × Makes (beside_s (assign tt (bare_name (codes "d")) assigns.Set option_x ∷ sets a ∷ enters_if_found ∷ target ∷ []) (adds b ∷ [])) (fails ∷ []) (of (a ∷ []) ∷ [])
    -- of the name of a loop: a folder of its list, or one that is not known
    × Makes (beside_s (sets a ∷ enters_each ∷ target ∷ []) (adds b ∷ [])) (1 ∷ 0 ∷ []) (of (a ∷ b ∷ []) ∷ [])
    × Makes (beside_s (sets a ∷ enters_each ∷ target ∷ []) (adds b ∷ [])) (1 ∷ 1 ∷ []) ((0, None ∷ []) ∷ [])
    -- of a folder that has no file in the project
    × Makes (alone (sets a ∷ enters (codes "s") ∷ target ∷ [])) [] ((0, None ∷ []) ∷ [])
    × MakesUntouched (alone (sets a ∷ enters (codes "s") ∷ target ∷ [])) [] (of (a ∷ []) ∷ [])

-- ---- variables that functions set

abbrev pub Setting : Type 0
Setting =
    Makes (alone (sets a ∷ set_variable (text src) ∷ target ∷ [])) [] ((0, None ∷ []) ∷ [])
    × Makes (alone (sets a ∷ set_variable (text (codes "other")) ∷ target ∷ [])) [] (of (a ∷ []) ∷ [])
    -- of a computed name: `src` or not, or surely not
    × Makes (alone (sets a ∷ set_variable option_x ∷ target ∷ [])) [] ((0, None ∷ []) ∷ [])
    × MakesUntouched (alone (sets a ∷ set_variable option_x ∷ target ∷ [])) [] (of (a ∷ []) ∷ [])
    × Makes (alone (sets a ∷ set_variable formatted ∷ target ∷ [])) [] (of (a ∷ []) ∷ [])
    -- what `get_variable` gives is not followed
    × Makes (alone (sets a ∷ target_of (calling (codes "get_variable") (text src ∷ []) ∷ []) ∷ [])) [] ((0, None ∷ []) ∷ [])
    -- a variable that is not set any more
    × Makes (alone (sets a ∷ target ∷ does (codes "unset_variable") (text src ∷ []) ∷ target ∷ [])) [] (of (a ∷ []) ∷ [])

-- ---- sums

abbrev pub Summing : Type 0
Summing =
    Makes (alone (target_of (sum_of (holding a) (holding b) ∷ []) ∷ [])) [] (of (a ∷ b ∷ []) ∷ [])
    × Makes (alone (target_of (sum_of (holding a) (text b) ∷ []) ∷ [])) [] (of (a ∷ b ∷ []) ∷ [])
    -- a text and a list have no sum; two texts are one
    × Makes (alone (target_of (sum_of (text a) (holding b) ∷ []) ∷ [])) [] []
    × Makes (alone (target_of (sum_of (text a) (text b) ∷ []) ∷ [])) [] ((0, None ∷ []) ∷ [])
    -- something and a list
    × Makes (alone (target_of (sum_of option_x (holding b) ∷ []) ∷ [])) [] ((0, None ∷ file b ∷ []) ∷ [])
    -- something and a text: a list, or a text
    × Makes (alone (target_of (sum_of option_x (text b) ∷ []) ∷ [])) (holds ∷ []) ((0, None ∷ file b ∷ []) ∷ [])
    × Makes (alone (target_of (sum_of option_x (text b) ∷ []) ∷ [])) (fails ∷ []) ((0, None ∷ []) ∷ [])
    -- `+=` of a text, and to what is not set
    × Makes (alone (sets a ∷ adds_to (text b) ∷ target ∷ [])) [] (of (a ∷ b ∷ []) ∷ [])
    × Makes (alone (adds a ∷ target ∷ [])) [] []

-- ---- values that something other than the sources of a target gets

-- of each value what it adds to a list
abbrev told_use : Use Nowhere → List (List Told)
told_use u = map (λ v. map told (atoms_of v)) u.values

abbrev Uses : Project Nowhere → List ℕ → List (List (List Told)) → Type 0
Uses p answers uses = map told_use (run (choosing true answers) p).used ≡ uses

-- that of `get_option('x')`
abbrev use_of_x : List (List Told)
use_of_x = (file (codes "x") ∷ []) ∷ []

-- `if x and get_option('x')`
abbrev where_both : S
where_both =
    selection tt (branch (row tt (variable (codes "x")) (operand op.And option_x no_operands)) (block tt (statements_of (sets a ∷ []))) no_branches) nothing_else

abbrev pub Using : Type 0
Using =
    -- another function, and a method
    Uses (alone (sets a ∷ does (codes "install_headers") (variable src ∷ text b ∷ []) ∷ [])) [] (((file a ∷ []) ∷ (file b ∷ []) ∷ []) ∷ [])
    × Uses (alone (sets_to formatted ∷ [])) [] (use_of_x ∷ ((file (codes "lib_@0@") ∷ []) ∷ (None ∷ []) ∷ []) ∷ [])
    -- the name of a target, and its other keywords
    × Uses (alone (target_with (codes "dependencies") option_x ∷ [])) [] (use_of_x ∷ ((file (codes "e") ∷ []) ∷ (None ∷ []) ∷ []) ∷ [])
    × Uses (alone (sets a ∷ target ∷ [])) [] (((file (codes "e") ∷ []) ∷ []) ∷ [])
    -- a condition, and a loop
    × Uses (with_x (where_x (sets a ∷ []) ∷ [])) (fails ∷ []) (use_of_x ∷ ((None ∷ []) ∷ []) ∷ [])
    × Uses (alone (each_two (sets a ∷ []) ∷ [])) (2 ∷ []) (((file (codes "u") ∷ file (codes "v") ∷ []) ∷ []) ∷ [])
    -- a list in a dictionary
    × Uses (alone (sets_to (dictionary (listing tt false (arguments_of (pair tt (text (codes "k")) (holding a) ∷ [])))) ∷ [])) []
    (((file (codes "k") ∷ []) ∷ (file a ∷ []) ∷ []) ∷ [])
    -- after `and` only where it matters
    × Uses (with_x (where_both ∷ [])) (fails ∷ fails ∷ []) (use_of_x ∷ ((None ∷ []) ∷ []) ∷ ((None ∷ []) ∷ []) ∷ [])
    × Uses (with_x (where_both ∷ [])) (holds ∷ fails ∷ []) (use_of_x ∷ use_of_x ∷ ((None ∷ []) ∷ (None ∷ []) ∷ []) ∷ ((None ∷ []) ∷ []) ∷ [])
