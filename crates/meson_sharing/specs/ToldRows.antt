-- What is reported of the sources of the targets of some build files.
use Rattle.std.specs.Prelude.{◌≡◌, ℕ, Bool, true, false, List, [], ◌∷◌, map, codes, Option, Some, None, option_map}
use Rattle.meson_syntax.specs.declared.operator.Assignment.TheVariants as assigns
use Rattle.meson_syntax.specs.Tree.{Nowhere, bare_name, conditional, array, postfix, tail, no_tails, method, listing, plain, named, arguments_of, assign, evaluate, breaks}
use Rattle.meson_calls.specs.CallPlaces.{call_at}
use Rattle.meson_calls.specs.Folders.{build_file}
use Rattle.meson_calls.specs.Project.{Project, place}
use Rattle.meson_following.specs.Samples.{E, S, adds, alone, beside_s, calling, does, each, either_way, elements, enters, enters_if_found, file_of, holding, set_variable, sets, sets_to, src, sum_of, target, text, variable, where_x}
use Rattle.meson_sharing.specs.Told.{Told, ToldItem, told}

-- ---- what is reported

-- the text of an item, whether it is there in each evaluation, and which other targets get it
abbrev Row : Type 0
Row = List ℕ × Bool × Option (List (List ℕ))

abbrev row_of : ToldItem Nowhere → Row
row_of i = (i.item.text, i.item.way.sure, i.shared)

abbrev summary : Told Nowhere → List Row × ℕ
summary t = (map row_of t.items, t.unknown)

-- of the target whose call is at a path of the first file these items are reported, and this many things that are not known
abbrev Tells : Project Nowhere → (path : List ℕ) → List Row → ℕ → Type 0
Tells p path rows unknown = option_map (λ c. summary (told p c)) (call_at p (place 0 path)) ≡ Some (rows, unknown)

-- it goes to this target alone, surely or in some evaluations
abbrev surely : List ℕ → Row
surely name = (name, true, Some [])

abbrev perhaps : List ℕ → Row
perhaps name = (name, false, Some [])

-- where the target is the n-th statement
abbrev at_ : ℕ → List ℕ
at_ n = n ∷ 0 ∷ []

-- ---- statements

-- `executable('e', ..)`
abbrev made : List E → S
made es = does (codes "executable") (text (codes "e") ∷ es)

-- `src += e`
abbrev adds_to : E → S
adds_to e = assign tt (bare_name src) assigns.Add e

-- `files(name)`
abbrev files_of : List ℕ → E
files_of name = calling (codes "files") (text name ∷ [])

abbrev both : List ℕ → List ℕ → E
both a b = array (elements (text a ∷ text b ∷ []))

abbrev something : E
something = calling (codes "f") []

-- ---- one after another

abbrev pub InTurn : Type 0
InTurn =
    -- `src += files('c.c')`
    Tells (alone (sets (codes "a.c") ∷ adds (codes "b.c") ∷ adds_to (files_of (codes "c.c")) ∷ target ∷ [])) (at_ 3)
    (surely (codes "a.c") ∷ surely (codes "b.c") ∷ surely (codes "c.c") ∷ []) 0
    -- `src = ['b.c'] + src`
    × Tells (alone (sets (codes "a.c") ∷ sets_to (sum_of (holding (codes "b.c")) (variable src)) ∷ target ∷ [])) (at_ 2)
    (surely (codes "b.c") ∷ surely (codes "a.c") ∷ []) 0
    -- `f() + ['a.c']`
    × Tells (alone (made (sum_of something (holding (codes "a.c")) ∷ []) ∷ [])) (at_ 0) (surely (codes "a.c") ∷ []) 1
    -- added to what may be no list: a text, and a list
    × Tells (alone (sets_to something ∷ adds_to (text (codes "a.c")) ∷ target ∷ [])) (at_ 2) [] 2
    × Tells (alone (sets_to something ∷ adds (codes "a.c") ∷ target ∷ [])) (at_ 2) (surely (codes "a.c") ∷ []) 1
    -- a variable whose name is computed
    × Tells (alone (sets (codes "a.c") ∷ set_variable (variable (codes "k")) ∷ target ∷ [])) (at_ 2) (perhaps (codes "a.c") ∷ []) 1

-- ---- branches

abbrev pub Branching : Type 0
Branching =
    Tells (alone (sets (codes "a.c") ∷ where_x (adds (codes "b.c") ∷ []) ∷ target ∷ [])) (at_ 2) (surely (codes "a.c") ∷ perhaps (codes "b.c") ∷ []) 0
    -- one of two values
    × Tells (alone (either_way (sets_to (both (codes "l.c") (codes "a.c")) ∷ []) (sets_to (both (codes "w.c") (codes "a.c")) ∷ []) ∷ target ∷ [])) (at_ 1)
    (perhaps (codes "l.c") ∷ perhaps (codes "a.c") ∷ perhaps (codes "w.c") ∷ perhaps (codes "a.c") ∷ []) 0
    -- a branch that stops
    × Tells (alone (either_way (sets (codes "l.c") ∷ []) (does (codes "error") (text (codes "no") ∷ []) ∷ []) ∷ target ∷ [])) (at_ 1)
    (surely (codes "l.c") ∷ []) 0
    -- without `else`, where it was not set before, and where it was
    × Tells (alone (where_x (sets (codes "l.c") ∷ []) ∷ target ∷ [])) (at_ 1) (surely (codes "l.c") ∷ []) 0
    × Tells (alone (sets_to (array (elements [])) ∷ where_x (sets (codes "l.c") ∷ []) ∷ target ∷ [])) (at_ 2) (perhaps (codes "l.c") ∷ []) 0
    -- two values from one list
    × Tells (alone (assign tt (bare_name (codes "base")) assigns.Set (holding (codes "a.c"))
    ∷ either_way (sets_to (sum_of (variable (codes "base")) (holding (codes "l.c"))) ∷ []) (sets_to (sum_of (variable (codes "base")) (holding (codes "w.c"))) ∷ [])
    ∷ target ∷ [])) (at_ 2) (perhaps (codes "a.c") ∷ perhaps (codes "l.c") ∷ perhaps (codes "w.c") ∷ []) 0
    -- the target in a branch
    × Tells (alone (sets (codes "a.c") ∷ either_way (adds (codes "b.c") ∷ target ∷ []) (adds (codes "c.c") ∷ []) ∷ [])) (1 ∷ 1 ∷ 1 ∷ 0 ∷ [])
    (surely (codes "a.c") ∷ surely (codes "b.c") ∷ []) 0
    -- a conditional
    × Tells (alone (made (conditional tt (variable (codes "x")) (holding (codes "a.c")) (holding (codes "b.c")) ∷ []) ∷ [])) (at_ 0)
    (perhaps (codes "a.c") ∷ perhaps (codes "b.c") ∷ []) 0

-- ---- loops

abbrev pub Looping : Type 0
Looping =
    -- added in a loop, and set in one
    Tells (alone (sets (codes "a.c") ∷ each (codes "x") (adds (codes "b.c") ∷ []) ∷ target ∷ [])) (at_ 2)
    (surely (codes "a.c") ∷ perhaps (codes "b.c") ∷ []) 0
    × Tells (alone (sets (codes "a.c") ∷ each (codes "x") (sets (codes "b.c") ∷ []) ∷ target ∷ [])) (at_ 2)
    (perhaps (codes "a.c") ∷ perhaps (codes "b.c") ∷ []) 0
    -- a name of the loop, in it and after it
    × Tells (alone (sets (codes "a.c") ∷ each src (target ∷ []) ∷ [])) (1 ∷ 1 ∷ 0 ∷ 0 ∷ []) [] 1
    × Tells (alone (sets (codes "a.c") ∷ each src [] ∷ target ∷ [])) (at_ 2) (perhaps (codes "a.c") ∷ []) 1
    -- a name of the loop as a source, and in a text
    × Tells (alone (each (codes "s") (made (variable (codes "s") ∷ text (codes "m.c") ∷ []) ∷ []) ∷ [])) (0 ∷ 1 ∷ 0 ∷ 0 ∷ []) (surely (codes "m.c") ∷ []) 1
    × Tells (alone (each (codes "s") (made (sum_of (variable (codes "s")) (text (codes ".c")) ∷ []) ∷ []) ∷ [])) (0 ∷ 1 ∷ 0 ∷ 0 ∷ []) [] 1
    -- a list of the turn before
    × Tells (alone (sets (codes "a.c") ∷ each (codes "x") (target ∷ sets (codes "b.c") ∷ []) ∷ [])) (1 ∷ 1 ∷ 0 ∷ 0 ∷ [])
    (perhaps (codes "a.c") ∷ perhaps (codes "b.c") ∷ []) 0
    -- set anew in each turn
    × Tells (alone (each (codes "x") (sets (codes "a.c") ∷ adds_to (array (elements (variable (codes "x") ∷ []))) ∷ target ∷ sets (codes "b.c") ∷ []) ∷ []))
    (0 ∷ 1 ∷ 2 ∷ 0 ∷ []) (surely (codes "a.c") ∷ []) 1
    -- a turn that ends early
    × Tells (alone (sets (codes "a.c") ∷ each (codes "x") (sets (codes "b.c") ∷ where_x (breaks tt ∷ []) ∷ sets (codes "c.c") ∷ []) ∷ target ∷ [])) (at_ 2)
    (perhaps (codes "a.c") ∷ perhaps (codes "c.c") ∷ perhaps (codes "b.c") ∷ []) 0

-- ---- files that are entered

-- with the files of the folders `s` and `t`
abbrev beside_both : List S → List S → List S → Project Nowhere
beside_both ss ts us = file_of build_file ss ∷ file_of (codes "s/meson.build") ts ∷ file_of (codes "t/meson.build") us ∷ []

abbrev pub Entering : Type 0
Entering =
    -- a folder that is not known
    Tells (alone (sets (codes "a.c") ∷ does (codes "subdir") (variable (codes "k") ∷ []) ∷ target ∷ [])) (at_ 2) (perhaps (codes "a.c") ∷ []) 1
    × Tells (beside_s (does (codes "subdir") (variable (codes "d") ∷ []) ∷ target ∷ []) (sets (codes "a.c") ∷ [])) (at_ 1) [] 1
    -- grown in folders
    × Tells (beside_both (sets (codes "a.c") ∷ enters (codes "s") ∷ where_x (enters (codes "t") ∷ []) ∷ target ∷ [])
    (adds_to (files_of (codes "b.c")) ∷ []) (adds_to (files_of (codes "c.c")) ∷ [])) (at_ 3) (surely (codes "a.c") ∷ surely (codes "b.c") ∷ perhaps (codes "c.c") ∷ []) 0
    -- a file that is left early
    × Tells (beside_s (sets (codes "a.c") ∷ enters (codes "s") ∷ target ∷ []) (where_x (does (codes "subdir_done") [] ∷ []) ∷ sets (codes "b.c") ∷ [])) (at_ 2)
    (perhaps (codes "b.c") ∷ perhaps (codes "a.c") ∷ []) 0
    -- one that is entered only if something is found
    × Tells (beside_s (sets (codes "a.c") ∷ enters_if_found ∷ target ∷ []) (adds (codes "b.c") ∷ [])) (at_ 2)
    (surely (codes "a.c") ∷ perhaps (codes "b.c") ∷ []) 0

-- ---- who else gets them

abbrev pub Shared : Type 0
Shared =
    -- `lib = library('e', src)` and `gnome.generate_gir(lib, sources: src)`
    Tells (alone (sets (codes "a.c") ∷ assign tt (bare_name (codes "lib")) assigns.Set (calling (codes "library") (text (codes "e") ∷ variable src ∷ []))
    ∷ evaluate (postfix tt (variable (codes "gnome")) (tail (method tt (bare_name (codes "generate_gir"))
    (listing tt false (arguments_of (plain (variable (codes "lib")) ∷ named tt (bare_name (codes "sources")) (variable src) ∷ [])))) no_tails)) ∷ []))
    (at_ 1) ((codes "a.c", true, None) ∷ []) 0
    -- a list of two targets, and a source of one
    × Tells (alone (sets (codes "a.c") ∷ made (variable src ∷ text (codes "e.c") ∷ []) ∷ does (codes "executable") (text (codes "f") ∷ variable src ∷ []) ∷ []))
    (at_ 1) ((codes "a.c", true, Some (codes "f" ∷ [])) ∷ surely (codes "e.c") ∷ []) 0
    × Tells (alone (sets (codes "a.c") ∷ made (variable src ∷ text (codes "e.c") ∷ []) ∷ does (codes "executable") (text (codes "f") ∷ variable src ∷ []) ∷ []))
    (at_ 2) ((codes "a.c", true, Some (codes "e" ∷ [])) ∷ []) 0
    -- of three targets, in their order
    × Tells (alone (sets (codes "a.c") ∷ does (codes "executable") (text (codes "f") ∷ variable src ∷ []) ∷ target
    ∷ does (codes "executable") (text (codes "g") ∷ variable src ∷ []) ∷ [])) (at_ 2) ((codes "a.c", true, Some (codes "f" ∷ codes "g" ∷ [])) ∷ []) 0
