-- What is known of the variable `src` in some build files, at the place where a target reads it.
use Rattle.std.specs.Prelude.{◌≡◌, ℕ, Bool, true, false, List, [], ◌∷◌, map, codes, Some, None, option_map}
use Rattle.meson_syntax.specs.Tree.{Nowhere, array, breaks}
use Rattle.meson_calls.specs.declared.call.CallRef.{CallRef}
use Rattle.meson_calls.specs.Project.{Project, place}
use Rattle.meson_following.specs.Flows.{known_at}
use Rattle.meson_following.specs.Makers.{Made, Maker}
use Rattle.meson_following.specs.Samples.{adds, alone, beside_s, calling, does, each, either_way, elements, enters, enters_d, enters_each, enters_if_found, holding, holds_s, set_variable, sets, sets_to, src, sum_of, target, text, variable, where_x}

-- ---- what is known

-- the place of a value, and whether it surely has a part
abbrev Told : Type 0
Told = CallRef × Bool

abbrev told : Maker Nowhere → Told
told m = (m.value.place, m.sure)

abbrev all_told : Made Nowhere → List Told × Bool
all_told m = (map told m.makers, m.unknown)

-- of the value of the statement at a path
abbrev surely : List ℕ → Told
surely path = (place 0 path, true)

abbrev perhaps : List ℕ → Told
perhaps path = (place 0 path, false)

abbrev surely_in : ℕ → List ℕ → Told
surely_in n path = (place n path, true)

abbrev perhaps_in : ℕ → List ℕ → Told
perhaps_in n path = (place n path, false)

-- it is made by these, and whether by something that is not known too
abbrev Tells : Project Nowhere → List ℕ → List Told → Bool → Type 0
Tells p path makers unknown = option_map all_told (known_at p src (place 0 path)) ≡ Some (makers, unknown)

-- in the second file
abbrev TellsInside : Project Nowhere → List ℕ → List Told → Bool → Type 0
TellsInside p path makers unknown = option_map all_told (known_at p src (place 1 path)) ≡ Some (makers, unknown)

-- to read it there is an error
abbrev Fails : Project Nowhere → List ℕ → Type 0
Fails p path = known_at p src (place 0 path) ≡ None

-- where the target is the n-th statement
abbrev read_by : ℕ → List ℕ
read_by n = n ∷ 0 ∷ 1 ∷ []

-- ---- one after another

abbrev pub InTurn : Type 0
InTurn =
    -- the later assignment counts
    Tells (alone (sets (codes "a.c") ∷ sets (codes "b.c") ∷ target ∷ [])) (read_by 2) (surely (1 ∷ 0 ∷ []) ∷ []) false
    -- one after the target does not
    × Tells (alone (sets (codes "a.c") ∷ target ∷ sets (codes "b.c") ∷ [])) (read_by 1) (surely (0 ∷ 0 ∷ []) ∷ []) false
    -- what is added before the target, and after it
    × Tells (alone (sets (codes "a.c") ∷ target ∷ adds (codes "b.c") ∷ target ∷ [])) (read_by 1) (surely (0 ∷ 0 ∷ []) ∷ []) false
    × Tells (alone (sets (codes "a.c") ∷ target ∷ adds (codes "b.c") ∷ target ∷ [])) (read_by 3) (surely (0 ∷ 0 ∷ []) ∷ surely (2 ∷ 0 ∷ []) ∷ []) false
    -- of a value that reads the variable itself
    × Tells (alone (sets (codes "a.c") ∷ sets_to (sum_of (variable src) (holding (codes "b.c"))) ∷ target ∷ [])) (1 ∷ 0 ∷ 0 ∷ [])
    (surely (0 ∷ 0 ∷ []) ∷ []) false
    × Fails (alone (sets_to (array (elements (variable src ∷ []))) ∷ target ∷ [])) (0 ∷ 0 ∷ 0 ∷ [])
    -- where it is set nowhere
    × Fails (alone (target ∷ [])) (read_by 0)

-- ---- branches

abbrev pub Branching : Type 0
Branching =
    -- added in a branch, before the target and after it
    Tells (alone (sets (codes "a.c") ∷ where_x (adds (codes "b.c") ∷ []) ∷ target ∷ [])) (read_by 2)
    (surely (0 ∷ 0 ∷ []) ∷ perhaps (1 ∷ 1 ∷ 0 ∷ 0 ∷ []) ∷ []) false
    × Tells (alone (sets (codes "a.c") ∷ target ∷ where_x (adds (codes "b.c") ∷ []) ∷ [])) (read_by 1) (surely (0 ∷ 0 ∷ []) ∷ []) false
    -- one of two values
    × Tells (alone (either_way (sets (codes "l.c") ∷ []) (sets (codes "w.c") ∷ []) ∷ target ∷ [])) (read_by 1)
    (perhaps (0 ∷ 1 ∷ 0 ∷ 0 ∷ []) ∷ perhaps (0 ∷ 2 ∷ 0 ∷ 0 ∷ []) ∷ []) false
    -- a branch that stops does not count
    × Tells (alone (either_way (sets (codes "l.c") ∷ []) (does (codes "error") (text (codes "no") ∷ []) ∷ []) ∷ target ∷ [])) (read_by 1)
    (surely (0 ∷ 1 ∷ 0 ∷ 0 ∷ []) ∷ []) false
    -- without `else`, where it was not set before, and where it was
    × Tells (alone (where_x (sets (codes "l.c") ∷ []) ∷ target ∷ [])) (read_by 1) (surely (0 ∷ 1 ∷ 0 ∷ 0 ∷ []) ∷ []) false
    × Tells (alone (sets (codes "a.c") ∷ where_x (sets (codes "l.c") ∷ []) ∷ target ∷ [])) (read_by 2)
    (perhaps (1 ∷ 1 ∷ 0 ∷ 0 ∷ []) ∷ perhaps (0 ∷ 0 ∷ []) ∷ []) false
    -- in the branch itself
    × Tells (alone (sets (codes "a.c") ∷ either_way (adds (codes "b.c") ∷ target ∷ []) (adds (codes "c.c") ∷ []) ∷ [])) (1 ∷ 1 ∷ 1 ∷ 0 ∷ 1 ∷ [])
    (surely (0 ∷ 0 ∷ []) ∷ surely (1 ∷ 1 ∷ 0 ∷ 0 ∷ []) ∷ []) false

-- ---- loops

abbrev pub Looping : Type 0
Looping =
    -- added in a loop, and set in one
    Tells (alone (sets (codes "a.c") ∷ each (codes "x") (adds (codes "b.c") ∷ []) ∷ target ∷ [])) (read_by 2)
    (surely (0 ∷ 0 ∷ []) ∷ perhaps (1 ∷ 1 ∷ 0 ∷ 0 ∷ []) ∷ []) false
    × Tells (alone (sets (codes "a.c") ∷ each (codes "x") (sets (codes "b.c") ∷ []) ∷ target ∷ [])) (read_by 2)
    (perhaps (0 ∷ 0 ∷ []) ∷ perhaps (1 ∷ 1 ∷ 0 ∷ 0 ∷ []) ∷ []) false
    -- a name of the loop, in it and after it
    × Tells (alone (sets (codes "a.c") ∷ each src (target ∷ []) ∷ [])) (1 ∷ 1 ∷ 0 ∷ 0 ∷ 1 ∷ []) [] true
    × Tells (alone (sets (codes "a.c") ∷ each src [] ∷ target ∷ [])) (read_by 2) (perhaps (0 ∷ 0 ∷ []) ∷ []) true
    -- a value of the turn before
    × Tells (alone (sets (codes "a.c") ∷ each (codes "x") (target ∷ sets (codes "b.c") ∷ []) ∷ [])) (1 ∷ 1 ∷ 0 ∷ 0 ∷ 1 ∷ [])
    (perhaps (0 ∷ 0 ∷ []) ∷ perhaps (1 ∷ 1 ∷ 1 ∷ 0 ∷ []) ∷ []) false
    -- set anew in each turn
    × Tells (alone (each (codes "x") (sets (codes "a.c") ∷ adds (codes "b.c") ∷ target ∷ sets (codes "c.c") ∷ []) ∷ [])) (0 ∷ 1 ∷ 2 ∷ 0 ∷ 1 ∷ [])
    (surely (0 ∷ 1 ∷ 0 ∷ 0 ∷ []) ∷ surely (0 ∷ 1 ∷ 1 ∷ 0 ∷ []) ∷ []) false
    -- a turn that ends early
    × Tells (alone (sets (codes "a.c") ∷ each (codes "x") (sets (codes "b.c") ∷ where_x (breaks tt ∷ []) ∷ sets (codes "c.c") ∷ []) ∷ target ∷ [])) (read_by 2)
    (perhaps (0 ∷ 0 ∷ []) ∷ perhaps (1 ∷ 1 ∷ 2 ∷ 0 ∷ []) ∷ perhaps (1 ∷ 1 ∷ 0 ∷ 0 ∷ []) ∷ []) false

-- ---- calls that set variables

abbrev pub Setting : Type 0
Setting =
    -- of its name, and of another one
    Tells (alone (sets (codes "a.c") ∷ set_variable (text src) ∷ target ∷ [])) (read_by 2) [] true
    × Tells (alone (sets (codes "a.c") ∷ set_variable (text (codes "other")) ∷ target ∷ [])) (read_by 2) (surely (0 ∷ 0 ∷ []) ∷ []) false
    -- of a name that is computed, and of one that it cannot be
    × Tells (alone (sets (codes "a.c") ∷ set_variable (variable (codes "k")) ∷ target ∷ [])) (read_by 2) (perhaps (0 ∷ 0 ∷ []) ∷ []) true
    × Tells (alone (sets (codes "a.c") ∷ set_variable (sum_of (text (codes "have_")) (variable (codes "k"))) ∷ target ∷ []))
    (read_by 2) (surely (0 ∷ 0 ∷ []) ∷ []) false
    -- after the target, and before it is set again
    × Tells (alone (sets (codes "a.c") ∷ target ∷ set_variable (variable (codes "k")) ∷ [])) (read_by 1) (surely (0 ∷ 0 ∷ []) ∷ []) false
    × Tells (alone (set_variable (variable (codes "k")) ∷ sets (codes "a.c") ∷ target ∷ [])) (read_by 2) (surely (1 ∷ 0 ∷ []) ∷ []) false
    -- within another call
    × Tells (alone (sets (codes "a.c") ∷ does (codes "f") (calling (codes "set_variable") (text src ∷ text src ∷ []) ∷ []) ∷ target ∷ [])) (read_by 2)
    (perhaps (0 ∷ 0 ∷ []) ∷ []) true
    -- unset
    × Fails (alone (sets (codes "a.c") ∷ does (codes "unset_variable") (text src ∷ []) ∷ target ∷ [])) (read_by 2)

-- ---- files that are entered

abbrev pub Entering : Type 0
Entering =
    -- set there, and added there
    Tells (beside_s (enters (codes "s") ∷ target ∷ []) (sets (codes "a.c") ∷ [])) (read_by 1) (surely_in 1 (0 ∷ 0 ∷ []) ∷ []) false
    × Tells (beside_s (sets (codes "a.c") ∷ enters (codes "s") ∷ where_x (adds (codes "b.c") ∷ []) ∷ target ∷ []) (adds (codes "c.c") ∷ [])) (read_by 3)
    (surely (0 ∷ 0 ∷ []) ∷ surely_in 1 (0 ∷ 0 ∷ []) ∷ perhaps (2 ∷ 1 ∷ 0 ∷ 0 ∷ []) ∷ []) false
    -- a file that is left early
    × Tells (beside_s (sets (codes "a.c") ∷ enters (codes "s") ∷ target ∷ []) (where_x (does (codes "subdir_done") [] ∷ []) ∷ sets (codes "b.c") ∷ [])) (read_by 2)
    (perhaps_in 1 (1 ∷ 0 ∷ []) ∷ perhaps (0 ∷ 0 ∷ []) ∷ []) false
    -- one that is entered only if something is found
    × Tells (beside_s (sets (codes "a.c") ∷ enters_if_found ∷ target ∷ []) (adds (codes "b.c") ∷ [])) (read_by 2)
    (surely (0 ∷ 0 ∷ []) ∷ perhaps_in 1 (0 ∷ 0 ∷ []) ∷ []) false
    -- a folder that is not known, and one of which there is no file
    × Tells (alone (sets (codes "a.c") ∷ does (codes "subdir") (variable (codes "k") ∷ []) ∷ target ∷ [])) (read_by 2) (perhaps (0 ∷ 0 ∷ []) ∷ []) true
    × Tells (alone (sets (codes "a.c") ∷ enters (codes "s") ∷ target ∷ [])) (read_by 2) (perhaps (0 ∷ 0 ∷ []) ∷ []) true

-- ---- files that are entered in a loop

abbrev pub EnteringEach : Type 0
EnteringEach =
    -- set in the file that reads it
    TellsInside (beside_s (enters_each ∷ []) (sets (codes "a.c") ∷ target ∷ [])) (read_by 1) (surely_in 1 (0 ∷ 0 ∷ []) ∷ []) false
    -- set before the loop: another file may be entered first
    × TellsInside (beside_s (sets (codes "a.c") ∷ enters_each ∷ []) (target ∷ [])) (read_by 0) (perhaps (0 ∷ 0 ∷ []) ∷ []) true
    -- read after the loop
    × Tells (beside_s (sets (codes "a.c") ∷ enters_each ∷ target ∷ []) (sets (codes "b.c") ∷ [])) (read_by 2)
    (perhaps (0 ∷ 0 ∷ []) ∷ perhaps_in 1 (0 ∷ 0 ∷ []) ∷ []) true
    -- of a list that a variable holds
    × TellsInside (beside_s (holds_s ∷ each (codes "d") (enters_d ∷ []) ∷ []) (sets (codes "a.c") ∷ target ∷ [])) (read_by 1) (surely_in 1 (0 ∷ 0 ∷ []) ∷ []) false
    -- of the name of no loop around it: no file is known
    × Tells (beside_s (sets (codes "a.c") ∷ enters_d ∷ target ∷ []) (sets (codes "b.c") ∷ [])) (read_by 2) (perhaps (0 ∷ 0 ∷ []) ∷ []) true
