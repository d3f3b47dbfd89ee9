-- Build files before sources are added or removed, and after it, where variables are followed.
use Rattle.std.specs.Prelude.{◌≡◌, ℕ, List, [], ◌∷◌, ◌++◌, map, codes, Option, Some, option_map, Result, Ok, Err}
use Rattle.meson_syntax.specs.declared.operator.Assignment.TheVariants as assigns
use Rattle.meson_syntax.specs.Tree.{Nowhere, Plain, bare_name, array, assign, conditional}
use Rattle.meson_calls.specs.declared.refusal.Refusal.{Refusal}
use Rattle.meson_calls.specs.declared.refusal.Refusal.TheVariants.{NotRemovable, Shared, SourceNotFound, Unresolved}
use Rattle.meson_calls.specs.CallPlaces.{call_at}
use Rattle.meson_calls.specs.Calls.{Call}
use Rattle.meson_calls.specs.Project.{Placed, Project, place}
use Rattle.meson_following.specs.Samples.{E, S, adds, alone, beside_s, calling, does, each, either_way, elements, enters, holding, set_variable, sets, sets_to, src, sum_of, target, text, variable, where_x}
use Rattle.meson_splice.specs.Patch.{then_ok}
use Rattle.meson_steps.specs.Steps.{Step, all_stepped}
use Rattle.meson_steps.specs.declared.source_change.SharedLists.{SharedLists}
use Rattle.meson_steps.specs.declared.source_change.SharedLists.TheVariants.{Kept, Changed}
use Rattle.meson_followed.specs.FollowedEdits.{followed_added, followed_removed}

-- ---- what a command makes of build files

abbrev pub Command : Type 0
Command = SharedLists → Project Nowhere → Placed (Call Nowhere) → Result (List Step) Refusal

abbrev add : List (List ℕ) → Command
add names shared p c = followed_added p c shared names

abbrev rm : List (List ℕ) → Command
rm names shared p c = followed_removed p c shared names

abbrev pub trees : Project Nowhere → List Plain
trees p = map (λ f. f.tree) p

abbrev pub made_of : Project Nowhere → Result (List Step) Refusal → Result (Option (List Plain)) Refusal
made_of p steps = then_ok steps (λ ss. Ok (all_stepped ss (trees p)))

-- for the target whose call is at a path of the n-th file
abbrev pub Gives : SharedLists → Project Nowhere → ℕ → List ℕ → Command → Result (Option (List Plain)) Refusal → Type 0
Gives shared p n path command result = option_map (λ c. made_of p (command shared p c)) (call_at p (place n path)) ≡ Some result

-- where the target is the n-th statement of the first file
abbrev pub Makes : Project Nowhere → ℕ → Command → Project Nowhere → Type 0
Makes p n command q = Gives Kept p 0 (n ∷ 0 ∷ []) command (Ok (Some (trees q)))

-- with shared lists changed
abbrev pub MakesShared : Project Nowhere → ℕ → Command → Project Nowhere → Type 0
MakesShared p n command q = Gives Changed p 0 (n ∷ 0 ∷ []) command (Ok (Some (trees q)))

abbrev pub IsRefused : Project Nowhere → ℕ → Command → Refusal → Type 0
IsRefused p n command why = Gives Kept p 0 (n ∷ 0 ∷ []) command (Err why)

-- in the second file
abbrev pub MakesInside : Project Nowhere → ℕ → Command → Project Nowhere → Type 0
MakesInside p n command q = Gives Kept p 1 (n ∷ 0 ∷ []) command (Ok (Some (trees q)))

abbrev pub IsRefusedInside : Project Nowhere → ℕ → Command → Refusal → Type 0
IsRefusedInside p n command why = Gives Kept p 1 (n ∷ 0 ∷ []) command (Err why)

-- ---- names and statements

abbrev one : List ℕ → List (List ℕ)
one name = name ∷ []

-- `NAME('e', ..)` and `NAME('f', ..)`
abbrev pub made : List E → S
made es = does (codes "executable") (text (codes "e") ∷ es)

abbrev pub other : List E → S
other es = does (codes "executable") (text (codes "f") ∷ es)

abbrev pub both : (a b : List ℕ) → E
both a b = array (elements (text a ∷ text b ∷ []))

abbrev pub nothing : E
nothing = array (elements [])

-- `src += e`
abbrev pub adds_to : E → S
adds_to e = assign tt (bare_name src) assigns.Add e

-- `common = e`
abbrev pub common : List ℕ
common = codes "common"

abbrev pub sets_common : E → S
sets_common e = assign tt (bare_name common) assigns.Set e

abbrev pub files_of : List E → E
files_of es = calling (codes "files") es

-- ---- one after another

abbrev pub InTurn : Type 0
InTurn =
    -- the later assignment counts
    Makes (alone (sets (codes "a.c") ∷ sets (codes "b.c") ∷ target ∷ [])) 2 (add (one (codes "n.c")))
    (alone (sets (codes "a.c") ∷ sets_to (both (codes "b.c") (codes "n.c")) ∷ target ∷ []))
    × Makes (alone (sets (codes "a.c") ∷ sets (codes "b.c") ∷ target ∷ [])) 2 (rm (one (codes "b.c"))) (alone (sets (codes "a.c") ∷ sets_to nothing ∷ target ∷ []))
    × IsRefused (alone (sets (codes "a.c") ∷ sets (codes "b.c") ∷ target ∷ [])) 2 (rm (one (codes "a.c"))) SourceNotFound
    -- one after the target does not
    × IsRefused (alone (sets (codes "a.c") ∷ target ∷ sets (codes "b.c") ∷ [])) 1 (rm (one (codes "b.c"))) SourceNotFound
    -- `src += files('c.c')`
    × Makes (alone (sets (codes "a.c") ∷ adds (codes "b.c") ∷ adds_to (files_of (text (codes "c.c") ∷ [])) ∷ target ∷ [])) 3
    (rm (codes "c.c" ∷ codes "b.c" ∷ [])) (alone (sets (codes "a.c") ∷ adds_to nothing ∷ adds_to (files_of []) ∷ target ∷ []))
    -- the first list that is met: `src = ['b.c'] + src`
    × Makes (alone (sets (codes "a.c") ∷ sets_to (sum_of (holding (codes "b.c")) (variable src)) ∷ target ∷ [])) 2 (add (one (codes "n.c")))
    (alone (sets (codes "a.c") ∷ sets_to (sum_of (both (codes "b.c") (codes "n.c")) (variable src)) ∷ target ∷ []))
    -- an empty list
    × Makes (alone (sets_to nothing ∷ target ∷ [])) 1 (add (one (codes "n.c"))) (alone (sets (codes "n.c") ∷ target ∷ []))
    -- it is there
    × Makes (alone (sets (codes "a.c") ∷ target ∷ [])) 1 (add (codes "./a.c" ∷ codes "n.c" ∷ codes "s/../n.c" ∷ []))
    (alone (sets_to (both (codes "a.c") (codes "n.c")) ∷ target ∷ []))

-- ---- what is not known, and what is in no list

abbrev pub Unknown : Type 0
Unknown =
    -- a variable that is set nowhere
    IsRefused (alone (target ∷ [])) 0 (rm (one (codes "a.c"))) Unresolved
    × Makes (alone (target ∷ [])) 0 (add (one (codes "n.c"))) (alone (made (variable src ∷ text (codes "n.c") ∷ []) ∷ []))
    -- `src += 'b.c'`
    × IsRefused (alone (sets (codes "a.c") ∷ adds_to (text (codes "b.c")) ∷ target ∷ [])) 2 (rm (one (codes "b.c"))) NotRemovable
    × Makes (alone (sets (codes "a.c") ∷ adds_to (text (codes "b.c")) ∷ target ∷ [])) 2 (add (one (codes "b.c")))
    (alone (sets (codes "a.c") ∷ adds_to (text (codes "b.c")) ∷ target ∷ []))
    -- a variable that something may set: the list may not be there
    × Makes (alone (sets (codes "a.c") ∷ set_variable (variable (codes "k")) ∷ target ∷ [])) 2 (add (one (codes "n.c")))
    (alone (sets (codes "a.c") ∷ set_variable (variable (codes "k")) ∷ made (variable src ∷ text (codes "n.c") ∷ []) ∷ []))

-- ---- branches and loops

-- `src` is one of two lists, each of two names
abbrev pub either_of : (a b c d : List ℕ) → Project Nowhere
either_of a b c d = alone (either_way (sets_to (both a b) ∷ []) (sets_to (both c d) ∷ []) ∷ target ∷ [])

abbrev pub Branching : Type 0
Branching =
    -- from a branch, and to what is before it: then it is there in each evaluation
    Makes (alone (sets (codes "a.c") ∷ where_x (adds (codes "b.c") ∷ []) ∷ target ∷ [])) 2 (rm (one (codes "b.c")))
    (alone (sets (codes "a.c") ∷ where_x (adds_to nothing ∷ []) ∷ target ∷ []))
    × Makes (alone (sets (codes "a.c") ∷ where_x (adds (codes "b.c") ∷ []) ∷ target ∷ [])) 2 (add (one (codes "b.c")))
    (alone (sets_to (both (codes "a.c") (codes "b.c")) ∷ where_x (adds (codes "b.c") ∷ []) ∷ target ∷ []))
    -- from both, and to neither
    × Makes (either_of (codes "l.c") (codes "a.c") (codes "w.c") (codes "a.c")) 1 (rm (one (codes "a.c")))
    (alone (either_way (sets (codes "l.c") ∷ []) (sets (codes "w.c") ∷ []) ∷ target ∷ []))
    × Makes (alone (either_way (sets (codes "l.c") ∷ []) (sets (codes "w.c") ∷ []) ∷ target ∷ [])) 1 (add (one (codes "l.c")))
    (alone (either_way (sets (codes "l.c") ∷ []) (sets (codes "w.c") ∷ []) ∷ made (variable src ∷ text (codes "l.c") ∷ []) ∷ []))
    -- a conditional
    × Makes (alone (made (conditional tt (variable (codes "x")) (holding (codes "a.c")) (holding (codes "b.c")) ∷ []) ∷ [])) 0 (rm (one (codes "a.c")))
    (alone (made (conditional tt (variable (codes "x")) nothing (holding (codes "b.c")) ∷ []) ∷ []))
    -- a loop
    × Makes (alone (sets (codes "a.c") ∷ each (codes "x") (adds (codes "b.c") ∷ []) ∷ target ∷ [])) 2 (add (one (codes "n.c")))
    (alone (sets_to (both (codes "a.c") (codes "n.c")) ∷ each (codes "x") (adds (codes "b.c") ∷ []) ∷ target ∷ []))
    × Makes (alone (sets (codes "a.c") ∷ each (codes "x") (adds (codes "b.c") ∷ []) ∷ target ∷ [])) 2 (rm (one (codes "b.c")))
    (alone (sets (codes "a.c") ∷ each (codes "x") (adds_to nothing ∷ []) ∷ target ∷ []))

-- ---- folders

-- `src = files('a.c')` in the folder `s`
abbrev pub files_in_s : List ℕ → List S → Project Nowhere
files_in_s name made_so = beside_s (enters (codes "s") ∷ made_so) (sets_to (files_of (text name ∷ [])) ∷ [])

-- `common = files('c.c')` above it
abbrev pub files_above : List E → List E → Project Nowhere
files_above files sources = beside_s (sets_common (files_of files) ∷ enters (codes "s") ∷ []) (made sources ∷ [])

abbrev pub Folders : Type 0
Folders =
    -- `files` of another folder
    Makes (files_in_s (codes "a.c") (target ∷ [])) 1 (rm (one (codes "s/a.c"))) (beside_s (enters (codes "s") ∷ target ∷ []) (sets_to (files_of []) ∷ []))
    × IsRefused (files_in_s (codes "a.c") (target ∷ [])) 1 (rm (one (codes "a.c"))) SourceNotFound
    × Makes (files_in_s (codes "a.c") (target ∷ [])) 1 (add (one (codes "n.c"))) (files_in_s (codes "a.c") (made (variable src ∷ text (codes "n.c") ∷ []) ∷ []))
    -- a string is a path from the folder of the target
    × Makes (beside_s (enters (codes "s") ∷ target ∷ []) (sets (codes "s/a.c") ∷ [])) 1 (add (one (codes "n.c")))
    (beside_s (enters (codes "s") ∷ target ∷ []) (sets_to (both (codes "s/a.c") (codes "n.c")) ∷ []))
    -- `files` of the folder above
    × MakesInside (files_above (text (codes "c.c") ∷ []) (text (codes "a.c") ∷ variable common ∷ [])) 0 (rm (one (codes "../c.c")))
    (files_above [] (text (codes "a.c") ∷ variable common ∷ []))
    × IsRefusedInside (files_above (text (codes "c.c") ∷ []) (text (codes "a.c") ∷ variable common ∷ [])) 0 (rm (one (codes "c.c"))) SourceNotFound
    × MakesInside (files_above (text (codes "c.c") ∷ []) (text (codes "a.c") ∷ variable common ∷ [])) 0 (add (codes "../c.c" ∷ codes "c.c" ∷ []))
    (files_above (text (codes "c.c") ∷ []) (text (codes "a.c") ∷ variable common ∷ text (codes "c.c") ∷ []))

-- ---- lists that others get too

-- `src = ['a.c']`, `executable('e', src, ..)` and `executable('f', src, ..)`
abbrev pub two_of : List S → (es fs : List E) → Project Nowhere
two_of ss es fs = alone (ss ++ made (variable src ∷ es) ∷ other (variable src ∷ fs) ∷ [])

abbrev pub SharedWithOthers : Type 0
SharedWithOthers =
    Makes (two_of (sets (codes "a.c") ∷ []) [] []) 1 (add (one (codes "n.c"))) (two_of (sets (codes "a.c") ∷ []) (text (codes "n.c") ∷ []) [])
    × MakesShared (two_of (sets (codes "a.c") ∷ []) [] []) 1 (add (one (codes "n.c"))) (two_of (sets_to (both (codes "a.c") (codes "n.c")) ∷ []) [] [])
    × IsRefused (two_of (sets (codes "a.c") ∷ []) [] []) 1 (rm (one (codes "a.c"))) (Shared src)
    × MakesShared (two_of (sets (codes "a.c") ∷ []) [] []) 1 (rm (one (codes "a.c"))) (two_of (sets_to nothing ∷ []) [] [])
    -- the call is the target's own list
    × Makes (two_of (sets (codes "a.c") ∷ []) (text (codes "e.c") ∷ []) []) 1 (rm (one (codes "e.c"))) (two_of (sets (codes "a.c") ∷ []) [] [])
    -- what is missing is found first
    × IsRefused (two_of (sets (codes "a.c") ∷ []) [] []) 1 (rm (codes "a.c" ∷ codes "z.c" ∷ [])) SourceNotFound
    -- what comes between two targets goes to the second one alone
    × Makes (alone (sets (codes "a.c") ∷ target ∷ adds (codes "b.c") ∷ other (variable src ∷ []) ∷ [])) 3 (add (one (codes "n.c")))
    (alone (sets (codes "a.c") ∷ target ∷ adds_to (both (codes "b.c") (codes "n.c")) ∷ other (variable src ∷ []) ∷ []))
    -- a shared list within an own one
    × Makes (alone (sets_common (holding (codes "a.c")) ∷ sets_to (sum_of (variable common) (holding (codes "b.c"))) ∷ target ∷ other (variable common ∷ []) ∷ []))
    2 (add (one (codes "n.c")))
    (alone (sets_common (holding (codes "a.c")) ∷ sets_to (sum_of (variable common) (both (codes "b.c") (codes "n.c"))) ∷ target
    ∷ other (variable common ∷ []) ∷ []))
    -- one that is used, too: `install_headers(src)`
    × Makes (alone (sets (codes "a.c") ∷ does (codes "install_headers") (variable src ∷ []) ∷ target ∷ [])) 2 (add (one (codes "n.c")))
    (alone (sets_to (both (codes "a.c") (codes "n.c")) ∷ does (codes "install_headers") (variable src ∷ []) ∷ target ∷ []))
