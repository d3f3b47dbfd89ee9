-- What the targets of some build files are made of.
use Rattle.std.specs.Prelude.{◌≡◌, ℕ, suc, Bool, true, false, List, [], ◌∷◌, ◌++◌, codes, Option, Some, None, option_map}
use Rattle.meson_syntax.specs.Tree.{Nowhere, conditional}
use Rattle.meson_calls.specs.CallPlaces.{call_at}
use Rattle.meson_calls.specs.Project.{Project, place}
use Rattle.meson_following.specs.Following.{Mark, known, opaque, empty, follow_marks}
use Rattle.meson_following.specs.Samples.{E, S, adds, alone, beside_s, calling, chain, does, each, either_way, enters, enters_if_found, holding, long_name, sets, sets_to, src, sum_of, target, target_with, text, variable, where_x}

-- the texts of what is met, each with whether it is there in each evaluation
abbrev pub Texts : Type 0
Texts = List (List ℕ × Bool)

abbrev pub texts : List (Mark Nowhere) → Texts
texts [] = []
texts (known i ∷ ms) = (i.text, i.way.sure) ∷ texts ms
texts (opaque ∷ ms) = texts ms
texts (empty q w ∷ ms) = texts ms

-- how many things are not known
abbrev pub opaque_count : List (Mark Nowhere) → ℕ
opaque_count [] = 0
opaque_count (known i ∷ ms) = opaque_count ms
opaque_count (opaque ∷ ms) = suc (opaque_count ms)
opaque_count (empty q w ∷ ms) = opaque_count ms

abbrev pub summary : List (Mark Nowhere) → Texts × ℕ
summary ms = (texts ms, opaque_count ms)

-- the target at a path of the first file is made of these, and of this many that are not known
abbrev IsOf : Project Nowhere → List ℕ → Texts → ℕ → Type 0
IsOf p path items count = option_map (λ c. summary (follow_marks p c)) (call_at p (place 0 path)) ≡ Some (items, count)

abbrev some_of : List ℕ → List ℕ × Bool
some_of name = (name, false)

abbrev sure_of : List ℕ → List ℕ × Bool
sure_of name = (name, true)

-- where the target is the n-th statement
abbrev at_ : ℕ → List ℕ
at_ n = n ∷ 0 ∷ []

-- `files(name)`
abbrev files_of : List ℕ → E
files_of name = calling (codes "files") (text name ∷ [])

abbrev made : List E → S
made es = does (codes "executable") (text (codes "e") ∷ es)

-- `f()`
abbrev something : E
something = calling (codes "f") []

abbrev pub OneAfterAnother : Type 0
OneAfterAnother =
    IsOf (alone (sets (codes "a.c") ∷ adds (codes "b.c") ∷ target ∷ [])) (at_ 2) (sure_of (codes "a.c") ∷ sure_of (codes "b.c") ∷ []) 0
    -- `src = ['b.c'] + src`
    × IsOf (alone (sets (codes "a.c") ∷ sets_to (sum_of (holding (codes "b.c")) (variable src)) ∷ target ∷ [])) (at_ 2)
    (sure_of (codes "b.c") ∷ sure_of (codes "a.c") ∷ []) 0
    × IsOf (alone (target ∷ [])) (at_ 0) [] 1

abbrev pub Either : Type 0
Either =
    IsOf (alone (sets (codes "a.c") ∷ where_x (adds (codes "b.c") ∷ []) ∷ target ∷ [])) (at_ 2) (sure_of (codes "a.c") ∷ some_of (codes "b.c") ∷ []) 0
    × IsOf (alone (either_way (sets (codes "l.c") ∷ []) (sets (codes "w.c") ∷ []) ∷ target ∷ [])) (at_ 1)
    (some_of (codes "l.c") ∷ some_of (codes "w.c") ∷ []) 0
    -- a conditional
    × IsOf (alone (made (conditional tt (variable (codes "x")) (holding (codes "a.c")) (holding (codes "b.c")) ∷ []) ∷ [])) (at_ 0)
    (some_of (codes "a.c") ∷ some_of (codes "b.c") ∷ []) 0

abbrev pub Turning : Type 0
Turning =
    IsOf (alone (sets (codes "a.c") ∷ each (codes "x") (adds (codes "b.c") ∷ []) ∷ target ∷ [])) (at_ 2)
    (sure_of (codes "a.c") ∷ some_of (codes "b.c") ∷ []) 0
    × IsOf (alone (sets (codes "a.c") ∷ each src (target ∷ []) ∷ [])) (1 ∷ 1 ∷ 0 ∷ 0 ∷ []) [] 1
    × IsOf (alone (sets (codes "a.c") ∷ each src [] ∷ target ∷ [])) (at_ 2) (some_of (codes "a.c") ∷ []) 1

-- which values are lists
abbrev pub Summing : Type 0
Summing =
    -- `f() + ['a.c']`
    IsOf (alone (made (sum_of something (holding (codes "a.c")) ∷ []) ∷ [])) (at_ 0) (sure_of (codes "a.c") ∷ []) 1
    -- a text and a text
    × IsOf (alone (made (sum_of (variable (codes "s")) (text (codes ".c")) ∷ []) ∷ [])) (at_ 0) [] 1
    -- added to what may be no list
    × IsOf (alone (sets_to something ∷ adds (codes "a.c") ∷ target ∷ [])) (at_ 2) (sure_of (codes "a.c") ∷ []) 1

abbrev pub Folders : Type 0
Folders =
    IsOf (beside_s (sets (codes "a.c") ∷ enters (codes "s") ∷ target ∷ []) (sets_to (files_of (codes "b.c")) ∷ [])) (at_ 2) (sure_of (codes "b.c") ∷ []) 0
    × IsOf (beside_s (sets (codes "a.c") ∷ enters_if_found ∷ target ∷ []) (adds (codes "b.c") ∷ [])) (at_ 2)
    (sure_of (codes "a.c") ∷ some_of (codes "b.c") ∷ []) 0
    × IsOf (alone (sets (codes "a.c") ∷ does (codes "subdir") (variable (codes "k") ∷ []) ∷ target ∷ [])) (at_ 2) (some_of (codes "a.c") ∷ []) 1
    -- written otherwise, and not a folder below
    × IsOf (beside_s (sets (codes "a.c") ∷ enters (codes "./s/") ∷ target ∷ []) (adds (codes "b.c") ∷ [])) (at_ 2)
    (sure_of (codes "a.c") ∷ sure_of (codes "b.c") ∷ []) 0
    × IsOf (beside_s (sets (codes "a.c") ∷ enters (codes "t/../s") ∷ target ∷ []) (adds (codes "b.c") ∷ [])) (at_ 2) (some_of (codes "a.c") ∷ []) 1

-- the value of a maker is followed once, however often the variable is read
abbrev pub Once : Type 0
Once =
    IsOf (alone (sets (codes "a.c") ∷ made (variable src ∷ variable src ∷ []) ∷ [])) (at_ 1) (sure_of (codes "a.c") ∷ []) 0
    × IsOf (alone (sets (codes "a.c") ∷ made (holding (codes "b.c") ∷ sum_of (variable src) (variable src) ∷ []) ∷ [])) (at_ 1)
    (sure_of (codes "b.c") ∷ sure_of (codes "a.c") ∷ []) 0

-- ---- from which folder a path begins

-- the file of the innermost `files` around each literal
abbrev pub files_around : List (Mark Nowhere) → List (Option ℕ)
files_around [] = []
files_around (known i ∷ ms) = i.way.files ∷ files_around ms
files_around (opaque ∷ ms) = files_around ms
files_around (empty q w ∷ ms) = files_around ms

abbrev IsFrom : Project Nowhere → List ℕ → List (Option ℕ) → Type 0
IsFrom p path files = option_map (λ c. files_around (follow_marks p c)) (call_at p (place 0 path)) ≡ Some files

abbrev pub Beginning : Type 0
Beginning =
    -- in another folder, in none, and around a variable
    IsFrom (beside_s (enters (codes "s") ∷ target ∷ []) (sets_to (files_of (codes "b.c")) ∷ [])) (at_ 1) (Some 1 ∷ [])
    × IsFrom (alone (sets (codes "a.c") ∷ target ∷ [])) (at_ 1) (None ∷ [])
    × IsFrom (alone (sets (codes "a.c") ∷ made (calling (codes "files") (variable src ∷ []) ∷ []) ∷ [])) (at_ 1) (Some 0 ∷ [])

-- ---- keywords, and how far variables are followed

-- `sources:` has sources, `kwargs:` may have some, another keyword argument has none
abbrev pub Naming : Type 0
Naming =
    IsOf (alone (sets (codes "a.c") ∷ target_with (codes "sources") (variable src) ∷ [])) (at_ 1) (sure_of (codes "m.c") ∷ sure_of (codes "a.c") ∷ []) 0
    × IsOf (alone (target_with (codes "kwargs") (variable (codes "k")) ∷ [])) (at_ 0) (sure_of (codes "m.c") ∷ []) 1
    × IsOf (alone (sets (codes "a.c") ∷ target_with (codes "c_args") (variable src) ∷ [])) (at_ 1) (sure_of (codes "m.c") ∷ []) 0

-- 64 variables one after another are followed, and no more
abbrev pub Limit : Type 0
Limit =
    IsOf (alone (chain 63 ++ made (variable (long_name 63) ∷ []) ∷ [])) (at_ 64) (sure_of (codes "a.c") ∷ []) 0
    × IsOf (alone (chain 64 ++ made (variable (long_name 64) ∷ []) ∷ [])) (at_ 65) [] 1
