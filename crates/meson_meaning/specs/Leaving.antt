-- What is left of some build files, where all literals are left out that may be.
use Rattle.std.specs.Prelude.{◌≡◌, true, false, List, [], ◌∷◌, codes}
use Rattle.meson_syntax.specs.Tree.{bare_name, array, dictionary, call, conditional, listing, plain, named, pair, arguments_of, evaluate}
use Rattle.meson_following.specs.Samples.{E, S, alone, calling, does, each_of, either_way, elements, enters, holding, sets, sets_to, sum_of, target, text, variable}
use Rattle.meson_meaning.specs.Without.{project_without}

-- of some statements
abbrev Leaves : List S → List S → Type 0
Leaves before after = project_without (λ s. s) (λ s. true) (alone before) ≡ alone after

abbrev a : E
a = text (codes "a.c")

abbrev b : E
b = text (codes "b.c")

abbrev nothing : E
nothing = array (elements [])

-- `executable(..)`
abbrev made : List E → S
made es = does (codes "executable") es

-- `{'k': e}`
abbrev keyed : E → E
keyed e = dictionary (listing tt false (arguments_of (pair tt (text (codes "k")) e ∷ [])))

-- `executable('e', sources: e)`
abbrev with_sources : E → S
with_sources e =
    evaluate (call tt (bare_name (codes "executable")) (listing tt false (arguments_of (plain (text (codes "e")) ∷ named tt (bare_name (codes "sources")) e ∷ []))))

abbrev pub Leaving : Type 0
Leaving =
    -- elements of arrays, wherever they are; other elements stay
    Leaves (sets (codes "a.c") ∷ target ∷ []) (sets_to nothing ∷ target ∷ [])
    × Leaves (sets_to (array (elements (a ∷ variable (codes "x") ∷ array (elements (b ∷ [])) ∷ []))) ∷ []) (sets_to (array (elements (variable (codes "x") ∷ nothing ∷ []))) ∷ [])
    × Leaves (sets_to (sum_of (conditional tt (variable (codes "x")) (holding (codes "a.c")) b) (keyed (holding (codes "b.c")))) ∷ [])
    (sets_to (sum_of (conditional tt (variable (codes "x")) nothing b) (keyed nothing)) ∷ [])
    × Leaves (either_way (sets (codes "a.c") ∷ []) (each_of (codes "d") (codes "u" ∷ []) (sets (codes "b.c") ∷ []) ∷ []) ∷ [])
    (either_way (sets_to nothing ∷ []) (each_of (codes "d") [] (sets_to nothing ∷ []) ∷ []) ∷ [])
    -- a comma after the last one is removed with it
    × Leaves (sets_to (array (listing tt true (arguments_of (plain a ∷ [])))) ∷ []) (sets_to nothing ∷ [])
    -- arguments of `files`, and of a target after its name
    × Leaves (sets_to (calling (codes "files") (a ∷ b ∷ [])) ∷ []) (sets_to (calling (codes "files") []) ∷ [])
    × Leaves (made (text (codes "e") ∷ a ∷ holding (codes "b.c") ∷ b ∷ []) ∷ []) (made (text (codes "e") ∷ nothing ∷ []) ∷ [])
    × Leaves (with_sources (holding (codes "a.c")) ∷ []) (with_sources nothing ∷ [])
    -- not a text that is in no list, and no argument of another function
    × Leaves (sets_to a ∷ with_sources a ∷ []) (sets_to a ∷ with_sources a ∷ [])
    × Leaves (does (codes "install_headers") (a ∷ holding (codes "b.c") ∷ []) ∷ enters (codes "s") ∷ []) (does (codes "install_headers") (a ∷ nothing ∷ []) ∷ enters (codes "s") ∷ [])
    × Leaves (sets_to (keyed a) ∷ []) (sets_to (keyed a) ∷ [])
