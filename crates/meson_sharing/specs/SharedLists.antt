-- Which lists of some build files are read for one target alone.
use Rattle.std.specs.Prelude.{◌≡◌, ℕ, Bool, true, false, List, [], ◌∷◌, codes, Option, Some, None, option_map}
use Rattle.meson_lex.specs.Literals.{literal}
use Rattle.meson_syntax.specs.declared.operator.Assignment.TheVariants as assigns
use Rattle.meson_syntax.specs.declared.operator.Operator.TheVariants as op
use Rattle.meson_syntax.specs.declared.operator.StringKind.TheVariants as quotes
use Rattle.meson_syntax.specs.Tree.{Nowhere, bare_name, conditional, paren, string, array, call, row, no_operands, operand, dictionary, postfix, tail, no_tails, method, index, listing, named, pair, arguments_of, assign, evaluate, selection, iteration, no_branches, branch, nothing_else}
use Rattle.meson_calls.specs.declared.call.CallRef.{CallRef}
use Rattle.meson_calls.specs.CallPlaces.{call_at}
use Rattle.meson_calls.specs.Calls.{Call}
use Rattle.meson_calls.specs.Project.{Project, Placed, place}
use Rattle.meson_following.specs.Samples.{E, S, adds, alone, beside_s, body, calling, does, elements, enters, holding, sets, src, sum_of, target, target_with, text, variable, where_x}
use Rattle.meson_sharing.specs.Sharing.{is_own, is_unshared, sharers}

-- ---- what is said of a list

-- whether it is the target's own, and whether it is that but for uses
abbrev Kind : Type 0
Kind = Bool × Bool

abbrev kind_of : Project Nowhere → CallRef → Placed (Call Nowhere) → Kind
kind_of p m c = (is_own p c m, is_unshared p c m)

-- the target is the n-th statement of the first file; the list is the value at a place
abbrev Has : Project Nowhere → ℕ → CallRef → Kind → Type 0
Has p n m kind = option_map (kind_of p m) (call_at p (place 0 (n ∷ 0 ∷ []))) ≡ Some kind

abbrev IsOwn : Project Nowhere → ℕ → CallRef → Type 0
IsOwn p n m = Has p n m (true, true)

-- with uses
abbrev IsUnshared : Project Nowhere → ℕ → CallRef → Type 0
IsUnshared p n m = Has p n m (false, true)

abbrev IsShared : Project Nowhere → ℕ → CallRef → Type 0
IsShared p n m = Has p n m (false, false)

-- the value of the n-th statement of the first file
abbrev value_of : ℕ → CallRef
value_of n = place 0 (n ∷ 0 ∷ [])

-- ---- statements

abbrev made_as : List ℕ → List E → S
made_as name es = does (codes "executable") (text name ∷ es)

-- `executable('f', src)`
abbrev other_target : S
other_target = made_as (codes "f") (variable src ∷ [])

-- `x = e`
abbrev sets_other : (x : List ℕ) → E → S
sets_other x e = assign tt (bare_name x) assigns.Set e

-- `f(KEY: src)`
abbrev with_keyword : (f : List ℕ) → (key : List ℕ) → S
with_keyword f key = evaluate (call tt (bare_name f) (listing tt false (arguments_of (named tt (bare_name key) (variable src) ∷ []))))

-- `src = ['a.c']`, this, and `executable('e', src)`
abbrev with_target : S → Project Nowhere
with_target s = alone (sets (codes "a.c") ∷ s ∷ target ∷ [])

-- `src = ['a.c']` and `executable('e', ..)`
abbrev made_of : E → Project Nowhere
made_of e = alone (sets (codes "a.c") ∷ made_as (codes "e") (e ∷ []) ∷ [])

abbrev everything : List ℕ
everything = codes "all"

-- ---- own lists

abbrev pub Alone : Type 0
Alone =
    IsOwn (alone (sets (codes "a.c") ∷ target ∷ [])) 1 (value_of 0)
    -- in `sources:`, in an array, in `files`, in brackets, as the answer of a conditional, as an operand
    × IsOwn (alone (sets (codes "a.c") ∷ target_with (codes "sources") (variable src) ∷ [])) 1 (value_of 0)
    × IsOwn (made_of (array (elements (text (codes "b.c") ∷ variable src ∷ [])))) 1 (value_of 0)
    × IsOwn (made_of (calling (codes "files") (variable src ∷ []))) 1 (value_of 0)
    × IsOwn (made_of (paren tt (variable src))) 1 (value_of 0)
    × IsOwn (made_of (conditional tt (variable (codes "x")) (variable src) (holding (codes "b.c")))) 1 (value_of 0)
    × IsOwn (made_of (sum_of (holding (codes "b.c")) (variable src))) 1 (value_of 0)
    × IsOwn (made_of (row tt (holding (codes "b.c")) (operand op.Plus (holding (codes "c.c")) (operand op.Plus (variable src) no_operands)))) 1 (value_of 0)
    -- set in another folder
    × IsOwn (beside_s (enters (codes "s") ∷ target ∷ []) (sets (codes "a.c") ∷ [])) 1 (place 1 (0 ∷ 0 ∷ []))
    -- added in a branch
    × IsOwn (with_target (where_x (adds (codes "b.c") ∷ []))) 2 (place 0 (1 ∷ 1 ∷ 0 ∷ 0 ∷ []))
    -- another target reads the variable before it is set to this list
    × IsOwn (alone (sets (codes "b.c") ∷ other_target ∷ sets (codes "a.c") ∷ target ∷ [])) 3 (value_of 2)

-- `src = ['a.c']`, `all = src + ['b.c']`, `executable('e', all)`, and these
abbrev through_all : List S → Project Nowhere
through_all more =
    alone (sets (codes "a.c") ∷ sets_other everything (sum_of (variable src) (holding (codes "b.c"))) ∷ made_as (codes "e") (variable everything ∷ []) ∷ more)

-- by other variables that the target alone reads
abbrev pub Through : Type 0
Through =
    IsOwn (through_all []) 2 (value_of 0)
    -- by two variables, both of which the target reads
    × IsOwn (alone (sets (codes "a.c") ∷ sets_other (codes "x") (variable src) ∷ sets_other (codes "y") (variable src)
    ∷ made_as (codes "e") (variable (codes "x") ∷ variable (codes "y") ∷ []) ∷ [])) 3 (value_of 0)
    -- by three, one after another
    × IsOwn (alone (sets (codes "a.c") ∷ sets_other (codes "x") (variable src) ∷ sets_other (codes "y") (variable (codes "x"))
    ∷ sets_other (codes "z") (variable (codes "y")) ∷ made_as (codes "e") (variable (codes "z") ∷ []) ∷ [])) 4 (value_of 0)
    -- by two variables, of which another target reads one
    × IsShared (alone (sets (codes "a.c") ∷ sets_other (codes "x") (variable src) ∷ sets_other (codes "y") (variable src)
    ∷ made_as (codes "e") (variable (codes "x") ∷ []) ∷ made_as (codes "f") (variable (codes "y") ∷ []) ∷ [])) 3 (value_of 0)
    -- where another target reads `src`, but not `all`
    × IsOwn (through_all (other_target ∷ [])) 2 (value_of 1)
    × IsShared (through_all (other_target ∷ [])) 2 (value_of 0)

-- ---- shared lists

abbrev two_targets : Project Nowhere
two_targets = alone (sets (codes "a.c") ∷ target ∷ other_target ∷ [])

-- of `src += ['t.c']` between two targets
abbrev grown_between : Project Nowhere
grown_between = alone (sets (codes "a.c") ∷ target ∷ adds (codes "t.c") ∷ other_target ∷ [])

abbrev pub OtherTargets : Type 0
OtherTargets =
    IsShared two_targets 1 (value_of 0)
    × IsShared two_targets 2 (value_of 0)
    × IsShared grown_between 1 (value_of 0)
    × IsShared grown_between 3 (value_of 0)
    × IsOwn grown_between 3 (value_of 2)
    -- a dependency, and a variable that a function sets
    × IsShared (with_target (with_keyword (codes "declare_dependency") (codes "sources"))) 2 (value_of 0)
    × IsShared (with_target (does (codes "set_variable") (text (codes "x") ∷ variable src ∷ []))) 2 (value_of 0)
    -- a variable to which `files` gives it, and which is not read
    × IsShared (with_target (sets_other (codes "x") (calling (codes "files") (variable src ∷ [])))) 2 (value_of 0)

-- read otherwise than by a way
abbrev pub OtherReads : Type 0
OtherReads =
    -- `foreach x : src`
    IsShared (with_target (iteration tt (bare_name (codes "x") ∷ []) (variable src) (body []))) 2 (value_of 0)
    -- `if src`
    × IsShared (with_target (selection tt (branch (variable src) (body []) no_branches) nothing_else)) 2 (value_of 0)
    -- `src[x]`
    × IsShared (with_target (evaluate (postfix tt (variable src) (tail (index tt (variable (codes "x"))) no_tails)))) 2 (value_of 0)
    -- `src.length()`
    × IsShared (with_target (evaluate (postfix tt (variable src) (tail (method tt (bare_name (codes "length")) (elements [])) no_tails)))) 2 (value_of 0)
    -- `x = {'k': src}`
    × IsShared (with_target (sets_other (codes "x") (dictionary (listing tt false (arguments_of (pair tt (text (codes "k")) (variable src) ∷ [])))))) 2
    (value_of 0)
    -- the condition of a conditional, in the target itself
    × IsShared (made_of (conditional tt (variable src) (variable src) (holding (codes "b.c")))) 1 (value_of 0)
    -- `message(src != x)`
    × IsShared (with_target (does (codes "message") (row tt (variable src) (operand op.NotEqual (variable (codes "x")) no_operands) ∷ []))) 2 (value_of 0)
    -- the name of a target
    × IsShared (alone (sets (codes "a.c") ∷ does (codes "executable") (variable src ∷ text (codes "m.c") ∷ []) ∷ [])) 1 (value_of 0)
    -- a keyword argument of the target that is not `sources:`
    × IsShared (alone (sets (codes "a.c") ∷ target_with (codes "c_args") (variable src) ∷ target ∷ [])) 2 (value_of 0)

-- by a name that is computed, or is in a text
abbrev pub OtherNames : Type 0
OtherNames =
    -- `message(f'@src@')`
    IsShared (with_target (does (codes "message") (string tt quotes.Format (literal (codes "@src@")) ∷ []))) 2 (value_of 0)
    -- `get_variable('src')`, of a name that is computed, and of one that it cannot be
    × IsShared (with_target (sets_other (codes "x") (calling (codes "get_variable") (text src ∷ [])))) 2 (value_of 0)
    × IsShared (with_target (made_as (codes "f") (calling (codes "get_variable") (text src ∷ []) ∷ []))) 2 (value_of 0)
    × IsUnshared (with_target (does (codes "message") (calling (codes "get_variable") (text src ∷ []) ∷ []))) 2 (value_of 0)
    × IsUnshared (with_target (does (codes "message") (calling (codes "get_variable") (variable (codes "k") ∷ []) ∷ []))) 2 (value_of 0)
    × IsOwn (made_of (calling (codes "get_variable") (text src ∷ []))) 1 (value_of 0)
    × IsShared (with_target (sets_other (codes "x") (calling (codes "get_variable") (variable (codes "k") ∷ [])))) 2 (value_of 0)
    × IsOwn (with_target (sets_other (codes "x") (calling (codes "get_variable") (sum_of (text (codes "have_")) (variable (codes "k")) ∷ [])))) 2 (value_of 0)

-- ---- uses

abbrev pub Uses : Type 0
Uses =
    -- `message(src)`
    IsUnshared (with_target (does (codes "message") (variable src ∷ []))) 2 (value_of 0)
    -- `configure_file(input: src)`
    × IsUnshared (with_target (with_keyword (codes "configure_file") (codes "input"))) 2 (value_of 0)
    -- `gnome.mkenums(src)`
    × IsUnshared (with_target (evaluate (postfix tt (variable (codes "gnome"))
    (tail (method tt (bare_name (codes "mkenums")) (elements (variable src ∷ []))) no_tails)))) 2 (value_of 0)
    -- `gnome.find(x, y).mkenums(src)`
    × IsUnshared (with_target (evaluate (postfix tt (variable (codes "gnome"))
    (tail (method tt (bare_name (codes "find")) (elements (variable (codes "x") ∷ variable (codes "y") ∷ [])))
    (tail (method tt (bare_name (codes "mkenums")) (elements (variable src ∷ []))) no_tails))))) 2 (value_of 0)
    -- what a function makes of it, in the sources of the target
    × IsUnshared (made_of (calling (codes "f") (variable src ∷ []))) 1 (value_of 0)
    -- in a list that is an argument
    × IsUnshared (with_target (does (codes "message") (sum_of (holding (codes "b.c")) (variable src) ∷ []))) 2 (value_of 0)
    -- a use, and another target
    × IsShared (alone (sets (codes "a.c") ∷ does (codes "message") (variable src ∷ []) ∷ target ∷ other_target ∷ [])) 2 (value_of 0)

-- ---- who gets it

abbrev GoesTo : Project Nowhere → ℕ → CallRef → Option (List (List ℕ)) → Type 0
GoesTo p n m names = option_map (λ c. sharers p c m) (call_at p (place 0 (n ∷ 0 ∷ []))) ≡ Some names

abbrev pub Sharers : Type 0
Sharers =
    -- nobody else, another target, and something that is no target
    GoesTo (alone (sets (codes "a.c") ∷ target ∷ [])) 1 (value_of 0) (Some [])
    × GoesTo two_targets 1 (value_of 0) (Some (codes "f" ∷ []))
    × GoesTo two_targets 2 (value_of 0) (Some (codes "e" ∷ []))
    × GoesTo (with_target (does (codes "message") (variable src ∷ []))) 2 (value_of 0) None
    -- what is added later, to one of two targets
    × GoesTo grown_between 1 (value_of 0) (Some (codes "f" ∷ []))
    × GoesTo grown_between 3 (value_of 2) (Some [])
