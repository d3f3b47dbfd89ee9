-- Which values are changed for a target in some build files.
use Rattle.std.specs.Prelude.{◌≡◌, ℕ, List, [], ◌∷◌, codes, Option, Some, None, Result, Ok, Err}
use Rattle.meson_lex.specs.declared.kinds.Span.{Span}
use Rattle.meson_calls.specs.declared.call.CallRef.{CallRef}
use Rattle.meson_calls.specs.declared.refusal.Refusal.{Refusal}
use Rattle.meson_calls.specs.declared.refusal.Refusal.TheVariants.{Shared}
use Rattle.meson_calls.specs.Project.{Project, place}
use Rattle.meson_steps.specs.declared.given.Given.TheVariants as given
use Rattle.meson_followed_values.specs.Choices.{gaining_at, losing_at}
use Rattle.meson_followed_values.specs.Samples.{E, S, adds, alone, beside_s, calling, does, each, either_way, enters_s, format_of, sets, sum_of, target, text, texts, variable, where_x}

abbrev deps : List ℕ
deps = codes "deps"

abbrev more : List ℕ
more = codes "more"

abbrev a : List ℕ
a = codes "a"

abbrev b : List ℕ
b = codes "b"

abbrev c : List ℕ
c = codes "c"

-- `deps = [..]` and `deps += [..]`
abbrev set : List (List ℕ) → S
set ts = sets deps (texts ts)

abbrev add : List (List ℕ) → S
add ts = adds deps (texts ts)

abbrev one : List ℕ → List (List ℕ)
one t = t ∷ []

-- `executable('e', dependencies: deps)`
abbrev user : S
user = target (variable deps)

-- the value of the statement at a path
abbrev at_ : List ℕ → CallRef
at_ path = place 0 path

-- of the target that is the n-th statement
abbrev value_of : ℕ → CallRef
value_of n = place 0 (n ∷ 0 ∷ 1 ∷ [])

-- `add TEXT` for that target changes this value, or the value that it has itself
abbrev Adds : Project Span → ℕ → List ℕ → Option CallRef → Type 0
Adds p n t to = gaining_at [] p (given.Text t ∷ []) (value_of n) ≡ to

-- `remove TEXT` for it changes these; where there are none, the value that it has itself
abbrev Removes : Project Span → ℕ → List ℕ → Result (List CallRef) Refusal → Type 0
Removes p n t from = losing_at [] p (given.Text t ∷ []) (value_of n) ≡ from

-- ---- one after another

abbrev pub InTurn : Type 0
InTurn =
    -- read once
    Adds (alone (set (a ∷ b ∷ []) ∷ user ∷ [])) 1 c (Some (at_ (0 ∷ 0 ∷ [])))
    × Removes (alone (set (a ∷ b ∷ []) ∷ user ∷ [])) 1 a (Ok (at_ (0 ∷ 0 ∷ []) ∷ []))
    -- the later assignment counts
    × Adds (alone (set (one a) ∷ set (one b) ∷ user ∷ [])) 2 c (Some (at_ (1 ∷ 0 ∷ [])))
    × Removes (alone (set (one a) ∷ set (one b) ∷ user ∷ [])) 2 a (Ok [])
    -- it is there already
    × Adds (alone (set (one a) ∷ add (one b) ∷ user ∷ [])) 2 b (Some (at_ (1 ∷ 0 ∷ [])))
    × Adds (alone (set (one a) ∷ add (one b) ∷ user ∷ [])) 2 c (Some (at_ (0 ∷ 0 ∷ [])))
    -- in each of two values
    × Removes (alone (set (one a) ∷ add (one a) ∷ user ∷ [])) 2 a (Ok (at_ (0 ∷ 0 ∷ []) ∷ at_ (1 ∷ 0 ∷ []) ∷ []))
    -- in another folder
    × Removes (beside_s (enters_s ∷ user ∷ []) (set (one a) ∷ [])) 1 a (Ok (place 1 (0 ∷ 0 ∷ []) ∷ []))

-- ---- branches and loops

abbrev pub Branching : Type 0
Branching =
    -- added in a branch
    Adds (alone (set (one a) ∷ where_x (add (one b) ∷ []) ∷ user ∷ [])) 2 c (Some (at_ (0 ∷ 0 ∷ [])))
    × Adds (alone (set (one a) ∷ where_x (add (one b) ∷ []) ∷ user ∷ [])) 2 b (Some (at_ (0 ∷ 0 ∷ [])))
    × Removes (alone (set (one a) ∷ where_x (add (one b) ∷ []) ∷ user ∷ [])) 2 b (Ok (at_ (1 ∷ 1 ∷ 0 ∷ 0 ∷ []) ∷ []))
    -- in both branches
    × Removes (alone (either_way (set (a ∷ b ∷ []) ∷ []) (set (a ∷ c ∷ []) ∷ []) ∷ user ∷ [])) 1 a
    (Ok (at_ (0 ∷ 1 ∷ 0 ∷ 0 ∷ []) ∷ at_ (0 ∷ 2 ∷ 0 ∷ 0 ∷ []) ∷ []))
    × Adds (alone (either_way (set (one a) ∷ []) (set (one b) ∷ []) ∷ user ∷ [])) 1 c None
    -- a loop
    × Adds (alone (set (one a) ∷ each (add (one b) ∷ []) ∷ user ∷ [])) 2 c (Some (at_ (0 ∷ 0 ∷ [])))
    × Removes (alone (set (one a) ∷ each (add (one b) ∷ []) ∷ user ∷ [])) 2 b (Ok (at_ (1 ∷ 1 ∷ 0 ∷ 0 ∷ []) ∷ []))

-- ---- other reads

abbrev pub ReadElsewhere : Type 0
ReadElsewhere =
    -- two targets
    Adds (alone (set (one a) ∷ user ∷ user ∷ [])) 1 c None
    × Removes (alone (set (one a) ∷ user ∷ user ∷ [])) 1 a (Err (Shared deps))
    -- one between the assignments
    × Adds (alone (set (one a) ∷ user ∷ add (one b) ∷ user ∷ [])) 3 c (Some (at_ (2 ∷ 0 ∷ [])))
    × Removes (alone (set (one a) ∷ user ∷ add (one b) ∷ user ∷ [])) 3 a (Err (Shared deps))
    × Removes (alone (set (one a) ∷ user ∷ add (one b) ∷ user ∷ [])) 3 b (Ok (at_ (2 ∷ 0 ∷ []) ∷ []))
    -- one of another value of the variable
    × Adds (alone (set (one a) ∷ user ∷ set (one b) ∷ user ∷ [])) 3 c (Some (at_ (2 ∷ 0 ∷ [])))
    × Removes (alone (set (one a) ∷ user ∷ set (one b) ∷ user ∷ [])) 1 a (Ok (at_ (0 ∷ 0 ∷ []) ∷ []))
    -- a format string, and `get_variable`
    × Removes (alone (set (one a) ∷ does (codes "message") (format_of deps ∷ []) ∷ user ∷ [])) 2 a (Err (Shared deps))
    × Removes (alone (set (one a) ∷ does (codes "message") (calling (codes "get_variable") [] ∷ []) ∷ user ∷ [])) 2 a (Err (Shared deps))
    × Adds (alone (set (one a) ∷ does (codes "message") (format_of deps ∷ []) ∷ user ∷ [])) 2 c None

-- ---- what is not known, and sums

-- `set_variable(k, ['z'])`
abbrev sets_any : S
sets_any = does (codes "set_variable") (variable (codes "k") ∷ texts (one (codes "z")) ∷ [])

abbrev both : E → S
both e = target (sum_of e (variable more))

abbrev pub Sums : Type 0
Sums =
    -- a variable that something may set: the value may have no part
    Adds (alone (set (one a) ∷ sets_any ∷ user ∷ [])) 2 c None
    × Removes (alone (set (one a) ∷ sets_any ∷ user ∷ [])) 2 a (Ok (at_ (0 ∷ 0 ∷ []) ∷ []))
    -- a list and a variable
    × Adds (alone (sets more (texts (one a)) ∷ both (texts (one b)) ∷ [])) 1 c None
    × Removes (alone (sets more (texts (one a)) ∷ both (texts (one b)) ∷ [])) 1 a (Ok (at_ (0 ∷ 0 ∷ []) ∷ []))
    × Removes (alone (sets more (texts (one a)) ∷ both (texts (one a)) ∷ [])) 1 a (Ok [])
    -- two variables
    × Adds (alone (set (one a) ∷ sets more (texts (one b)) ∷ both (variable deps) ∷ [])) 2 c (Some (at_ (1 ∷ 0 ∷ [])))
    × Adds (alone (set (one a) ∷ sets more (texts (one b)) ∷ both (variable deps) ∷ [])) 2 a (Some (at_ (0 ∷ 0 ∷ [])))
    × Removes (alone (set (one a) ∷ sets more (texts (one a)) ∷ both (variable deps) ∷ [])) 2 a (Ok (at_ (0 ∷ 0 ∷ []) ∷ at_ (1 ∷ 0 ∷ []) ∷ []))
    -- one variable twice
    × Removes (alone (sets more (texts (one a)) ∷ both (variable more) ∷ [])) 1 a (Err (Shared more))
    -- a literal: it is said by the value that is assigned
    × Removes (alone (sets deps (text a) ∷ user ∷ [])) 1 a (Ok (at_ (0 ∷ 0 ∷ []) ∷ []))
    × Adds (alone (sets deps (text a) ∷ user ∷ [])) 1 c None
