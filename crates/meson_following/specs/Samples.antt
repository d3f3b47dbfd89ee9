-- Build files of samples, as trees.
use Rattle.std.specs.Prelude.{ℕ, zero, suc, false, List, [], ◌∷◌, ◌++◌, map, codes}
use Rattle.meson_lex.specs.Literals.{literal}
use Rattle.meson_syntax.specs.declared.operator.Assignment.TheVariants as assigns
use Rattle.meson_syntax.specs.declared.operator.Operator.TheVariants as op
use Rattle.meson_syntax.specs.declared.operator.StringKind.TheVariants as quotes
use Rattle.meson_syntax.specs.Tree.{Nowhere, bare_name, Expression, identifier, string, array, call, row, no_operands, operand, Listing, listing, plain, named, arguments_of, Statement, evaluate, assign, selection, iteration, no_branches, branch, nothing_else, otherwise, statements_of, Block, block, file}
use Rattle.meson_calls.specs.Folders.{build_file}
use Rattle.meson_calls.specs.Project.{BuildFile, Project}

abbrev pub E : Type 0
E = Expression Nowhere

abbrev pub S : Type 0
S = Statement Nowhere

abbrev pub text : List ℕ → E
text t = string tt quotes.Plain (literal t)

abbrev pub variable : List ℕ → E
variable x = identifier tt x

abbrev pub elements : List E → Listing Nowhere
elements es = listing tt false (arguments_of (map plain es))

abbrev pub calling : List ℕ → List E → E
calling f es = call tt (bare_name f) (elements es)

abbrev pub does : List ℕ → List E → S
does f es = evaluate (calling f es)

-- a list of the file of a name
abbrev pub holding : List ℕ → E
holding name = array (elements (text name ∷ []))

abbrev pub src : List ℕ
src = codes "src"

abbrev pub sets : List ℕ → S
sets name = assign tt (bare_name src) assigns.Set (holding name)

abbrev pub adds : List ℕ → S
adds name = assign tt (bare_name src) assigns.Add (holding name)

abbrev pub sets_to : E → S
sets_to e = assign tt (bare_name src) assigns.Set e

-- `executable('e', src)`
abbrev pub target : S
target = does (codes "executable") (text (codes "e") ∷ variable src ∷ [])

-- `executable('e', 'm.c', KEY: VALUE)`
abbrev pub target_with : (key : List ℕ) → E → S
target_with key e =
    evaluate (call tt (bare_name (codes "executable"))
    (listing tt false (arguments_of (plain (text (codes "e")) ∷ plain (text (codes "m.c")) ∷ named tt (bare_name key) e ∷ []))))

-- `x`, `xx`, and so on
abbrev pub long_name : ℕ → List ℕ
long_name zero = codes "x"
long_name (suc n) = 120 ∷ long_name n

-- the first of these is set to the list of `a.c`, this many others each to the one before it
abbrev pub chain : ℕ → List S
chain zero = assign tt (bare_name (long_name zero)) assigns.Set (holding (codes "a.c")) ∷ []
chain (suc n) = chain n ++ assign tt (bare_name (long_name (suc n))) assigns.Set (variable (long_name n)) ∷ []

abbrev pub body : List S → Block Nowhere
body ss = block tt (statements_of ss)

-- `if x`, the statements and `endif`
abbrev pub where_x : List S → S
where_x ss = selection tt (branch (variable (codes "x")) (body ss) no_branches) nothing_else

-- with `else`
abbrev pub either_way : List S → List S → S
either_way ss ts = selection tt (branch (variable (codes "x")) (body ss) no_branches) (otherwise (body ts))

-- `foreach`, the name, `: xs`, the statements and `endforeach`
abbrev pub each : List ℕ → List S → S
each x ss = iteration tt (bare_name x ∷ []) (variable (codes "xs")) (body ss)

-- over these texts
abbrev pub each_of : List ℕ → List (List ℕ) → List S → S
each_of x texts ss = iteration tt (bare_name x ∷ []) (array (elements (map text texts))) (body ss)

abbrev pub file_of : List ℕ → List S → BuildFile Nowhere
file_of name ss = record { name = name; tree = file tt (body ss) }

abbrev pub alone : List S → Project Nowhere
alone ss = file_of build_file ss ∷ []

-- with the file of the folder `s`
abbrev pub beside_s : List S → List S → Project Nowhere
beside_s ss ts = file_of build_file ss ∷ file_of (codes "s/meson.build") ts ∷ []

-- a sum of two
abbrev pub sum_of : E → E → E
sum_of e f = row tt e (operand op.Plus f no_operands)

abbrev pub set_variable : E → S
set_variable name = does (codes "set_variable") (name ∷ holding (codes "z.c") ∷ [])

abbrev pub enters : List ℕ → S
enters folder = does (codes "subdir") (text folder ∷ [])

-- `subdir(d)`
abbrev pub enters_d : S
enters_d = does (codes "subdir") (variable (codes "d") ∷ [])

-- `xs = ['s']`
abbrev pub holds_s : S
holds_s = assign tt (bare_name (codes "xs")) assigns.Set (holding (codes "s"))

-- for the folders `s` and `t`, in a loop
abbrev pub enters_each : S
enters_each = each_of (codes "d") (codes "s" ∷ codes "t" ∷ []) (enters_d ∷ [])

-- with a condition
abbrev pub enters_if_found : S
enters_if_found =
    evaluate (call tt (bare_name (codes "subdir"))
    (listing tt false (arguments_of (plain (text (codes "s")) ∷ named tt (bare_name (codes "if_found")) (variable (codes "d")) ∷ []))))
