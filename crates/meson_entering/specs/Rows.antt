-- Files that small build files enter, where they are followed.
use Rattle.std.specs.Prelude.{◌≡◌, ℕ, false, List, [], ◌∷◌, map, codes}
use Rattle.meson_lex.specs.Literals.{literal}
use Rattle.meson_syntax.specs.declared.operator.Assignment.{Assignment}
use Rattle.meson_syntax.specs.declared.operator.Assignment.TheVariants as assigns
use Rattle.meson_syntax.specs.declared.operator.Operator.TheVariants as op
use Rattle.meson_syntax.specs.declared.operator.StringKind.TheVariants as quotes
use Rattle.meson_syntax.specs.Tree.{Nowhere, bare_name, Expression, identifier, string, array, dictionary, call, paren, row, no_operands, operand, Listing, listing, Argument, plain, pair, arguments_of, Statement, evaluate, assign, iteration, statements_of, Block, block, file}
use Rattle.meson_calls.specs.declared.call.Reading.{Reading}
use Rattle.meson_calls.specs.declared.call.Reading.TheVariants.{Written, Followed}
use Rattle.meson_entering.specs.Entering.{files_entered}

-- ---- build files

abbrev pub E : Type 0
E = Expression Nowhere

abbrev pub S : Type 0
S = Statement Nowhere

abbrev pub text : List ℕ → E
text t = string tt quotes.Plain (literal t)

abbrev pub variable : List ℕ → E
variable x = identifier tt x

abbrev pub elements : List (Argument Nowhere) → Listing Nowhere
elements arguments = listing tt false (arguments_of arguments)

abbrev pub array_of : List E → E
array_of es = array (elements (map plain es))

abbrev pub texts : List (List ℕ) → E
texts ts = array_of (map text ts)

-- with these keys
abbrev pub keyed : List (List ℕ) → E
keyed ts = dictionary (elements (map (λ t. pair tt (text t) (text (codes "u"))) ts))

abbrev pub sum_of : E → E → E
sum_of e f = row tt e (operand op.Plus f no_operands)

abbrev pub body : List S → Block Nowhere
body ss = block tt (statements_of ss)

abbrev pub assigns_to : Assignment → List ℕ → E → S
assigns_to a x e = assign tt (bare_name x) a e

-- `foreach`, the names, the list, the statements and `endforeach`
abbrev pub each_of : List (List ℕ) → E → List S → S
each_of xs e ss = iteration tt (map bare_name xs) e (body ss)

-- `subdir(d)`
abbrev pub enters_d : S
enters_d = evaluate (call tt (bare_name (codes "subdir")) (elements (plain (variable (codes "d")) ∷ [])))

abbrev pub each : E → S
each e = each_of (codes "d" ∷ []) e (enters_d ∷ [])

abbrev pub Entered : Reading → List S → List (List ℕ) → Type 0
Entered reading ss names = files_entered reading (record { name = codes "meson.build"; tree = file tt (body ss) }) ≡ names

abbrev pub s : List ℕ
s = codes "s"

abbrev pub t : List ℕ
t = codes "t"

abbrev pub ds : List ℕ
ds = codes "ds"

abbrev pub s_file : List ℕ
s_file = codes "s/meson.build"

abbrev pub t_file : List ℕ
t_file = codes "t/meson.build"

-- ---- what they enter

abbrev pub Lists : Type 0
Lists =
    -- an array, in order; a dictionary's keys
    Entered Followed (each (texts (t ∷ s ∷ [])) ∷ []) (t_file ∷ s_file ∷ [])
    × Entered Followed (each_of (codes "d" ∷ codes "on" ∷ []) (keyed (s ∷ t ∷ [])) (enters_d ∷ []) ∷ []) (s_file ∷ t_file ∷ [])
    -- what is known of an array
    × Entered Followed (each (array_of (variable (codes "x") ∷ text s ∷ [])) ∷ []) (s_file ∷ [])
    -- folders written otherwise, and one above
    × Entered Followed (each (texts (codes "./s/" ∷ codes ".." ∷ [])) ∷ []) (s_file ∷ [])
    -- sums, in parentheses or not
    × Entered Followed (each (paren tt (sum_of (texts (s ∷ [])) (sum_of (texts (t ∷ [])) (text (codes "u"))))) ∷ []) (s_file ∷ t_file ∷ codes "u/meson.build" ∷ [])

abbrev pub Variables : Type 0
Variables =
    -- each value that the file gives it, wherever
    Entered Followed (assigns_to assigns.Set ds (texts (s ∷ [])) ∷ each (variable ds) ∷ assigns_to assigns.Add ds (texts (t ∷ [])) ∷ []) (s_file ∷ t_file ∷ [])
    × Entered Followed (assigns_to assigns.Set ds (texts (s ∷ [])) ∷ each (sum_of (variable ds) (texts (t ∷ []))) ∷ []) (s_file ∷ t_file ∷ [])
    -- but no variable that another one is set to
    × Entered Followed (assigns_to assigns.Set (codes "es") (texts (s ∷ [])) ∷ assigns_to assigns.Set ds (variable (codes "es")) ∷ each (variable ds) ∷ []) []
    -- none that the file does not set
    × Entered Followed (each (variable ds) ∷ []) []

abbrev pub Around : Type 0
Around =
    -- the innermost loop of that name
    Entered Followed (each_of (codes "d" ∷ []) (texts (s ∷ [])) (each (texts (t ∷ [])) ∷ []) ∷ []) (t_file ∷ [])
    × Entered Followed (each_of (codes "d" ∷ []) (texts (s ∷ [])) (each_of (codes "e" ∷ []) (texts (t ∷ [])) (enters_d ∷ []) ∷ []) ∷ []) (s_file ∷ [])
    -- not a second name, and not after the loop
    × Entered Followed (each_of (codes "k" ∷ codes "d" ∷ []) (keyed (s ∷ [])) (enters_d ∷ []) ∷ []) []
    × Entered Followed (each_of (codes "d" ∷ []) (texts (s ∷ [])) [] ∷ enters_d ∷ []) []
    -- as files are written, none
    × Entered Written (each (texts (s ∷ [])) ∷ []) []
