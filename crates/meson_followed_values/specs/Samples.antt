-- Build files of samples, as trees whose spans do not matter.
use Rattle.std.specs.Prelude.{ℕ, false, List, [], ◌∷◌, ◌++◌, map, codes}
use Rattle.meson_lex.specs.declared.kinds.Span.{Span}
use Rattle.meson_lex.specs.Literals.{literal}
use Rattle.meson_syntax.specs.declared.operator.Assignment.TheVariants as assigns
use Rattle.meson_syntax.specs.declared.operator.Operator.TheVariants as op
use Rattle.meson_syntax.specs.declared.operator.StringKind.TheVariants as quotes
use Rattle.meson_syntax.specs.Tree.{Name, Expression, identifier, string, array, call, row, no_operands, operand, Listing, listing, Argument, plain, named, arguments_of, Statement, evaluate, assign, selection, iteration, no_branches, branch, nothing_else, otherwise, statements_of, Block, block, file}
use Rattle.meson_calls.specs.Folders.{build_file}
use Rattle.meson_calls.specs.Project.{BuildFile, Project}

abbrev pub E : Type 0
E = Expression Span

abbrev pub S : Type 0
S = Statement Span

abbrev pub here : Span
here = record { from = 0; to = 0 }

abbrev pub a_name : List ℕ → Name Span
a_name text = record { place = here; text = text }

abbrev pub text : List ℕ → E
text t = string here quotes.Plain (literal t)

-- `f'@NAME@'`
abbrev pub format_of : List ℕ → E
format_of x = string here quotes.Format (102 ∷ literal (64 ∷ (x ++ 64 ∷ [])))

abbrev pub variable : List ℕ → E
variable x = identifier here x

abbrev pub elements : List (Argument Span) → Listing Span
elements xs = listing here false (arguments_of xs)

abbrev pub texts : List (List ℕ) → E
texts ts = array (elements (map (λ t. plain (text t)) ts))

abbrev pub calling : List ℕ → List (Argument Span) → E
calling f xs = call here (a_name f) (elements xs)

abbrev pub does : List ℕ → List E → S
does f es = evaluate (calling f (map plain es))

abbrev pub sum_of : E → E → E
sum_of e f = row here e (operand op.Plus f no_operands)

-- `x = e`, and `x += e`
abbrev pub sets : List ℕ → E → S
sets x e = assign here (a_name x) assigns.Set e

abbrev pub adds : List ℕ → E → S
adds x e = assign here (a_name x) assigns.Add e

-- `executable('e', dependencies: e)`
abbrev pub target : E → S
target e = evaluate (calling (codes "executable") (plain (text (codes "e")) ∷ named here (a_name (codes "dependencies")) e ∷ []))

abbrev pub body : List S → Block Span
body ss = block here (statements_of ss)

-- `if x`, the statements and `endif`
abbrev pub where_x : List S → S
where_x ss = selection here (branch (variable (codes "x")) (body ss) no_branches) nothing_else

-- with `else`
abbrev pub either_way : List S → List S → S
either_way ss ts = selection here (branch (variable (codes "x")) (body ss) no_branches) (otherwise (body ts))

-- `foreach x : xs`, the statements and `endforeach`
abbrev pub each : List S → S
each ss = iteration here (a_name (codes "x") ∷ []) (variable (codes "xs")) (body ss)

abbrev pub file_of : List ℕ → List S → BuildFile Span
file_of name ss = record { name = name; tree = file here (body ss) }

abbrev pub alone : List S → Project Span
alone ss = file_of build_file ss ∷ []

-- with the file of the folder `s`
abbrev pub beside_s : List S → List S → Project Span
beside_s ss ts = file_of build_file ss ∷ file_of (codes "s/meson.build") ts ∷ []

abbrev pub enters_s : S
enters_s = does (codes "subdir") (text (codes "s") ∷ [])
