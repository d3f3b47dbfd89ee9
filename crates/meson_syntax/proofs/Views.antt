-- Lists of parts, seen as the definitions have them.
use Rattle.std.proofs.Common.{◌≡◌, ℕ, List, [], ◌∷◌, ◌++◌, map, refl, ap}
use Rattle.meson_lex.specs.declared.kinds.Span.{Span}
use Rattle.meson_syntax.specs.declared.tree.Arg.{Arg}
use Rattle.meson_syntax.specs.declared.tree.Branch.{Branch}
use Rattle.meson_syntax.specs.declared.tree.Operand.{Operand}
use Rattle.meson_syntax.specs.declared.tree.Stmt.{Stmt}
use Rattle.meson_syntax.specs.declared.tree.Tail as rust
use Rattle.meson_syntax.specs.View.{arg_view, args_view, branch_view, branches_view, operand_view, operands_view, stmt_view, stmts_view, tail_view, tails_view, name_at, names_at}

map-push : {A B : Type 0} (f : A → B) (xs : List A) (x : A) → map f (xs ++ x ∷ []) ≡ map f xs ++ f x ∷ []
map-push f [] x = refl
map-push f (y ∷ ys) x = ap (λ l. f y ∷ l) (map-push f ys x)

pub args_view-push : (source : List ℕ) (xs : List Arg) (x : Arg) → args_view source (xs ++ x ∷ []) ≡ args_view source xs ++ arg_view source x ∷ []
args_view-push source xs x = map-push (arg_view source) xs x

pub tails_view-push : (source : List ℕ) (xs : List rust.Tail) (x : rust.Tail) → tails_view source (xs ++ x ∷ []) ≡ tails_view source xs ++ tail_view source x ∷ []
tails_view-push source xs x = map-push (tail_view source) xs x

pub operands_view-push : (source : List ℕ) (xs : List Operand) (x : Operand) → operands_view source (xs ++ x ∷ []) ≡ operands_view source xs ++ operand_view source x ∷ []
operands_view-push source xs x = map-push (operand_view source) xs x

pub stmts_view-push : (source : List ℕ) (xs : List Stmt) (x : Stmt) → stmts_view source (xs ++ x ∷ []) ≡ stmts_view source xs ++ stmt_view source x ∷ []
stmts_view-push source xs x = map-push (stmt_view source) xs x

pub branches_view-push : (source : List ℕ) (xs : List Branch) (x : Branch) → branches_view source (xs ++ x ∷ []) ≡ branches_view source xs ++ branch_view source x ∷ []
branches_view-push source xs x = map-push (branch_view source) xs x

pub names_at-push : (source : List ℕ) (xs : List Span) (x : Span) → names_at source (xs ++ x ∷ []) ≡ names_at source xs ++ name_at source x ∷ []
names_at-push source xs x = map-push (name_at source) xs x
