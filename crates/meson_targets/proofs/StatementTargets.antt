-- The statement of a target's call, by which the target is removed: it is that call, or sets a variable to it.
use Rattle.meson_targets.proofs.Words.{◌≡◌, ℕ, zero, suc, List, [], ◌∷◌, ◌++◌, append_assoc, Some, sym, ap, ◌∙◌, subst, option_and_then, option_map, Span, Any}
use Rattle.meson_targets.proofs.Words.{an_expression, a_statement, a_block, block_of, nth, Name, Expression, Statement, evaluate, assign, Statements}
use Rattle.meson_targets.proofs.Words.{no_statements, statement, statement_list, Block, block, expression_any, node_at, child_nodes, statement_parts}
use Rattle.meson_targets.proofs.Words.{statements_parts, some-injective, and-then-some, map-some, BlockAt, block_at, statement_in, place, CallRef, block_any}
use Rattle.meson_targets.proofs.Words.{block_reached, Held, StatementPlace, held_by, statement_of, statement_path}
use Rattle.meson_syntax.specs.declared.operator.Assignment.TheVariants as assignment
use Rattle.meson_syntax.specs.Paths as paths
use Rattle.meson_syntax.specs.Tree.{File}
use Rattle.meson_syntax.proofs.PathNodes.{expression-reached}
use Rattle.meson_calls.proofs.ListNodes.{node_below}

-- ---- the path of a statement in that of its call

record CallPath (path inner : List ℕ) (number : ℕ) : Type 0 where
  last : ℕ
  joined : path ≡ inner ++ number ∷ last ∷ []

call_path : (path inner : List ℕ) (number : ℕ) → statement_path path ≡ Some (inner, number) → CallPath path inner number
call_path [] inner number is = absurd cc
call_path (n ∷ []) inner number is = absurd cc
call_path (n ∷ m ∷ []) inner number is =
    let pairs : ◌≡◌ {A = List ℕ × ℕ} ([], n) (inner, number) = some-injective _ _ is in
    record { last = m; joined = ap (λ (u : List ℕ × ℕ). u.0 ++ u.1 ∷ m ∷ []) pairs }
call_path (n ∷ m ∷ k ∷ path) inner number is =
    let o = map-some (λ (line : List ℕ × ℕ). (n ∷ line.0, line.1)) (statement_path (m ∷ k ∷ path)) (inner, number) is in
    let c = call_path (m ∷ k ∷ path) o.0.0 o.0.1 o.1 in
    record { last = c.last; joined = ap (λ l. n ∷ l) c.joined ∙ ap (λ (u : List ℕ × ℕ). u.0 ++ u.1 ∷ c.last ∷ []) o.2 }

pub record LineOf (c : CallRef) (line : StatementPlace) : Type 0 where
  pub last : ℕ
  pub file : c.file ≡ line.block.file
  pub path : c.path.steps ≡ line.block.path.steps ++ line.number ∷ last ∷ []

pub line_of : (c : CallRef) (line : StatementPlace) → statement_of c ≡ Some line → LineOf c line
line_of c line is =
    let m = map-some (λ (s : List ℕ × ℕ). record { block = place c.file s.0; number = s.1 }) (statement_path c.path.steps) line is in
    let q = call_path c.path.steps m.0.0 m.0.1 m.1 in
    record {
      last = q.last;
      file = ap (λ (l : StatementPlace). l.block.file) m.2;
      path = q.joined ∙ ap (λ (l : StatementPlace). l.block.path.steps ++ l.number ∷ q.last ∷ []) m.2;
    }

-- ---- the statement

-- all of it, but for a variable, is this expression
pub data IsOf (e : Expression Span) : Statement Span → Type 0 where
  alone : IsOf e (evaluate e)
  set : (s : Span) (x : Name Span) → IsOf e (assign s x assignment.Set e)

is_of : (s : Statement Span) (held : Held) (k : ℕ) (e : Expression Span) → held_by s ≡ Some held → option_and_then expression_any (nth (statement_parts s) k) ≡ Some e → IsOf e s
is_of (evaluate f) held zero e held_is is = subst (λ u. IsOf u (evaluate f)) (some-injective f e is) alone
is_of (evaluate f) held (suc k) e held_is is = absurd cc
is_of (assign s x assignment.Set f) held zero e held_is is = subst (λ u. IsOf u (assign s x assignment.Set f)) (some-injective f e is) (set s x)
is_of (assign s x assignment.Set f) held (suc k) e held_is is = absurd cc
is_of _ held k e held_is is = absurd cc

statement_among : (list : Statements Span) (n : ℕ) (s : Statement Span) → nth (statement_list list) n ≡ Some s → nth (statements_parts list) n ≡ Some (a_statement s)
statement_among no_statements n s is = absurd cc
statement_among (statement t more) zero s is = ap (λ u. Some (a_statement u)) (some-injective t s is)
statement_among (statement t more) (suc n) s is = statement_among more n s is

in_block : (b : Block Span) (n : ℕ) (s : Statement Span) → statement_in b n ≡ Some s → nth (child_nodes (a_block b)) n ≡ Some (a_statement s)
in_block (block t list) n s is = statement_among list n s is

only_block : (x : Any Span) (b : Block Span) → block_any x ≡ Some b → x ≡ a_block b
only_block (an_expression e) b is = absurd cc
only_block (a_statement s) b is = absurd cc
only_block (a_block c) b is = ap a_block (some-injective c b is)

module _ (f : File Span) (path : List ℕ) (n : ℕ) (s : Statement Span) (is : option_and_then (λ (b : BlockAt Span). statement_in b.inside n) (block_at f path) ≡ Some s) where
  abbrev root : Any Span
  root = a_block (block_of f)

  -- it is the node of its path
  pub statement_node : node_at root (path ++ n ∷ []) ≡ Some (a_statement s)
  statement_node =
      let b = and-then-some (λ (c : BlockAt Span). statement_in c.inside n) (block_at f path) s is in
      let x = and-then-some block_any (node_at root path) b.0.inside (sym (block_reached Span f path) ∙ ap (option_map (λ (c : BlockAt Span). c.inside)) b.1) in
      node_below Span root path x.0 n x.1 ∙ ap (λ y. nth (child_nodes y) n) (only_block x.0 b.0.inside x.2) ∙ in_block b.0.inside n s b.2

  pub holds_it : (held : Held) → held_by s ≡ Some held → (k : ℕ) (e : Expression Span) → paths.expression_on_path f (path ++ n ∷ k ∷ []) ≡ Some e → IsOf e s
  holds_it held held_is k e there =
      let at_end : path ++ n ∷ k ∷ [] ≡ (path ++ n ∷ []) ++ k ∷ [] = sym (append_assoc path (n ∷ []) (k ∷ [])) in
      is_of s held k e held_is
      (ap (option_and_then expression_any) (sym (node_below Span root (path ++ n ∷ []) (a_statement s) k statement_node))
      ∙ ap (λ q. option_and_then expression_any (node_at root q)) (sym at_end) ∙ sym (expression-reached Span f (path ++ n ∷ k ∷ [])) ∙ there)
