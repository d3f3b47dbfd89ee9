-- The value of a statement that sets a variable has that variable.
use Rattle.meson_targets.proofs.Words.{◌≡◌, ℕ, zero, suc, ◌+◌, List, [], ◌∷◌, ◌++◌, Option, Some, None, refl, sym, ap, ◌∙◌, arith, option_map, option_and_then}
use Rattle.meson_targets.proofs.Words.{Span, Any, an_expression, a_statement, a_block, block_of, nth, Name, Expression, Statement, assign, Statements}
use Rattle.meson_targets.proofs.Words.{no_statements, statement, statement_list, Block, block, child_nodes, node_at, statements_parts, every-nth, and-then-some}
use Rattle.meson_targets.proofs.Words.{BlockAt, block_at, statement_in, Part, Project, BuildFile, Placed, child, nth_file, place, InProject, any, IsExpression}
use Rattle.meson_targets.proofs.Words.{IsOther, may_stand, block_any, block_reached, Holder, StatementPlace, held_by, name_set, set_to, statement_of}
use Rattle.meson_targets.proofs.Words.{statement_path, statement_there, variable_of}
use Rattle.meson_syntax.specs.declared.operator.Assignment.TheVariants as assignment
use Rattle.meson_calls.specs.Parts as part
use Rattle.meson_targets.proofs.Holders.{on_line}

-- ---- a statement stands in a block, and in nothing else

among : (list : Statements Span) (n : ℕ) (s : Statement Span) → nth (statements_parts list) n ≡ Some (a_statement s) → nth (statement_list list) n ≡ Some s
among no_statements n s is = absurd (let no : ⊥ = cc in no)
among (statement t more) zero s is = let same : t ≡ s = cc in ap Some same
among (statement t more) (suc n) s is = among more n s is

record InBlock (x : Any Span) (n : ℕ) (s : Statement Span) : Type 0 where
  inside : Block Span
  is_block : x ≡ a_block inside
  is_there : statement_in inside n ≡ Some s

in_block : (x : Any Span) (n : ℕ) (s : Statement Span) → nth (child_nodes x) n ≡ Some (a_statement s) → InBlock x n s
in_block (an_expression e) n s is = absurd (every-nth IsExpression (child_nodes (an_expression e)) n (a_statement s) (may_stand (an_expression e)) is)
in_block (a_statement t) n s is = absurd (every-nth IsOther (child_nodes (a_statement t)) n (a_statement s) (may_stand (a_statement t)) is)
in_block (a_block (block t list)) n s is = record { inside = block t list; is_block = refl; is_there = among list n s is }

-- ---- the node above

record Above (r : Any Span) (path : List ℕ) (n : ℕ) (z : Any Span) : Type 0 where
  node : Any Span
  is_node : node_at r path ≡ Some node
  is_child : nth (child_nodes node) n ≡ Some z

above : (r : Any Span) (path : List ℕ) (n : ℕ) (z : Any Span) → node_at r (path ++ n ∷ []) ≡ Some z → Above r path n z
above r [] n z is =
    let o = and-then-some (λ (y : Any Span). Some y) (nth (child_nodes r) n) z is in
    record { node = r; is_node = refl; is_child = o.1 ∙ o.2 }
above r (m ∷ path) n z is =
    let o = and-then-some (λ (y : Any Span). node_at y (path ++ n ∷ [])) (nth (child_nodes r) m) z is in
    let a = above o.0 path n z o.2 in
    record { node = a.node; is_node = ap (option_and_then (λ (y : Any Span). node_at y path)) o.1 ∙ a.is_node; is_child = a.is_child }

-- ---- paths

record Ended (path : List ℕ) : Type 0 where
  front : List ℕ
  last : ℕ
  is : path ≡ front ++ last ∷ []

ended : (n : ℕ) (path : List ℕ) → Ended (n ∷ path)
ended n [] = record { front = []; last = n; is = refl }
ended n (m ∷ path) = let e = ended m path in record { front = n ∷ e.front; last = e.last; is = ap (λ p. n ∷ p) e.is }

first_child : (front : List ℕ) (n : ℕ) → statement_path ((front ++ n ∷ []) ++ 0 ∷ []) ≡ Some (front, n)
first_child [] n = refl
first_child (m ∷ []) n = refl
first_child (m ∷ k ∷ []) n = refl
first_child (m ∷ k ∷ l ∷ front) n = ap (option_map (λ (line : List ℕ × ℕ). (m ∷ line.0, line.1))) (first_child (k ∷ l ∷ front) n)

-- ---- the statement

inside_at : (o : Option (BlockAt Span)) (b : Block Span) (n : ℕ) (s : Statement Span) → option_map (λ (c : BlockAt Span). c.inside) o ≡ Some b → statement_in b n ≡ Some s
    → option_and_then (λ (c : BlockAt Span). statement_in c.inside n) o ≡ Some s
inside_at None b n s is there = absurd (let no : ⊥ = cc in no)
inside_at (Some c) b n s is there = let same : c.inside ≡ b = cc in ap (λ d. statement_in d n) same ∙ there

module _ (p : Project Span) (q : Placed (Part Span)) (i : InProject 0 p q) (s : Span) (x : Name Span) (e : Expression Span) (is : q.it ≡ part.a_statement (assign s x assignment.Set e)) where
  abbrev it : Statement Span
  it = assign s x assignment.Set e

  abbrev root : Any Span
  root = a_block (block_of i.file.tree)

  file_there : nth_file p q.place.file ≡ Some i.file
  file_there = let z : 0 + i.number ≡ i.number = omega arith in ap (nth_file p) (i.is_number ∙ z) ∙ i.is_file

  node_there : node_at root q.place.path.steps ≡ Some (a_statement it)
  node_there = i.is_node ∙ ap (λ y. Some (any y)) is

  -- the path of a statement is not empty
  path_ended : (path : List ℕ) → node_at root path ≡ Some (a_statement it) → Ended path
  path_ended [] none = absurd (let no : ⊥ = cc in no)
  path_ended (n ∷ path) there = ended n path

  place_ended : Ended q.place.path.steps
  place_ended = path_ended q.place.path.steps node_there

  abbrev line : StatementPlace
  line = record { block = place q.place.file place_ended.front; number = place_ended.last }

  is_line : Some line ≡ statement_of (child q.place 0)
  is_line =
      sym (ap (λ path. option_map (λ (l : List ℕ × ℕ). record { block = place q.place.file l.0; number = l.1 }) (statement_path (path ++ 0 ∷ []))) place_ended.is
      ∙ ap (option_map (λ (l : List ℕ × ℕ). record { block = place q.place.file l.0; number = l.1 })) (first_child place_ended.front place_ended.last))

  statement_is : statement_there p line ≡ Some it
  statement_is =
      let a = above root place_ended.front place_ended.last (a_statement it) (ap (node_at root) (sym place_ended.is) ∙ node_there) in
      let b = in_block a.node place_ended.last it a.is_child in
      let reached = block_reached Span i.file.tree place_ended.front ∙ ap (option_and_then block_any) (a.is_node ∙ ap Some b.is_block) in
      ap (option_and_then (λ (f : BuildFile Span). option_and_then (λ (c : BlockAt Span). statement_in c.inside place_ended.last) (block_at f.tree place_ended.front))) file_there
      ∙ inside_at (block_at i.file.tree place_ended.front) b.inside place_ended.last it reached b.is_there

  pub value_has_variable : variable_of p (child q.place 0) ≡ Some x.text
  value_has_variable =
      sym (ap (option_and_then (λ (h : Holder). name_set h.held)) (on_line p (child q.place 0) line (Some (set_to x.text)) is_line (sym (ap (option_and_then held_by) statement_is))))
