-- What a list holds by its bracket; the array, dictionary or call whose list a path names, and the nodes below it.
use Rattle.meson_calls.proofs.Words.{false, option_map, option_and_then, ◌≡◌, ℕ, zero, suc, Bool, true, List, [], ◌∷◌, ◌++◌, Option, Some, None, refl, sym, ap}
use Rattle.meson_calls.proofs.Words.{◌∙◌, Word, Any, an_expression, a_statement, a_block, LevelArguments, holds_values, holds_pairs, Sort, of_expression}
use Rattle.meson_calls.proofs.Words.{of_statement, of_block, Node, Hole, nth, reach, block_of, expression_of, expression_on_path, ListIn, list_in, ListAt}
use Rattle.meson_calls.proofs.Words.{list_within, list_of_node, list_at, Expression, plain, named, pair, is_named, Arguments, no_arguments, argument}
use Rattle.meson_calls.proofs.Words.{argument_list, Block, Bracket, expression_parts, expression_any, child_nodes, node_at, expression-reached, some-injective}
use Rattle.meson_calls.proofs.Words.{map-some, and-then-some}
use Rattle.meson_syntax.specs.declared.operator.Bracket.TheVariants as bracket
use Rattle.meson_syntax.specs.Tree.{File}

-- ---- what a list holds

pub values_no_pairs : (b : Bracket) → holds_values b ≡ true → holds_pairs b ≡ false
values_no_pairs bracket.Square holds = refl
values_no_pairs bracket.Round holds = refl
values_no_pairs bracket.Curly holds = absurd cc

-- where an element without a name stands, values may
pub plain_holds : {S : Type 0} (list : Arguments S) (b : Bracket) (seen : Bool) (n : ℕ) (e : Expression S) → LevelArguments list b seen → nth (argument_list list) n ≡ Some (plain e) → holds_values b ≡ true
plain_holds no_arguments b seen n e level is = absurd cc
plain_holds (argument (plain x) more) b seen zero e level is = level.0.0
plain_holds (argument (named s x f) more) b seen zero e level is = absurd cc
plain_holds (argument (pair s x f) more) b seen zero e level is = absurd cc
plain_holds (argument a more) b seen (suc n) e level is = plain_holds more b (is_named a) n e level.1 is

-- ---- the array, dictionary or call

pub record ListNode (S : Type 0) (f : File S) (path : List ℕ) (q : ListAt S) : Type 0 where
  pub node : Expression S
  pub is_node : expression_on_path f path ≡ Some node
  pub inner : ListIn S
  pub is_inner : list_in node ≡ Some inner
  pub list : inner.list ≡ q.list
  pub bracket : inner.bracket ≡ q.bracket

module _ (S : Type 0) (f : File S) where
  record Inner (sort : Sort) (x : Node sort S) (q : ListAt S) : Type 0 where
    node : Expression S
    is_node : expression_of S sort x ≡ Some node
    inner : ListIn S
    is_inner : list_in node ≡ Some inner
    list : inner.list ≡ q.list
    bracket : inner.bracket ≡ q.bracket

  inner_of : (sort : Sort) (x : Node sort S) (before behind : List Word) (back : Node sort S → Block S) (q : ListAt S) → list_of_node S sort x f before behind back ≡ Some q → Inner sort x q
  inner_of of_expression x before behind back q is =
      let o = map-some (list_within f before behind back) (list_in x) q is in
      record { node = x; is_node = refl; inner = o.0; is_inner = o.1; list = ap (λ (p : ListAt S). p.list) o.2; bracket = ap (λ (p : ListAt S). p.bracket) o.2 }
  inner_of of_statement x before behind back q is = absurd cc
  inner_of of_block x before behind back q is = absurd cc

  pub list_node : (path : List ℕ) (q : ListAt S) → list_at f path ≡ Some q → ListNode S f path q
  list_node path q is =
      let o = and-then-some (λ h. list_of_node S h.sort h.inside f h.before h.behind h.back) (reach S of_block (block_of f) path) q is in
      let h = o.0 in
      let i = inner_of h.sort h.inside h.before h.behind h.back q o.2 in
      record { node = i.node; is_node = ap (option_and_then (λ (g : Hole S (Block S)). expression_of S g.sort g.inside)) o.1 ∙ i.is_node; inner = i.inner; is_inner = i.is_inner; list = i.list; bracket = i.bracket }

  pub record ListOf (path : List ℕ) (l : ListIn S) : Type 0 where
    pub place : ListAt S
    pub is_place : list_at f path ≡ Some place
    pub list : place.list ≡ l.list
    pub bracket : place.bracket ≡ l.bracket

  record Within (sort : Sort) (x : Node sort S) (before behind : List Word) (back : Node sort S → Block S) (l : ListIn S) : Type 0 where
    place : ListAt S
    is_place : list_of_node S sort x f before behind back ≡ Some place
    list : place.list ≡ l.list
    bracket : place.bracket ≡ l.bracket

  within_of : (sort : Sort) (x : Node sort S) (before behind : List Word) (back : Node sort S → Block S) (e : Expression S) (l : ListIn S) → expression_of S sort x ≡ Some e → list_in e ≡ Some l
      → Within sort x before behind back l
  within_of of_expression x before behind back e l is in_it =
      let same : x ≡ e = some-injective _ _ is in
      record { place = list_within f before behind back l; is_place = ap (option_map (list_within f before behind back)) (ap list_in same ∙ in_it); list = refl; bracket = refl }
  within_of of_statement x before behind back e l is in_it = absurd cc
  within_of of_block x before behind back e l is in_it = absurd cc

  pub list_of : (path : List ℕ) (e : Expression S) (l : ListIn S) → expression_on_path f path ≡ Some e → list_in e ≡ Some l → ListOf path l
  list_of path e l is in_it =
      let o = and-then-some (λ h. expression_of S h.sort h.inside) (reach S of_block (block_of f) path) e is in
      let h = o.0 in
      let w = within_of h.sort h.inside h.before h.behind h.back e l o.2 in_it in
      record { place = w.place; is_place = ap (option_and_then (λ (g : Hole S (Block S)). list_of_node S g.sort g.inside f g.before g.behind g.back)) o.1 ∙ w.is_place; list = w.list; bracket = w.bracket }

-- ---- an element of it

module _ (S : Type 0) where
  pub node_below : (r : Any S) (path : List ℕ) (x : Any S) (n : ℕ) → node_at r path ≡ Some x → node_at r (path ++ n ∷ []) ≡ nth (child_nodes x) n
  node_below r [] x n is = whole (nth (child_nodes r) n) ∙ ap (λ o. option_and_then (λ y. nth (child_nodes y) n) o) is
    where
      whole : (o : Option (Any S)) → option_and_then (λ y. Some y) o ≡ o
      whole None = refl
      whole (Some y) = refl
  node_below r (m ∷ path) x n is = go (nth (child_nodes r) m) is (λ y h. node_below y path x n h)
    where
      go : (o : Option (Any S)) → option_and_then (λ y. node_at y path) o ≡ Some x → ((y : Any S) → node_at y path ≡ Some x → node_at y (path ++ n ∷ []) ≡ nth (child_nodes x) n)
          → option_and_then (λ y. node_at y (path ++ n ∷ [])) o ≡ nth (child_nodes x) n
      go None h below = absurd cc
      go (Some y) h below = below y h

  only_expression : (x : Any S) (e : Expression S) → expression_any x ≡ Some e → x ≡ an_expression e
  only_expression (an_expression y) e is = ap an_expression (some-injective _ _ is)
  only_expression (a_statement s) e is = absurd cc
  only_expression (a_block b) e is = absurd cc

  pub value_below : (f : File S) (path : List ℕ) (e : Expression S) (n : ℕ) (v : Expression S) → expression_on_path f path ≡ Some e → nth (expression_parts e) n ≡ Some (an_expression v)
      → expression_on_path f (path ++ n ∷ []) ≡ Some v
  value_below f path e n v is part =
      let root = a_block (block_of f) in
      let o = and-then-some expression_any (node_at root path) e (sym (expression-reached S f path) ∙ is) in
      let there = o.1 ∙ ap Some (only_expression o.0 e o.2) in
      expression-reached S f (path ++ n ∷ []) ∙ ap (option_and_then expression_any) (node_below root path (an_expression e) n there ∙ part)
