-- A call by its parts: where it stands, and with spans again where it stands without them.
use Rattle.meson_calls.specs.declared.call.Role.TheVariants as role
use Rattle.meson_sources.proofs.Words.{is_some, Ok, option_and_then, [], ap, Bool, List, map, refl, Some, subst, suc, sym, true, zero, ℕ, ◌∙◌, ◌∷◌, ◌≡◌, File}
use Rattle.meson_sources.proofs.Words.{Span, a_block, an_expression, block_of, expression_on_path, nth, Arguments, call, erase, erase_arguments}
use Rattle.meson_sources.proofs.Words.{erase_expression, erase_name, Expression, listing, Name, Nowhere, Plain, view, Parsed, node_at, some-injective, Call}
use Rattle.meson_sources.proofs.Words.{call_of, first_argument, the_call, Loaded, named_trees, project, views, BuildFile, expression_at, nth_file, Placed}
use Rattle.meson_sources.proofs.Words.{placed, Project, has_role, one_of, target_functions, CallRef, role_found, plain_trees}
use Rattle.meson_sources.proofs.gone.Spots.{both_true}
use Rattle.meson_sources.proofs.trees.Places.{node_with_spans}
use Rattle.meson_sources.proofs.trees.Scenes.{NodeIn, bare_in}
use Rattle.meson_calls.specs.declared.call.CallName.{CallName}

pub record CallIn (p : Project Span) (c : CallRef) : Type 0 where
  pub span : Span
  pub name : Name Span
  pub brackets : Span
  pub trailing : Bool
  pub arguments : Arguments Span
  pub at : expression_at p c ≡ Some (call span name (listing brackets trailing arguments))

module _ {p : Project Span} {c : CallRef} where
  abbrev pub called : CallIn p c → Placed (Call Span)
  called t = placed c (record { function = t.name.text; arguments = listing t.brackets t.trailing t.arguments })

  abbrev pub bare_arguments : CallIn p c → Arguments Nowhere
  bare_arguments t = erase_arguments t.arguments

  abbrev pub bare_form : CallIn p c → Expression Nowhere
  bare_form t = call tt (erase_name t.name) (listing tt t.trailing (bare_arguments t))

pub stands_bare : (old : Loaded) (c : CallRef) (t : CallIn (project old) c) → NodeIn (plain_trees old) c (an_expression (bare_form t))
stands_bare old c t = bare_in old c _ t.at

-- ---- a call with spans again

-- a call with these arguments stands at the place
pub record CallNode (ts : List Plain) (c : CallRef) (list : Arguments Nowhere) : Type 0 where
  pub name : Name Nowhere
  pub trailing : Bool
  pub node : NodeIn ts c (an_expression (call tt name (listing tt trailing list)))

pub record CallAgain (p : Project Span) (c : CallRef) (name : List ℕ) (list : Arguments Nowhere) : Type 0 where
  pub it : CallIn p c
  pub same : bare_arguments it ≡ list
  pub same_name : it.name.text ≡ name

pub span_tree : (files : List File) (parsed : List Parsed) (i : ℕ) (u : Plain) → nth (map erase (views files parsed)) i ≡ Some u → (f : BuildFile Span) × (nth_file (named_trees files (views files parsed)) i ≡ Some f) × (erase f.tree ≡ u)
span_tree [] parsed i u is = absurd cc
span_tree (f ∷ files) [] i u is = absurd cc
span_tree (f ∷ files) (t ∷ parsed) zero u is = (record { name = f.name; tree = view f.bytes t }, refl, some-injective _ _ is)
span_tree (f ∷ files) (t ∷ parsed) (suc i) u is = span_tree files parsed i u is

pub call_again : (new : Loaded) (c : CallRef) (list : Arguments Nowhere) (n : CallNode (plain_trees new) c list) → CallAgain (project new) c n.name.text list
call_again new c list n =
    let tree_at = span_tree new.files new.parsed c.file n.node.tree n.node.is_tree in
    let spanned = node_with_spans tree_at.0.tree c.path.steps (call tt n.name (listing tt n.trailing list)) (ap (λ u. node_at (a_block (block_of u)) c.path.steps) tree_at.2 ∙ n.node.is_node) in
    go spanned.0 spanned.2 (ap (option_and_then (λ (g : BuildFile Span). expression_on_path g.tree c.path.steps)) tree_at.1 ∙ spanned.1)
  where
    go : (e : Expression Span) → erase_expression e ≡ call tt n.name (listing tt n.trailing list) → expression_at (project new) c ≡ Some e → CallAgain (project new) c n.name.text list
    go (call s g (listing w t xs)) is at = record {
      it = record { span = s; name = g; brackets = w; trailing = t; arguments = xs; at = at };
      same = let e : erase_arguments xs ≡ list = cc in e;
      same_name = let f : g.text ≡ n.name.text = cc in f;
    }
    go _ is at = absurd cc

-- ---- the call of a target

pub record TargetAt (p : Project Span) (c : Placed (Call Span)) : Type 0 where
  pub it : CallIn p c.place
  pub is : called it ≡ c
  pub is_target : one_of target_functions it.name.text ≡ true
  pub has_first : is_some (first_argument (called it).it) ≡ true

pub target_at : (p : Project Span) (id : CallName) (c : Placed (Call Span)) → the_call p role.Target id ≡ Ok c → TargetAt p c
target_at p id c found = let r = role_found p role.Target id c found in go r.at.value r.at.is_at r.at.is_call r.is_one
  where
    go : (e : Expression Span) → expression_at p c.place ≡ Some e → call_of e ≡ Some c.it → has_role role.Target c.it ≡ true → TargetAt p c
    go (call s f (listing r trailing xs)) at is_call is_one =
        let it : CallIn p c.place = record { span = s; name = f; brackets = r; trailing = trailing; arguments = xs; at = at } in
        let same = some-injective (called it).it c.it is_call in
        let both = both_true (one_of target_functions f.text) (is_some (first_argument (called it).it)) (subst (λ k. has_role role.Target k ≡ true) (sym same) is_one) in
        record { it = it; is = ap (placed c.place) same; is_target = both.0; has_first = both.1 }
    go _ at is_call is_one = absurd cc
