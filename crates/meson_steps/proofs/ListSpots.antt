-- The brackets and the span of a list that a path names.
use Rattle.meson_steps.proofs.Words.{◌≡◌, ℕ, Bool, true, false, List, Option, Some, None, refl, ap, if◌then◌else◌, option_map, option_and_then, Word, Span}
use Rattle.meson_steps.proofs.Words.{Hole, ListAt, ListIn, Node, Sort, block_of, expression_on_path, expression_of, list_at, list_in, list_of_node, list_span}
use Rattle.meson_steps.proofs.Words.{list_within, of_block, of_expression, of_statement, reach, Block, Expression, spot_at, ListSpot}
use Rattle.meson_syntax.specs.Tree.{File}

abbrev pub spot_in : Expression Span → Option ListSpot
spot_in e = option_map (λ (l : ListIn Span). record { bracket = l.bracket; span = list_span l.list }) (list_in e)

spot_inside : (f : File Span) (before behind : List Word) (back : Expression Span → Block Span) (o : Option (ListIn Span))
    → option_map spot_at (option_map (list_within f before behind back) o) ≡ option_map (λ (l : ListIn Span). record { bracket = l.bracket; span = list_span l.list }) o
spot_inside f before behind back None = refl
spot_inside f before behind back (Some l) = refl

spot_of_node : (f : File Span) (sort : Sort) (x : Node sort Span) (before behind : List Word) (back : Node sort Span → Block Span)
    → option_map spot_at (list_of_node Span sort x f before behind back) ≡ option_and_then spot_in (expression_of Span sort x)
spot_of_node f of_expression e before behind back = spot_inside f before behind back (list_in e)
spot_of_node f of_statement s before behind back = refl
spot_of_node f of_block b before behind back = refl

pub spot_reached : (f : File Span) (path : List ℕ) → option_map spot_at (list_at f path) ≡ option_and_then spot_in (expression_on_path f path)
spot_reached f path = each (reach Span of_block (block_of f) path) where
  each : (r : Option (Hole Span (Block Span))) → option_map spot_at (option_and_then (λ h. list_of_node Span h.sort h.inside f h.before h.behind h.back) r)
      ≡ option_and_then spot_in (option_and_then (λ h. expression_of Span h.sort h.inside) r)
  each None = refl
  each (Some h) = spot_of_node f h.sort h.inside h.before h.behind h.back

-- where a list is looked at, by where its brackets are
pub looked_spot : (of_list : Bool) (o : Option (ListAt Span)) (s : Option ListSpot) → of_list ≡ true → s ≡ option_map spot_at o
    → option_map (λ (x : ListSpot). x.span) s ≡ (if of_list then option_map (λ (p : ListAt Span). list_span p.list) o else None)
looked_spot true None s of is = ap (option_map (λ (x : ListSpot). x.span)) is
looked_spot true (Some p) s of is = ap (option_map (λ (x : ListSpot). x.span)) is
looked_spot false o s of is = absurd cc
