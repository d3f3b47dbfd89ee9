-- An edit of a list that a path names is laid out by that list.
use Rattle.meson_steps.proofs.Words.{◌≡◌, ℕ, true, List, Option, Some, None, refl, sym, ap, ◌∙◌, option_and_then, option_map, Span, Primitive, ListAt, list_at}
use Rattle.meson_steps.proofs.Words.{list_span, value_of, Listing, element_there, argument_span, expression_span, ListEdit, edits_list, placed_edit, placed_in}
use Rattle.meson_layout.specs.declared.primitive.Primitive.TheVariants as layout
use Rattle.meson_syntax.specs.Tree.{File}
use Rattle.meson_steps.specs.declared.step.ListEdit.TheVariants as code

-- by what the path names
abbrev placed_by : Option (ListAt Span) → ListEdit → Option Primitive
placed_by o (code.First new) = option_map (λ at. layout.First at new) (option_map (λ (p : ListAt Span). (list_span {S = Span} p.list).from) o)
placed_by o (code.After n new) = option_map (λ s. layout.After s new) (option_map argument_span (option_and_then (element_there n) o))
placed_by o (code.Remove n) = option_map layout.Remove (option_map argument_span (option_and_then (element_there n) o))
placed_by o (code.Replace n new) = option_map (λ s. layout.Replace s new) (option_map expression_span (option_and_then value_of (option_and_then (element_there n) o)))
placed_by o (code.Wrap n) = option_map layout.Wrap (option_map expression_span (option_and_then value_of (option_and_then (element_there n) o)))
placed_by o (code.RemoveStatement n blank) = None
placed_by o (code.Append new) = None
placed_by o (code.Assign new) = None
placed_by o (code.Lines side new) = None

edit_by : (f : File Span) (path : List ℕ) (e : ListEdit) → edits_list e ≡ true → placed_edit f path e ≡ placed_by (list_at f path) e
edit_by f path (code.First new) of = refl
edit_by f path (code.After n new) of = refl
edit_by f path (code.Remove n) of = refl
edit_by f path (code.Replace n new) of = refl
edit_by f path (code.Wrap n) of = refl
edit_by f path (code.RemoveStatement n blank) of = absurd cc
edit_by f path (code.Append new) of = absurd cc
edit_by f path (code.Assign new) of = absurd cc
edit_by f path (code.Lines side new) of = absurd cc

by_list : (p : ListAt Span) (e : ListEdit) → placed_by (Some p) e ≡ placed_in p.list e
by_list p (code.First new) = refl
by_list p _ = refl

by_none : (e : ListEdit) → placed_by None e ≡ None
by_none (code.First new) = refl
by_none _ = refl

pub placed_at : (f : File Span) (path : List ℕ) (p : ListAt Span) (e : ListEdit) → edits_list e ≡ true → list_at f path ≡ Some p → placed_edit f path e ≡ placed_in p.list e
placed_at f path p e of is = edit_by f path e of ∙ ap (λ o. placed_by o e) is ∙ by_list p e

-- as the code has what the path names
by_listing : (o : Option (ListAt Span)) (l : Listing Span) (e : ListEdit) → Some l ≡ option_map (λ (p : ListAt Span). p.list) o → placed_by o e ≡ placed_in l e
by_listing None l e is = absurd cc
by_listing (Some p) l e is = let same : l ≡ p.list = cc in by_list p e ∙ ap (λ m. placed_in m e) (sym same)

by_nothing : (o : Option (ListAt Span)) (e : ListEdit) → None ≡ option_map (λ (p : ListAt Span). p.list) o → placed_by o e ≡ None
by_nothing None e is = by_none e
by_nothing (Some p) e is = absurd cc

pub placed_there : (f : File Span) (path : List ℕ) (l : Listing Span) (e : ListEdit) → edits_list e ≡ true → Some l ≡ option_map (λ (p : ListAt Span). p.list) (list_at f path) → placed_edit f path e ≡ placed_in l e
placed_there f path l e of is = edit_by f path e of ∙ by_listing (list_at f path) l e is

pub placed_none : (f : File Span) (path : List ℕ) (e : ListEdit) → edits_list e ≡ true → None ≡ option_map (λ (p : ListAt Span). p.list) (list_at f path) → placed_edit f path e ≡ None
placed_none f path e of is = edit_by f path e of ∙ by_nothing (list_at f path) e is
