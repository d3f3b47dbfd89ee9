-- The values of a call's arguments are texts in the source, since they stand between items of it.
use Rattle.std.proofs.Common.{rules, ◌≡◌, ℕ, zero, suc, ◌+◌, ◌<◌, List, [], ◌∷◌, ◌++◌, length, get_or, Some, refl, sym, ap, ◌∙◌, subst, arith, append_assoc, length-append}
use Rattle.std.specs.Prelude.{Bool, option_map}
use Rattle.std.specs.Str.{IsUtf8}
use Rattle.meson_lex.specs.declared.kinds.Span.{Span}
use Rattle.meson_lex.specs.Items.{Lexeme, joined, AreItems}
use Rattle.meson_lex.specs.Significant.{Word}
use Rattle.meson_lex.proofs.Seams.{joined-append, AreItems-split}
use Rattle.meson_syntax.specs.declared.tree.Arg.{Arg}
use Rattle.meson_syntax.specs.declared.tree.Arg.TheFolds.{the_lemmas}
use Rattle.meson_syntax.specs.declared.tree.List as rust
use Rattle.meson_syntax.specs.Tree.{Name, Expression, call, Argument, plain, named, pair, Arguments, no_arguments, argument, arguments_of, Listing, listing, File}
use Rattle.meson_syntax.specs.Paths.{nth, expression_on_path, list_at, ListAt, ElementAt, elements_at, element_at, value_of}
use Rattle.meson_edit.specs.Standing.{expression_span, ListStands, PartStands}
use Rattle.meson_syntax.specs.Reads.{IsSpanned, of_files}
use Rattle.meson_syntax.specs.View.{text_at, arg_view, args_view, list_view}
use Rattle.meson_syntax.proofs.Slices.{slice_range-part}
use Rattle.meson_edit.proofs.exchange.Cuts.{utf8-cut}
use Rattle.meson_edit.proofs.places.Standing.{lists-stand}
use Rattle.meson_calls.proofs.ListNodes.{list_of}
use Rattle.meson_edit.proofs.paths.Mapped.{nth_map}
use Rattle.meson_details.specs.Details.{source_text}
use Rattle.meson_details.specs.ValueTexts.{HasText, HaveTexts, ListHasTexts, ArgsHaveTexts}

-- ---- what stands between items

around : (a : List Lexeme) (x : Lexeme) (b c d e : List Lexeme) → a ++ x ∷ ((b ++ (c ++ d)) ++ e) ≡ (a ++ x ∷ b) ++ (c ++ (d ++ e))
around a x b c d e = simp append_assoc

module _ (bytes : List ℕ) (f : File Span) (s : IsSpanned bytes f) where
  part_text : (p : ListAt Span) (l : ListStands s.reads.spells.items p) (own : Span) (before words behind : List Word) → PartStands s.reads.spells.items p l own before words behind → IsUtf8 (text_at bytes own)
  part_text p l own before words behind part =
      let are = s.reads.spells.are_items in
      let front = l.left ++ l.open_item ∷ part.left in
      let back = part.right ++ l.close_item ∷ l.right in
      let parts : s.reads.spells.items ≡ front ++ (part.own ++ back) =
      l.parts ∙ ap (λ xs. l.left ++ l.open_item ∷ (xs ++ l.close_item ∷ l.right)) part.parts ∙ around l.left l.open_item part.left part.own part.right (l.close_item ∷ l.right) in
      let all : AreItems (front ++ (part.own ++ back)) [] = subst (λ xs. AreItems xs []) parts are.each in
      let rest = utf8-cut front (part.own ++ back) all (subst IsUtf8 (sym are.joins ∙ ap joined parts) s.reads.source.utf8) in
      let utf8 = (utf8-cut part.own back (AreItems-split front (part.own ++ back) [] all).1 rest.1).0 in
      let joins = sym are.joins ∙ ap joined parts ∙ joined-append front (part.own ++ back) ∙ ap (λ t. joined front ++ t) (joined-append part.own back) in
      let there = part.to ∙ ap (λ xs. length (joined xs)) (sym (append_assoc l.left (l.open_item ∷ part.left) part.own)) ∙ ap length (joined-append front part.own) ∙ length-append (joined front) (joined part.own) in
      let end : own.to ≡ own.from + length (joined part.own) = there ∙ ap (λ n. n + length (joined part.own)) (sym part.from) in
      subst IsUtf8 (sym (slice_range-part bytes (joined front) (joined part.own) (joined back) own.from own.to joins (sym part.from) end)) utf8

  value_text : (path : List ℕ) (p : ListAt Span) (n : ℕ) (e : ElementAt Span) (v : Expression Span) → list_at f path ≡ Some p → element_at p.list n ≡ Some e → value_of e.element ≡ Some v → IsUtf8 (source_text bytes v)
  value_text path p n e v is is_e is_v =
      let places = lists-stand of_files bytes f s path p is in
      part_text p places.list (expression_span v) _ _ _ (places.values n e is_e v is_v)

-- ---- the arguments of a call

module _ (source : List ℕ) where
  one_text : (a : Argument Span) → ((v : Expression Span) → value_of a ≡ Some v → IsUtf8 (source_text source v)) → HasText source a
  one_text (plain e) all = tt
  one_text (named s x e) all = all e refl
  one_text (pair s e f) all = tt

  each_text : (list : Arguments Span) (trailing : Bool) →
      ((n : ℕ) (e : ElementAt Span) (v : Expression Span) → nth (elements_at list trailing) n ≡ Some e → value_of e.element ≡ Some v → IsUtf8 (source_text source v)) → HaveTexts source list
  each_text no_arguments trailing all = tt
  each_text (argument a more) trailing all = (
    one_text a (λ v is. all 0 _ v refl is),
    each_text more trailing (λ n e v is is_v. all (suc n) _ v (nth_map _ (elements_at more trailing) n ∙ ap (option_map _) is) is_v),
  )

  list_text : (l : Listing Span) → ((n : ℕ) (e : ElementAt Span) (v : Expression Span) → element_at l n ≡ Some e → value_of e.element ≡ Some v → IsUtf8 (source_text source v)) → ListHasTexts source l
  list_text (listing s trailing list) all = each_text list trailing all

pub call_texts : (bytes : List ℕ) (f : File Span) → IsSpanned bytes f → (path : List ℕ) (s : Span) (x : Name Span) (l : Listing Span) → expression_on_path f path ≡ Some (call s x l) → ListHasTexts bytes l
call_texts bytes f spanned path s x l is =
    let o = list_of Span f path (call s x l) _ is refl in
    list_text bytes l (λ n e v is_e is_v. value_text bytes f spanned path o.place n e v o.is_place (ap (λ k. element_at k n) o.list ∙ is_e) is_v)

-- ---- of the code

pub args_texts : (source : List ℕ) (l : rust.List) → ListHasTexts source (list_view source l) → ArgsHaveTexts source l.items
args_texts source l texts =
    let is : list_view source l ≡ listing l.span l.trailing (arguments_of (args_view source l.items)) = search (rules, the_lemmas) in
    subst (ListHasTexts source) is texts

pub arg_text : (source : List ℕ) (args : List Arg) (i : ℕ) (d : Arg) → i < length args → ArgsHaveTexts source args → HasText source (arg_view source (get_or args i d))
arg_text source [] i d within texts = absurd (omega (arith, within))
arg_text source (a ∷ args) zero d within texts = texts.0
arg_text source (a ∷ args) (suc i) d within texts = let below : i < length args = omega (arith, within) in arg_text source args i d below texts.1
