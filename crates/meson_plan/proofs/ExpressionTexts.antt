-- What stands at a place of a file has a text that is UTF-8, and so has all that is in it.
use Rattle.std.proofs.Common.{◌≡◌, ℕ, zero, suc, ◌+◌, List, [], ◌∷◌, ◌++◌, length, Some, refl, sym, ap, ◌∙◌, subst, length-append}
use Rattle.std.specs.Prelude.{All}
use Rattle.std.specs.Str.{IsUtf8}
use Rattle.std.proofs.lemmas.List.Elements.{All-cons, All-nil}
use Rattle.meson_lex.specs.declared.kinds.Span.{Span}
use Rattle.meson_lex.specs.Items.{joined, AreItems}
use Rattle.meson_lex.specs.Significant.{Word}
use Rattle.meson_lex.proofs.Seams.{joined-append, AreItems-split}
use Rattle.meson_syntax.specs.Children.{an_expression, arguments_parts}
use Rattle.meson_syntax.specs.inside.Children.{expression_parts}
use Rattle.meson_syntax.specs.Paths.{Sort, of_expression, of_statement, of_block, Node, block_of, expression_of, expression_on_path, nth, reach}
use Rattle.meson_syntax.specs.Reads.{IsSpanned, of_files}
use Rattle.meson_syntax.specs.Tree.{Expression, array, dictionary, call, plain, named, pair, Arguments, no_arguments, argument, argument_list, listing, File}
use Rattle.meson_syntax.specs.View.{text_at}
use Rattle.meson_syntax.proofs.Slices.{slice_range-part}
use Rattle.meson_syntax.proofs.paths.Reaching.{and-then-some}
use Rattle.meson_edit.specs.Standing.{NodeStands, StandsAmongItems, expression_span}
use Rattle.meson_edit.proofs.exchange.Cuts.{utf8-cut}
use Rattle.meson_edit.proofs.places.Standing.{nodes-stand}
use Rattle.meson_calls.proofs.ListNodes.{value_below}
use Rattle.meson_details.specs.Details.{source_text}
use Rattle.meson_details.specs.Values.{AreTextsOf, HasTexts, elements_of}

module _ (bytes : List ℕ) (f : File Span) (s : IsSpanned bytes f) where
  span_text : (own : Span) (before words behind : List Word) → StandsAmongItems s.reads.spells.items own before words behind → IsUtf8 (text_at bytes own)
  span_text own before words behind at_ =
      let are = s.reads.spells.are_items in
      let all : AreItems (at_.left ++ (at_.own ++ at_.right)) [] = subst (λ xs. AreItems xs []) at_.parts are.each in
      let rest = utf8-cut at_.left (at_.own ++ at_.right) all (subst IsUtf8 (sym are.joins ∙ ap joined at_.parts) s.reads.source.utf8) in
      let utf8 = (utf8-cut at_.own at_.right (AreItems-split at_.left (at_.own ++ at_.right) [] all).1 rest.1).0 in
      let joins = sym are.joins ∙ ap joined at_.parts ∙ joined-append at_.left (at_.own ++ at_.right) ∙ ap (λ t. joined at_.left ++ t) (joined-append at_.own at_.right) in
      let there = at_.to ∙ ap length (joined-append at_.left at_.own) ∙ length-append (joined at_.left) (joined at_.own) in
      let end : own.to ≡ own.from + length (joined at_.own) = there ∙ ap (λ n. n + length (joined at_.own)) (sym at_.from) in
      subst IsUtf8 (sym (slice_range-part bytes (joined at_.left) (joined at_.own) (joined at_.right) own.from own.to joins (sym at_.from) end)) utf8

  node_text : (sort : Sort) (x : Node sort Span) (e : Expression Span) (before behind : List Word) → expression_of Span sort x ≡ Some e → NodeStands s.reads.spells.items sort x before behind
      → IsUtf8 (source_text bytes e)
  node_text of_expression x e before behind is at_ =
      let same : x ≡ e = cc in
      subst (λ y. IsUtf8 (source_text bytes y)) same (span_text (expression_span x) before _ behind at_)
  node_text of_statement x e before behind is at_ = absurd (let none : ⊥ = cc in none)
  node_text of_block x e before behind is at_ = absurd (let none : ⊥ = cc in none)

  own_text : (path : List ℕ) (e : Expression Span) → expression_on_path f path ≡ Some e → IsUtf8 (source_text bytes e)
  own_text path e is =
      let o = and-then-some (λ h. expression_of Span h.sort h.inside) (reach Span of_block (block_of f) path) e is in
      node_text o.0.sort o.0.inside e o.0.before o.0.behind o.2 (nodes-stand of_files bytes f s path o.0 o.1)

  each_text : (list : Arguments Span) → ((n : ℕ) (x : Expression Span) → nth (arguments_parts list) n ≡ Some (an_expression x) → IsUtf8 (source_text bytes x))
      → All (AreTextsOf bytes) (argument_list list)
  each_text no_arguments all = All-nil (AreTextsOf bytes)
  each_text (argument (plain e) more) all =
      All-cons (AreTextsOf bytes) (plain e) (argument_list more) (all 0 e refl) (each_text more (λ n x is. all (suc n) x is))
  each_text (argument (named t x e) more) all =
      All-cons (AreTextsOf bytes) (named t x e) (argument_list more) (all 0 e refl) (each_text more (λ n y is. all (suc n) y is))
  each_text (argument (pair t k v) more) all =
      All-cons (AreTextsOf bytes) (pair t k v) (argument_list more) (all 0 k refl, all 1 v refl) (each_text more (λ n x is. all (suc (suc n)) x is))

  inner_texts : (e : Expression Span) → ((n : ℕ) (x : Expression Span) → nth (expression_parts e) n ≡ Some (an_expression x) → IsUtf8 (source_text bytes x))
      → All (AreTextsOf bytes) (elements_of e)
  inner_texts (call t g (listing u trailing list)) all = each_text list all
  inner_texts (array (listing u trailing list)) all = each_text list all
  inner_texts (dictionary (listing u trailing list)) all = each_text list all
  inner_texts _ all = All-nil (AreTextsOf bytes)

  pub expression_texts : (path : List ℕ) (e : Expression Span) → expression_on_path f path ≡ Some e → HasTexts bytes e
  expression_texts path e is = record {
    own = own_text path e is;
    inside = inner_texts e (λ n x child. own_text (path ++ n ∷ []) x (value_below Span f path e n x is child));
  }
