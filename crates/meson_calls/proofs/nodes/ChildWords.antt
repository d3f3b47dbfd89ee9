-- The words of a child stand among those of its node.
use Rattle.meson_calls.proofs.Words.{option_and_then, ◌≡◌, ℕ, [], ◌∷◌, List, ◌++◌, Some, refl, sym, ap, ◌∙◌, Word, Any, an_expression, a_statement, a_block}
use Rattle.meson_calls.proofs.Words.{block_words, expression_words, statement_words, Sort, of_expression, of_statement, of_block, Node, node_words, nth, reach}
use Rattle.meson_calls.proofs.Words.{any_of, child_nodes, node_at, reached, map-some, reach-fits}
use Rattle.meson_syntax.proofs.PathNodes.{inside_of}

abbrev pub words_of : {S : Type 0} → Any S → List Word
words_of (an_expression e) = expression_words e
words_of (a_statement s) = statement_words s
words_of (a_block b) = block_words b

module _ (S : Type 0) where
  of_sort : (sort : Sort) (x : Node sort S) → words_of (any_of S sort x) ≡ node_words S sort x
  of_sort of_expression e = refl
  of_sort of_statement s = refl
  of_sort of_block b = refl

  pub record Among (inside all : List Word) : Type 0 where
    pub before : List Word
    pub behind : List Word
    pub are : all ≡ before ++ (inside ++ behind)

  in_hole : (sort : Sort) (x : Node sort S) (n : ℕ) (y : Any S) → nth (child_nodes (any_of S sort x)) n ≡ Some y → Among (words_of y) (node_words S sort x)
  unfolding inside_of
  in_hole sort x n y is =
      let found = ap (option_and_then (λ z. node_at z [])) is in
      let o = map-some (inside_of S) (reach S sort x (n ∷ [])) y (sym (reached S sort x (n ∷ [])) ∙ found) in
      let fits = reach-fits S sort x (n ∷ []) o.0 o.1 in
      record {
        before = o.0.before;
        behind = o.0.behind;
        are = ap (node_words S sort) (sym fits.same) ∙ fits.put o.0.inside
            ∙ ap (λ w. o.0.before ++ (w ++ o.0.behind)) (sym (of_sort o.0.sort o.0.inside) ∙ ap words_of o.2);
      }

  pub child_words : (x : Any S) (n : ℕ) (y : Any S) → nth (child_nodes x) n ≡ Some y → Among (words_of y) (words_of x)
  child_words (an_expression e) = in_hole of_expression e
  child_words (a_statement s) = in_hole of_statement s
  child_words (a_block b) = in_hole of_block b
