-- A path finds in a tree with the texts of a source what it finds in the tree; and what a list that is put there looks like.
use Rattle.meson_edit.proofs.Words.{option_map, ◌≡◌, ℕ, List, [], ◌∷◌, refl, sym, ap, ◌∙◌, Word, Span, code_file, put_there, Sort, of_expression, of_statement}
use Rattle.meson_edit.proofs.Words.{of_block, Node, Hole, around, children, nth_hole, reach, block_of, with_block, ListIn, list_in, ListAt, list_within}
use Rattle.meson_edit.proofs.Words.{list_of_node, list_at, texts_of_expression, texts_of_listing, texts_of_block, texts_of, Expression, identifier, boolean}
use Rattle.meson_edit.proofs.Words.{integer, string, paren, array, dictionary, call, unary, row, postfix, conditional, Listing, Block, File, file, list_view}
use Rattle.meson_edit.proofs.Words.{view, Parsed, InBoth, neither, both, PutListsLook, FoundListsLook}
use Rattle.meson_syntax.specs.declared.tree.List as rust
use Rattle.meson_edit.proofs.kept.Each.{map-both, then-both, in-both, in-other}
use Rattle.meson_edit.proofs.kept.Texts.{the_file, list}
use Rattle.meson_edit.proofs.kept.TextsChildren.{texts_of_node, TextsHole, texts, texts-around, nth-texts, children-texts}
use Rattle.meson_edit.proofs.kept.Views.{views-text, list-views-text}

module _ (source : List ℕ) where
  -- ---- nodes

  -- what a path names within a child, in the whole
  further : (sort : Sort) (path : List ℕ) (p r : Hole Span (Node sort Span)) → TextsHole source (texts_of_node source sort) p r
      → ((of : Sort) (y : Node of Span) → InBoth (TextsHole source (texts_of_node source of)) (reach Span of y path) (reach Span of (texts_of_node source of y) path))
      → InBoth (TextsHole source (texts_of_node source sort)) (option_map (around p.before p.behind p.back) (reach Span p.sort p.inside path))
      (option_map (around r.before r.behind r.back) (reach Span r.sort r.inside path))
  further sort path p r (texts of x {before} {before'} {behind} {behind'} back back' agree) ih =
      map-both _ _ (λ y z m. texts-around source (texts_of_node source of) (texts_of_node source sort) before before' behind behind' back back' agree y z m)
      (reach Span of x path) (reach Span of (texts_of_node source of x) path) (ih of x)

  reach-texts : (sort : Sort) (x : Node sort Span) (path : List ℕ)
      → InBoth (TextsHole source (texts_of_node source sort)) (reach Span sort x path) (reach Span sort (texts_of_node source sort x) path)
  reach-texts sort x [] = both _ _ (texts sort x (λ y. y) (λ y. y) (λ y. refl))
  reach-texts sort x (n ∷ path) =
      then-both _ _ (λ p r m. further sort path p r m (λ of y. reach-texts of y path)) (nth_hole Span sort x n) (nth_hole Span sort (texts_of_node source sort x) n)
      (nth-texts source (texts_of_node source sort) (children Span sort x) (children Span sort (texts_of_node source sort x)) (children-texts source sort x) n)

  nodes-texts : (f : File Span) (path : List ℕ)
      → InBoth (TextsHole source (texts_of_block source)) (reach Span of_block (block_of f) path) (reach Span of_block (block_of (texts_of source f)) path)
  nodes-texts (file s b) path = reach-texts of_block b path

  -- ---- lists

  -- the list of an expression, in both trees
  record TextsIn (p r : ListIn Span) : Type 0 where
    list : r.list ≡ texts_of_listing source p.list
    back : (l : Listing Span) → r.back (texts_of_listing source l) ≡ texts_of_expression source (p.back l)

  list-in : (e : Expression Span) → InBoth TextsIn (list_in e) (list_in (texts_of_expression source e))
  list-in (array l) = both _ _ (record { list = refl; back = λ m. refl })
  list-in (dictionary l) = both _ _ (record { list = refl; back = λ m. refl })
  list-in (call s x l) = both _ _ (record { list = refl; back = λ m. refl })
  list-in (identifier s x) = neither
  list-in (boolean s b) = neither
  list-in (integer s x) = neither
  list-in (string s q x) = neither
  list-in (paren s e) = neither
  list-in (unary s o e) = neither
  list-in (row s e os) = neither
  list-in (postfix s e ts) = neither
  list-in (conditional s c y n) = neither

  -- the list that a path names, in both trees
  pub record TextsList (p r : ListAt Span) : Type 0 where
    pub list : r.list ≡ texts_of_listing source p.list
    pub back : (l : Listing Span) → r.back (texts_of_listing source l) ≡ texts_of source (p.back l)

  put-block : (f : File Span) (b : Block Span) → with_block (texts_of source f) (texts_of_block source b) ≡ texts_of source (with_block f b)
  put-block (file s c) b = refl

  list-of : (f : File Span) (sort : Sort) (x : Node sort Span) (before before' behind behind' : List Word) (back back' : Node sort Span → Block Span)
      → ((y : Node sort Span) → back' (texts_of_node source sort y) ≡ texts_of_block source (back y))
      → InBoth TextsList (list_of_node Span sort x f before behind back) (list_of_node Span sort (texts_of_node source sort x) (texts_of source f) before' behind' back')
  list-of f of_expression e before before' behind behind' back back' agree =
      map-both (list_within f before behind back) (list_within (texts_of source f) before' behind' back')
      (λ l m is. record {
        list = is.list;
        back = λ other. ap (λ y. with_block (texts_of source f) (back' y)) (is.back other) ∙ ap (with_block (texts_of source f)) (agree (l.back other))
            ∙ put-block f (back (l.back other));
      }) (list_in e) (list_in (texts_of_expression source e)) (list-in e)
  list-of f of_statement s before before' behind behind' back back' agree = neither
  list-of f of_block b before before' behind behind' back back' agree = neither

  list-of-hole : (f : File Span) (p r : Hole Span (Block Span)) → TextsHole source (texts_of_block source) p r
      → InBoth TextsList (list_of_node Span p.sort p.inside f p.before p.behind p.back)
      (list_of_node Span r.sort r.inside (texts_of source f) r.before r.behind r.back)
  list-of-hole f p r (texts sort x {before} {before'} {behind} {behind'} back back' agree) = list-of f sort x before before' behind behind' back back' agree

  pub lists-texts : (f : File Span) (path : List ℕ) → InBoth TextsList (list_at f path) (list_at (texts_of source f) path)
  lists-texts f path = then-both _ _ (list-of-hole f) (reach Span of_block (block_of f) path) (reach Span of_block (block_of (texts_of source f)) path) (nodes-texts f path)

pub found-lists-look : FoundListsLook
found-lists-look source f path r is p found = (in-both (list_at f path) (list_at (texts_of source f) path) (lists-texts source f path) r p is found).list

-- ---- a list that is put in a tree of the code

-- a tree of the code looks over one source as a tree does, so it does over any other
other-source : (source other : List ℕ) (t : Parsed) (f : File Span) → view source t ≡ texts_of source f → view other t ≡ texts_of other f
other-source source other t f is =
    views-text other source t ∙ ap (texts_of other) (is ∙ sym (the_file source f)) ∙ sym (views-text other source (code_file f)) ∙ the_file other f

other-source-list : (source other : List ℕ) (l : rust.List) (m : Listing Span) → list_view source l ≡ texts_of_listing source m
    → list_view other l ≡ texts_of_listing other m
other-source-list source other l m is =
    list-views-text other source l ∙ ap (texts_of_listing other) (is ∙ sym (list source m)) ∙ sym (list-views-text other source _) ∙ list other m

pub put-lists-look : PutListsLook
put-lists-look source t f is path r found l m is-l =
    let bare = other-source source [] t f is in
    let o = in-other (list_at f path) (list_at (texts_of [] f) path) (lists-texts [] f path) r found in
    let put : put_there (list_at (view [] t) path) (list_view [] l) (view [] t) ≡ texts_of [] (r.back m) =
    ap (λ y. put_there (list_at y path) (list_view [] l) y) bare
    ∙ ap (λ y. put_there y (list_view [] l) (texts_of [] f)) o.1
    ∙ ap o.0.back (other-source-list source [] l m is-l)
    ∙ o.2.back m in
    ap (λ y. view source (code_file y)) put
    ∙ the_file source (texts_of [] (r.back m))
    ∙ ap (texts_of source) (sym (the_file [] (r.back m)))
    ∙ sym (views-text source [] (code_file (r.back m)))
    ∙ the_file source (r.back m)
