-- Behind a statement in a block its line ends.
use Rattle.meson_edit.proofs.Words.{option_map, ◌≡◌, ℕ, List, [], ◌∷◌, ◌++◌, Some, refl, sym, ap, subst, ◌∙◌, Word, new_line, Kind, mark, expression_words}
use Rattle.meson_edit.proofs.Words.{statement_words, statements_words, branches_words, otherwise_words, block_words, Sort, of_expression, of_statement, of_block, Node, Hole}
use Rattle.meson_edit.proofs.Words.{around, all_around, branches_children, otherwise_children, statement_children, statements_children, children, nth_hole}
use Rattle.meson_edit.proofs.Words.{reach, Statement, evaluate, assign, selection, iteration, breaks, continues, Branches, no_branches, branch, Otherwise, nothing_else}
use Rattle.meson_edit.proofs.Words.{otherwise, Statements, no_statements, statement, Block, block, some-injective, Every, every-append, every-around, every-nth}
use Rattle.meson_edit.proofs.Words.{map-some, and-then-some}
use Rattle.meson_lex.specs.declared.kinds.Kind.TheVariants as k
use Rattle.meson_edit.proofs.exchange.LinedHoles.{expression-inner}

module _ (S : Type 0) where
  -- a line end is first of what is behind it
  abbrev pub Trails : List Word → Type 0
  Trails words = (more : List Word) × (words ≡ new_line ∷ more)

  trails-more : (a b : List Word) → Trails a → Trails (a ++ b)
  trails-more a b t = (t.0 ++ b, ap (λ w. w ++ b) t.1)

  -- of a statement
  abbrev IsTrailed : {T : Type 0} → Hole S T → Type 0
  IsTrailed h = h.sort ≡ of_statement → Trails h.behind

  trailed-around : {T U : Type 0} (before behind : List Word) (make : T → U) (hs : List (Hole S T)) → Every IsTrailed hs → Every IsTrailed (all_around before behind make hs)
  trailed-around before behind make hs e = every-around IsTrailed IsTrailed before behind make (λ h i is. trails-more h.behind behind (i is)) hs e

  no-statement : (words : List Word) → of_expression ≡ of_statement → Trails words
  no-statement words is = absurd cc

  no-block : (words : List Word) → of_block ≡ of_statement → Trails words
  no-block words is = absurd cc

  branches-trailed : (bs : Branches S) (word : Kind) → Every IsTrailed (branches_children bs word)
  branches-trailed no_branches word = tt
  branches-trailed (branch e b more) word = (
    no-statement _,
    (no-block _, trailed-around (mark word ++ (expression_words e ++ (new_line ∷ block_words b))) [] (branch e b) (branches_children more k.WordElif) (branches-trailed more k.WordElif)),
  )

  otherwise-trailed : (o : Otherwise S) → Every IsTrailed (otherwise_children o)
  otherwise-trailed nothing_else = tt
  otherwise-trailed (otherwise b) = (no-block _, tt)

  statement-trailed : (s : Statement S) → Every IsTrailed (statement_children s)
  statement-trailed (evaluate e) = (no-statement _, tt)
  statement-trailed (assign s x a e) = (no-statement _, tt)
  statement-trailed (selection s bs o) =
      every-append IsTrailed _ _
      (trailed-around [] (otherwise_words o ++ mark k.WordEndif) (λ x. selection s x o) (branches_children bs k.WordIf) (branches-trailed bs k.WordIf))
      (trailed-around (branches_words bs k.WordIf) (mark k.WordEndif) (selection s bs) (otherwise_children o) (otherwise-trailed o))
  statement-trailed (iteration s xs e b) = (no-statement _, (no-block _, tt))
  statement-trailed (breaks s) = tt
  statement-trailed (continues s) = tt

  statements-trailed : (list : Statements S) → Every IsTrailed (statements_children list)
  statements-trailed no_statements = tt
  statements-trailed (statement s more) =
      (λ is. (statements_words more, refl), trailed-around (statement_words s ++ new_line ∷ []) [] (statement s) (statements_children more) (statements-trailed more))

  inner-trailed : {T : Type 0} (hs : List (Hole S T)) → Every (λ h. h.sort ≡ of_expression) hs → Every IsTrailed hs
  inner-trailed [] e = tt
  inner-trailed (h ∷ hs) e = (λ is. no-statement h.behind (sym e.0 ∙ is), inner-trailed hs e.1)

  children-trailed : (sort : Sort) (x : Node sort S) → Every IsTrailed (children S sort x)
  children-trailed of_expression e = inner-trailed (children S of_expression e) (expression-inner S e)
  children-trailed of_statement s = statement-trailed s
  children-trailed of_block (block s list) = trailed-around [] [] (block s) (statements_children list) (statements-trailed list)

  -- what is below a child, or the child itself
  below : (sort : Sort) (x : Node sort S) (g : Hole S (Node sort S)) (path : List ℕ) (i : Hole S (Node g.sort S)) → reach S g.sort g.inside path ≡ Some i → IsTrailed g
      → IsTrailed (around g.before g.behind g.back i)
  below sort x g [] i e t = subst (λ (j : Hole S (Node g.sort S)). IsTrailed (around g.before g.behind g.back j)) (some-injective _ _ e) t
  below sort x g (n ∷ path) i e t =
      let o = and-then-some (λ d. option_map (around d.before d.behind d.back) (reach S d.sort d.inside path)) (nth_hole S g.sort g.inside n) i e in
      let d = o.0 in
      let m = map-some (around d.before d.behind d.back) (reach S d.sort d.inside path) i o.2 in
      let inner : IsTrailed i = subst IsTrailed m.2 (below g.sort g.inside d path m.0 m.1 (every-nth IsTrailed (children S g.sort g.inside) n d (children-trailed g.sort g.inside) o.1)) in
      λ is. trails-more i.behind g.behind (inner is)

  pub reach-trailed : (b : Block S) (path : List ℕ) (h : Hole S (Block S)) → reach S of_block b path ≡ Some h → h.sort ≡ of_statement → Trails h.behind
  reach-trailed b [] h is sort = let same : of_block ≡ h.sort = ap (λ (g : Hole S (Block S)). g.sort) (some-injective _ _ is) in no-block h.behind (same ∙ sort)
  reach-trailed b (n ∷ path) h is sort =
      let o = and-then-some (λ g. option_map (around g.before g.behind g.back) (reach S g.sort g.inside path)) (nth_hole S of_block b n) h is in
      let g = o.0 in
      let m = map-some (around g.before g.behind g.back) (reach S g.sort g.inside path) h o.2 in
      subst IsTrailed m.2 (below of_block b g path m.0 m.1 (every-nth IsTrailed (children S of_block b) n g (children-trailed of_block b) o.1)) sort
