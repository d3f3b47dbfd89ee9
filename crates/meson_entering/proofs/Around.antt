-- The loop around a place: its list stands in the file.
use Rattle.std.proofs.Common.{◌≡◌, ℕ, ◌+◌, ◌<◌, ◌≤◌, List, [], ◌∷◌, ◌++◌, length, drop, get_or, Option, Some, None, refl, sym, ap, subst, ◌∙◌}
use Rattle.std.specs.Prelude.{Bool, true, false, ◌&&◌, if◌then◌else◌}
use Rattle.std.specs.List.{cons_option, filter_map, last_or}
use Rattle.std.proofs.lemmas.List.{at_drop_all, at_drop_more}
use Rattle.meson_lex.specs.declared.kinds.Span.{Span}
use Rattle.meson_syntax.specs.Grammar.{expression_words}
use Rattle.meson_syntax.specs.Paths.{expression_on_path}
use Rattle.meson_syntax.specs.Reads.{IsSpanned}
use Rattle.meson_syntax.specs.Tree.{Expression, File, Name}
use Rattle.meson_syntax.specs.View.{view}
use Rattle.meson_syntax.specs.declared.tree.Parsed.{Parsed}
use Rattle.meson_calls.specs.Notes.{Note, a_call, an_assignment, a_loop}
use Rattle.meson_calls.specs.Project.{Placed}
use Rattle.meson_calls.specs.Strings.{AreGood}
use Rattle.meson_entering.specs.Loops.{innermost_list, is_first, is_in_body, list_around, list_noted}
use Rattle.meson_entering.proofs.Values.{value_good}

-- ---- the last one of a list

module _ {X Y : Type 0} (f : X → Option Y) where
  last_more : (o : Option Y) (x : X) (xs : List X) (p : Option Y) → f x ≡ p → last_or o (filter_map f (x ∷ xs)) ≡ last_or o (cons_option p (filter_map f xs))
  last_more o x xs p is = ap (λ q. last_or o (cons_option q (filter_map f xs))) is

  pub found_later : (xs : List X) (i : ℕ) (d : X) (o : Option Y) (y : Y) (whole : Option Y) → i < length xs → f (get_or xs i d) ≡ Some y → last_or o (filter_map f (drop i xs)) ≡ whole
      → last_or (Some y) (filter_map f (drop (i + 1) xs)) ≡ whole
  found_later xs i d o y whole within is so_far = sym (at_drop_more (λ ys. last_or o (filter_map f ys)) xs i d within ∙ last_more o (get_or xs i d) (drop (i + 1) xs) (Some y) is) ∙ so_far

  pub not_found : (xs : List X) (i : ℕ) (d : X) (o whole : Option Y) → i < length xs → f (get_or xs i d) ≡ None → last_or o (filter_map f (drop i xs)) ≡ whole
      → last_or o (filter_map f (drop (i + 1) xs)) ≡ whole
  not_found xs i d o whole within is so_far = sym (at_drop_more (λ ys. last_or o (filter_map f ys)) xs i d within ∙ last_more o (get_or xs i d) (drop (i + 1) xs) None is) ∙ so_far

  pub none_left : (xs : List X) (i : ℕ) (o whole : Option Y) → length xs ≤ i → last_or o (filter_map f (drop i xs)) ≡ whole → o ≡ whole
  none_left xs i o whole past so_far = sym (at_drop_all (λ ys. last_or o (filter_map f ys)) xs i past) ∙ so_far

-- the last one has what each of them has
abbrev Has : {Y : Type 0} → (Y → Type 0) → Option Y → Type 0
Has P None = Unit {0}
Has P (Some y) = P y

last_has : {X Y : Type 0} (f : X → Option Y) (P : Y → Type 0) → ((x : X) → Has P (f x)) → (xs : List X) (o : Option Y) → Has P o → Has P (last_or o (filter_map f xs))
last_has f P each [] o has = has
last_has {X} {Y} f P each (x ∷ xs) o has = go (f x) (each x) (last_has f P each xs o has) (λ y. last_has f P each xs (Some y))
  where
    go : (p : Option Y) → Has P p → Has P (last_or o (filter_map f xs)) → ((y : Y) → P y → Has P (last_or (Some y) (filter_map f xs))) → Has P (last_or o (cons_option p (filter_map f xs)))
    go None now later more = later
    go (Some y) now later more = more y now

-- ---- a loop

-- it sets the name first, and the path is in its body
pub around_is : (tree : File Span) (x path loop : List ℕ) (n : Note Span) (xs : List (Name Span)) (first inside : Bool) → n ≡ a_loop xs → is_first x xs ≡ first → is_in_body loop path ≡ inside
    → list_noted tree x path loop n ≡ (if first && inside then expression_on_path tree (loop ++ 0 ∷ []) else None)
around_is tree x path loop n xs first inside is sets within =
    ap (list_noted tree x path loop) is
    ∙ ap (λ b. if b && is_in_body loop path then expression_on_path tree (loop ++ 0 ∷ []) else None) sets
    ∙ ap (λ b. if first && b then expression_on_path tree (loop ++ 0 ∷ []) else None) within

abbrev IsGood : Expression Span → Type 0
IsGood e = AreGood (expression_words e)

module _ (bytes : List ℕ) (t : Parsed) (spanned : IsSpanned bytes (view bytes t)) where
  read_good : (path : List ℕ) → Has IsGood (expression_on_path (view bytes t) path)
  read_good path = go (expression_on_path (view bytes t) path) refl
    where
      go : (o : Option (Expression Span)) → expression_on_path (view bytes t) path ≡ o → Has IsGood o
      go None is = tt
      go (Some e) is = value_good bytes t path e spanned is

  around_good : (x path loop : List ℕ) (n : Note Span) → Has IsGood (list_noted (view bytes t) x path loop n)
  around_good x path loop (a_call c) = tt
  around_good x path loop (an_assignment y sets e) = tt
  around_good x path loop (a_loop xs) = go (is_first x xs && is_in_body loop path)
    where
      go : (b : Bool) → Has IsGood (if b then expression_on_path (view bytes t) (loop ++ 0 ∷ []) else None)
      go true = read_good (loop ++ 0 ∷ [])
      go false = tt

  pub innermost_good : (x path : List ℕ) (ns : List (Placed (Note Span))) (e : Expression Span) → innermost_list (view bytes t) x path ns ≡ Some e → AreGood (expression_words e)
  innermost_good x path ns e is = subst (Has IsGood) is (last_has (list_around (view bytes t) x path) IsGood (λ n. around_good x path n.place.path.steps n.it) ns None tt)
