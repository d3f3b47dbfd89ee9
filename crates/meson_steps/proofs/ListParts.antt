-- The elements of a list that a path names, and the array that is the value of one.
use Rattle.meson_steps.proofs.Words.{◌≡◌, ℕ, zero, suc, Bool, true, false, List, [], ◌∷◌, ◌++◌, Some, refl, sym, ap, ◌∙◌, subst, an_expression, arguments_parts}
use Rattle.meson_steps.proofs.Words.{LevelArguments, LevelListing, LevelFile, holds_pairs, nth, ListIn, list_in, ListAt, list_at, value_of, Expression, array}
use Rattle.meson_steps.proofs.Words.{dictionary, call, Listing, listing, Argument, plain, named, pair, Arguments, no_arguments, argument, argument_list}
use Rattle.meson_steps.proofs.Words.{Bracket, expression_parts, some-injective, list-fits, elements}
use Rattle.meson_syntax.specs.declared.operator.Bracket.TheVariants as bracket
use Rattle.meson_syntax.specs.Tree.{File}
use Rattle.meson_calls.proofs.ListNodes.{ListOf, list_node, list_of, value_below}

module _ (S : Type 0) where
  value_part : (list : Arguments S) (b : Bracket) (seen : Bool) (n : ℕ) (a : Argument S) (v : Expression S) → holds_pairs b ≡ false → LevelArguments list b seen → nth (argument_list list) n ≡ Some a
      → value_of a ≡ Some v → nth (arguments_parts list) n ≡ Some (an_expression v)
  value_part no_arguments b seen n a v none level is value = absurd cc
  value_part (argument (plain e) more) b seen zero a v none level is value =
      let same : e ≡ v = some-injective _ _ (ap value_of (some-injective (plain e) a is) ∙ value) in ap (λ x. Some (an_expression x)) same
  value_part (argument (named s x e) more) b seen zero a v none level is value =
      let same : e ≡ v = some-injective _ _ (ap value_of (some-injective (named s x e) a is) ∙ value) in ap (λ y. Some (an_expression y)) same
  value_part (argument (pair s e g) more) b seen n a v none level is value = let both : true ≡ false = sym level.0.0 ∙ none in absurd cc
  value_part (argument (plain e) more) b seen (suc n) a v none level is value = value_part more b false n a v none level.1 is value
  value_part (argument (named s x e) more) b seen (suc n) a v none level is value = value_part more b true n a v none level.1 is value

  pub list_part : (e : Expression S) (l : ListIn S) (n : ℕ) (a : Argument S) (v : Expression S) → list_in e ≡ Some l → holds_pairs l.bracket ≡ false → LevelListing l.list l.bracket → nth (elements l.list) n ≡ Some a → value_of a ≡ Some v
      → nth (expression_parts e) n ≡ Some (an_expression v)
  list_part (array (listing s trailing list)) l n a v is none level there value =
      let same = some-injective _ _ is in
      let low = subst (λ (x : ListIn S). LevelListing x.list x.bracket) (sym same) level in
      value_part list bracket.Square false n a v refl low.1 (ap (λ (x : ListIn S). nth (elements x.list) n) same ∙ there) value
  list_part (call t x (listing s trailing list)) l n a v is none level there value =
      let same = some-injective _ _ is in
      let low = subst (λ (x : ListIn S). LevelListing x.list x.bracket) (sym same) level in
      value_part list bracket.Round false n a v refl low.1 (ap (λ (x : ListIn S). nth (elements x.list) n) same ∙ there) value
  list_part (dictionary m) l n a v is none level there value = let both : true ≡ false = ap (λ (x : ListIn S). holds_pairs x.bracket) (some-injective _ _ is) ∙ none in absurd cc
  list_part _ l n a v is none level there value = absurd cc

  abbrev pub array_in : Listing S → ListIn S
  array_in l = record { list = l; bracket = bracket.Square; ahead = []; back = array }

  -- the array that is the value of an element
  pub array_below : (f : File S) (path : List ℕ) (q : ListAt S) → list_at f path ≡ Some q → holds_pairs q.bracket ≡ false → LevelFile f → (n : ℕ) (a : Argument S) (l : Listing S) → nth (elements q.list) n ≡ Some a
      → value_of a ≡ Some (array l) → ListOf S f (path ++ n ∷ []) (array_in l)
  array_below f path q is none level n a l there value =
      let at = list_node S f path q is in
      let low = (list-fits S f path q is).level level in
      let inner_low = subst (λ b. LevelListing at.inner.list b) (sym at.bracket) (subst (λ m. LevelListing m q.bracket) (sym at.list) low) in
      let part = list_part at.node at.inner n a (array l) at.is_inner (ap holds_pairs at.bracket ∙ none) inner_low (ap (λ m. nth (elements m) n) at.list ∙ there) value in
      list_of S f (path ++ n ∷ []) (array l) (array_in l) (value_below S f path at.node n (array l) at.is_node part) refl
