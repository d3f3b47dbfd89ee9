-- An array or a dictionary that is the value of an element of a list: where it stands, and that another one in its place is that value exchanged.
use Rattle.meson_steps.proofs.Words.{◌≡◌, ℕ, zero, suc, true, false, List, [], ◌∷◌, ◌++◌, take, drop, Option, Some, refl, sym, ap, ◌∙◌, subst, Bool}
use Rattle.meson_steps.proofs.Words.{if◌then◌else◌, option_map, option_and_then, Word, LevelArguments, LevelListing, LevelFile, expression_depth, listing_depth}
use Rattle.meson_steps.proofs.Words.{holds_pairs, Sort, of_expression, of_statement, of_block, Node, Hole, around, expression_in, arguments_children}
use Rattle.meson_steps.proofs.Words.{listing_children, nth_hole, nth, reach, block_of, with_block, ListIn, list_in, ListAt, list_within, list_of_node, list_at}
use Rattle.meson_steps.proofs.Words.{value_of, Nowhere, Plain, Expression, array, dictionary, call, Listing, listing, Argument, plain, named, pair, Arguments}
use Rattle.meson_steps.proofs.Words.{no_arguments, argument, argument_list, arguments_of, Block, Bracket, some-injective, map-some, and-then-some, list-fits}
use Rattle.meson_steps.proofs.Words.{elements, is_empty, with_elements, with_value, nth_map}
use Rattle.meson_syntax.specs.declared.operator.Bracket.TheVariants as bracket
use Rattle.meson_syntax.proofs.parsing.Complete.{list-of-arguments}

-- ---- the child of a node that is an expression

pub record Child {T : Type 0} (children : Option (Hole Nowhere T)) (v : Expression Nowhere) (put : Expression Nowhere → T) : Type 0 where
  pub before : List Word
  pub behind : List Word
  pub back : Expression Nowhere → T
  pub is : children ≡ Some (expression_in before v behind back)
  pub back_is : (y : Expression Nowhere) → back y ≡ put y

-- the elements with another value in the n-th
abbrev pub exchanged_at : ℕ → Argument Nowhere → List (Argument Nowhere) → Expression Nowhere → List (Argument Nowhere)
exchanged_at n a xs y = take n xs ++ with_value y a ∷ drop (suc n) xs

first_value : (a : Argument Nowhere) (e v : Expression Nowhere) → value_of a ≡ Some e → (b : Argument Nowhere) → a ≡ b → value_of b ≡ Some v → e ≡ v
first_value a e v is b same value = some-injective _ _ (sym is ∙ ap value_of same ∙ value)

value_child : (list : Arguments Nowhere) (b : Bracket) (seen trailing : Bool) (n : ℕ) (a : Argument Nowhere) (v : Expression Nowhere) → holds_pairs b ≡ false → LevelArguments list b seen → nth (argument_list list) n ≡ Some a
    → value_of a ≡ Some v → Child (nth (arguments_children list trailing) n) v (λ y. arguments_of (exchanged_at n a (argument_list list) y))
value_child no_arguments b seen trailing n a v fails level is value = absurd cc
value_child (argument (plain e) more) b seen trailing zero a v fails level is value =
    let same = some-injective (plain e) a is in
    let inside = first_value (plain e) e v refl a same value in
    subst (λ w. Child (nth (arguments_children (argument (plain e) more) trailing) 0) w (λ y. arguments_of (exchanged_at 0 a (argument_list (argument (plain e) more)) y))) inside
    (record {
      before = _;
      behind = _;
      back = λ y. argument (plain y) more;
      is = refl;
      back_is = λ y. ap (λ l. argument (plain y) l) (sym (list-of-arguments more)) ∙ ap (λ x. argument (with_value y x) (arguments_of (argument_list more))) same;
    })
value_child (argument (named s x e) more) b seen trailing zero a v fails level is value =
    let same = some-injective (named s x e) a is in
    let inside = first_value (named s x e) e v refl a same value in
    subst (λ w. Child (nth (arguments_children (argument (named s x e) more) trailing) 0) w (λ y. arguments_of (exchanged_at 0 a (argument_list (argument (named s x e) more)) y))) inside
    (record {
      before = _;
      behind = _;
      back = λ y. argument (named s x y) more;
      is = refl;
      back_is = λ y. ap (λ l. argument (named s x y) l) (sym (list-of-arguments more)) ∙ ap (λ z. argument (with_value y z) (arguments_of (argument_list more))) same;
    })
value_child (argument (pair s e g) more) b seen trailing n a v fails level is value = let both : true ≡ false = sym level.0.0 ∙ fails in absurd cc
value_child (argument (plain e) more) b seen trailing (suc n) a v fails level is value =
    let c = value_child more b false trailing n a v fails level.1 is value in
    record {
      before = _;
      behind = _;
      back = λ y. argument (plain e) (c.back y);
      is = nth_map _ (arguments_children more trailing) n ∙ ap (option_map _) c.is;
      back_is = λ y. ap (argument (plain e)) (c.back_is y);
    }
value_child (argument (named s x e) more) b seen trailing (suc n) a v fails level is value =
    let c = value_child more b true trailing n a v fails level.1 is value in
    record {
      before = _;
      behind = _;
      back = λ y. argument (named s x e) (c.back y);
      is = nth_map _ (arguments_children more trailing) n ∙ ap (option_map _) c.is;
      back_is = λ y. ap (argument (named s x e)) (c.back_is y);
    }

listed_child : (l : Listing Nowhere) (b : Bracket) (n : ℕ) (a : Argument Nowhere) (v : Expression Nowhere) → holds_pairs b ≡ false → LevelListing l b → nth (elements l) n ≡ Some a → value_of a ≡ Some v
    → Child (nth (listing_children l b) n) v (λ y. with_elements l (exchanged_at n a (elements l) y))
listed_child (listing s trailing list) b n a v fails level is value =
    let c = value_child list b false trailing n a v fails level.1 is value in
    record {
      before = _;
      behind = _;
      back = λ y. listing s trailing (c.back y);
      is = nth_map _ (arguments_children list trailing) n ∙ ap (option_map _) c.is;
      back_is = λ y.
          ap (listing s trailing) (c.back_is y)
          ∙ ap (λ t. listing s t (arguments_of (exchanged_at n a (argument_list list) y))) (sym (ap (λ e. if e then false else trailing) (some_elements (take n (argument_list list)) (with_value y a) (drop (suc n) (argument_list list)))));
    }
  where
    some_elements : (xs : List (Argument Nowhere)) (x : Argument Nowhere) (ys : List (Argument Nowhere)) → is_empty (xs ++ x ∷ ys) ≡ false
    some_elements [] x ys = refl
    some_elements (z ∷ xs) x ys = refl

node_child : (e : Expression Nowhere) (l : ListIn Nowhere) (n : ℕ) (a : Argument Nowhere) (v : Expression Nowhere) → list_in e ≡ Some l → holds_pairs l.bracket ≡ false → LevelListing l.list l.bracket → nth (elements l.list) n ≡ Some a → value_of a ≡ Some v
    → Child (nth_hole Nowhere of_expression e n) v (λ y. l.back (with_elements l.list (exchanged_at n a (elements l.list) y)))
node_child (array m) l n a v is none level there value =
    subst (λ (k : ListIn Nowhere). LevelListing k.list k.bracket → nth (elements k.list) n ≡ Some a → Child (nth_hole Nowhere of_expression (array m) n) v (λ y. k.back (with_elements k.list (exchanged_at n a (elements k.list) y)))) (some-injective _ _ is)
    (λ low here.
    let c = listed_child m bracket.Square n a v refl low here value in
    record { before = _; behind = _; back = λ y. array (c.back y); is = nth_map _ (listing_children m bracket.Square) n ∙ ap (option_map _) c.is; back_is = λ y. ap array (c.back_is y) })
    level there
node_child (call s f m) l n a v is none level there value =
    subst (λ (k : ListIn Nowhere). LevelListing k.list k.bracket → nth (elements k.list) n ≡ Some a → Child (nth_hole Nowhere of_expression (call s f m) n) v (λ y. k.back (with_elements k.list (exchanged_at n a (elements k.list) y)))) (some-injective _ _ is)
    (λ low here.
    let c = listed_child m bracket.Round n a v refl low here value in
    record { before = _; behind = _; back = λ y. call s f (c.back y); is = nth_map _ (listing_children m bracket.Round) n ∙ ap (option_map _) c.is; back_is = λ y. ap (call s f) (c.back_is y) })
    level there
node_child (dictionary m) l n a v is none level there value =
    let both : true ≡ false = ap (λ (k : ListIn Nowhere). holds_pairs k.bracket) (some-injective _ _ is) ∙ none in absurd cc
node_child _ l n a v is none level there value = absurd cc

-- ---- along a path

abbrev pub Below : (sort : Sort) (x : Node sort Nowhere) (path : List ℕ) (n : ℕ) (v : Expression Nowhere) (h : Hole Nowhere (Node sort Nowhere)) → Type 0
Below sort x path n v h = (put : Expression Nowhere → Node h.sort Nowhere) → Child (nth_hole Nowhere h.sort h.inside n) v put → Child (reach Nowhere sort x (path ++ n ∷ [])) v (λ y. h.back (put y))

-- what is a child of the node that a path names is below it
pub below : (sort : Sort) (x : Node sort Nowhere) (path : List ℕ) (n : ℕ) (v : Expression Nowhere) (h : Hole Nowhere (Node sort Nowhere)) → reach Nowhere sort x path ≡ Some h → Below sort x path n v h
below sort x [] n v h is =
    subst (Below sort x [] n v) (some-injective _ _ is)
    (λ put c. record { before = _; behind = _; back = c.back; is = ap (option_and_then (λ g. option_map (around g.before g.behind g.back) (reach Nowhere g.sort g.inside []))) c.is; back_is = c.back_is })
below sort x (m ∷ path) n v h is =
    let o = and-then-some (λ g. option_map (around g.before g.behind g.back) (reach Nowhere g.sort g.inside path)) (nth_hole Nowhere sort x m) h is in
    let g = o.0 in
    let i = map-some (around g.before g.behind g.back) (reach Nowhere g.sort g.inside path) h o.2 in
    subst (Below sort x (m ∷ path) n v) i.2
    (λ put c.
    let b = below g.sort g.inside path n v i.0 i.1 put c in
    record {
      before = _;
      behind = _;
      back = λ y. g.back (b.back y);
      is = ap (option_and_then (λ k. option_map (around k.before k.behind k.back) (reach Nowhere k.sort k.inside (path ++ n ∷ [])))) o.1 ∙ ap (option_map (around g.before g.behind g.back)) b.is;
      back_is = λ y. ap g.back (b.back_is y);
    })

-- ---- the list that is the value of an element

-- how a list is an expression: as an array, or as a dictionary
pub record Container : Type 0 where
  pub make : Listing Nowhere → Expression Nowhere
  pub bracket : Bracket
  pub form : (x : Listing Nowhere) → list_in (make x) ≡ Some (record { list = x; bracket = bracket; ahead = []; back = make })
  pub depth : (x : Listing Nowhere) → expression_depth (make x) ≡ listing_depth x

abbrev pub array_container : Container
array_container = record { make = array; bracket = bracket.Square; form = λ x. refl; depth = λ x. refl }

abbrev pub dictionary_container : Container
dictionary_container = record { make = dictionary; bracket = bracket.Curly; form = λ x. refl; depth = λ x. refl }

pub record InnerPlace (k : Container) (t : Plain) (path : List ℕ) (q : ListAt Nowhere) (n : ℕ) (a : Argument Nowhere) (l : Listing Nowhere) : Type 0 where
  pub place : ListAt Nowhere
  pub is_place : list_at t (path ++ n ∷ []) ≡ Some place
  pub list : place.list ≡ l
  pub bracket : place.bracket ≡ k.bracket
  pub back : (m : Listing Nowhere) → place.back m ≡ q.back (with_elements q.list (exchanged_at n a (elements q.list) (k.make m)))

inner_by : (k : Container) (t : Plain) (path : List ℕ) (q : ListAt Nowhere) (n : ℕ) (a : Argument Nowhere) (l : Listing Nowhere) (sort : Sort) (x : Node sort Nowhere) (before behind : List Word) (back : Node sort Nowhere → Block Nowhere)
    → list_of_node Nowhere sort x t before behind back ≡ Some q → holds_pairs q.bracket ≡ false → LevelListing q.list q.bracket → nth (elements q.list) n ≡ Some a → value_of a ≡ Some (k.make l)
    → ((put : Expression Nowhere → Node sort Nowhere) → Child (nth_hole Nowhere sort x n) (k.make l) put → Child (reach Nowhere of_block (block_of t) (path ++ n ∷ [])) (k.make l) (λ y. back (put y)))
    → InnerPlace k t path q n a l
inner_by k t path q n a l of_expression x before behind back is none level there value down =
    let o = map-some (list_within t before behind back) (list_in x) q is in
    let i = o.0 in
    let list = ap (λ (p : ListAt Nowhere). p.list) o.2 in
    let low = subst (λ m. LevelListing m i.bracket) (sym list) (subst (λ b. LevelListing q.list b) (sym (ap (λ (p : ListAt Nowhere). p.bracket) o.2)) level) in
    let here = subst (λ m. nth (elements m) n ≡ Some a) (sym list) there in
    let c = down (λ y. i.back (with_elements i.list (exchanged_at n a (elements i.list) y))) (node_child x i n a (k.make l) o.1 (ap holds_pairs (ap (λ (p : ListAt Nowhere). p.bracket) o.2) ∙ none) low here value) in
    record {
      place = list_within t c.before c.behind c.back (record { list = l; bracket = k.bracket; ahead = []; back = k.make });
      is_place = ap (option_and_then (λ h. list_of_node Nowhere h.sort h.inside t h.before h.behind h.back)) c.is ∙ ap (option_map (list_within t c.before c.behind c.back)) (k.form l);
      list = refl;
      bracket = refl;
      back = λ m. ap (with_block t) (c.back_is (k.make m)) ∙ ap (λ (p : ListAt Nowhere). p.back (with_elements p.list (exchanged_at n a (elements p.list) (k.make m)))) o.2;
    }
inner_by k t path q n a l of_statement x before behind back is none level there value down = absurd cc
inner_by k t path q n a l of_block x before behind back is none level there value down = absurd cc

pub inner_place : (k : Container) (t : Plain) (path : List ℕ) (q : ListAt Nowhere) → list_at t path ≡ Some q → holds_pairs q.bracket ≡ false → LevelFile t → (n : ℕ) (a : Argument Nowhere) (l : Listing Nowhere) → nth (elements q.list) n ≡ Some a → value_of a ≡ Some (k.make l)
    → InnerPlace k t path q n a l
inner_place k t path q is none level n a l there value =
    let o = and-then-some (λ h. list_of_node Nowhere h.sort h.inside t h.before h.behind h.back) (reach Nowhere of_block (block_of t) path) q is in
    let h = o.0 in
    inner_by k t path q n a l h.sort h.inside h.before h.behind h.back o.2 none ((list-fits Nowhere t path q is).level level) there value (below of_block (block_of t) path n (k.make l) h o.1)
