-- What stands at the spots that go, and where it stands.
use Rattle.meson_syntax.specs.declared.operator.Bracket.TheVariants as bracket
use Rattle.meson_sources.proofs.Words.{cons_option, list_any, bytes_eq, if◌then◌else◌, Ok, ok_or, option_and_then, option_map, ◌&&◌, ◌⊎◌, [], ap, ap₂, arith}
use Rattle.meson_sources.proofs.Words.{Bool, false, inl, inr, List, map, None, Option, refl, Some, subst, suc, sym, true, zero, ℕ, ◌++◌, ◌+◌, ◌∙◌, ◌∷◌, ◌≡◌}
use Rattle.meson_sources.proofs.Words.{or_left, or_right, map-append, then_ok, value, Span, an_expression, arguments_parts, listing_parts, LevelArguments}
use Rattle.meson_sources.proofs.Words.{LevelExpression, LevelListing, LevelOperands, holds_pairs, string_kind, nth, Argument, argument, argument_list}
use Rattle.meson_sources.proofs.Words.{Arguments, array, call, Expression, identifier, is_named, Listing, listing, Name, named, no_arguments, no_operands}
use Rattle.meson_sources.proofs.Words.{Nowhere, operand, Operands, pair, Plain, plain, row, string, Bracket, StringKind, child_nodes, node_at, operands_parts}
use Rattle.meson_sources.proofs.Words.{some-injective, Every, every-append, elements, Numbered, rest, sources_key, child, Placed, one_of, CallRef, NotRemovable}
use Rattle.meson_sources.proofs.Words.{are_plus, element, empty, expand_by, expand_each, expand_listing, expand_operands, Expansion, fixed, follow_single}
use Rattle.meson_sources.proofs.Words.{in_list, is_files, Item, known, literal_item, Mark, max_followed, met, of_variable, opaque, operand_at, or_empty, Slot}
use Rattle.meson_sources.proofs.Words.{Stand, items, opaque_count, distinct, then_was, AreSpotsOf, element_spot, goes, has_one_of, is_at, same_spot, has_text}
use Rattle.meson_sources.proofs.Words.{items_of, Spot, spot_of, spots_by, spots_named, spots_of}
use Rattle.meson_sources.proofs.gone.Losses.{no_true}
use Rattle.meson_sources.proofs.gone.Marks.{slot_gone, head_by, item_left, left_of, slot_left}
use Rattle.meson_sources.proofs.gone.Named.{alike, distinct_named, named_distinct, some_of, every_weaker}
use Rattle.meson_sources.proofs.gone.Spots.{both_true, same_one}
use Rattle.meson_sources.proofs.gone.Twice.{spot_left}
use Rattle.meson_sources.proofs.met.Arguments.{no_pair, keyed, list_with, plains, whole}
use Rattle.meson_sources.proofs.met.Files.{NamedGoes, unknown_left}
use Rattle.meson_sources.proofs.met.Marks.{Values, expand_with, lists_by, bare_mark}
use Rattle.meson_sources.proofs.trees.Elements.{root, Node, element_any}
use Rattle.meson_sources.proofs.trees.Places.{node_between}
use Rattle.meson_sources.proofs.trees.Scenes.{NodeIn}

-- ==== Each known source stands where its slot says: its string has its text as value, and its list is one of sources.

-- an array, or a call of `files` without names
abbrev pub IsSources : Node → Type 0
IsSources y = ((l : Listing Nowhere) × (y ≡ an_expression (array l))) ⊎ ((t : Nowhere) × (f : Name Nowhere) × (l : Listing Nowhere) × (y ≡ an_expression (call t f l)) × (is_files f.text l ≡ true))

-- behind the first argument without a name none is such
abbrev pub FirstOf : (ℕ → Type 0) → ℕ → Arguments Nowhere → Type 0
FirstOf is_first n no_arguments = Unit {0}
FirstOf is_first n (argument (plain e) more) = (k : ℕ) → is_first ((n + 1) + k) → ⊥
FirstOf is_first n (argument (named t x e) more) = FirstOf is_first (n + 1) more
FirstOf is_first n (argument (pair t e f) more) = FirstOf is_first (n + 1) more

-- `Fine` says of the element of a number of a list at a place what holds of all sources in it
module _ (trees : List Plain) (Fine : CallRef → ℕ → Node → Type 0) (fine : (c : CallRef) (n : ℕ) (y : Node) → NodeIn trees c y → IsSources y → Fine c n y) where
  -- the element of this number of the list at the place
  pub record Element (c : CallRef) (n : ℕ) (e : Expression Nowhere) : Type 0 where
    pub node : Node
    pub is : NodeIn trees c node
    pub element_is : element_any node n ≡ Some (plain e)
    pub is_fine : Fine c n node

  abbrev pub SlotHolds : Slot → Expression Nowhere → Type 0
  SlotHolds (in_list c n) e = Element c n e
  SlotHolds fixed e = Unit {0}

  pub record StringHeld (c : CallRef) (n : ℕ) (text : List ℕ) : Type 0 where
    pub kind : StringKind
    pub word : List ℕ
    pub is_value : value (string_kind kind) word ≡ Some text
    pub held : Element c n (string tt kind word)

  abbrev pub TextHeld : Slot → List ℕ → Type 0
  TextHeld (in_list c n) text = StringHeld c n text
  TextHeld fixed text = Unit {0}

  abbrev pub Holds : Mark Nowhere → Type 0
  Holds (known i) = TextHeld i.slot i.text
  Holds opaque = Unit {0}
  Holds (empty p) = Unit {0}

  abbrev AllHold : List (Mark Nowhere) → Type 0
  AllHold ms = Every Holds ms

  text_held : (slot : Slot) (q : StringKind) (x text : List ℕ) → value (string_kind q) x ≡ Some text → SlotHolds slot (string tt q x) → TextHeld slot text
  text_held (in_list c n) q x text is held = record { kind = q; word = x; is_value = is; held = held }
  text_held fixed q x text is held = tt

  or_holds : (p : CallRef) (ms : List (Mark Nowhere)) → AllHold ms → AllHold (or_empty p ms)
  or_holds p [] all = (tt, tt)
  or_holds p (m ∷ ms) all = all

  either_holds : (b : Bool) (e : Expansion Nowhere) (f : List (List ℕ)) → (b ≡ true → AllHold e.marks) → AllHold (if b then e else met opaque f).marks
  either_holds true e f all = all refl
  either_holds false e f all = (tt, tt)

  child_in : (p : CallRef) (y x : Node) (n : ℕ) → NodeIn trees p y → nth (child_nodes y) n ≡ Some x → NodeIn trees (child p n) x
  child_in p y x n h is = record { tree = h.tree; is_tree = h.is_tree; is_node = node_between p.path.steps (n ∷ []) (root h.tree) y h.is_node ∙ ap (option_and_then (λ z. node_at z [])) is }

  module _ (lists : Expression Nowhere → Bool) (follow : List ℕ → List (List ℕ) → Expansion Nowhere) (follows : (x : List ℕ) (f : List (List ℕ)) → AllHold (follow x f).marks) where
    literal_holds : (q : StringKind) (x : List ℕ) (s : Stand) (f : List (List ℕ)) → SlotHolds s.slot (string tt q x) → (o : Option (List ℕ)) → value (string_kind q) x ≡ o → AllHold (literal_item {S = Nowhere} tt s f o).marks
    literal_holds q x s f slot None is = (tt, tt)
    literal_holds q x s f slot (Some text) is = (text_held s.slot q x text is slot, tt)

    -- the elements of a list from the n-th on
    record ElementsFrom (br : Bracket) (xs : Arguments Nowhere) (c : CallRef) (y : Node) (n : ℕ) (named_before : Bool) : Type 0 where
      level : LevelArguments xs br named_before
      children : (j : ℕ) (x : Node) → nth (arguments_parts xs) j ≡ Some x → nth (child_nodes y) (n + j) ≡ Some x
      elements_are : (j : ℕ) (a : Argument Nowhere) → nth (argument_list xs) j ≡ Some a → element_any y (n + j) ≡ Some a

    mutual
      pub expression_holds : (e : Expression Nowhere) (s : Stand) (f : List (List ℕ)) → LevelExpression e → NodeIn trees s.place (an_expression e) → SlotHolds s.slot e → AllHold (expand_by lists follow e s f).marks
      expression_holds (string t q x) s f level h slot = literal_holds q x s f slot (value (string_kind q) x) refl
      expression_holds (array l) s f level h slot =
          or_holds s.place _ (listing_holds bracket.Square refl l s f level (an_expression (array l)) h (λ n. fine s.place n (an_expression (array l)) h (inl (l, refl))) (λ j x is. is) (λ j a is. is))
      expression_holds (call t g l) s f level h slot =
          either_holds (is_files g.text l) _ f (λ files.
          or_holds s.place _ (listing_holds bracket.Round refl l s f level (an_expression (call t g l)) h (λ n. fine s.place n (an_expression (call t g l)) h (inr (t, g, l, refl, files))) (λ j x is. is) (λ j a is. is)))
      expression_holds (identifier t x) s f level h slot = go (one_of f x)
        where
          go : (b : Bool) → AllHold (if b then met opaque f else follow x f).marks
          go true = (tt, tt)
          go false = follows x f
      expression_holds (row t e os) s f level h slot =
          let first = expand_by lists follow e (operand_at s 0) f in
          either_holds (are_plus os && lists e) _ f (λ sum.
          every-append Holds first.marks (expand_operands lists follow os 1 s first.followed).marks
          (expression_holds e (operand_at s 0) f level.2 (child_in s.place (an_expression (row t e os)) (an_expression e) 0 h refl) tt)
          (operands_hold os 1 s first.followed _ level.3 (λ j x is. let k : suc j ≡ 1 + j = omega arith in subst (λ k. NodeIn trees (child s.place k) x) k (child_in s.place (an_expression (row t e os)) x (suc j) h is))))
      expression_holds _ s f level h slot = (tt, tt)

      operands_hold : (os : Operands Nowhere) (n : ℕ) (s : Stand) (f : List (List ℕ)) (loose : ℕ) → LevelOperands os loose → ((j : ℕ) (x : Node) → nth (operands_parts os) j ≡ Some x → NodeIn trees (child s.place (n + j)) x)
          → AllHold (expand_operands lists follow os n s f).marks
      operands_hold no_operands n s f loose level all = tt
      operands_hold (operand o e more) n s f loose level all =
          let first = expand_by lists follow e (operand_at s n) f in
          let z : n + 0 ≡ n = omega arith in
          every-append Holds first.marks (expand_operands lists follow more (n + 1) s first.followed).marks
          (expression_holds e (operand_at s n) f level.2 (subst (λ k. NodeIn trees (child s.place k) (an_expression e)) z (all 0 (an_expression e) refl)) tt)
          (operands_hold more (n + 1) s first.followed loose level.3 (λ j x is. let k : n + suc j ≡ (n + 1) + j = omega arith in subst (λ k. NodeIn trees (child s.place k) x) k (all (suc j) x is)))

      listing_holds : (br : Bracket) → holds_pairs br ≡ false → (l : Listing Nowhere) (s : Stand) (f : List (List ℕ)) → LevelListing l br → (y : Node) → NodeIn trees s.place y → ((n : ℕ) → Fine s.place n y)
          → ((j : ℕ) (x : Node) → nth (listing_parts l) j ≡ Some x → nth (child_nodes y) j ≡ Some x) → ((j : ℕ) (a : Argument Nowhere) → nth (elements l) j ≡ Some a → element_any y j ≡ Some a)
          → AllHold (expand_listing lists follow l s f).marks
      listing_holds br none (listing t trailing xs) s f level y h fines children are = each_holds br none xs 0 s f y h fines false (record {
        level = level.1;
        children = λ j x is. let k : j ≡ 0 + j = omega arith in ap (nth (child_nodes y)) (sym k) ∙ children j x is;
        elements_are = λ j a is. let k : j ≡ 0 + j = omega arith in ap (element_any y) (sym k) ∙ are j a is;
      })

      each_holds : (br : Bracket) → holds_pairs br ≡ false → (xs : Arguments Nowhere) (n : ℕ) (s : Stand) (f : List (List ℕ)) (y : Node) → NodeIn trees s.place y → ((k : ℕ) → Fine s.place k y) → (nb : Bool) → ElementsFrom br xs s.place y n nb
          → AllHold (expand_each lists follow xs n s f).marks
      each_holds br none no_arguments n s f y h fines nb i = tt
      each_holds br none (argument (plain e) more) n s f y h fines nb i =
          let first = expand_by lists follow e (element s n) f in
          let z : n + 0 ≡ n = omega arith in
          every-append Holds first.marks (expand_each lists follow more (n + 1) s first.followed).marks
          (expression_holds e (element s n) f i.level.0.2 (child_in s.place y (an_expression e) n h (ap (nth (child_nodes y)) (sym z) ∙ i.children 0 (an_expression e) refl))
          (record { node = y; is = h; element_is = ap (element_any y) (sym z) ∙ i.elements_are 0 (plain e) refl; is_fine = fines n }))
          (each_holds br none more (n + 1) s first.followed y h fines false (record {
            level = i.level.1;
            children = λ j x is. let k : n + suc j ≡ (n + 1) + j = omega arith in ap (nth (child_nodes y)) (sym k) ∙ i.children (suc j) x is;
            elements_are = λ j a is. let k : n + suc j ≡ (n + 1) + j = omega arith in ap (element_any y) (sym k) ∙ i.elements_are (suc j) a is;
          }))
      each_holds br none (argument (named t w e) more) n s f y h fines nb i = (
        tt,
        each_holds br none more (n + 1) s f y h fines true (record {
          level = i.level.1;
          children = λ j x is. let k : n + suc j ≡ (n + 1) + j = omega arith in ap (nth (child_nodes y)) (sym k) ∙ i.children (suc j) x is;
          elements_are = λ j a is. let k : n + suc j ≡ (n + 1) + j = omega arith in ap (element_any y) (sym k) ∙ i.elements_are (suc j) a is;
        }),
      )
      each_holds br none (argument (pair t e d) more) n s f y h fines nb i = let level = i.level in let both : true ≡ false = sym level.0.0 ∙ none in absurd cc

  -- ---- behind variables

  module _ (values : Values) (stand : (x : List ℕ) (v : Placed (Expression Nowhere)) → values x ≡ Some v → NodeIn trees v.place (an_expression v.it) × LevelExpression v.it) where
    followed_hold : (left : ℕ) → ((e : Expression Nowhere) (s : Stand) (f : List (List ℕ)) → LevelExpression e → NodeIn trees s.place (an_expression e) → SlotHolds s.slot e → AllHold (expand_with values left e s f).marks)
        → (x : List ℕ) (f : List (List ℕ)) → AllHold (follow_single (expand_with values left) x f (values x)).marks
    followed_hold left each x f = go (values x) refl
      where
        go : (o : Option (Placed (Expression Nowhere))) → values x ≡ o → AllHold (follow_single (expand_with values left) x f o).marks
        go None is = (tt, tt)
        go (Some v) is = let s = stand x v is in each v.it (of_variable x v.place) (x ∷ f) s.1 s.0 tt

    pub expand_holds : (left : ℕ) (e : Expression Nowhere) (s : Stand) (f : List (List ℕ)) → LevelExpression e → NodeIn trees s.place (an_expression e) → SlotHolds s.slot e → AllHold (expand_with values left e s f).marks
    unfolding lists_by
    expand_holds zero = expression_holds (lists_by values) (λ x f. met opaque f) (λ x f. (tt, tt))
    expand_holds (suc left) = expression_holds (lists_by values) (λ x f. follow_single (expand_with values left) x f (values x)) (λ x f. followed_hold left (expand_holds left) x f)

    -- ---- the arguments of a call

    module _ (c : CallRef) (y : Node) (h : NodeIn trees c y) (is_first : ℕ → Type 0) (fine_call : (n : ℕ) → (is_first n → ⊥) → Fine c n y) where
      abbrev one : Expression Nowhere → Stand → List (List ℕ) → Expansion Nowhere
      one = expand_with values max_followed

      pub record CallFrom (xs : Arguments Nowhere) (n : ℕ) (named_before : Bool) : Type 0 where
        pub level : LevelArguments xs bracket.Round named_before
        pub children : (j : ℕ) (x : Node) → nth (arguments_parts xs) j ≡ Some x → nth (child_nodes y) (n + j) ≡ Some x
        pub elements_are : (j : ℕ) (a : Argument Nowhere) → nth (argument_list xs) j ≡ Some a → element_any y (n + j) ≡ Some a

      here : (e : Expression Nowhere) (more : Arguments Nowhere) (a : Argument Nowhere) (n : ℕ) (nb : Bool) → arguments_parts (argument a more) ≡ an_expression e ∷ arguments_parts more → CallFrom (argument a more) n nb → NodeIn trees (child c n) (an_expression e)
      here e more a n nb one i = let z : n + 0 ≡ n = omega arith in child_in c y (an_expression e) n h (ap (nth (child_nodes y)) (sym z) ∙ i.children 0 (an_expression e) (ap (λ ps. nth ps 0) one))

      further : (a : Argument Nowhere) (x : Node) (more : Arguments Nowhere) (n : ℕ) (nb : Bool) → arguments_parts (argument a more) ≡ x ∷ arguments_parts more → CallFrom (argument a more) n nb → CallFrom more (n + 1) (is_named a)
      further a x more n nb one i = record {
        level = i.level.1;
        children = λ j z is. let k : n + suc j ≡ (n + 1) + j = omega arith in ap (nth (child_nodes y)) (sym k) ∙ i.children (suc j) z (ap (λ ps. nth ps (suc j)) one ∙ is);
        elements_are = λ j b is. let k : n + suc j ≡ (n + 1) + j = omega arith in ap (element_any y) (sym k) ∙ i.elements_are (suc j) b is;
      }

      plains_hold : (xs : Arguments Nowhere) (n : ℕ) (nb : Bool) → CallFrom xs n nb → ((k : ℕ) → is_first (n + k) → ⊥) → (f : List (List ℕ)) → AllHold (list_with one c (in_list c) (plains n xs) f).marks
      plains_hold no_arguments n nb i later f = tt
      plains_hold (argument (plain e) more) n nb i later f =
          let z : n + 0 ≡ n = omega arith in
          let first = one e (record { place = child c n; slot = in_list c n; variable = None }) f in
          every-append Holds first.marks (list_with one c (in_list c) (plains (n + 1) more) first.followed).marks
          (expand_holds max_followed e (record { place = child c n; slot = in_list c n; variable = None }) f i.level.0.2 (here e more (plain e) n nb refl i)
          (record { node = y; is = h; element_is = ap (element_any y) (sym z) ∙ i.elements_are 0 (plain e) refl; is_fine = fine_call n (subst (λ k. is_first k → ⊥) z (later 0)) }))
          (plains_hold more (n + 1) false (further (plain e) (an_expression e) more n nb refl i) (λ k. let s : n + suc k ≡ (n + 1) + k = omega arith in subst (λ k. is_first k → ⊥) s (later (suc k))) first.followed)
      plains_hold (argument (named t x e) more) n nb i later f =
          plains_hold more (n + 1) true (further (named t x e) (an_expression e) more n nb refl i) (λ k. let s : n + suc k ≡ (n + 1) + k = omega arith in subst (λ k. is_first k → ⊥) s (later (suc k))) f
      plains_hold (argument (pair t e d) more) n nb i later f = let level = i.level in absurd (no_pair level.0.0)

      rest_hold : (xs : Arguments Nowhere) (n : ℕ) (nb : Bool) → CallFrom xs n nb → FirstOf is_first n xs → (f : List (List ℕ)) → AllHold (list_with one c (in_list c) (rest (plains n xs)) f).marks
      rest_hold no_arguments n nb i first f = tt
      rest_hold (argument (plain e) more) n nb i first f = plains_hold more (n + 1) false (further (plain e) (an_expression e) more n nb refl i) first f
      rest_hold (argument (named t x e) more) n nb i first f = rest_hold more (n + 1) true (further (named t x e) (an_expression e) more n nb refl i) first f
      rest_hold (argument (pair t e d) more) n nb i first f = let level = i.level in absurd (no_pair level.0.0)

      key_holds : (z : Bool) (e : Expression Nowhere) (n : ℕ) (us : List (Numbered (Expression Nowhere))) → LevelExpression e → NodeIn trees (child c n) (an_expression e) → ((f : List (List ℕ)) → AllHold (list_with one c (λ n. fixed) us f).marks)
          → (f : List (List ℕ)) → AllHold (list_with one c (λ n. fixed) (cons_option (option_map (λ v. record { number = n; value = v }) (if z then Some e else None)) us) f).marks
      key_holds true e n us level at more f =
          let first = one e (record { place = child c n; slot = fixed; variable = None }) f in
          every-append Holds first.marks (list_with one c (λ n. fixed) us first.followed).marks (expand_holds max_followed e (record { place = child c n; slot = fixed; variable = None }) f level at tt) (more first.followed)
      key_holds false e n us level at more f = more f

      pub keyed_hold : (key : List ℕ) (xs : Arguments Nowhere) (n : ℕ) (nb : Bool) → CallFrom xs n nb → (f : List (List ℕ)) → AllHold (list_with one c (λ n. fixed) (keyed key n xs) f).marks
      keyed_hold key no_arguments n nb i f = tt
      keyed_hold key (argument (plain e) more) n nb i f = keyed_hold key more (n + 1) false (further (plain e) (an_expression e) more n nb refl i) f
      keyed_hold key (argument (named t x e) more) n nb i f =
          key_holds (bytes_eq x.text key) e n (keyed key (n + 1) more) i.level.0.1 (here e more (named t x e) n nb refl i) (keyed_hold key more (n + 1) true (further (named t x e) (an_expression e) more n nb refl i)) f
      keyed_hold key (argument (pair t e d) more) n nb i f = let level = i.level in absurd (no_pair level.0.0)

      pub whole_holds : (xs : Arguments Nowhere) → CallFrom xs 0 false → FirstOf is_first 0 xs → (f : List (List ℕ)) → AllHold (whole one c xs f).marks
      whole_holds xs i first f =
          let o = list_with one c (in_list c) (rest (plains 0 xs)) f in
          every-append Holds o.marks (list_with one c (λ n. fixed) (keyed sources_key 0 xs) o.followed).marks (rest_hold xs 0 false i first f) (keyed_hold sources_key xs 0 false i o.followed)

-- ==== At each spot that goes stands a source with one of the names that are removed, and each such source stands at one.

pub same_there : (trees : List Plain) (p : CallRef) (y z : Node) → NodeIn trees p y → NodeIn trees p z → z ≡ y
same_there trees p y z m n =
    let same_tree : n.tree ≡ m.tree = some-injective _ _ (sym n.is_tree ∙ m.is_tree) in
    some-injective z y (sym n.is_node ∙ ap (λ t. node_at (root t) p.path.steps) same_tree ∙ m.is_node)

none_true : (xs : List Spot) → list_any (λ s. false) xs ≡ true → ⊥
none_true [] is = cc
none_true (x ∷ xs) is = none_true xs is

module _ (trees : List Plain) (Fine : CallRef → ℕ → Node → Type 0) (fine : (c : CallRef) (n : ℕ) (y : Node) → NodeIn trees c y → IsSources y → Fine c n y) where
  abbrev pub Held : Item Span → Type 0
  Held i = TextHeld trees Fine fine i.slot i.text

  -- the same of the items of marks
  pub items_held : (ms : List (Mark Span)) → Every (Holds trees Fine fine) (map bare_mark ms) → Every Held (items ms)
  items_held [] all = tt
  items_held (known i ∷ ms) all = (all.0, items_held ms all.1)
  items_held (opaque ∷ ms) all = items_held ms all.1
  items_held (empty p ∷ ms) all = items_held ms all.1

  -- the string of an element has one value
  pub one_text : (c : CallRef) (n : ℕ) (x y : List ℕ) → StringHeld trees Fine fine c n x → StringHeld trees Fine fine c n y → y ≡ x
  one_text c n x y one other =
      let node = same_there trees c one.held.node other.held.node one.held.is other.held.is in
      let element : plain (string tt other.kind other.word) ≡ plain (string tt one.kind one.word) = some-injective _ _ (sym other.held.element_is ∙ ap (λ z. element_any z n) node ∙ one.held.element_is) in
      let kinds : other.kind ≡ one.kind = cc in
      let words : other.word ≡ one.word = cc in
      some-injective y x (sym other.is_value ∙ ap (λ k. value (string_kind k) other.word) kinds ∙ ap (value (string_kind one.kind)) words ∙ one.is_value)

  module _ (names : List (List ℕ)) (is : List (Item Span)) (held : Every Held is) (spots : List Spot) (of_names : AreSpotsOf is (distinct names) spots) where
    abbrev Only : Spot → Type 0
    Only s = list_any (λ i. has_one_of (distinct names) i && is_at s i.slot) is ≡ true

    -- what stands at a spot
    pub record SpotHeld (c : CallRef) (n : ℕ) : Type 0 where
      pub text : List ℕ
      pub string_held : StringHeld trees Fine fine c n text
      pub is_named : one_of names text ≡ true

    spot_held : (s : Spot) → Only s → SpotHeld s.list s.number
    spot_held s only =
        let o = some_of (λ i. has_one_of (distinct names) i && is_at s i.slot) Held is held only in
        let both = both_true (has_one_of (distinct names) o.it) (is_at s o.it.slot) o.is in
        record { text = o.it.text; string_held = go o.it.slot o.it.text both.1 o.holds; is_named = distinct_named o.it.text names both.0 }
      where
        go : (slot : Slot) (text : List ℕ) → is_at s slot ≡ true → TextHeld trees Fine fine slot text → StringHeld trees Fine fine s.list s.number text
        go (in_list q k) text at holds = subst (λ (u : Spot). StringHeld trees Fine fine u.list u.number text) (sym (same_one s (element_spot q k) at)) holds
        go fixed text at holds = absurd cc

    pub gone_held : (c : CallRef) (n : ℕ) → goes spots c n ≡ true → SpotHeld c n
    gone_held c n gone =
        let o = some_of (λ s. same_spot s (element_spot c n)) Only spots of_names.only gone in
        subst (λ (u : Spot). SpotHeld u.list u.number) (same_one o.it (element_spot c n) o.is) (spot_held o.it o.holds)

    one_named : (i : Item Span) → Held i → (has_one_of (distinct names) i ≡ true → list_any (λ s. is_at s i.slot) spots ≡ true) → NamedGoes (goes spots) names i
    one_named i holds each = alike (slot_gone (goes spots) i.slot) (one_of names i.text) (forth i.slot i.text holds) (λ is_one. back i.slot (each (named_distinct i.text names is_one)))
      where
        forth : (slot : Slot) (text : List ℕ) → TextHeld trees Fine fine slot text → slot_gone (goes spots) slot ≡ true → one_of names text ≡ true
        forth (in_list c n) text holds gone = let h = gone_held c n gone in ap (one_of names) (one_text c n h.text text h.string_held holds) ∙ h.is_named
        forth fixed text holds gone = absurd cc

        back : (slot : Slot) → list_any (λ s. is_at s slot) spots ≡ true → slot_gone (goes spots) slot ≡ true
        back (in_list c n) there = there
        back fixed there = absurd (none_true spots there)

    pub all_named : Every (NamedGoes (goes spots) names) is
    all_named = over is held of_names.each
      where
        over : (js : List (Item Span)) → Every Held js → Every (λ i. has_one_of (distinct names) i ≡ true → list_any (λ s. is_at s i.slot) spots ≡ true) js → Every (NamedGoes (goes spots) names) js
        over [] one other = tt
        over (j ∷ js) one other = (one_named j one.0 other.0, over js one.1 other.1)

-- ==== The spots of names after strings of other names have gone: those before, moved.

module _ (gone : CallRef → ℕ → Bool) where
  one_left : (slot : Slot) (o : Option (List Spot))
      → option_and_then (λ spot. option_map (λ spots. spot ∷ spots) (option_map (map (spot_left gone)) o)) (spot_of (slot_left gone slot)) ≡ option_map (map (spot_left gone)) (option_and_then (λ spot. option_map (λ spots. spot ∷ spots) o) (spot_of slot))
  one_left (in_list c n) None = refl
  one_left (in_list c n) (Some spots) = refl
  one_left fixed o = refl

  module _ {S : Type 0} where
    -- if it has the name it has not gone
    abbrev Stays : List ℕ → Item S → Type 0
    Stays name i = has_text name i ≡ true → slot_gone gone i.slot ≡ false

    items_left : (name : List ℕ) (ms : List (Mark S)) → Every (Stays name) (items ms) → items_of name (left_of gone ms) ≡ map (item_left gone) (items_of name ms)
    items_left name [] all = refl
    items_left name (known i ∷ ms) all = by_slot (slot_gone gone i.slot) all.0 (items_left name ms all.1)
      where
        by_text : (b : Bool) → items_of name (left_of gone ms) ≡ map (item_left gone) (items_of name ms)
            → (if b then item_left gone i ∷ items_of name (left_of gone ms) else items_of name (left_of gone ms)) ≡ map (item_left gone) (if b then i ∷ items_of name ms else items_of name ms)
        by_text true more = ap (λ l. item_left gone i ∷ l) more
        by_text false more = more

        by_slot : (c : Bool) → (has_text name i ≡ true → c ≡ false) → items_of name (left_of gone ms) ≡ map (item_left gone) (items_of name ms)
            → items_of name (head_by c (item_left gone i) (left_of gone ms)) ≡ map (item_left gone) (if has_text name i then i ∷ items_of name ms else items_of name ms)
        by_slot true stays more =
            let other = no_true (has_text name i) (λ is_one. let both : true ≡ false = stays is_one in cc) in
            more ∙ ap (λ b. map (item_left gone) (if b then i ∷ items_of name ms else items_of name ms)) (sym other)
        by_slot false stays more = by_text (has_text name i) more
    items_left name (opaque ∷ ms) all = items_left name ms all
    items_left name (empty p ∷ ms) all = items_left name ms all

    spots_left : (is : List (Item S)) → spots_of (map (item_left gone) is) ≡ option_map (map (spot_left gone)) (spots_of is)
    spots_left [] = refl
    spots_left (i ∷ is) = ap (λ o. option_and_then (λ spot. option_map (λ spots. spot ∷ spots) o) (spot_of (slot_left gone i.slot))) (spots_left is) ∙ one_left i.slot (spots_of is)

    by_left : (n : ℕ) (is : List (Item S)) (spots : List Spot) → spots_by n is ≡ Ok spots → spots_by n (map (item_left gone) is) ≡ Ok (map (spot_left gone) spots)
    by_left n [] spots is_ok = absurd cc
    by_left n (i ∷ is) spots is_ok = ap (λ o. ok_or o NotRemovable) (spots_left (i ∷ is)) ∙ go (spots_of (i ∷ is)) is_ok
      where
        go : (o : Option (List Spot)) → ok_or o NotRemovable ≡ Ok spots → ok_or (option_map (map (spot_left gone)) o) NotRemovable ≡ Ok (map (spot_left gone) spots)
        go None found = absurd cc
        go (Some here) found = let same : here ≡ spots = cc in ap (λ l. Ok (map (spot_left gone) l)) same

    -- if it has one of the names it has not gone
    abbrev pub StaysOf : List (List ℕ) → Item S → Type 0
    StaysOf names i = list_any (λ name. has_text name i) names ≡ true → slot_gone gone i.slot ≡ false

    pub named_spots_left : (ms : List (Mark S)) (names : List (List ℕ)) → Every (StaysOf names) (items ms) → (spots : List Spot) → spots_named ms names ≡ Ok spots → spots_named (left_of gone ms) names ≡ Ok (map (spot_left gone) spots)
    named_spots_left ms [] all spots is = let same : [] ≡ spots = cc in ap (λ l. Ok (map (spot_left gone) l)) same
    named_spots_left ms (name ∷ more) all spots is =
        let a = then_was (spots_by (opaque_count ms) (items_of name ms)) (λ here. then_ok (spots_named ms more) (λ later. Ok (here ++ later))) spots is in
        let b = then_was (spots_named ms more) (λ later. Ok (a.0 ++ later)) spots a.2 in
        let same : a.0 ++ b.0 ≡ spots = let h = b.2 in cc in
        let one = every_weaker (StaysOf (name ∷ more)) (Stays name) (λ i stays is_one. stays (or_left (has_text name i) (list_any (λ x. has_text x i) more) is_one)) (items ms) all in
        let others = every_weaker (StaysOf (name ∷ more)) (StaysOf more) (λ i stays is_one. stays (or_right (has_text name i) (list_any (λ x. has_text x i) more) is_one)) (items ms) all in
        let here = ap₂ spots_by (unknown_left gone ms) (items_left name ms one) ∙ by_left (opaque_count ms) (items_of name ms) a.0 a.1 in
        ap₂ (λ x y. then_ok x (λ first. then_ok y (λ later. Ok (first ++ later)))) here (named_spots_left ms more others b.0 b.1)
        ∙ ap Ok (sym (map-append (spot_left gone) a.0 b.0) ∙ ap (map (spot_left gone)) same)
