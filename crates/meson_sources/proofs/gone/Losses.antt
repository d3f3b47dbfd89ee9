-- Expressions and nodes of trees that have lost strings.
use Rattle.meson_syntax.specs.declared.operator.Bracket.TheVariants as bracket
use Rattle.meson_edit.proofs.paths.Mapped.{nth_map}
use Rattle.meson_sources.proofs.Words.{All, bytes_eq, codes, if◌then◌else◌, not, option_and_then, option_map, ◌&&◌, ◌⊎◌, [], ap, append-nil, ap₂, arith, Bool}
use Rattle.meson_sources.proofs.Words.{false, inl, inr, List, map, None, refl, Some, subst, suc, sym, true, zero, ℕ, ◌++◌, ◌+◌, ◌∙◌, ◌∷◌, ◌≡◌, value}
use Rattle.meson_sources.proofs.Words.{an_expression, arguments_parts, listing_parts, LevelArguments, LevelExpression, LevelListing, LevelOperands, holds_pairs}
use Rattle.meson_sources.proofs.Words.{string_kind, nth, Argument, argument, argument_list, Arguments, arguments_of, array, call, dictionary, Expression, file}
use Rattle.meson_sources.proofs.Words.{identifier, Listing, listing, Name, named, no_arguments, no_operands, Nowhere, operand, Operands, pair, Plain, plain}
use Rattle.meson_sources.proofs.Words.{row, string, Bracket, StringKind, child_nodes, node_at, operands_parts, some-injective, Every, and-then-some, map-some}
use Rattle.meson_sources.proofs.Words.{elements, is_empty, child, place, CallRef, plain_holds, are_plus, expand_by, Expansion, has_names, is_files}
use Rattle.meson_sources.proofs.Words.{is_operand_by, is_plus, is_value_by, met, opaque, Stand, MayStandBetween, arguments_without, but, each_without}
use Rattle.meson_sources.proofs.Words.{expression_without, from_child, Gone, listing_without, operands_without, tree_without}
use Rattle.meson_sources.proofs.gone.Places.{Fits, Stands, any_without, before_all, left_before, node_left, path_left, under_is, under_path, left_same}
use Rattle.meson_sources.proofs.met.Ways.{node_level}
use Rattle.meson_sources.proofs.trees.Elements.{IsStringElement, Node, element_any, list_any, root, HasOnePart, part, parts_of_each, string_child, list_parts}
use Rattle.meson_sources.proofs.trees.Elements.{one_part}
use Rattle.meson_sources.proofs.trees.Places.{node_between}
use Rattle.meson_sources.proofs.trees.Scenes.{NodeIn}

-- ==== An expression without strings that have gone from its lists: as it is in trees before and after a removal.

-- a string that has a value
pub record Valued (a : Argument Nowhere) : Type 0 where
  pub kind : StringKind
  pub word : List ℕ
  pub text : List ℕ
  pub is_string : a ≡ plain (string tt kind word)
  pub is_value : value (string_kind kind) word ≡ Some text

-- what holds no sources that are known
abbrev pub holds_none : Expression Nowhere → Bool
holds_none (string t q x) = false
holds_none (identifier t x) = false
holds_none (array l) = false
holds_none (call t f l) = false
holds_none (row t e os) = false
holds_none _ = true

-- The elements of these numbers of the lists at these places have gone.
module _ (gone : CallRef → ℕ → Bool) where
  abbrev mutual
    -- what stood at the place, and what stands there now
    pub Loses : CallRef → Expression Nowhere → Expression Nowhere → Type 0
    Loses c (string t q x) now = now ≡ string t q x
    Loses c (identifier t x) now = now ≡ identifier t x
    Loses c (array l) now = (m : Listing Nowhere) × (now ≡ array m) × ListLoses c l m
    Loses c (call t f l) now = (g : Name Nowhere) × (m : Listing Nowhere) × (now ≡ call tt g m) × (g.text ≡ f.text) × ListLoses c l m
    Loses c (row t e os) now = (d : Expression Nowhere) × (ps : Operands Nowhere) × (now ≡ row tt d ps) × Loses (child c 0) e d × OperandsLose c 1 os ps × ((k : ℕ) → gone c k ≡ false)
    Loses c _ now = holds_none now ≡ true

    -- the operands of a row from the n-th on
    pub OperandsLose : CallRef → ℕ → Operands Nowhere → Operands Nowhere → Type 0
    OperandsLose c n no_operands ps = ps ≡ no_operands
    OperandsLose c n (operand o e more) ps = (d : Expression Nowhere) × (later : Operands Nowhere) × (ps ≡ operand o d later) × Loses (child c n) e d × OperandsLose c (n + 1) more later

    pub ListLoses : CallRef → Listing Nowhere → Listing Nowhere → Type 0
    ListLoses c (listing t trailing list) m = (z : Bool) × (ys : Arguments Nowhere) × (m ≡ listing tt z ys) × EachLoses c 0 list ys

    -- the elements from the n-th on
    pub EachLoses : CallRef → ℕ → Arguments Nowhere → Arguments Nowhere → Type 0
    EachLoses c n no_arguments ys = ys ≡ no_arguments
    EachLoses c n (argument a more) ys =
        ((gone c n ≡ true) × Valued a × EachLoses c (n + 1) more ys)
        ⊎ ((gone c n ≡ false) × (b : Argument Nowhere) × (zs : Arguments Nowhere) × (ys ≡ argument b zs) × ArgumentLoses (child c n) a b × EachLoses c (n + 1) more zs)

    pub ArgumentLoses : CallRef → Argument Nowhere → Argument Nowhere → Type 0
    ArgumentLoses c (plain e) b = (d : Expression Nowhere) × (b ≡ plain d) × Loses c e d
    ArgumentLoses c (named t x e) b = (y : Name Nowhere) × (d : Expression Nowhere) × (b ≡ named tt y d) × (y.text ≡ x.text) × Loses c e d
    ArgumentLoses c (pair t e f) b = (d : Expression Nowhere) × (g : Expression Nowhere) × (b ≡ pair tt d g)

  -- ---- which are lists

  names_stay : (c : CallRef) (n : ℕ) (xs ys : Arguments Nowhere) → EachLoses c n xs ys → has_names ys ≡ has_names xs
  names_stay c n no_arguments ys l = ap has_names l
  names_stay c n (argument a more) ys (inl l) = names_stay c (n + 1) more ys l.2 ∙ ap (λ b. has_names (argument b more)) (sym l.1.is_string)
  names_stay c n (argument (plain e) more) ys (inr l) = ap has_names l.3 ∙ ap (λ b. has_names (argument b l.2)) l.4.1 ∙ names_stay c (n + 1) more l.2 l.5
  names_stay c n (argument (named t x e) more) ys (inr l) = ap has_names l.3 ∙ ap (λ b. has_names (argument b l.2)) l.4.2
  names_stay c n (argument (pair t e f) more) ys (inr l) = ap has_names l.3 ∙ ap (λ b. has_names (argument b l.2)) l.4.2 ∙ names_stay c (n + 1) more l.2 l.5

  pub files_stay : (c : CallRef) (f g : List ℕ) (l m : Listing Nowhere) → g ≡ f → ListLoses c l m → is_files g m ≡ is_files f l
  files_stay c f g (listing t trailing xs) m same loses =
      ap (is_files g) loses.2 ∙ ap₂ (λ h b. bytes_eq h (codes "files") && not b) same (names_stay c 0 xs loses.1 loses.3)

  pub plus_stay : (c : CallRef) (n : ℕ) (os ps : Operands Nowhere) → OperandsLose c n os ps → are_plus ps ≡ are_plus os
  plus_stay c n no_operands ps l = ap are_plus l
  plus_stay c n (operand o e more) ps l = ap are_plus l.2 ∙ ap (λ b. is_plus o && b) (plus_stay c (n + 1) more l.1 l.4)

  none_operand : (holds : List ℕ → Bool) (e : Expression Nowhere) → holds_none e ≡ true → is_operand_by holds e ≡ false
  none_operand holds (string t q x) is = absurd cc
  none_operand holds (identifier t x) is = absurd cc
  none_operand holds (array l) is = absurd cc
  none_operand holds (call t f l) is = absurd cc
  none_operand holds (row t e os) is = absurd cc
  none_operand holds _ is = refl

  none_value : (many : Expression Nowhere → Bool) (e : Expression Nowhere) → holds_none e ≡ true → is_value_by many e ≡ false
  none_value many (string t q x) is = absurd cc
  none_value many (identifier t x) is = absurd cc
  none_value many (array l) is = absurd cc
  none_value many (call t f l) is = absurd cc
  none_value many (row t e os) is = absurd cc
  none_value many _ is = refl

  module _ (holds holds2 : List ℕ → Bool) (alike : (x : List ℕ) → holds2 x ≡ holds x) where
    pub operand_stays : (c : CallRef) (e now : Expression Nowhere) → Loses c e now → is_operand_by holds2 now ≡ is_operand_by holds e
    operand_stays c (string t q x) now l = ap (is_operand_by holds2) l
    operand_stays c (identifier t x) now l = ap (is_operand_by holds2) l ∙ alike x
    operand_stays c (array l) now loses = ap (is_operand_by holds2) loses.1
    operand_stays c (call t f l) now loses = ap (is_operand_by holds2) loses.2 ∙ files_stay c f.text loses.0.text l loses.1 loses.3 loses.4
    operand_stays c (row t e os) now loses = ap (is_operand_by holds2) loses.2
    operand_stays c _ now loses = none_operand holds2 now loses

    pub value_stays : (c : CallRef) (e now : Expression Nowhere) → Loses c e now → is_value_by (is_operand_by holds2) now ≡ is_value_by (is_operand_by holds) e
    value_stays c (string t q x) now l = ap (is_value_by (is_operand_by holds2)) l
    value_stays c (identifier t x) now l = ap (is_value_by (is_operand_by holds2)) l
    value_stays c (array l) now loses = ap (is_value_by (is_operand_by holds2)) loses.1
    value_stays c (call t f l) now loses = ap (is_value_by (is_operand_by holds2)) loses.2 ∙ files_stay c f.text loses.0.text l loses.1 loses.3 loses.4
    value_stays c (row t e os) now loses =
        ap (is_value_by (is_operand_by holds2)) loses.2 ∙ ap₂ (λ a b. a && b) (plus_stay c 1 os loses.1 loses.4) (operand_stays (child c 0) e loses.0 loses.3)
    value_stays c _ now loses = none_value (is_operand_by holds2) now loses

  -- what holds no known sources is met as one that is not known
  pub none_known : (lists : Expression Nowhere → Bool) (follow : List ℕ → List (List ℕ) → Expansion Nowhere) (e : Expression Nowhere) → holds_none e ≡ true → (s : Stand) (f : List (List ℕ)) → expand_by lists follow e s f ≡ met opaque f
  none_known lists follow (string t q x) is s f = absurd cc
  none_known lists follow (identifier t x) is s f = absurd cc
  none_known lists follow (array l) is s f = absurd cc
  none_known lists follow (call t g l) is s f = absurd cc
  none_known lists follow (row t e os) is s f = absurd cc
  none_known lists follow _ is s f = refl

-- ==== An expression of a tree without some strings of its lists has lost just these.

-- what an element that has gone was
abbrev pub Lost : Node → ℕ → Type 0
Lost y n = (a : Argument Nowhere) × (element_any y n ≡ Some a) × Valued a

-- so much of a string
abbrev pub LostString : Node → ℕ → Type 0
LostString y n = (a : Argument Nowhere) × (element_any y n ≡ Some a) × IsStringElement a

pub strings_lost : (trees : List Plain) (gone : CallRef → ℕ → Bool) → ((c : CallRef) (n : ℕ) → gone c n ≡ true → (y : Node) → NodeIn trees c y → Lost y n)
    → (c : CallRef) (n : ℕ) → gone c n ≡ true → (y : Node) → NodeIn trees c y → LostString y n
strings_lost trees gone lost c n is y h = let l = lost c n is y h in (l.0, l.1, record { kind = l.2.kind; text = l.2.word; is = l.2.is_string })

-- what goes from what stands at a place
abbrev pub gone_at : (CallRef → ℕ → Bool) → CallRef → Gone
gone_at gone c path k = gone (place c.file (c.path.steps ++ path)) k

further : (p : List ℕ) (n : ℕ) (path : List ℕ) → p ++ (n ∷ path) ≡ (p ++ n ∷ []) ++ path
further [] n path = refl
further (m ∷ p) n path = ap (λ l. m ∷ l) (further p n path)

pub at_child : (gone : CallRef → ℕ → Bool) (c : CallRef) (n : ℕ) → from_child n (gone_at gone c) ≡ gone_at gone (child c n)
at_child gone c n = λ i path k. gone (place c.file ((further c.path.steps n path) i)) k

pub at_itself : (gone : CallRef → ℕ → Bool) (c : CallRef) (n : ℕ) → gone_at gone c [] n ≡ gone c n
at_itself gone c n = ap (λ p. gone (place c.file p) n) (append-nil c.path.steps)

pub no_true : (b : Bool) → (b ≡ true → ⊥) → b ≡ false
no_true true other = absurd (other refl)
no_true false other = refl

pub child_in : (trees : List Plain) (c : CallRef) (y x : Node) (n : ℕ) → NodeIn trees c y → nth (child_nodes y) n ≡ Some x → NodeIn trees (child c n) x
child_in trees c y x n h is = record {
  tree = h.tree;
  is_tree = h.is_tree;
  is_node = node_between c.path.steps (n ∷ []) _ y h.is_node ∙ ap (option_and_then (λ z. node_at z [])) is;
}

module _ (trees : List Plain) (gone : CallRef → ℕ → Bool) (lost : (c : CallRef) (n : ℕ) → gone c n ≡ true → (y : Node) → NodeIn trees c y → Lost y n) where
  abbrev at : CallRef → Gone
  at = gone_at gone

  -- what has no list loses nothing
  pub none_gone : (c : CallRef) (x : Node) → NodeIn trees c x → list_any x ≡ None → (k : ℕ) → gone c k ≡ false
  none_gone c x h no_list k = no_true (gone c k) (λ is. let l = lost c k is x h in let none : None ≡ Some l.0 = sym (ap (option_and_then (λ m. nth (elements m) k)) no_list) ∙ l.1 in cc)

  as_child : (e : Expression Nowhere) (c : CallRef) (n : ℕ) → Loses gone (child c n) e (expression_without (at (child c n)) e) → Loses gone (child c n) e (expression_without (from_child n (at c)) e)
  as_child e c n loses = subst (λ g. Loses gone (child c n) e (expression_without g e)) (sym (at_child gone c n)) loses

  next : (n : ℕ) → n + 1 ≡ suc n
  next n = omega arith

  here : {X : Type 0} (n : ℕ) (f : ℕ → X) → f n ≡ f (n + 0)
  here n f = let same : n ≡ n + 0 = omega arith in ap f same

  later : (n j : ℕ) → n + suc j ≡ suc n + j
  later n j = omega arith

  -- the parts of a node from the n-th on
  abbrev PartsFrom : Node → ℕ → List Node → Type 0
  PartsFrom y n parts = (j : ℕ) (x : Node) → nth parts j ≡ Some x → nth (child_nodes y) (n + j) ≡ Some x

  one_on : (y x : Node) (n : ℕ) (parts : List Node) → PartsFrom y n (x ∷ parts) → PartsFrom y (suc n) parts
  one_on y x n parts from j z is = sym (ap (nth (child_nodes y)) (later n j)) ∙ from (suc j) z is

  first_in : (c : CallRef) (y x : Node) (n : ℕ) (parts : List Node) → NodeIn trees c y → PartsFrom y n (x ∷ parts) → NodeIn trees (child c n) x
  first_in c y x n parts h from = let same : n + 0 ≡ n = omega arith in child_in trees c y x n h (sym (ap (nth (child_nodes y)) same) ∙ from 0 x refl)

  -- an element that goes, or stays
  module _ (a b : Argument Nowhere) (more : Arguments Nowhere) (left : List (Argument Nowhere)) (c : CallRef) (y : Node) (n : ℕ) (h : NodeIn trees c y) (is_element : element_any y n ≡ Some a)
      (stays : ArgumentLoses gone (child c n) a b) (rest : EachLoses gone c (suc n) more (arguments_of left)) where
    one_loses : (z : Bool) → gone c n ≡ z → EachLoses gone c n (argument a more) (arguments_of (if z then left else b ∷ left))
    one_loses true is = let l = lost c n is y h in inl (is, subst Valued (some-injective _ _ (sym l.1 ∙ is_element)) l.2, subst (λ k. EachLoses gone c k more (arguments_of left)) (sym (next n)) rest)
    one_loses false is = inr (is, b, arguments_of left, refl, stays, subst (λ k. EachLoses gone c k more (arguments_of left)) (sym (next n)) rest)

  whole : (y : Node) → PartsFrom y 0 (child_nodes y)
  whole y j x is = let same : 0 + j ≡ j = omega arith in ap (nth (child_nodes y)) same ∙ is

  mutual
    pub loses : (e : Expression Nowhere) (c : CallRef) → LevelExpression e → NodeIn trees c (an_expression e) → Loses gone c e (expression_without (at c) e)
    loses (string t q x) c level h = refl
    loses (identifier t x) c level h = refl
    loses (array l) c level h = (listing_without (at c) l, refl, list_loses l bracket.Square refl c (an_expression (array l)) level h (whole (an_expression (array l))) (λ j. refl))
    loses (call t f l) c level h = (f, listing_without (at c) l, refl, refl, list_loses l bracket.Round refl c (an_expression (call t f l)) level h (whole (an_expression (call t f l))) (λ j. refl))
    loses (row t e os) c level h =
        let y = an_expression (row t e os) in (
          expression_without (from_child 0 (at c)) e,
          operands_without (at c) 1 os,
          refl,
          as_child e c 0 (loses e (child c 0) level.2 (child_in trees c y (an_expression e) 0 h refl)),
          operands_lose os c 1 y _ level.3 h (one_on y (an_expression e) 0 (operands_parts os) (whole y)),
          none_gone c y h refl,
        )
    loses e c level h = refl

    list_loses : (l : Listing Nowhere) (br : Bracket) → holds_pairs br ≡ false → (c : CallRef) (y : Node) → LevelListing l br → NodeIn trees c y → PartsFrom y 0 (listing_parts l) → ((j : ℕ) → element_any y j ≡ nth (elements l) j)
        → ListLoses gone c l (listing_without (at c) l)
    list_loses (listing t trailing list) br none c y level h parts are =
        let left = but (at c []) (arguments_without (at c) 0 list) in (
          (if is_empty left then false else trailing),
          arguments_of left,
          refl,
          each_loses list br none c y 0 (at c []) (λ j. let same : 0 + j ≡ j = omega arith in at_itself gone c j ∙ ap (gone c) (sym same)) false level.1 h parts (λ j. let same : 0 + j ≡ j = omega arith in ap (element_any y) same ∙ are j),
        )

    each_loses : (xs : Arguments Nowhere) (br : Bracket) → holds_pairs br ≡ false → (c : CallRef) (y : Node) (n : ℕ) (f : ℕ → Bool) → ((j : ℕ) → f j ≡ gone c (n + j)) → (seen : Bool) → LevelArguments xs br seen → NodeIn trees c y → PartsFrom y n (arguments_parts xs)
        → ((j : ℕ) → element_any y (n + j) ≡ nth (argument_list xs) j) → EachLoses gone c n xs (arguments_of (but f (arguments_without (at c) n xs)))
    each_loses no_arguments br none c y n f all seen level h parts are = refl
    each_loses (argument (plain e) more) br none c y n f all seen level h parts are =
        one_loses (plain e) (plain (expression_without (from_child n (at c)) e)) more (but (λ j. f (suc j)) (arguments_without (at c) (suc n) more)) c y n h (here n (element_any y) ∙ are 0)
        (expression_without (from_child n (at c)) e, refl, as_child e c n (loses e (child c n) level.0.2 (first_in c y (an_expression e) n (arguments_parts more) h parts)))
        (each_loses more br none c y (suc n) (λ j. f (suc j)) (λ j. all (suc j) ∙ ap (gone c) (later n j)) false level.1 h (one_on y (an_expression e) n (arguments_parts more) parts) (λ j. ap (element_any y) (sym (later n j)) ∙ are (suc j)))
        (f 0) (here n (gone c) ∙ sym (all 0))
    each_loses (argument (named t x e) more) br none c y n f all seen level h parts are =
        one_loses (named t x e) (named t x (expression_without (from_child n (at c)) e)) more (but (λ j. f (suc j)) (arguments_without (at c) (suc n) more)) c y n h (here n (element_any y) ∙ are 0)
        (x, expression_without (from_child n (at c)) e, refl, refl, as_child e c n (loses e (child c n) level.0.1 (first_in c y (an_expression e) n (arguments_parts more) h parts)))
        (each_loses more br none c y (suc n) (λ j. f (suc j)) (λ j. all (suc j) ∙ ap (gone c) (later n j)) true level.1 h (one_on y (an_expression e) n (arguments_parts more) parts) (λ j. ap (element_any y) (sym (later n j)) ∙ are (suc j)))
        (f 0) (here n (gone c) ∙ sym (all 0))
    each_loses (argument (pair t e f) more) br none c y n g all seen level h parts are = let both : true ≡ false = sym level.0.0 ∙ none in absurd cc

    operands_lose : (os : Operands Nowhere) (c : CallRef) (n : ℕ) (y : Node) (k : ℕ) → LevelOperands os k → NodeIn trees c y → PartsFrom y n (operands_parts os) → OperandsLose gone c n os (operands_without (at c) n os)
    operands_lose no_operands c n y k level h parts = refl
    operands_lose (operand o e more) c n y k level h parts = (
      expression_without (from_child n (at c)) e,
      operands_without (at c) (suc n) more,
      refl,
      as_child e c n (loses e (child c n) level.2 (first_in c y (an_expression e) n (operands_parts more) h parts)),
      subst (λ m. OperandsLose gone c m more (operands_without (at c) (suc n) more)) (sym (next n)) (operands_lose more c (suc n) y k level.3 h (one_on y (an_expression e) n (operands_parts more) parts)),
    )

  pub call_lost : (s : Nowhere) (f : Name Nowhere) (r : Nowhere) (z : Bool) (list : Arguments Nowhere) (c : CallRef) → LevelListing (listing r z list) bracket.Round → NodeIn trees c (an_expression (call s f (listing r z list)))
      → EachLoses gone c 0 list (arguments_of (but (at c []) (arguments_without (at c) 0 list)))
  call_lost s f r z list c level h =
      let y = an_expression (call s f (listing r z list)) in
      each_loses list bracket.Round refl c y 0 (at c []) (λ j. let same : 0 + j ≡ j = omega arith in at_itself gone c j ∙ ap (gone c) (sym same)) false level.1 h (whole y)
      (λ j. let same : 0 + j ≡ j = omega arith in ap (element_any y) same)

-- ==== Where each node stands after strings have gone from lists, and what it is then.

pub nth_without : (gone : ℕ → Gone) (ts : List Plain) (i : ℕ) → nth (each_without gone ts) i ≡ option_map (tree_without (gone i)) (nth ts i)
nth_without gone [] i = refl
nth_without gone (u ∷ ts) zero = refl
nth_without gone (u ∷ ts) (suc i) = nth_without (λ n. gone (suc n)) ts i

pub root_without : (g : Gone) (t : Plain) → root (tree_without g t) ≡ any_without g (root t)
root_without g (file s b) = refl

-- a place after elements have gone
abbrev pub place_left : (CallRef → ℕ → Bool) → CallRef → CallRef
place_left gone c = place c.file (path_left (λ path k. gone (place c.file path) k) c.path.steps)

child_path : (g : Gone) (path : List ℕ) (n : ℕ) → path_left g (path ++ n ∷ []) ≡ path_left g path ++ left_before (under_path g path []) n ∷ []
child_path g [] n = refl
child_path g (m ∷ path) n = ap (λ l. left_before (g []) m ∷ l) (child_path (from_child m g) path n)

-- a child has moved with what stands around it, and by its number
pub child_place : (gone : CallRef → ℕ → Bool) (c : CallRef) (n : ℕ) → place_left gone (child c n) ≡ child (place_left gone c) (left_before (gone c) n)
child_place gone c n =
    let path = c.path.steps in
    let g : Gone = λ path k. gone (place c.file path) k in
    ap (place c.file) (child_path g path n ∙ ap (λ k. path_left g path ++ k ∷ [])
    (left_same (gone c) (under_path g path []) (λ k. ap (λ u. u [] k) (under_is path g) ∙ ap (λ p. gone (place c.file p) k) (append-nil path)) n))

path_same : (g : Gone) → ((p : List ℕ) (n : ℕ) → g p n ≡ false) → (path : List ℕ) → path_left g path ≡ path
path_same g none [] = refl
path_same g none (n ∷ path) = ap₂ (λ m l. m ∷ l) (before_all (g []) (none []) n) (path_same (from_child n g) (λ p k. none (n ∷ p) k) path)

-- where nothing has gone no place moves
pub unmoved : (gone : CallRef → ℕ → Bool) → ((c : CallRef) (n : ℕ) → gone c n ≡ false) → (c : CallRef) → place_left gone c ≡ c
unmoved gone none c = ap (place c.file) (path_same (λ path k. gone (place c.file path) k) (λ p n. none (place c.file p) n) c.path.steps)

-- ---- the children of a list are expressions

abbrev pub IsExpression : Node → Type 0
IsExpression y = (e : Expression Nowhere) × (y ≡ an_expression e)

part_is : (a : Argument Nowhere) (y : Node) → part a ≡ y → IsExpression y
part_is (plain e) y same = (e, sym same)
part_is (named s x e) y same = (e, sym same)
part_is (pair s e f) y same = (e, sym same)

parts_are : (x : Node) (l : Listing Nowhere) → list_any x ≡ Some l → Every HasOnePart (elements l) → child_nodes x ≡ map part (elements l)
parts_are x l is one = list_parts x l is ∙ parts_of_each (elements l) one

pub children_are : (x : Node) (l : Listing Nowhere) → list_any x ≡ Some l → Every HasOnePart (elements l) → (j : ℕ) (y : Node) → nth (child_nodes x) j ≡ Some y → IsExpression y
children_are x l is one j y child_is =
    let m = map-some part (nth (elements l) j) y (sym (nth_map part (elements l) j) ∙ ap (λ ps. nth ps j) (sym (parts_are x l is one)) ∙ child_is) in
    part_is m.0 y m.2

-- nothing stands in a string
in_string : (e : Expression Nowhere) (z : Expression Nowhere) (rest : List ℕ) (y : Node) → string_child (an_expression e) ≡ Some z → node_at (an_expression e) rest ≡ Some y → string_child y ≡ None → ⊥
in_string (string t q x) z [] y is goes_at other = let none = ap string_child (some-injective _ _ goes_at) ∙ other in cc
in_string (string t q x) z (n ∷ rest) y is goes_at other = cc
in_string _ z rest y is goes_at other = cc

module _ (trees : List Plain) (stand : All MayStandBetween trees) (gone : CallRef → ℕ → Bool) (lost : (c : CallRef) (n : ℕ) → gone c n ≡ true → (y : Node) → NodeIn trees c y → LostString y n) where
  abbrev goes_at : CallRef → Gone
  goes_at = gone_at gone

  pub fits_none : (c : CallRef) (x : Node) → NodeIn trees c x → list_any x ≡ None → (k : ℕ) → goes_at c [] k ≡ false
  fits_none c x h no_list k =
      at_itself gone c k ∙ no_true (gone c k) (λ is. let l = lost c k is x h in let none : None ≡ Some l.0 = sym (ap (option_and_then (λ m. nth (elements m) k)) no_list) ∙ l.1 in cc)

  in_pairs : (l : Listing Nowhere) (n : ℕ) (a : Argument Nowhere) → LevelListing l bracket.Curly → nth (elements l) n ≡ Some a → IsStringElement a → ⊥
  in_pairs (listing s trailing list) n a level is v = let none : false ≡ true = plain_holds list bracket.Curly false n (string tt v.kind v.text) level.1 (is ∙ ap Some v.is) in cc

  pub fits : (c : CallRef) (x : Node) → NodeIn trees c x → Fits (goes_at c) x
  fits c (an_expression (array l)) h = inr (l, refl, one_part l bracket.Square refl (node_level trees stand c (array l) h))
  fits c (an_expression (call s f l)) h = inr (l, refl, one_part l bracket.Round refl (node_level trees stand c (call s f l) h))
  fits c (an_expression (dictionary l)) h = inl (λ k. at_itself gone c k ∙ no_true (gone c k) (pairs k))
    where
      pairs : (k : ℕ) → gone c k ≡ true → ⊥
      pairs k is = let w = lost c k is (an_expression (dictionary l)) h in in_pairs l k w.0 (node_level trees stand c (dictionary l) h) w.1 w.2
  fits c x h = inl (fits_none c x h refl)

  -- what goes is a string
  pub gone_string : (c : CallRef) (x y : Node) (n : ℕ) → NodeIn trees c x → nth (child_nodes x) n ≡ Some y → gone c n ≡ true → (q : StringKind) × (word : List ℕ) × (y ≡ an_expression (string tt q word))
  gone_string c x y n h is goes = go (fits c x h)
    where
      go : Fits (goes_at c) x → (q : StringKind) × (word : List ℕ) × (y ≡ an_expression (string tt q word))
      go (inl none) = let both : true ≡ false = sym goes ∙ sym (at_itself gone c n) ∙ none n in absurd cc
      go (inr w) =
          let v = lost c n goes x h in
          let element : nth (elements w.0) n ≡ Some v.0 = sym (ap (option_and_then (λ m. nth (elements m) n)) w.1) ∙ v.1 in
          let child_is = ap (λ l. nth l n) (parts_are x w.0 w.1 w.2) ∙ nth_map part (elements w.0) n ∙ ap (option_map part) element ∙ ap (λ a. Some (part a)) v.2.is in
          (v.2.kind, v.2.text, some-injective _ _ (sym is ∙ child_is))

  -- no string that goes is on the way to another node
  clear : (c : CallRef) (x : Node) (n : ℕ) (rest : List ℕ) (y : Node) → NodeIn trees c x → node_at x (n ∷ rest) ≡ Some y → string_child y ≡ None → goes_at c [] n ≡ false
  clear c x n rest y h is other = at_itself gone c n ∙ no_true (gone c n) in_the_way
    where
      in_the_way : gone c n ≡ true → ⊥
      in_the_way goes =
          let o = and-then-some (λ z. node_at z rest) (nth (child_nodes x) n) y is in
          let w = gone_string c x o.0 n h o.1 goes in
          in_string (string tt w.0 w.1) (string tt w.0 w.1) rest y refl (sym (ap (λ z. node_at z rest) w.2) ∙ o.2) other

  pub stands : (rest : List ℕ) (c : CallRef) (x : Node) → NodeIn trees c x → (y : Node) → node_at x rest ≡ Some y → string_child y ≡ None → Stands (goes_at c) x rest
  stands [] c x h y is other = tt
  stands (n ∷ rest) c x h y is other = (
    clear c x n rest y h is other,
    fits c x h,
    λ z child_is.
        subst (λ g. Stands g z rest) (sym (at_child gone c n))
        (stands rest (child c n) z (child_in trees c x z n h child_is) y (sym (ap (option_and_then (λ u. node_at u rest)) child_is) ∙ is) other),
  )

  -- each node but the strings stands in the trees without what goes
  pub node_moved : (c : CallRef) (y : Node) → NodeIn trees c y → string_child y ≡ None → NodeIn (each_without (λ i path k. gone (place i path) k) trees) (place_left gone c) (any_without (goes_at c) y)
  node_moved c y h other =
      let g : Gone = λ path k. gone (place c.file path) k in
      let whole : NodeIn trees (place c.file []) (root h.tree) = record { tree = h.tree; is_tree = h.is_tree; is_node = refl } in
      record {
        tree = tree_without g h.tree;
        is_tree = nth_without (λ i path k. gone (place i path) k) trees c.file ∙ ap (option_map (tree_without g)) h.is_tree;
        is_node =
            ap (λ x. node_at x (path_left g c.path.steps)) (root_without g h.tree)
            ∙ node_left c.path.steps g (root h.tree) y h.is_node (stands c.path.steps (place c.file []) (root h.tree) whole y h.is_node other) ∙ ap (λ u. Some (any_without u y)) (under_is c.path.steps g);
      }
