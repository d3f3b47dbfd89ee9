-- Elements go, and then others from where they stand then.
use Rattle.std.proofs.lemmas.List.Sums.{sum_by-cons}
use Rattle.meson_sources.proofs.Words.{count_by, All, cond, if◌then◌else◌, nat_eq, nat_lt, option_and_then, ◌&&◌, ◌||◌, [], ap, append-nil, ap₂, arith, Bool}
use Rattle.meson_sources.proofs.Words.{false, List, map, None, refl, Some, subst, suc, sym, true, zero, ℕ, ◌++◌, ◌+◌, ◌∙◌, ◌∷◌, ◌≡◌, eq-eqb, eqb-true}
use Rattle.meson_sources.proofs.Words.{ltb-false, ltb-true, ne_eqb, or_right, a_block, an_expression, nth, argument, argument_list, Arguments, array, Block}
use Rattle.meson_sources.proofs.Words.{call, dictionary, file, Listing, listing, named, no_arguments, Nowhere, pair, Plain, plain, string, StringKind}
use Rattle.meson_sources.proofs.Words.{child_nodes, node_at, some-injective, Every, and-then-some, elements, child, place, CallRef, by_each_child}
use Rattle.meson_sources.proofs.Words.{MayStandBetween, element_spot, goes, same_spot, trees_without, is_before, is_path, number_without, path_without, Spot}
use Rattle.meson_sources.proofs.Words.{spot_without, arguments_without, but, each_without, from_child, Gone, listing_without, tree_without}
use Rattle.meson_sources.proofs.gone.Losses.{at_child, at_itself, gone_at, place_left, child_place, fits, node_moved, stands, LostString, child_in}
use Rattle.meson_sources.proofs.gone.Named.{every_weaker, some_of}
use Rattle.meson_sources.proofs.gone.NodeTwice.{ChildThen, node_then}
use Rattle.meson_sources.proofs.gone.Places.{OneMore, as_many, left_same, one_fewer, before_all, left_before, path_left, same_left, under_is, under_path}
use Rattle.meson_sources.proofs.gone.Places.{Stands, any_without, nth_but}
use Rattle.meson_sources.proofs.gone.Spots.{apart_not_same, same_paths, Apart, AreApart, apart_of, or_with_none, same_one}
use Rattle.meson_sources.proofs.met.Standing.{StringIn}
use Rattle.meson_sources.proofs.trees.Elements.{at_stands, root, stands_at, with_them, Node, element_any, list_any, string_child}
use Rattle.meson_sources.proofs.trees.Scenes.{NodeIn}

-- ==== Where elements stand once others have gone, by counting those that went before them in their lists.

-- ---- one more spot

pub none_goes : (c : CallRef) (n : ℕ) (gone : List Spot) → Every (λ g. same_spot g (element_spot c n) ≡ false) gone → goes gone c n ≡ false
none_goes c n [] every = refl
none_goes c n (g ∷ gone) every = ap₂ (λ b d. b || d) every.0 (none_goes c n gone every.1)

pub stays : (gone : List Spot) (s : Spot) → Every (Apart s) gone → goes gone s.list s.number ≡ false
stays gone s apart = none_goes s.list s.number gone (every_weaker _ _ (λ g other. apart_not_same g s (λ same. other (sym same.0, sym same.1, sym same.2))) gone apart)

same_list : (s : Spot) (c : CallRef) → nat_eq s.list.file c.file ≡ true → is_path s.list.path.steps c.path.steps ≡ true → s.list ≡ c
same_list s c files paths = ap (λ i. place i s.list.path.steps) (eqb-true s.list.file c.file files) ∙ ap (place c.file) (same_paths s.list.path.steps c.path.steps paths)

abbrev counts : Bool → Bool → Spot → ℕ → Bool
counts b d s n = b && (d && nat_lt s.number n)

abbrev goes_too : Bool → Bool → Spot → (ℕ → Bool) → ℕ → Bool
goes_too b d s gone k = (b && (d && nat_eq s.number k)) || gone k

one_counted : (s : Spot) (gone : ℕ → Bool) (n : ℕ) (b d : Bool) → (b ≡ true → d ≡ true → gone s.number ≡ false) → cond (counts b d s n) 1 0 + left_before (goes_too b d s gone) n ≡ left_before gone n
one_counted s gone n false d none = omega arith
one_counted s gone n true false none = omega arith
one_counted s gone n true true none = go (nat_lt s.number n) refl
  where
    more : OneMore gone (goes_too true true s gone) s.number
    more = record { stayed = none refl refl; goes = ap (λ b. b || gone s.number) (eq-eqb s.number s.number refl); others = λ k other. ap (λ b. b || gone k) (ne_eqb s.number k other) }

    go : (b : Bool) → nat_lt s.number n ≡ b → cond b 1 0 + left_before (goes_too true true s gone) n ≡ left_before gone n
    go true is = let fewer = one_fewer gone (goes_too true true s gone) s.number n more (ltb-true s.number n is) in omega (arith, fewer)
    go false is = let same = as_many gone (goes_too true true s gone) s.number n more (ltb-false s.number n is) in omega (arith, same)

-- those that went before an element, and those that are left before it
counted : (gone : List Spot) → AreApart gone → (c : CallRef) (n : ℕ) → count_by (is_before c n) gone + left_before (goes gone c) n ≡ n
counted [] apart c n = let all = before_all (λ k. false) (λ k. refl) n in omega (arith, all)
counted (s ∷ more) apart c n =
    let b = nat_eq s.list.file c.file in
    let d = is_path s.list.path.steps c.path.steps in
    let none : b ≡ true → d ≡ true → goes more c s.number ≡ false = λ files paths. ap (λ l. goes more l s.number) (sym (same_list s c files paths)) ∙ stays more s apart.0 in
    let first = sum_by-cons (λ t. cond (is_before c n t) 1 0) s more in
    let one = one_counted s (goes more c) n b d none in
    let rest = counted more apart.1 c n in
    let all : (cond (is_before c n s) 1 0 + count_by (is_before c n) more) + left_before (goes (s ∷ more) c) n ≡ n = omega (arith, one, rest) in
    ap (λ i. i + left_before (goes (s ∷ more) c) n) first ∙ all

pub number_is : (gone : List Spot) → AreApart gone → (c : CallRef) (n : ℕ) → number_without gone c n ≡ left_before (goes gone c) n
number_is gone apart c n = let all = counted gone apart c n in omega (arith, all)

-- ---- paths

pub path_is : (gone : List Spot) → AreApart gone → (c : CallRef) (path : List ℕ) → path_without gone c path ≡ path_left (gone_at (goes gone) c) path
path_is gone apart c [] = refl
path_is gone apart c (n ∷ path) =
    ap₂ (λ i l. i ∷ l) (number_is gone apart c n ∙ sym (left_same (goes gone c) (gone_at (goes gone) c []) (at_itself (goes gone) c) n))
    (path_is gone apart (child c n) path ∙ ap (λ g. path_left g path) (sym (at_child (goes gone) c n)))

-- ==== Elements go, and then others from where they stand then: each element stands where it stands when all go at once.

-- ---- numbers and paths

abbrev counted_on : Bool → ℕ → ℕ
counted_on b n = if b then n else suc n

pub left_twice : (f g h : ℕ → Bool) → ((j : ℕ) → h j ≡ (g j || f (left_before g j))) → (n : ℕ) → left_before h n ≡ left_before f (left_before g n)
left_twice f g h all zero = refl
left_twice f g h all (suc n) = ap (λ b. counted_on b (left_before (λ j. h (suc j)) n)) (all 0) ∙ go (g 0) refl (λ f2 every. left_twice f2 (λ j. g (suc j)) (λ j. h (suc j)) every n)
  where
    next : (b : Bool) → g 0 ≡ b → (j : ℕ) → h (suc j) ≡ (g (suc j) || f (counted_on b (left_before (λ k. g (suc k)) j)))
    next b is j = all (suc j) ∙ ap (λ c. g (suc j) || f (counted_on c (left_before (λ k. g (suc k)) j))) is

    go : (b : Bool) → g 0 ≡ b → ((f2 : ℕ → Bool) → ((j : ℕ) → h (suc j) ≡ (g (suc j) || f2 (left_before (λ k. g (suc k)) j))) → left_before (λ j. h (suc j)) n ≡ left_before f2 (left_before (λ j. g (suc j)) n))
        → counted_on (b || f 0) (left_before (λ j. h (suc j)) n) ≡ left_before f (counted_on b (left_before (λ j. g (suc j)) n))
    go true is rest = rest f (next true is)
    go false is rest = ap (counted_on (f 0)) (rest (λ j. f (suc j)) (next false is))

-- no element on the path goes
abbrev pub Passes : Gone → List ℕ → Type 0
Passes g [] = Unit {0}
Passes g (n ∷ path) = (g [] n ≡ false) × Passes (from_child n g) path

-- the number of an element of a list, where the list is left
abbrev number_there : Gone → List ℕ → ℕ → ℕ
number_there g path n = left_before (under_path g path []) n

-- First goes what `g` says, and then what `f` says of what is left; in all what `h` says.
abbrev Composed : Gone → Gone → Gone → Type 0
Composed f g h = (path : List ℕ) (n : ℕ) → Passes g path → h path n ≡ (g path n || f (path_left g path) (number_there g path n))

path_twice : (path : List ℕ) (f g h : Gone) → Composed f g h → Passes g path → path_left h path ≡ path_left f (path_left g path)
path_twice [] f g h all passes = refl
path_twice (n ∷ path) f g h all passes =
    ap₂ (λ i l. i ∷ l) (left_twice (f []) (g []) (h []) (λ j. all [] j tt) n)
    (path_twice path (from_child (left_before (g []) n) f) (from_child n g) (from_child n h) (λ p k more. all (n ∷ p) k (passes.0, more)) passes.1)

paths_same : (list path : List ℕ) (g : Gone) → Passes g list → Passes g path → is_path (path_left g list) (path_left g path) ≡ is_path list path
paths_same [] [] g list_passes passes = refl
paths_same [] (n ∷ path) g list_passes passes = refl
paths_same (m ∷ list) [] g list_passes passes = refl
paths_same (m ∷ list) (n ∷ path) g list_passes passes =
    ap (λ b. b && is_path (path_left (from_child m g) list) (path_left (from_child n g) path)) (same_left (g []) m n list_passes.0 passes.0)
    ∙ go (nat_eq m n) refl (λ same. paths_same list path (from_child n g) (subst (λ k. Passes (from_child k g) list) same list_passes.1) passes.1)
  where
    go : (b : Bool) → nat_eq m n ≡ b → (m ≡ n → is_path (path_left (from_child n g) list) (path_left (from_child n g) path) ≡ is_path list path)
        → (b && is_path (path_left (from_child m g) list) (path_left (from_child n g) path)) ≡ (b && is_path list path)
    go true is rest = let same = eqb-true m n is in ap (λ k. is_path (path_left (from_child k g) list) (path_left (from_child n g) path)) same ∙ rest same
    go false is rest = refl

-- ---- spots

-- where what stood at a spot stands
abbrev pub spot_left : (CallRef → ℕ → Bool) → Spot → Spot
spot_left gone s = record { list = place_left gone s.list; number = left_before (gone s.list) s.number }

-- by counting
pub left_without : (spots : List Spot) → AreApart spots → (s : Spot) → spot_left (goes spots) s ≡ spot_without spots s
left_without spots apart s =
    ap₂ (λ path n. record { list = place s.list.file path; number = n }) (sym (path_is spots apart (place s.list.file []) s.list.path.steps)) (sym (number_is spots apart s.list s.number))

module _ (gone : List Spot) where
  -- what goes of the tree of a file
  abbrev pub gone_in_file : ℕ → Gone
  gone_in_file i path n = goes gone (place i path) n

  -- neither it goes nor an element on the way to it
  abbrev pub SpotStays : Spot → Type 0
  SpotStays s = Passes (gone_in_file s.list.file) s.list.path.steps × (goes gone s.list s.number ≡ false)

  abbrev pub moved_spot : Spot → Spot
  moved_spot s = spot_left (goes gone) s

  in_one : (i : ℕ) (p q : List ℕ) (k n : ℕ) → Passes (gone_in_file i) p → Passes (gone_in_file i) q → goes gone (place i p) k ≡ false → goes gone (place i q) n ≡ false
      → (is_path (path_left (gone_in_file i) p) (path_left (gone_in_file i) q) && nat_eq (left_before (goes gone (place i p)) k) (left_before (goes gone (place i q)) n)) ≡ (is_path p q && nat_eq k n)
  in_one i p q k n passes_p passes_q stays_k stays_n =
      ap (λ b. b && nat_eq (left_before (goes gone (place i p)) k) (left_before (goes gone (place i q)) n)) (paths_same p q (gone_in_file i) passes_p passes_q) ∙ go (is_path p q) refl
    where
      go : (b : Bool) → is_path p q ≡ b → (b && nat_eq (left_before (goes gone (place i p)) k) (left_before (goes gone (place i q)) n)) ≡ (b && nat_eq k n)
      go true is =
          let same = same_paths p q is in
          ap (λ l. nat_eq (left_before (goes gone (place i p)) k) (left_before (goes gone (place i l)) n)) (sym same)
          ∙ same_left (goes gone (place i p)) k n stays_k (ap (λ l. goes gone (place i l) n) same ∙ stays_n)
      go false is = refl

  same_moved : (s t : Spot) → SpotStays s → SpotStays t → same_spot (moved_spot s) (moved_spot t) ≡ same_spot s t
  same_moved s t stays_s stays_t = go (nat_eq s.list.file t.list.file) refl
    where
      go : (b : Bool) → nat_eq s.list.file t.list.file ≡ b
          → (b && (is_path (path_left (gone_in_file s.list.file) s.list.path.steps) (path_left (gone_in_file t.list.file) t.list.path.steps) && nat_eq (left_before (goes gone s.list) s.number) (left_before (goes gone t.list) t.number)))
          ≡ (b && (is_path s.list.path.steps t.list.path.steps && nat_eq s.number t.number))
      go true is =
          let same_file = eqb-true s.list.file t.list.file is in
          let path = t.list.path.steps in
          ap (λ i. is_path (path_left (gone_in_file s.list.file) s.list.path.steps) (path_left (gone_in_file i) path) && nat_eq (left_before (goes gone s.list) s.number) (left_before (goes gone (place i path)) t.number)) (sym same_file)
          ∙ in_one s.list.file s.list.path.steps path s.number t.number stays_s.0 (subst (λ i. Passes (gone_in_file i) path) (sym same_file) stays_t.0) stays_s.1 (ap (λ i. goes gone (place i path) t.number) same_file ∙ stays_t.1)
      go false is = refl

  pub still_apart : (s t : Spot) → SpotStays s → SpotStays t → Apart s t → Apart (moved_spot s) (moved_spot t)
  still_apart s t stays_s stays_t apart =
      apart_of (moved_spot s) (moved_spot t) (same_moved t s stays_t stays_s ∙ apart_not_same t s (λ same. apart (sym same.0, sym same.1, sym same.2)))

  -- ---- two times

  pub goes_twice : (more : List Spot) → Every SpotStays more → (c : CallRef) (n : ℕ) → Passes (gone_in_file c.file) c.path.steps
      → goes (more ++ gone) c n ≡ (goes gone c n || goes (map moved_spot more) (place_left (goes gone) c) (left_before (goes gone c) n))
  goes_twice [] every c n passes = sym (or_with_none (goes gone c n))
  goes_twice (s ∷ more) every c n passes =
      ap (λ b. same_spot s (element_spot c n) || b) (goes_twice more every.1 c n passes) ∙ go (goes gone c n) refl (goes (map moved_spot more) (place_left (goes gone) c) (left_before (goes gone c) n))
    where
      go : (b : Bool) → goes gone c n ≡ b → (d : Bool) → (same_spot s (element_spot c n) || (b || d)) ≡ (b || (same_spot (moved_spot s) (moved_spot (element_spot c n)) || d))
      go true is d = or_right (same_spot s (element_spot c n)) true refl
      go false is d = ap (λ b. b || d) (sym (same_moved s (element_spot c n) every.0 (passes, is)))

  module _ (more : List Spot) (every : Every SpotStays more) where
    composed : (i : ℕ) → Composed (λ path n. goes (map moved_spot more) (place i path) n) (gone_in_file i) (λ path n. goes (more ++ gone) (place i path) n)
    composed i path n passes =
        goes_twice more every (place i path) n passes
        ∙ ap (λ k. goes gone (place i path) n || goes (map moved_spot more) (place_left (goes gone) (place i path)) k)
        (sym (left_same (goes gone (place i path)) (under_path (gone_in_file i) path []) (λ k. ap (λ u. u [] k) (under_is path (gone_in_file i)) ∙ ap (λ p. goes gone (place i p) k) (append-nil path)) n))

    pub moved_twice : (s : Spot) → SpotStays s → spot_left (goes (more ++ gone)) s ≡ spot_left (goes (map moved_spot more)) (moved_spot s)
    moved_twice s stays =
        ap₂ (λ path n. record { list = place s.list.file path; number = n })
        (path_twice s.list.path.steps (λ path n. goes (map moved_spot more) (place s.list.file path) n) (gone_in_file s.list.file) (λ path n. goes (more ++ gone) (place s.list.file path) n) (composed s.list.file) stays.0)
        (left_twice (goes (map moved_spot more) (place_left (goes gone) s.list)) (goes gone s.list) (goes (more ++ gone) s.list) (λ j. goes_twice more every s.list j stays.0) s.number)

-- ==== Strings go from trees, and then others from where they stand then: what is left is the trees without all of them.

-- ---- strings in lists

no_string : (x : Node) (l : Listing Nowhere) → list_any x ≡ Some l → string_child x ≡ None
no_string (an_expression (array m)) l is = refl
no_string (an_expression (dictionary m)) l is = refl
no_string (an_expression (call s f m)) l is = refl
no_string x l is = absurd cc

string_left : (g : Gone) (n k : ℕ) (list : Arguments Nowhere) (q : StringKind) (text : List ℕ) → nth (argument_list list) k ≡ Some (plain (string tt q text)) → nth (arguments_without g n list) k ≡ Some (plain (string tt q text))
string_left g n k no_arguments q text is = is
string_left g n zero (argument (plain e) more) q text is = let same : e ≡ string tt q text = cc in rw same refl
string_left g n zero (argument (named s x e) more) q text is = absurd cc
string_left g n zero (argument (pair s e d) more) q text is = absurd cc
string_left g n (suc k) (argument (plain e) more) q text is = string_left g (suc n) k more q text is
string_left g n (suc k) (argument (named s x e) more) q text is = string_left g (suc n) k more q text is
string_left g n (suc k) (argument (pair s e d) more) q text is = string_left g (suc (suc n)) k more q text is

list_left : (g : Gone) (l : Listing Nowhere) (k : ℕ) (q : StringKind) (text : List ℕ) → nth (elements l) k ≡ Some (plain (string tt q text)) → g [] k ≡ false
    → nth (elements (listing_without g l)) (left_before (g []) k) ≡ Some (plain (string tt q text))
list_left g (listing s trailing list) k q text is stays =
    ap (λ xs. nth xs (left_before (g []) k)) (with_them (listing s trailing list) (but (g []) (arguments_without g 0 list)))
    ∙ nth_but (g []) (arguments_without g 0 list) k (plain (string tt q text)) (string_left g 0 k list q text is) stays

element_left : (g : Gone) (x : Node) (k : ℕ) (q : StringKind) (text : List ℕ) → element_any x k ≡ Some (plain (string tt q text)) → g [] k ≡ false → element_any (any_without g x) (left_before (g []) k) ≡ Some (plain (string tt q text))
element_left g (an_expression (array l)) k q text is stays = list_left g l k q text is stays
element_left g (an_expression (dictionary l)) k q text is stays = list_left g l k q text is stays
element_left g (an_expression (call s f l)) k q text is stays = list_left g l k q text is stays
element_left g x k q text is stays = absurd cc

passes_along : (path : List ℕ) (g : Gone) (x y : Node) → node_at x path ≡ Some y → Stands g x path → Passes g path
passes_along [] g x y is s = tt
passes_along (n ∷ path) g x y is s = let o = and-then-some (λ z. node_at z path) (nth (child_nodes x) n) y is in (s.0, passes_along path (from_child n g) o.0 y o.2 (s.2 o.0 o.1))

same_block : (b d : Block Nowhere) → a_block b ≡ a_block d → b ≡ d
same_block b d is = cc

all_twice : (ts : List Plain) (f g h : ℕ → Gone) → ((i : ℕ) (t : Plain) → nth ts i ≡ Some t → tree_without (f i) (tree_without (g i) t) ≡ tree_without (h i) t) → each_without f (each_without g ts) ≡ each_without h ts
all_twice [] f g h same = refl
all_twice (t ∷ ts) f g h same = ap₂ (λ u us. u ∷ us) (same 0 t refl) (all_twice ts (λ i. f (suc i)) (λ i. g (suc i)) (λ i. h (suc i)) (λ i u is. same (suc i) u is))

-- ---- strings that go

module _ (trees : List Plain) (stand : All MayStandBetween trees) (gone : List Spot) (are : Every (StringIn trees) gone) where
  -- the list at a spot, with its string
  record SpotList (s : Spot) (there : StringIn trees s) : Type 0 where
    node : Node
    is : NodeIn trees s.list node
    element_is : element_any node s.number ≡ Some there.it

  list_there : (s : Spot) (there : StringIn trees s) → SpotList s there
  list_there s there =
      let o = and-then-some (λ y. element_any y s.number) (node_at (root there.tree) s.list.path.steps) there.it (stands_at there.tree s.list.path.steps s.number there.it there.stands) in
      record { node = o.0; is = record { tree = there.tree; is_tree = there.is_tree; is_node = o.1 }; element_is = o.2 }

  lost : (c : CallRef) (n : ℕ) → goes gone c n ≡ true → (y : Node) → NodeIn trees c y → LostString y n
  lost c n is y h =
      let o = some_of (λ s. same_spot s (element_spot c n)) (StringIn trees) gone are is in
      let there : StringIn trees (element_spot c n) = subst (StringIn trees) (same_one o.it (element_spot c n) o.is) o.holds in
      let same_tree : there.tree ≡ h.tree = some-injective _ _ (sym there.is_tree ∙ h.is_tree) in
      let element = ap (option_and_then (λ z. element_any z n)) (sym h.is_node ∙ ap (λ t. node_at (root t) c.path.steps) (sym same_tree)) ∙ stands_at there.tree c.path.steps n there.it there.stands in
      (there.it, element, there.is_string)

  passes : (c : CallRef) (x : Node) → NodeIn trees c x → string_child x ≡ None → Passes (gone_in_file gone c.file) c.path.steps
  passes c x h other =
      let whole : NodeIn trees (place c.file []) (root h.tree) = record { tree = h.tree; is_tree = h.is_tree; is_node = refl } in
      passes_along c.path.steps (gone_in_file gone c.file) (root h.tree) x h.is_node (stands trees stand (goes gone) lost c.path.steps (place c.file []) (root h.tree) whole x h.is_node other)

  has_list : (s : Spot) (there : StringIn trees s) → string_child (list_there s there).node ≡ None
  has_list s there =
      let n = list_there s there in
      let o = and-then-some (λ l. nth (elements l) s.number) (list_any n.node) there.it n.element_is in
      no_string n.node o.0 o.1

  pub stays_there : (s : Spot) → StringIn trees s → Every (Apart s) gone → SpotStays gone s
  stays_there s there apart = let n = list_there s there in (passes s.list n.node n.is (has_list s there), stays gone s apart)

  -- another string stands where it is left
  pub moved_there : (s : Spot) → StringIn trees s → goes gone s.list s.number ≡ false → StringIn (trees_without gone trees) (moved_spot gone s)
  moved_there s there stays_s =
      let n = list_there s there in
      let m = node_moved trees stand (goes gone) lost s.list n.node n.is (has_list s there) in
      let g = gone_at (goes gone) s.list in
      let k = left_before (goes gone s.list) s.number in
      let q = there.is_string.kind in
      let text = there.is_string.text in
      let left = element_left g n.node s.number q text (n.element_is ∙ ap Some there.is_string.is) (at_itself (goes gone) s.list s.number ∙ stays_s) in
      let number = left_same (goes gone s.list) (g []) (at_itself (goes gone) s.list) s.number in
      let element = ap (element_any (any_without g n.node)) (sym number) ∙ left ∙ ap Some (sym there.is_string.is) in
      record {
        tree = m.tree;
        is_tree = m.is_tree;
        it = there.it;
        stands = at_stands m.tree (place_left (goes gone) s.list).path.steps k there.it (ap (option_and_then (λ y. element_any y k)) m.is_node ∙ element);
        is_string = there.is_string;
      }

  -- ---- two times

  module _ (more : List Spot) (every : Every (SpotStays gone) more) where
    abbrev once : CallRef → ℕ → Bool
    once = goes (map (moved_spot gone) more)

    abbrev all : CallRef → ℕ → Bool
    all = goes (more ++ gone)

    abbrev at : CallRef → Gone
    at = gone_at (goes gone)

    abbrev later : CallRef → Gone
    later c = gone_at once (place_left (goes gone) c)

    abbrev Twice : CallRef → Node → Type 0
    Twice c x = NodeIn trees c x → any_without (later c) (any_without (at c) x) ≡ any_without (gone_at all c) x

    in_all : (c : CallRef) (x : Node) → NodeIn trees c x → (l : Listing Nowhere) → list_any x ≡ Some l → (n : ℕ) → gone_at all c [] n ≡ (at c [] n || later c [] (left_before (at c []) n))
    in_all c x h l is n =
        at_itself all c n ∙ goes_twice gone more every c n (passes c x h (no_string x l is))
        ∙ ap₂ (λ b d. b || d) (sym (at_itself (goes gone) c n))
        (sym (at_itself once (place_left (goes gone) c) (left_before (goes gone c) n)) ∙ ap (later c []) (sym (left_same (goes gone c) (at c []) (at_itself (goes gone) c) n)))

    child_twice : (c : CallRef) (x : Node) → NodeIn trees c x → ((n : ℕ) (y : Node) → nth (child_nodes x) n ≡ Some y → Twice (child c n) y)
        → (m n : ℕ) (y : Node) → nth (child_nodes x) n ≡ Some y → at c [] n ≡ false → m ≡ left_before (at c []) n → ChildThen (later c) (at c) (gone_at all c) m n y
    child_twice c x h children m n y is stays_n number =
        let here = ap (child (place_left (goes gone) c)) (number ∙ left_same (goes gone c) (at c []) (at_itself (goes gone) c) n) ∙ sym (child_place (goes gone) c n) in
        ap (λ u. any_without u (any_without (from_child n (at c)) y)) (at_child once (place_left (goes gone) c) m ∙ ap (gone_at once) here)
        ∙ ap (λ u. any_without (later (child c n)) (any_without u y)) (at_child (goes gone) c n) ∙ children n y is (child_in trees c x y n h is) ∙ ap (λ u. any_without u y) (sym (at_child all c n))

    twice : (c : CallRef) (x : Node) → ((n : ℕ) (y : Node) → nth (child_nodes x) n ≡ Some y → Twice (child c n) y) → Twice c x
    twice c x children h = node_then (later c) (at c) (gone_at all c) x (fits trees stand (goes gone) lost c x h) (in_all c x h) (child_twice c x h children)

    tree_twice : (i : ℕ) (t : Plain) → nth trees i ≡ Some t → tree_without (gone_in_file (map (moved_spot gone) more) i) (tree_without (gone_in_file gone i) t) ≡ tree_without (gone_in_file (more ++ gone) i) t
    tree_twice i (file s b) is = ap (file s) (same_block _ _ (by_each_child child Twice twice (place i []) (a_block b) (record { tree = file s b; is_tree = is; is_node = refl })))

    pub trees_twice : trees_without (map (moved_spot gone) more) (trees_without gone trees) ≡ trees_without (more ++ gone) trees
    trees_twice = all_twice trees (gone_in_file (map (moved_spot gone) more)) (gone_in_file gone) (gone_in_file (more ++ gone)) tree_twice
