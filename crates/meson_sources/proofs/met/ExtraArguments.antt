-- The extra files of a target whose call has got an argument for them.
use Rattle.meson_sources.proofs.Words.{option_and_then, option_map, [], ap, append-nil, arith, false, inr, IsUtf8, length, List, map, None, refl, Some, subst}
use Rattle.meson_sources.proofs.Words.{sym, ℕ, ◌++◌, ◌+◌, ◌∙◌, ◌∷◌, ◌≡◌, ◌≤◌, Span, an_expression, argument_parts, arguments_parts, list_at, list_in, ListAt}
use Rattle.meson_sources.proofs.Words.{ListIn, value_of, Argument, Arguments, arguments_of, array, call, dictionary, erase_expression, Expression, Listing}
use Rattle.meson_sources.proofs.Words.{listing, named, Nowhere, pair, Plain, plain, string, list-of-arguments, some-injective, Every, elements, with_value}
use Rattle.meson_sources.proofs.Words.{lists-stay, Call, literal_of, Numbered, Loaded, project, Placed, Project, CallRef, Expansion, fixed, max_followed}
use Rattle.meson_sources.proofs.Words.{plain_trees, ArgumentComes, ArgumentGrows, array_holding, elements_found, extra_argument, OnlyList, strings, extra_files}
use Rattle.meson_sources.proofs.Words.{extra_key, is_plain, file_names}
use Rattle.meson_sources.proofs.added.Turns.{listing_form}
use Rattle.meson_sources.proofs.gone.Held.{same_there}
use Rattle.meson_sources.proofs.met.Arguments.{keyed, list_with, as_whole, key_count, key_length}
use Rattle.meson_sources.proofs.met.Files.{met_in, of_extras, FilesGrown, answered, bare_number, keyed_bare}
use Rattle.meson_sources.proofs.met.GrownLists.{keyed_append, same_value, keyed_value, lone_array, lone_literal, lone_wrapped, new_keyed, other_keyed}
use Rattle.meson_sources.proofs.met.Marks.{expand_with, values_of}
use Rattle.meson_sources.proofs.met.Outcomes.{all_known, gist}
use Rattle.meson_sources.proofs.told.NamedAgain.{KeepsNames, named_stays}
use Rattle.meson_sources.proofs.told.Staying.{FirstKept, first_in, lists_alike}
use Rattle.meson_sources.proofs.told.Targets.{all_both, first_plain, in_argument, in_arguments, in_expression, in_listing, node_tells}
use Rattle.meson_sources.proofs.trees.Calls.{CallIn, CallNode, bare_arguments, bare_form, stands_bare, called}
use Rattle.meson_sources.proofs.trees.Elements.{elements_any, elements_at, root, Node}
use Rattle.meson_sources.proofs.trees.Places.{below_itself, below_steps}
use Rattle.meson_sources.proofs.trees.Scenes.{NodeIn}
use Rattle.meson_sources.proofs.trees.Shapes.{list_becomes, became_new, became_old}

-- ==== Where the arguments of a target's call become others by which the same is told, its id names it.

-- ---- a list by its elements

listing_tells : (l : Listing Nowhere) → in_listing l ≡ in_arguments (arguments_of (elements l))
listing_tells (listing r trailing list) = sym (ap in_arguments (list-of-arguments list))

listing_first : (l : Listing Nowhere) → first_in l ≡ first_plain (arguments_of (elements l))
listing_first (listing r trailing list) = sym (ap first_plain (list-of-arguments list))

kept_by : (e : Expression Nowhere) (o : ListIn Nowhere) → list_in e ≡ Some o → (m : Listing Nowhere) → first_in m ≡ first_in o.list → FirstKept e m
kept_by (call s f l) o is m same = inr (same ∙ sym (ap (λ (u : ListIn Nowhere). first_in u.list) (some-injective _ _ is)))
kept_by (array l) o is m same = tt
kept_by (dictionary l) o is m same = tt
kept_by _ o is m same = absurd cc

module _ (old new : Loaded) (same_names : file_names new ≡ file_names old) (c : Placed (Call Span)) (before after : List (Argument Nowhere)) (had : elements_found c.place (plain_trees old) ≡ Some before)
    (has : elements_found c.place (plain_trees new) ≡ Some after) (only : OnlyList c.place (plain_trees old) (plain_trees new)) (tells : in_arguments (arguments_of after) ≡ in_arguments (arguments_of before))
    (first : first_plain (arguments_of after) ≡ first_plain (arguments_of before)) where
  abbrev path : List ℕ
  path = c.place.path.steps

  pub arguments_named : KeepsNames old new c
  arguments_named id found =
      let lb = list_becomes only.tree path only.place only.is_place only.other in
      let were : elements only.place.list ≡ before =
      some-injective _ _ (sym (ap (λ o. option_and_then (λ u. option_map (λ (l : ListAt Nowhere). elements l.list) (list_at u path)) o) only.was ∙ ap (option_map (λ (l : ListAt Nowhere). elements l.list)) only.is_place) ∙ had) in
      let stay = lists-stay only.tree path only.place only.is_place only.other in
      let are : elements only.other ≡ after =
      ap elements (sym stay.list)
      ∙ some-injective _ _ (sym (ap (λ o. option_and_then (λ u. option_map (λ (l : ListAt Nowhere). elements l.list) (list_at u path)) o) only.now ∙ ap (option_map (λ (l : ListAt Nowhere). elements l.list)) stay.is_there) ∙ has) in
      let inner : elements lb.inner.list ≡ before = ap elements lb.same ∙ were in
      let told : in_listing only.other ≡ in_listing lb.inner.list =
      listing_tells only.other ∙ ap (λ xs. in_arguments (arguments_of xs)) are ∙ tells ∙ sym (listing_tells lb.inner.list ∙ ap (λ xs. in_arguments (arguments_of xs)) inner) in
      let kept : first_in only.other ≡ first_in lb.inner.list =
      listing_first only.other ∙ ap (λ xs. first_plain (arguments_of xs)) are ∙ first ∙ sym (listing_first lb.inner.list ∙ ap (λ xs. first_plain (arguments_of xs)) inner) in
      named_stays old new same_names c.place only.tree (only.place.back only.other) only.was only.now only.others lb.node (lb.inner.back only.other) lb.becomes
      (lists_alike lb.node lb.inner lb.is_inner only.other told (kept_by lb.node lb.inner lb.is_inner only.other kept)) id c found
      (λ m rest y leads. let none : [] ≡ m ∷ rest = below_steps c.place [] (m ∷ rest) (below_itself c.place ∙ leads) in absurd cc)

-- ---- a further argument

strings_silent : (names : List (List ℕ)) → in_arguments (arguments_of (strings names)) ≡ []
strings_silent [] = refl
strings_silent (name ∷ names) = strings_silent names

pub argument_tells : (us : List (Argument Nowhere)) (names : List (List ℕ)) → in_arguments (arguments_of (us ++ extra_argument names ∷ [])) ≡ in_arguments (arguments_of us)
argument_tells [] names = append-nil _ ∙ node_tells (an_expression (array_holding (strings names))) ∙ strings_silent names
argument_tells (u ∷ us) names =
    all_both (argument_parts u) (arguments_parts (arguments_of (us ++ extra_argument names ∷ []))) ∙ ap (λ l. in_argument u ++ l) (argument_tells us names)
    ∙ sym (all_both (argument_parts u) (arguments_parts (arguments_of us)))

pub argument_first : (us : List (Argument Nowhere)) (names : List (List ℕ)) → first_plain (arguments_of (us ++ extra_argument names ∷ [])) ≡ first_plain (arguments_of us)
argument_first [] names = refl
argument_first (plain e ∷ us) names = refl
argument_first (named s x e ∷ us) names = argument_first us names
argument_first (pair s e f ∷ us) names = argument_first us names

-- ---- a value that becomes an array with strings behind it

abbrev wrapped : Expression Nowhere → List (List ℕ) → Expression Nowhere
wrapped value names = array_holding (plain value ∷ strings names)

wrapped_tells : (value : Expression Nowhere) (names : List (List ℕ)) → in_expression (wrapped value names) ≡ in_expression value
wrapped_tells value names = node_tells (an_expression (wrapped value names)) ∙ ap (λ l. in_expression value ++ l) (strings_silent names) ∙ append-nil _

value_tells : (value : Expression Nowhere) (names : List (List ℕ)) (it : Argument Nowhere) → value_of it ≡ Some value → in_argument (with_value (wrapped value names) it) ≡ in_argument it
value_tells value names (plain e) is = ap (λ l. l ++ []) (wrapped_tells value names ∙ ap in_expression (sym (some-injective e value is)))
value_tells value names (named s x e) is = ap (λ l. l ++ []) (wrapped_tells value names ∙ ap in_expression (sym (some-injective e value is)))
value_tells value names (pair s e f) is = ap (λ l. in_expression e ++ (l ++ [])) (wrapped_tells value names ∙ ap in_expression (sym (some-injective f value is)))

pub grown_argument_tells : (value : Expression Nowhere) (names : List (List ℕ)) (front : List (Argument Nowhere)) (it : Argument Nowhere) (back : List (Argument Nowhere)) → value_of it ≡ Some value
    → in_arguments (arguments_of (front ++ with_value (wrapped value names) it ∷ back)) ≡ in_arguments (arguments_of (front ++ it ∷ back))
grown_argument_tells value names [] it back is =
    all_both (argument_parts (with_value (wrapped value names) it)) (arguments_parts (arguments_of back)) ∙ ap (λ l. l ++ in_arguments (arguments_of back)) (value_tells value names it is)
    ∙ sym (all_both (argument_parts it) (arguments_parts (arguments_of back)))
grown_argument_tells value names (u ∷ front) it back is =
    all_both (argument_parts u) (arguments_parts (arguments_of (front ++ with_value (wrapped value names) it ∷ back))) ∙ ap (λ l. in_argument u ++ l) (grown_argument_tells value names front it back is)
    ∙ sym (all_both (argument_parts u) (arguments_parts (arguments_of (front ++ it ∷ back))))

first_by : (front : List (Argument Nowhere)) (a b : Argument Nowhere) (back : List (Argument Nowhere)) → is_plain a ≡ false → is_plain b ≡ false → first_plain (arguments_of (front ++ a ∷ back)) ≡ first_plain (arguments_of (front ++ b ∷ back))
first_by [] (plain e) b back one other = absurd cc
first_by [] (named s x e) (plain f) back one other = absurd cc
first_by [] (named s x e) (named r y f) back one other = refl
first_by [] (named s x e) (pair r f g) back one other = refl
first_by [] (pair s e d) (plain f) back one other = absurd cc
first_by [] (pair s e d) (named r y f) back one other = refl
first_by [] (pair s e d) (pair r f g) back one other = refl
first_by (plain e ∷ front) a b back one other = refl
first_by (named s x e ∷ front) a b back one other = first_by front a b back one other
first_by (pair s e f ∷ front) a b back one other = first_by front a b back one other

-- no argument of a key is one without a name
no_key : (key : List ℕ) (front : List (Argument Nowhere)) (e f : Expression Nowhere) (back : List (Argument Nowhere)) (k : ℕ) → keyed key k (arguments_of (front ++ plain e ∷ back)) ≡ keyed key k (arguments_of (front ++ plain f ∷ back))
no_key key front e f back k = keyed_append key front (plain e ∷ back) k ∙ sym (keyed_append key front (plain f ∷ back) k)

pub grown_argument_first : (key : List ℕ) (front : List (Argument Nowhere)) (it : Argument Nowhere) (back : List (Argument Nowhere)) (n : ℕ) (w w2 : Expression Nowhere)
    → keyed key 0 (arguments_of (front ++ it ∷ back)) ≡ record { number = n; value = w } ∷ [] → keyed key 0 (arguments_of (front ++ with_value w2 it ∷ back)) ≡ record { number = n; value = w2 } ∷ []
    → (w ≡ w2 → ⊥) → first_plain (arguments_of (front ++ with_value w2 it ∷ back)) ≡ first_plain (arguments_of (front ++ it ∷ back))
grown_argument_first key front (plain e) back n w w2 was now other =
    absurd (other (same_value (record { number = n; value = w }) (record { number = n; value = w2 }) [] [] (sym was ∙ no_key key front e w2 back 0 ∙ now)))
grown_argument_first key front (named s x e) back n w w2 was now other = first_by front (named s x w2) (named s x e) back refl refl
grown_argument_first key front (pair s e f) back n w w2 was now other = first_by front (pair s e w2) (pair s e f) back refl refl

-- ==== The extra files of a target after its call has got an argument for them, or an array in the place of a lone one.

-- the elements of the list at a place are those of its node
elements_in : (ts : List Plain) (c : CallRef) (y : Node) (zs : List (Argument Nowhere)) → NodeIn ts c y → elements_found c ts ≡ Some zs → elements_any y ≡ Some zs
elements_in ts c y zs n is =
    sym (ap (λ o. option_and_then (λ u. option_map (λ (l : ListAt Nowhere). elements l.list) (list_at u c.path.steps)) o) n.is_tree ∙ elements_at n.tree c.path.steps ∙ ap (option_and_then elements_any) n.is_node) ∙ is

bare_literal : (e : Expression Span) → literal_of (erase_expression e) ≡ literal_of e
bare_literal (string s q x) = refl
bare_literal _ = refl

module _ (old new : Loaded) (same_names : file_names new ≡ file_names old) (c : CallRef) (t : CallIn (project old) c) (few : length (keyed extra_key 0 t.arguments) ≤ 1) where
  abbrev trees : List Plain
  trees = plain_trees old

  abbrev after : List Plain
  after = plain_trees new

  abbrev call_node : Expression Nowhere
  call_node = bare_form t

  at_call : NodeIn trees c (an_expression call_node)
  at_call = stands_bare old c t

  -- its arguments before
  were : (zs : List (Argument Nowhere)) → elements_found c trees ≡ Some zs → arguments_of zs ≡ bare_arguments t
  were zs had = ap arguments_of (sym (some-injective _ _ (elements_in trees c (an_expression call_node) zs at_call had))) ∙ list-of-arguments (bare_arguments t)

  -- the call afterwards
  then_call : (zs : List (Argument Nowhere)) → elements_found c after ≡ Some zs → OnlyList c trees after → CallNode after c (arguments_of zs)
  then_call zs has only =
      let lb = list_becomes only.tree c.path.steps only.place only.is_place only.other in
      let old_there = became_old (an_expression lb.node) (an_expression (lb.inner.back only.other)) c.path.steps (root only.tree) (root (only.place.back only.other)) lb.becomes in
      let new_there = became_new (an_expression lb.node) (an_expression (lb.inner.back only.other)) c.path.steps (root only.tree) (root (only.place.back only.other)) lb.becomes in
      let same = same_there trees c (an_expression call_node) (an_expression lb.node) at_call (record { tree = only.tree; is_tree = only.was; is_node = old_there }) in
      go lb.node lb.inner lb.is_inner same (record { tree = only.place.back only.other; is_tree = only.now; is_node = new_there })
    where
      go : (e : Expression Nowhere) (o : ListIn Nowhere) → list_in e ≡ Some o → an_expression e ≡ an_expression call_node → NodeIn after c (an_expression (o.back only.other)) → CallNode after c (arguments_of zs)
      go (call q x l) o is same n =
          let back : o.back only.other ≡ call q x only.other = sym (ap (λ (i : ListIn Nowhere). i.back only.other) (some-injective _ _ is)) in
          let there = subst (λ e. NodeIn after c (an_expression e)) back n in
          let form = listing_form only.other zs (some-injective _ _ (elements_in after c (an_expression (call q x only.other)) zs there has)) in
          record { name = x; trailing = form.0; node = subst (λ l. NodeIn after c (an_expression (call tt x l))) form.1 there }
      go _ o is same n = absurd cc

  one_key : (list : Arguments Nowhere) (v : Numbered (Expression Nowhere)) → keyed extra_key 0 list ≡ v ∷ [] → key_count extra_key list ≤ 1
  one_key list v is = let many = key_length extra_key 0 list in let one = ap length is in omega (arith, many, one)

  -- what is met of a call with these arguments
  met_by : (p : Project Span) (list : Arguments Nowhere) (us : List (Numbered (Expression Nowhere))) → keyed extra_key 0 list ≡ us
      → gist (met_in of_extras p c list).marks ≡ gist (list_with (expand_with (values_of p) max_followed) c (λ n. fixed) us []).marks
  met_by p list us is =
      let one = expand_with (values_of p) max_followed in
      ap (λ (e : Expansion Nowhere). gist e.marks) (as_whole one c list) ∙ ap (λ l. gist (list_with one c (λ n. fixed) l []).marks) is

  module _ (names : List (List ℕ)) (utf8 : Every IsUtf8 names) where
    pub new_argument : keyed extra_key 0 t.arguments ≡ [] → ArgumentComes c (extra_argument names) trees after → FilesGrown extra_files names c (project old) (project new) × KeepsNames old new (called t)
    new_argument none comes =
        let bare_none : keyed extra_key 0 (bare_arguments t) ≡ [] = keyed_bare extra_key 0 t.arguments ∙ ap (map bare_number) none in
        let k = new_keyed comes.arguments 0 names (ap (keyed extra_key 0) (were comes.arguments comes.had) ∙ bare_none) in
        let list = arguments_of (comes.arguments ++ extra_argument names ∷ []) in
        let us = comes.arguments ++ extra_argument names ∷ [] in
        let still_named = arguments_named old new same_names (called t) comes.arguments us comes.had comes.has comes.only (argument_tells comes.arguments names) (argument_first comes.arguments names) in
        let grows = answered of_extras names old new c t few list (then_call (comes.arguments ++ extra_argument names ∷ []) comes.has comes.only) (one_key list _ k.1) (λ ys same. refl) (record {
          front = [];
          back = [];
          had = met_by (project old) (bare_arguments t) [] bare_none;
          has = met_by (project new) list _ k.1 ∙ lone_array (values_of (project new)) c k.0 names utf8 ∙ sym (append-nil (all_known names));
        }) in
        (grows, still_named)

    pub grown_argument : (v : Numbered (Expression Span)) (others : List (Numbered (Expression Span))) (text : List ℕ) → keyed extra_key 0 t.arguments ≡ v ∷ others → literal_of v.value ≡ Some text → ArgumentGrows c v.number names trees after
        → FilesGrown extra_files names c (project old) (project new) × KeepsNames old new (called t)
    grown_argument v others text is literal g =
        let alone : others ≡ [] = no_more others (let many = ap length is in omega (arith, many, few)) in
        let w = erase_expression v.value in
        let bare_one : keyed extra_key 0 (bare_arguments t) ≡ record { number = v.number; value = w } ∷ [] = keyed_bare extra_key 0 t.arguments ∙ ap (map bare_number) (is ∙ ap (λ l. v ∷ l) alone) in
        let here = ap (keyed extra_key 0) (were (g.front ++ g.it ∷ g.back) g.had) ∙ bare_one in
        let number : v.number ≡ 0 + length g.front = (let n = g.is_number in omega (arith, n)) in
        let same : g.value ≡ w = some-injective _ _ (sym g.is_value ∙ keyed_value g.front g.it g.back 0 v.number w number here) in
        let w2 = array_holding (plain g.value ∷ strings names) in
        let k = other_keyed g.front g.it g.back 0 v.number w number here w2 in
        let list = arguments_of (g.front ++ with_value w2 g.it ∷ g.back) in
        let is_literal : literal_of w ≡ Some text = bare_literal v.value ∙ literal in
        let no_array : w ≡ w2 → ⊥ = (λ both. let none : Some text ≡ None = sym is_literal ∙ ap literal_of both in cc) in
        let us = g.front ++ with_value w2 g.it ∷ g.back in
        let still_named = arguments_named old new same_names (called t) (g.front ++ g.it ∷ g.back) us g.had g.has g.only (grown_argument_tells g.value names g.front g.it g.back g.is_value)
        (grown_argument_first extra_key g.front g.it g.back v.number w w2 here k no_array) in
        let grows = answered of_extras names old new c t few list (then_call (g.front ++ with_value w2 g.it ∷ g.back) g.has g.only) (one_key list _ k) (λ ys same. refl) (record {
          front = Some text ∷ [];
          back = [];
          had = met_by (project old) (bare_arguments t) _ bare_one ∙ lone_literal (values_of (project old)) c v.number w text is_literal;
          has =
              met_by (project new) list _ k
              ∙ lone_wrapped (values_of (project new)) c v.number g.value text (ap literal_of same ∙ is_literal) names utf8 ∙ ap (λ l. Some text ∷ l) (sym (append-nil (all_known names)));
        }) in
        (grows, still_named)
      where
        no_more : (us : List (Numbered (Expression Span))) → length us ≤ 0 → us ≡ []
        no_more [] few = refl
        no_more (u ∷ us) few = absurd (omega (arith, few))
