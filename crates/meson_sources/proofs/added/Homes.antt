-- Where further files go, and that they may be put there.
use Rattle.meson_calls.specs.Calls as calls
use Rattle.meson_steps.proofs.Distincts.{All-distinct}
use Rattle.meson_sources.proofs.Words.{cons_option, filter_map, All, bytes_eq, if◌then◌else◌, not, Ok, option_map, ◌⊎◌, [], ap, arith, Bool, false, inl, inr}
use Rattle.meson_sources.proofs.Words.{IsUtf8, length, List, None, Option, refl, Some, subst, suc, sym, true, zero, ℕ, ◌+◌, ◌-◌, ◌<◌, ◌∙◌, ◌∷◌, ◌≡◌, ◌≤◌}
use Rattle.meson_sources.proofs.Words.{All-filter, All-head, All-tail, then_ok, Span, file_depth, LevelArguments, LevelFile, LevelListing, holds_pairs}
use Rattle.meson_sources.proofs.Words.{holds_values, nth, value_of, Argument, argument, argument_list, Arguments, arguments_of, erase, erase_argument}
use Rattle.meson_sources.proofs.Words.{erase_arguments, erase_expression, erase_listing, Expression, Listing, listing, Name, named, no_arguments, Nowhere, pair}
use Rattle.meson_sources.proofs.Words.{Plain, plain, Bracket, list-of-arguments, list-fits, After, elements, Wrap, ListThere, Call, first_argument, first_of}
use Rattle.meson_sources.proofs.Words.{kept_number, keyword, Numbered, numbered, value_with_name, value_without_name, AreParsed, Loaded, project, kwargs_key}
use Rattle.meson_sources.proofs.Words.{not_hidden, once, sources_key, child, Placed, Project, CallRef, values_no_pairs, empty, fixed, in_list, known, Mark}
use Rattle.meson_sources.proofs.Words.{opaque, Slot, first_empty, first_list, home, list_of_slot, or_call, or_option, source_marks, AreDoable, MayStandBetween}
use Rattle.meson_sources.proofs.Words.{none, checked_names, distinct, plain_trees, Step, step_in, Room, element_erased, empty_erased, parsed_shallow}
use Rattle.meson_sources.proofs.Words.{plain_place, tree_is, trees_stand, value_erased, once_was, then_was, all_nth, behind_value, checked_extra}
use Rattle.meson_sources.proofs.Words.{elements_there, extra_inserted, extra_key, extra_marks, inserted_in, insertion_steps, into_new_list, is_known, new_names}
use Rattle.meson_sources.proofs.Words.{plain_len, without_home, written_keyword}
use Rattle.meson_sources.proofs.added.Counts.{plain_count, plain_count_is, count_erased, some_plain, last_plain, elements_are}
use Rattle.meson_sources.proofs.added.Lists.{behind_doable, first_doable, keyword_written, keyword_grown, wrapped_grown, array_doable}
use Rattle.meson_sources.proofs.met.Standing.{StringThere, NothingThere, SlotStands, MarkStands, TargetThere, SourcesMayBeAdded, ExtrasMayBeAdded}

-- ==== The list to which further strings go: it holds nothing, or an element without a name; strings may be put into it.

-- the list is there, and holds nothing or an element without a name
pub record Home (p : Project Span) (c : CallRef) : Type 0 where
  pub there : ListThere p c
  pub holds : (elements there.list.list ≡ []) ⊎ (0 < plain_count (elements there.list.list))
  pub values : holds_values there.list.bracket ≡ true

-- ---- by the marks

string_home : (p : Project Span) (c : CallRef) (n : ℕ) → StringThere p c n → Home p c
string_home p c n s = record { there = s.there; holds = inr (some_plain (elements s.there.list.list) n _ s.is_string); values = s.values }

slot_home : (p : Project Span) (s : Slot) (more : Option CallRef) (c : CallRef) → SlotStands p s → (more ≡ Some c → Home p c) → or_option (list_of_slot s) more ≡ Some c → Home p c
slot_home p (in_list l n) more c stands later is = let same : l ≡ c = cc in subst (Home p) same (string_home p l n stands)
slot_home p fixed more c stands later is = later is

pub listed_home : (p : Project Span) (ms : List (Mark Span)) (c : CallRef) → All (MarkStands p) ms → first_list ms ≡ Some c → Home p c
listed_home p [] c stand is = absurd cc
listed_home p (known i ∷ ms) c stand is =
    slot_home p i.slot (first_list ms) c (All-head (MarkStands p) (known i) ms stand) (listed_home p ms c (All-tail (MarkStands p) (known i) ms stand)) is
listed_home p (opaque ∷ ms) c stand is = listed_home p ms c (All-tail (MarkStands p) opaque ms stand) is
listed_home p (empty l ∷ ms) c stand is = listed_home p ms c (All-tail (MarkStands p) (empty l) ms stand) is

pub empty_home : (p : Project Span) (ms : List (Mark Span)) (c : CallRef) → All (MarkStands p) ms → first_empty ms ≡ Some c → Home p c
empty_home p [] c stand is = absurd cc
empty_home p (known i ∷ ms) c stand is = empty_home p ms c (All-tail (MarkStands p) (known i) ms stand) is
empty_home p (opaque ∷ ms) c stand is = empty_home p ms c (All-tail (MarkStands p) opaque ms stand) is
empty_home p (empty l ∷ ms) c stand is =
    let same : l ≡ c = cc in
    let n : NothingThere p l = All-head (MarkStands p) (empty l) ms stand in
    subst (Home p) same (record { there = n.there; holds = inl n.is_empty; values = n.values })

pub marked_home : (p : Project Span) (ms : List (Mark Span)) (c : CallRef) → All (MarkStands p) ms → or_option (first_list ms) (first_empty ms) ≡ Some c → Home p c
marked_home p ms c stand is = go (first_list ms) (λ l found. listed_home p ms l stand found) is
  where
    go : (o : Option CallRef) → ((l : CallRef) → o ≡ Some l → Home p l) → or_option o (first_empty ms) ≡ Some c → Home p c
    go None found h = empty_home p ms c stand h
    go (Some l) found h = found c h

-- ---- what may be put there

pub list_levels : (l : Listing Nowhere) (b : Bracket) → LevelListing l b → LevelArguments (arguments_of (elements l)) b false
list_levels (listing s trailing list) b l = subst (λ xs. LevelArguments xs b false) (sym (list-of-arguments list)) l.1

module _ (old : Loaded) (are : AreParsed old.files old.parsed) (c : CallRef) where
  -- the tree of a list that is there
  abbrev tree : ListThere (project old) c → Plain
  tree there = erase there.file.tree

  pub all_stand : All MayStandBetween (plain_trees old)
  all_stand = trees_stand old.files old.parsed are

  -- room behind the last element without a name
  pub room_there : (there : ListThere (project old) c) → holds_values there.list.bracket ≡ true → (k : ℕ) → plain_count (elements there.list.list) ≡ suc k → Room (tree there) c.path.steps k
  room_there there values k many =
      let path = c.path.steps in
      let q = plain_place there.file.tree path there.list there.is_list in
      let level : LevelFile (tree there) = (all_nth MayStandBetween (plain_trees old) c.file (tree there) all_stand (tree_is old c there)).0 in
      let low = (list-fits Nowhere (tree there) path q.place q.is_place).level level in
      let count = ap (λ l. plain_count (elements l)) q.list ∙ count_erased there.list.list ∙ many in
      let holds = ap holds_values q.bracket ∙ values in
      let last = last_plain q.place.bracket (values_no_pairs q.place.bracket holds) (elements q.place.list) false k (list_levels q.place.list q.place.bracket low) count in
      record { place = q.place; is_place = q.is_place; it = last.0; is_it = last.1; no_name = last.2; holds = holds }

  pub home_doable : Home (project old) c → (names : List (List ℕ)) → All IsUtf8 names → AreDoable (inserted_in (project old) c names) (plain_trees old)
  home_doable h names utf8 = go (plain_len (project old) c) count
    where
      count : plain_count (elements h.there.list.list) ≡ plain_len (project old) c
      count = ap plain_count (sym (elements_are (project old) c h.there)) ∙ plain_count_is (elements_there (project old) c)

      nothing : (elements h.there.list.list ≡ []) ⊎ (0 < plain_count (elements h.there.list.list)) → plain_count (elements h.there.list.list) ≡ 0 → elements h.there.list.list ≡ []
      nothing (inl no_element) zero_left = no_element
      nothing (inr some) zero_left = absurd (omega (arith, some, zero_left))

      go : (n : ℕ) → plain_count (elements h.there.list.list) ≡ n → AreDoable (insertion_steps c n names) (plain_trees old)
      go zero zero_left =
          let path = c.path.steps in
          let q = plain_place h.there.file.tree path h.there.list h.there.is_list in
          let no_element = nothing h.holds zero_left in
          first_doable c names utf8 (plain_trees old) (tree h.there) (tree_is old c h.there) all_stand q.place q.is_place (ap holds_values q.bracket ∙ h.values) (ap elements q.list ∙ empty_erased h.there.list.list no_element)
      go (suc k) many = behind_doable c names utf8 k (plain_trees old) (tree h.there) (tree_is old c h.there) all_stand (room_there h.there h.values k many)

-- ==== Sources may be put into the list where they go, one after another.

-- ---- new names are among the names

pub new_texts : (marks : List (Mark Span)) (names : List (List ℕ)) → All IsUtf8 names → All IsUtf8 (new_names marks names)
new_texts marks names all = All-filter (λ name. not (is_known marks name)) IsUtf8 (distinct names) (All-distinct IsUtf8 [] names all)

-- ---- the call of a target

first_plain : (list : Arguments Span) (n : ℕ) (e : Expression Span) → option_map (λ a. a.value) (first_of (filter_map (kept_number value_without_name) (numbered n list))) ≡ Some e → 0 < plain_count (argument_list list)
unfolding plain_count
first_plain no_arguments n e is = absurd cc
first_plain (argument (plain x) more) n e is = omega arith
first_plain (argument (named s x v) more) n e is = first_plain more (n + 1) e is
first_plain (argument (pair s k v) more) n e is = first_plain more (n + 1) e is

pub some_first : (c : Call Span) (e : Expression Span) → first_argument c ≡ Some e → 0 < plain_count (elements c.arguments)
some_first c e is = go c.arguments is
  where
    go : (l : Listing Span) → first_argument (record { function = c.function; arguments = l }) ≡ Some e → 0 < plain_count (elements l)
    go (listing s trailing list) h = first_plain list 0 e h

pub target_home : (p : Project Span) (c : Placed (Call Span)) → TargetThere p c → Home p c.place
target_home p c t = record { there = t.there; holds = inr (subst (λ l. 0 < plain_count (elements l)) (sym t.is_list) (some_first c.it t.first t.is_first)); values = ap holds_values t.is_round }

-- ---- sources

pub sources_home : (p : Project Span) (c : Placed (Call Span)) → TargetThere p c → (ms : List (Mark Span)) → All (MarkStands p) ms → Home p (home c.place ms)
sources_home p c t ms stand = go (or_option (first_list ms) (first_empty ms)) (λ l is. marked_home p ms l stand is)
  where
    go : (o : Option CallRef) → ((l : CallRef) → o ≡ Some l → Home p l) → Home p (or_call c.place o)
    go None found = target_home p c t
    go (Some l) found = found l refl

pub sources_may_be_added : SourcesMayBeAdded
sources_may_be_added old are c t stand names utf8 steps is =
    let p = project old in
    let ms = source_marks p c in
    let l = home c.place ms in
    let new = new_names ms names in
    let checked = then_was (checked_names names) (λ _. once sources_key (keyword sources_key c.it) (inserted_in p l new)) steps is in
    let same = once_was sources_key (keyword sources_key c.it) (inserted_in p l new) steps checked.2 in
    subst (λ s. AreDoable s (plain_trees old)) same (home_doable old are l (sources_home p c t ms stand.stand) new (new_texts ms names utf8))

-- ==== The arguments of a name stand in the list of their call, each at its number.

record NamedThere (list : Arguments Span) (n : ℕ) (v : Numbered (Expression Span)) : Type 0 where
  number : ℕ
  is_number : v.number ≡ n + number
  it : Argument Span
  is_it : nth (argument_list list) number ≡ Some it
  is_value : value_of it ≡ Some v.value

one_behind : (a : Argument Span) (list : Arguments Span) (n : ℕ) (v : Numbered (Expression Span)) → NamedThere list (n + 1) v → NamedThere (argument a list) n v
one_behind a list n v t =
    let is = t.is_number in
    record { number = suc t.number; is_number = omega (arith, is); it = t.it; is_it = t.is_it; is_value = t.is_value }

module _ (key : List ℕ) where
  abbrev named_from : Arguments Span → ℕ → List (Numbered (Expression Span))
  named_from list n = filter_map (kept_number (value_with_name key)) (numbered n list)

  by_name : (s : Span) (x : Name Span) (e : Expression Span) (list : Arguments Span) (n : ℕ) (v : Numbered (Expression Span)) (more : List (Numbered (Expression Span))) (b : Bool)
      → cons_option (option_map (λ y. record { number = n; value = y }) (if b then Some e else None)) (named_from list (n + 1)) ≡ v ∷ more
      → (named_from list (n + 1) ≡ v ∷ more → NamedThere list (n + 1) v) → NamedThere (argument (named s x e) list) n v
  by_name s x e list n v more true is later =
      let same : v ≡ record { number = n; value = e } = cc in
      let number : v.number ≡ n = ap (λ (u : Numbered (Expression Span)). u.number) same in
      let value : v.value ≡ e = ap (λ (u : Numbered (Expression Span)). u.value) same in
      record { number = 0; is_number = omega (arith, number); it = named s x e; is_it = refl; is_value = ap Some (sym value) }
  by_name s x e list n v more false is later = one_behind (named s x e) list n v (later is)

  named_there : (list : Arguments Span) (n : ℕ) (v : Numbered (Expression Span)) (more : List (Numbered (Expression Span))) → named_from list n ≡ v ∷ more → NamedThere list n v
  named_there no_arguments n v more is = absurd cc
  named_there (argument (plain e) list) n v more is = one_behind (plain e) list n v (named_there list (n + 1) v more is)
  named_there (argument (named s x e) list) n v more is = by_name s x e list n v more (bytes_eq x.text key) is (λ h. named_there list (n + 1) v more h)
  named_there (argument (pair s k e) list) n v more is = one_behind (pair s k e) list n v (named_there list (n + 1) v more is)

pub record ValueThere (l : Listing Span) (v : Numbered (Expression Span)) : Type 0 where
  pub it : Argument Span
  pub is_it : nth (elements l) v.number ≡ Some it
  pub is_value : value_of it ≡ Some v.value

pub keyword_there : (key : List ℕ) (c : Call Span) (v : Numbered (Expression Span)) (more : List (Numbered (Expression Span))) → keyword key c ≡ v ∷ more → ValueThere c.arguments v
keyword_there key c v more is = go c.arguments is
  where
    go : (l : Listing Span) → keyword key (record { function = c.function; arguments = l }) ≡ v ∷ more → ValueThere l v
    go (listing s trailing list) h =
        let t = named_there key list 0 v more h in
        let number = t.is_number in
        let same : v.number ≡ t.number = omega (arith, number) in
        record { it = t.it; is_it = ap (nth (argument_list list)) same ∙ t.is_it; is_value = t.is_value }

-- ==== Extra files may be put where they go, one after another: into a list, into a new one, or behind a lone value.

-- ---- as many elements without their spans

many_erased : (list : Arguments Span) → length (argument_list (erase_arguments list)) ≡ length (argument_list list)
many_erased no_arguments = refl
many_erased (argument a more) = ap suc (many_erased more)

pub as_many : (l : Listing Span) → length (elements (erase_listing l)) ≡ length (elements l)
as_many (listing s trailing list) = many_erased list

-- a list with an element without a name is not empty
pub not_empty : (xs : List (Argument Span)) → 0 < plain_count xs → length xs ≡ 0 → ⊥
unfolding plain_count
not_empty [] some is = omega (arith, some)
not_empty (x ∷ xs) some is = omega (arith, is)

-- ---- without a list that is known

module _ (old : Loaded) (are : AreParsed old.files old.parsed) (c : Placed (Call Span)) (t : TargetThere (project old) c) where
  abbrev whole_tree : Plain
  whole_tree = erase t.there.file.tree

  tree_level : LevelFile whole_tree
  tree_level = (all_nth MayStandBetween (plain_trees old) c.place.file whole_tree (all_stand old are c.place) (tree_is old c.place t.there)).0

  tree_shallow : file_depth whole_tree ≤ 64
  tree_shallow = all_nth (λ u. file_depth u ≤ 64) (plain_trees old) c.place.file whole_tree (parsed_shallow old.files old.parsed are) (tree_is old c.place t.there)

  new_list_doable : (name : List ℕ) (more : List (List ℕ)) → All IsUtf8 (name ∷ more) → AreDoable (into_new_list (project old) c.place (name ∷ more)) (plain_trees old)
  new_list_doable name more utf8 = go (length (elements_there (project old) c.place)) refl
    where
      go : (n : ℕ) → length (elements_there (project old) c.place) ≡ n
          → AreDoable (step_in c.place (After c.place.path.steps (n - 1) (written_keyword name)) ∷ insertion_steps (child c.place n) 1 more) (plain_trees old)
      go zero is = absurd (not_empty (elements t.there.list.list) (subst (λ l. 0 < plain_count (elements l)) (sym t.is_list) (some_first c.it t.first t.is_first)) (ap length (sym (elements_are (project old) c.place t.there)) ∙ is))
      go (suc m) is =
          let q = plain_place t.there.file.tree c.place.path.steps t.there.list t.there.is_list in
          let many : length (elements q.place.list) ≡ suc m =
          ap (λ l. length (elements l)) q.list ∙ as_many t.there.list.list ∙ ap length (sym (elements_are (project old) c.place t.there)) ∙ is in
          let g = keyword_grown whole_tree c.place.path.steps q.place q.is_place tree_level (q.bracket ∙ t.is_round) m many name in
          let less : suc m - 1 ≡ m = omega arith in
          subst (λ k. AreDoable (step_in c.place (After c.place.path.steps k (written_keyword name)) ∷ insertion_steps (child c.place (suc m)) 1 more) (plain_trees old)) (sym less)
          (array_doable c.place (suc m) (After c.place.path.steps m (written_keyword name)) more (All-tail IsUtf8 name more utf8) (plain_trees old) whole_tree (tree_is old c.place t.there) (all_stand old are c.place)
          tree_shallow (keyword_written name (All-head IsUtf8 name more utf8)) g)

  wrap_doable : (v : Numbered (Expression Span)) (others : List (Numbered (Expression Span))) → keyword extra_key c.it ≡ v ∷ others → (names : List (List ℕ)) → All IsUtf8 names
      → AreDoable (step_in c.place (Wrap c.place.path.steps v.number) ∷ insertion_steps (child c.place v.number) 1 names) (plain_trees old)
  wrap_doable v others is names utf8 =
      let path = c.place.path.steps in
      let k = keyword_there extra_key c.it v others is in
      let q = plain_place t.there.file.tree path t.there.list t.there.is_list in
      let in_it : nth (elements t.there.list.list) v.number ≡ Some k.it = ap (λ l. nth (elements l) v.number) t.is_list ∙ k.is_it in
      let there : nth (elements q.place.list) v.number ≡ Some (erase_argument k.it) = ap (λ l. nth (elements l) v.number) q.list ∙ element_erased t.there.list.list v.number k.it in_it in
      let g = wrapped_grown whole_tree path q.place q.is_place tree_level (ap holds_pairs (q.bracket ∙ t.is_round)) v.number (erase_argument k.it) (erase_expression v.value) there (value_erased k.it v.value k.is_value) in
      array_doable c.place v.number (Wrap path v.number) names utf8 (plain_trees old) whole_tree (tree_is old c.place t.there) (all_stand old are c.place) tree_shallow tt g

  value_doable : (v : Numbered (Expression Span)) (others : List (Numbered (Expression Span))) → keyword extra_key c.it ≡ v ∷ others → (text : Option (List ℕ)) (names : List (List ℕ)) → All IsUtf8 names
      → (steps : List Step) → behind_value c.place v.number text names ≡ Ok steps → AreDoable steps (plain_trees old)
  value_doable v others is None names utf8 steps made = absurd cc
  value_doable v others is (Some text) names utf8 steps made =
      let same : step_in c.place (Wrap c.place.path.steps v.number) ∷ insertion_steps (child c.place v.number) 1 names ≡ steps = cc in
      subst (λ s. AreDoable s (plain_trees old)) same (wrap_doable v others is names utf8)

  homeless_doable : (values : List (Numbered (Expression Span))) → keyword extra_key c.it ≡ values → (name : List ℕ) (more : List (List ℕ)) → All IsUtf8 (name ∷ more)
      → (steps : List Step) → without_home (project old) c.place values (name ∷ more) ≡ Ok steps → AreDoable steps (plain_trees old)
  homeless_doable [] is name more utf8 steps made =
      let same : into_new_list (project old) c.place (name ∷ more) ≡ steps = cc in
      subst (λ s. AreDoable s (plain_trees old)) same (new_list_doable name more utf8)
  homeless_doable (v ∷ others) is name more utf8 steps made = value_doable v others is (calls.literal_of v.value) (name ∷ more) utf8 steps made

  -- ---- by the home

  inserted_doable : (home : Option CallRef) → ((l : CallRef) → home ≡ Some l → Home (project old) l) → (names : List (List ℕ)) → All IsUtf8 names
      → (steps : List Step) → extra_inserted (project old) c home names ≡ Ok steps → AreDoable steps (plain_trees old)
  inserted_doable home found [] utf8 steps made =
      let same : [] ≡ steps = cc in
      subst (λ s. AreDoable s (plain_trees old)) same (none (plain_trees old))
  inserted_doable None found (name ∷ more) utf8 steps made = homeless_doable (keyword extra_key c.it) refl name more utf8 steps made
  inserted_doable (Some l) found (name ∷ more) utf8 steps made =
      let same : inserted_in (project old) l (name ∷ more) ≡ steps = cc in
      subst (λ s. AreDoable s (plain_trees old)) same (home_doable old are l (found l refl) (name ∷ more) utf8)

pub extra_once : (p : Project Span) (c : Placed (Call Span)) (names : List (List ℕ)) (ms : List (Mark Span)) → checked_extra p c names ≡ Ok ms → once extra_key (keyword extra_key c.it) (extra_marks p c) ≡ Ok ms
extra_once p c names ms is =
    let marks = once extra_key (keyword extra_key c.it) (extra_marks p c) in
    let a = then_was (checked_names names) (λ _. then_ok (not_hidden (keyword kwargs_key c.it)) (λ _. marks)) ms is in
    (then_was (not_hidden (keyword kwargs_key c.it)) (λ _. marks) ms a.2).2

pub checked_marks : (p : Project Span) (c : Placed (Call Span)) (names : List (List ℕ)) (ms : List (Mark Span)) → checked_extra p c names ≡ Ok ms → extra_marks p c ≡ ms
checked_marks p c names ms is = once_was extra_key (keyword extra_key c.it) (extra_marks p c) ms (extra_once p c names ms is)

pub extras_may_be_added : ExtrasMayBeAdded
extras_may_be_added old are c t stand names utf8 steps is =
    let p = project old in
    let o = then_was (checked_extra p c names) (λ marks. extra_inserted p c (or_option (first_list marks) (first_empty marks)) (new_names marks names)) steps is in
    let ms = o.0 in
    let there : All (MarkStands p) ms = subst (All (MarkStands p)) (checked_marks p c names ms o.1) stand.stand in
    inserted_doable old are c t (or_option (first_list ms) (first_empty ms)) (λ l found. marked_home p ms l there found) (new_names ms names) (new_texts ms names utf8) steps o.2
