-- Where the same is told of targets and the call that an id named stands at a place, the id names that one alone.
use Rattle.meson_syntax.specs.declared.operator.Assignment.TheVariants as assignment
use Rattle.meson_syntax.specs.Children as syntax
use Rattle.meson_syntax.specs.inside.Children as tree_nodes
use Rattle.meson_calls.specs.declared.call.Role.TheVariants as role
use Rattle.meson_calls.specs.Parts as part
use Rattle.meson_calls.specs.Naming.{or_else, part_set_to, set_to, value_of_assignment, with_name}
use Rattle.meson_calls.proofs.CallsReached.{InProject, every_chosen, every_part}
use Rattle.meson_calls.proofs.PartsContained.{all_has}
use Rattle.meson_calls.specs.declared.call.CallName.{CallName}
use Rattle.meson_calls.specs.Finding.{call_within}
use Rattle.meson_calls.specs.Searching.{project_names, searched_file, within}
use Rattle.std.specs.Prelude.{◌==◌}
use Rattle.meson_calls.proofs.Searched.{every_within}
use Rattle.meson_calls.proofs.SearchedFiles.{found_in_file}
use Rattle.meson_sources.proofs.Words.{Err, Refusal, Result, eq-eqb, then_ok, cons_option, Contains, bytes_eq, if◌then◌else◌, Ok, option_map, slice_index_or, ◌⊎◌, [], ap, arith, Bool, false, inl}
use Rattle.meson_sources.proofs.Words.{inr, length, List, map, None, Option, refl, Some, subst, suc, sym, true, zero, ℕ, ◌+◌, ◌<◌, ◌∙◌, ◌∷◌, ◌≡◌, Span}
use Rattle.meson_sources.proofs.Words.{block_of, assign, Expression, Name, Statement, some-injective, Every, all_chosen, Call, call_of, first_literal, is}
use Rattle.meson_sources.proofs.Words.{part_call, only_one, the_call, Part, parts, BuildFile, child, nth_file, place, Placed, placed, Project, has_role}
use Rattle.meson_sources.proofs.Words.{is_target_call, with_role, CallRef, any}
use Rattle.meson_sources.proofs.told.Targets.{Naming, a_target, a_variable, tell_call, tell_statement, told}
use Rattle.meson_sources.proofs.trees.Places.{node_between}

-- ---- how many calls an id names

abbrev named_in : List ℕ → List Naming → ℕ
named_in id [] = 0
named_in id (a_target f literal ∷ l) = if is id literal then suc (named_in id l) else named_in id l
named_in id (a_variable x ∷ l) = named_in id l

abbrev set_in : List ℕ → List Naming → ℕ
set_in id [] = 0
set_in id (a_target f literal ∷ l) = set_in id l
set_in id (a_variable x ∷ l) = if bytes_eq x id then suc (set_in id l) else set_in id l

abbrev Parts : Type 0
Parts = List (Placed (Part Span))

-- by its name, and by its variable
abbrev by_name : List ℕ → Parts → List (Placed (Call Span))
by_name id qs = all_chosen (with_name id) (all_chosen (with_role role.Target) (all_chosen part_call qs))

abbrev by_variable : List ℕ → Parts → List (Placed (Call Span))
by_variable id qs = all_chosen (with_role role.Target) (all_chosen call_of (map value_of_assignment (all_chosen (part_set_to id) qs)))

module _ (id : List ℕ) where
  module _ (at : CallRef) (qs : Parts) where
    abbrev Rest : Type 0
    Rest = length (by_name id qs) ≡ named_in id (told qs)

    named : (k : Call Span) (b : Bool) → Rest → length (cons_option (option_map (placed at) (if b then Some k else None)) (by_name id qs)) ≡ (if b then suc (named_in id (told qs)) else named_in id (told qs))
    named k true rest = ap suc rest
    named k false rest = rest

    of_role : (k : Call Span) (b : Bool) → Rest → length (all_chosen (with_name id) (cons_option (option_map (placed at) (if b then Some k else None)) (all_chosen (with_role role.Target) (all_chosen part_call qs))))
        ≡ named_in id (cons_option (if b then Some (a_target k.function (first_literal k)) else None) (told qs))
    of_role k true rest = named k (is id (first_literal k)) rest
    of_role k false rest = rest

    called : (o : Option (Call Span)) → Rest → length (all_chosen (with_name id) (all_chosen (with_role role.Target) (cons_option (option_map (placed at) o) (all_chosen part_call qs)))) ≡ named_in id (cons_option (tell_call o) (told qs))
    called None rest = rest
    called (Some k) rest = of_role k (has_role role.Target k) rest

    silent : (x : List ℕ) (b : Bool) → Rest → length (by_name id qs) ≡ named_in id (cons_option (if b then Some (a_variable x) else None) (told qs))
    silent x true rest = rest
    silent x false rest = rest

    stated : (s : Statement Span) → Rest → length (by_name id qs) ≡ named_in id (cons_option (tell_statement s) (told qs))
    stated (assign s x assignment.Set e) rest = silent x.text (is_target_call (Some e)) rest
    stated _ rest = rest

    name_step : (x : Part Span) → Rest → length (by_name id (placed at x ∷ qs)) ≡ named_in id (told (placed at x ∷ qs))
    name_step (part.an_expression e) rest = called (call_of e) rest
    name_step (part.a_statement s) rest = stated s rest

  name_count : (qs : Parts) → length (by_name id qs) ≡ named_in id (told qs)
  name_count [] = refl
  name_count (q ∷ qs) = name_step q.place qs q.it (name_count qs)

  module _ (at : CallRef) (qs : Parts) where
    abbrev Further : Type 0
    Further = length (by_variable id qs) ≡ set_in id (told qs)

    abbrev values : List (Placed (Expression Span))
    values = map value_of_assignment (all_chosen (part_set_to id) qs)

    quiet : (k : Call Span) (b : Bool) → Further → length (by_variable id qs) ≡ set_in id (cons_option (if b then Some (a_target k.function (first_literal k)) else None) (told qs))
    quiet k true rest = rest
    quiet k false rest = rest

    met : (o : Option (Call Span)) → Further → length (by_variable id qs) ≡ set_in id (cons_option (tell_call o) (told qs))
    met None rest = rest
    met (Some k) rest = quiet k (has_role role.Target k) rest

    -- of another variable
    other : (x : List ℕ) → bytes_eq x id ≡ false → (b : Bool) → Further → length (by_variable id qs) ≡ set_in id (cons_option (if b then Some (a_variable x) else None) (told qs))
    other x nay true rest = rest ∙ sym (ap (λ z. if z then suc (set_in id (told qs)) else set_in id (told qs)) nay)
    other x nay false rest = rest

    with_its_role : (x : List ℕ) → bytes_eq x id ≡ true → (k : Call Span) (b : Bool) → Further → length (cons_option (option_map (placed (child at 0)) (if b then Some k else None)) (by_variable id qs)) ≡ set_in id (cons_option (if b then Some (a_variable x) else None) (told qs))
    with_its_role x yea k true rest = ap suc rest ∙ sym (ap (λ z. if z then suc (set_in id (told qs)) else set_in id (told qs)) yea)
    with_its_role x yea k false rest = rest

    of_call : (x : List ℕ) → bytes_eq x id ≡ true → (o : Option (Call Span)) → Further → length (all_chosen (with_role role.Target) (cons_option (option_map (placed (child at 0)) o) (all_chosen call_of values)))
        ≡ set_in id (cons_option (if (elim o [ None ↦ false | Some c ↦ has_role role.Target c ]) then Some (a_variable x) else None) (told qs))
    of_call x yea None rest = rest
    of_call x yea (Some k) rest = with_its_role x yea k (has_role role.Target k) rest

    assigned : (x : List ℕ) (e : Expression Span) (b : Bool) → bytes_eq x id ≡ b → Further
        → length (all_chosen (with_role role.Target) (all_chosen call_of (map value_of_assignment (cons_option (option_map (placed at) (if b then Some e else None)) (all_chosen (part_set_to id) qs)))))
        ≡ set_in id (cons_option (if is_target_call (Some e) then Some (a_variable x) else None) (told qs))
    assigned x e true yea rest = of_call x yea (call_of e) rest
    assigned x e false nay rest = other x nay (is_target_call (Some e)) rest

    said : (s : Statement Span) → Further → length (by_variable id (placed at (part.a_statement s) ∷ qs)) ≡ set_in id (cons_option (tell_statement s) (told qs))
    said (assign s x assignment.Set e) rest = assigned x.text e (bytes_eq x.text id) refl rest
    said _ rest = rest

    set_step : (x : Part Span) → Further → length (by_variable id (placed at x ∷ qs)) ≡ set_in id (told (placed at x ∷ qs))
    set_step (part.an_expression e) rest = met (call_of e) rest
    set_step (part.a_statement s) rest = said s rest

  set_count : (qs : Parts) → length (by_variable id qs) ≡ set_in id (told qs)
  set_count [] = refl
  set_count (q ∷ qs) = set_step q.place qs q.it (set_count qs)

-- ---- what is in a list

abbrev In : {X : Type 0} → X → List X → Type 0
In x [] = ⊥
In x (y ∷ ys) = (y ≡ x) ⊎ In x ys

contained : {X : Type 0} (xs : List X) (x : X) → Contains xs x → In x xs
contained [] x c = let within = c.1 in absurd (omega (arith, within))
contained {X} (y ∷ ys) x c = go c.0 c.1 c.2 (λ i within same. contained ys x (i, within, same))
  where
    go : (i : ℕ) → i < length (y ∷ ys) → slice_index_or (y ∷ ys) i x ≡ x → ((j : ℕ) → j < length ys → slice_index_or ys j x ≡ x → In x ys) → In x (y ∷ ys)
    go zero within same later = inl same
    go (suc i) within same later = inr (later i (omega (arith, within)) same)

in_chosen : {X Y : Type 0} (f : X → Option Y) (d : CallRef) (x : X) (y : Y) → f x ≡ Some y → (qs : List (Placed X)) → In (placed d x) qs → In (placed d y) (all_chosen f qs)
in_chosen f d x y are [] there = there
in_chosen {X} {Y} f d x y are (q ∷ qs) (inl same) =
    subst (λ (p : Placed X). In (placed d y) (all_chosen f (p ∷ qs))) (sym same) (subst (λ (o : Option Y). In (placed d y) (cons_option (option_map (placed d) o) (all_chosen f qs))) (sym are) (inl refl))
in_chosen {X} {Y} f d x y are (q ∷ qs) (inr there) = go (f q.it) (in_chosen f d x y are qs there)
  where
    go : (o : Option Y) → In (placed d y) (all_chosen f qs) → In (placed d y) (cons_option (option_map (placed q.place) o) (all_chosen f qs))
    go None later = later
    go (Some z) later = inr later

in_map : {X Y : Type 0} (g : X → Y) (x : X) (xs : List X) → In x xs → In (g x) (map g xs)
in_map g x [] there = there
in_map g x (y ∷ ys) (inl same) = inl (ap g same)
in_map g x (y ∷ ys) (inr there) = inr (in_map g x ys there)

every_in : {X : Type 0} (P : X → Type 0) (x : X) (xs : List X) → Every P xs → In x xs → P x
every_in P x [] all there = absurd there
every_in P x (y ∷ ys) all (inl same) = subst P same all.0
every_in P x (y ∷ ys) all (inr there) = every_in P x ys all.1 there

only : {X : Type 0} (x : X) (xs : List X) → length xs ≡ 1 → In x xs → only_one xs ≡ Ok x
only x [] one there = absurd there
only x (y ∷ []) one (inl same) = ap Ok same
only x (y ∷ []) one (inr there) = absurd there
only x (y ∷ z ∷ ys) one there = absurd (omega (arith, one))

module _ {X : Type 0} (c d : X) where
  one_again : (a b a2 b2 : List X) → only_one (or_else a b) ≡ Ok c → length a2 ≡ length a → length b2 ≡ length b → (In c a → In d a2) → (In c b → In d b2) → only_one (or_else a2 b2) ≡ Ok d
  one_again [] [] a2 b2 found many others here there = absurd cc
  one_again [] (y ∷ []) [] b2 found many others here there = let same : y ≡ c = cc in only d b2 others (there (inl same))
  one_again [] (y ∷ []) (z ∷ a2) b2 found many others here there = absurd (omega (arith, many))
  one_again [] (y ∷ w ∷ b) a2 b2 found many others here there = absurd cc
  one_again (x ∷ []) b [] b2 found many others here there = absurd (omega (arith, many))
  one_again (x ∷ []) b (z ∷ a2) b2 found many others here there = let same : x ≡ c = cc in only d (z ∷ a2) many (here (inl same))
  one_again (x ∷ w ∷ a) b a2 b2 found many others here there = absurd cc

-- ---- what was found

-- an assignment of the variable
pub record SetAt (p : Project Span) (id : List ℕ) (at : CallRef) : Type 0 where
  pub file : BuildFile Span
  pub is_file : nth_file p at.file ≡ Some file
  pub s : Span
  pub name : Name Span
  pub value : Expression Span
  pub is_node : tree_nodes.node_at (syntax.a_block (block_of file.tree)) at.path.steps ≡ Some (syntax.a_statement (assign s name assignment.Set value))
  pub is_name : bytes_eq name.text id ≡ true

module _ (p : Project Span) (id : List ℕ) where
  every_any : {X : Type 0} (xs : List X) → Every (λ (x : X). Unit {0}) xs
  every_any [] = tt
  every_any (x ∷ xs) = (tt, every_any xs)

  abbrev HasName : Placed (Call Span) → Type 0
  HasName k = is id (first_literal k.it) ≡ true

  names_are : (ks : List (Placed (Call Span))) → Every HasName (all_chosen (with_name id) ks)
  names_are ks = every_chosen (λ k. Unit {0}) HasName (with_name id) (λ q k any_one chosen. go q.it (is id (first_literal q.it)) refl k chosen) ks (every_any ks)
    where
      go : (j : Call Span) (b : Bool) → is id (first_literal j) ≡ b → (k : Call Span) → (if b then Some j else None) ≡ Some k → is id (first_literal k) ≡ true
      go j true yea k chosen = ap (λ (i : Call Span). is id (first_literal i)) (sym (some-injective j k chosen)) ∙ yea
      go j false nay k chosen = absurd cc

  -- the place is that of an assignment's value
  pub record SetThere (c : CallRef) : Type 0 where
    pub at : CallRef
    pub is_place : c ≡ child at 0
    pub set : SetAt p id at

  file_of : (q : Placed (Part Span)) (i : InProject 0 p q) → nth_file p q.place.file ≡ Some i.file
  file_of q i = let z : 0 + i.number ≡ i.number = omega arith in ap (nth_file p) (i.is_number ∙ z) ∙ i.is_file

  set_at : (q : Placed (Part Span)) (e : Expression Span) → InProject 0 p q → part_set_to id q.it ≡ Some e → SetAt p id q.place
  set_at q e i chosen = go q.it refl chosen
    where
      given : (s : Span) (y : Name Span) (f : Expression Span) (b : Bool) → bytes_eq y.text id ≡ b → q.it ≡ part.a_statement (assign s y assignment.Set f) → (if b then Some f else None) ≡ Some e → SetAt p id q.place
      given s y f true yea same k = record { file = i.file; is_file = file_of q i; s = s; name = y; value = f; is_node = i.is_node ∙ ap (λ z. Some (any z)) same; is_name = yea }
      given s y f false nay same k = absurd cc

      stated : (s : Statement Span) → q.it ≡ part.a_statement s → set_to id s ≡ Some e → SetAt p id q.place
      stated (assign s y assignment.Set f) same k = given s y f (bytes_eq y.text id) refl same k
      stated _ same k = absurd cc

      go : (y : Part Span) → q.it ≡ y → part_set_to id y ≡ Some e → SetAt p id q.place
      go (part.an_expression f) same k = absurd cc
      go (part.a_statement s) same k = stated s same k

  every_child : (xs : List (Placed (Expression Span))) → Every (λ (x : Placed (Expression Span)). SetAt p id x.place) xs → Every (λ (x : Placed (Expression Span)). SetThere x.place) (map value_of_assignment xs)
  every_child [] all = tt
  every_child (x ∷ xs) all = (record { at = x.place; is_place = refl; set = all.0 }, every_child xs all.1)

  sets_are : (qs : Parts) → Every (InProject 0 p) qs → Every (λ (k : Placed (Call Span)). SetThere k.place) (by_variable id qs)
  sets_are qs all =
      let values = all_chosen (part_set_to id) qs in
      let are : Every (λ (x : Placed (Expression Span)). SetAt p id x.place) values = every_chosen (InProject 0 p) (λ x. SetAt p id x.place) (part_set_to id) (λ q e i chosen. set_at q e i chosen) qs all in
      every_chosen (λ k. SetThere k.place) (λ k. SetThere k.place) (with_role role.Target) (λ q k there chosen. there) (all_chosen call_of (map value_of_assignment values))
      (every_chosen (λ x. SetThere x.place) (λ k. SetThere k.place) call_of (λ q k there chosen. there) (map value_of_assignment values) (every_child values are))

-- ---- found again

pub record CallTold (o : Option (Call Span)) (f : List ℕ) (literal : Option (List ℕ)) : Type 0 where
  pub it : Call Span
  pub is_it : o ≡ Some it
  pub is_one : has_role role.Target it ≡ true
  pub function : it.function ≡ f
  pub first : first_literal it ≡ literal

call_told : (o : Option (Call Span)) (f : List ℕ) (literal : Option (List ℕ)) → tell_call o ≡ Some (a_target f literal) → CallTold o f literal
call_told None f literal tells = absurd cc
call_told (Some k) f literal tells = go (has_role role.Target k) refl tells
  where
    go : (b : Bool) → has_role role.Target k ≡ b → (if b then Some (a_target k.function (first_literal k)) else None) ≡ Some (a_target f literal) → CallTold (Some k) f literal
    go true yea same =
        let two : a_target k.function (first_literal k) ≡ a_target f literal = some-injective _ _ same in
        record { it = k; is_it = refl; is_one = yea; function = let s : k.function ≡ f = cc in s; first = let s : first_literal k ≡ literal = cc in s }
    go false nay same = absurd cc

-- The id names one call in the files that are searched, at the place, with the function of this one and its first argument if that is a literal.
pub record NamesWithin (w : Option ℕ) (p : Project Span) (id : List ℕ) (d : CallRef) (call : Call Span) : Type 0 where
  pub it : Call Span
  pub is_call : call_within w p role.Target id ≡ Ok (placed d it)
  pub function : it.function ≡ call.function
  pub first : first_literal it ≡ first_literal call

-- whether a place is in the file that is searched
abbrev IsSearched : Option ℕ → CallRef → Type 0
IsSearched None at = Unit {0}
IsSearched (Some n) at = at.file ≡ n

kept_in : {X : Type 0} (w : Option ℕ) (x : Placed X) (xs : List (Placed X)) → IsSearched w x.place → In x xs → In x (within w xs)
kept_in None x xs is there = there
kept_in (Some n) x [] is there = absurd there
kept_in {X} (Some n) x (y ∷ ys) is (inl same) =
    let kept : (y.place.file == n) ≡ true = ap (λ (z : Placed X). z.place.file == n) same ∙ eq-eqb x.place.file n is in
    subst (In x) (sym (ap (λ b. if b then y ∷ within (Some n) ys else within (Some n) ys) kept)) (inl same)
kept_in {X} (Some n) x (y ∷ ys) is (inr there) = go (y.place.file == n) (kept_in (Some n) x ys is there)
  where
    go : (b : Bool) → In x (within (Some n) ys) → In x (if b then y ∷ within (Some n) ys else within (Some n) ys)
    go true later = inr later
    go false later = later

found_searched : (w : Option ℕ) (p : Project Span) (id : List ℕ) (c : Placed (Call Span)) (d : CallRef) → d.file ≡ c.place.file → call_within w p role.Target id ≡ Ok c → IsSearched w d
found_searched None p id c d stays found = tt
found_searched (Some n) p id c d stays found = stays ∙ found_in_file n p role.Target id c found

module _ (w : Option ℕ) (p q : Project Span) (tells : told (within w (parts q)) ≡ told (within w (parts p))) (id : List ℕ) (c : Placed (Call Span)) (found : call_within w p role.Target id ≡ Ok c)
    (is_one : has_role role.Target c.it ≡ true) (d : CallRef) (stays : d.file ≡ c.place.file) (value : Expression Span) (file : BuildFile Span) (is_file : nth_file q d.file ≡ Some file)
    (is_node : tree_nodes.node_at (syntax.a_block (block_of file.tree)) d.path.steps ≡ Some (syntax.an_expression value)) (own_is : tell_call (call_of value) ≡ tell_call (Some c.it))
    (sets : (at : CallRef) → c.place ≡ child at 0 → SetAt p id at → (b : CallRef) × (d ≡ child b 0) × SetAt q id b) where
  -- the parts that are searched
  abbrev ps : Parts
  ps = within w (parts p)

  abbrev qs : Parts
  qs = within w (parts q)

  pub again : NamesWithin w q id d c.it
  again =
      let k = call_told (call_of value) c.it.function (first_literal c.it) (own_is ∙ ap (λ b. if b then Some (a_target c.it.function (first_literal c.it)) else None) is_one) in
      let with_its_role : with_role role.Target k.it ≡ Some k.it = ap (λ b. if b then Some k.it else None) k.is_one in
      let part_there = in_parts d (part.an_expression value) (found_searched w p id c d stays found) file is_file is_node in
      record {
        it = k.it;
        is_call = one_again c (placed d k.it) (by_name id ps) (by_variable id ps) (by_name id qs) (by_variable id qs) found
            (name_count id qs ∙ ap (named_in id) tells ∙ sym (name_count id ps)) (set_count id qs ∙ ap (set_in id) tells ∙ sym (set_count id ps))
            (λ there.
            let named = every_in (HasName p id) c (by_name id ps) (names_are p id (all_chosen (with_role role.Target) (all_chosen part_call ps))) there in
            let with_its_name : with_name id k.it ≡ Some k.it = ap (λ b. if b then Some k.it else None) (ap (is id) k.first ∙ named) in
            in_chosen (with_name id) d k.it k.it with_its_name _ (in_chosen (with_role role.Target) d k.it k.it with_its_role _ (in_chosen part_call d (part.an_expression value) k.it k.is_it qs part_there)))
            (λ there. by_set k.it k.is_it with_its_role (every_in (λ (x : Placed (Call Span)). SetThere p id x.place) c (by_variable id ps) (sets_are p id ps (every_within (InProject 0 p) w (parts p) (every_part 0 p))) there));
        function = k.function;
        first = k.first;
      }
    where
      in_parts : (at : CallRef) (y : Part Span) → IsSearched w at → (g : BuildFile Span) → nth_file q at.file ≡ Some g
          → tree_nodes.node_at (syntax.a_block (block_of g.tree)) at.path.steps ≡ Some (any y) → In (placed at y) qs
      in_parts at y is g is_g node =
          let z : 0 + at.file ≡ at.file = omega arith in
          kept_in w (placed at y) (parts q) is (contained (parts q) (placed at y) (subst (λ m. Contains (parts q) (placed (place m at.path.steps) y)) z (all_has 0 at.file q g at.path.steps y is_g node)))

      by_set : (k : Call Span) → call_of value ≡ Some k → with_role role.Target k ≡ Some k → SetThere p id c.place → In (placed d k) (by_variable id qs)
      by_set k is_k with_its_role there =
          let v = sets there.at there.is_place there.set in
          let set = v.2 in
          let outer : v.0.file ≡ c.place.file = ap (λ (x : CallRef). x.file) (sym v.1) ∙ stays in
          let statement = in_parts v.0 (part.a_statement (assign set.s set.name assignment.Set set.value)) (found_searched w p id c v.0 outer found) set.file set.is_file set.is_node in
          let chosen : part_set_to id (part.a_statement (assign set.s set.name assignment.Set set.value)) ≡ Some set.value = ap (λ b. if b then Some set.value else None) set.is_name in
          let at_value : In (placed (child v.0 0) set.value) (map value_of_assignment (all_chosen (part_set_to id) qs)) =
          in_map value_of_assignment (placed v.0 set.value) (all_chosen (part_set_to id) qs) (in_chosen (part_set_to id) v.0 (part.a_statement (assign set.s set.name assignment.Set set.value)) set.value chosen qs statement) in
          let same_file : set.file ≡ file = some-injective _ _ (sym set.is_file ∙ ap (nth_file q) (sym (ap (λ (x : CallRef). x.file) v.1)) ∙ is_file) in
          let nodes : syntax.an_expression set.value ≡ syntax.an_expression value =
          some-injective _ _ (sym (node_between v.0.path.steps (0 ∷ []) (syntax.a_block (block_of set.file.tree)) _ set.is_node)
          ∙ ap (λ (g : BuildFile Span). tree_nodes.node_at (syntax.a_block (block_of g.tree)) (child v.0 0).path.steps) same_file
          ∙ ap (tree_nodes.node_at (syntax.a_block (block_of file.tree))) (sym (ap (λ (x : CallRef). x.path.steps) v.1)) ∙ is_node) in
          let same_value : set.value ≡ value = cc in
          in_chosen (with_role role.Target) d k k with_its_role _
          (in_chosen call_of d value k is_k _ (subst (λ (x : CallRef). In (placed x value) (map value_of_assignment (all_chosen (part_set_to id) qs))) (sym v.1)
          (subst (λ (e : Expression Span). In (placed (child v.0 0) e) (map value_of_assignment (all_chosen (part_set_to id) qs))) same_value at_value)))

-- The name names one call, at the place, with the function of this one and its first argument if that is a literal.
pub record Names (p : Project Span) (name : CallName) (d : CallRef) (call : Call Span) : Type 0 where
  pub it : Call Span
  pub is_call : the_call p role.Target name ≡ Ok (placed d it)
  pub function : it.function ≡ call.function
  pub first : first_literal it ≡ first_literal call

-- the same where the names of the files are those that they were
pub same_names_found : (p q : Project Span) → project_names q ≡ project_names p → (name : CallName) (c : Placed (Call Span)) (d : CallRef) → the_call p role.Target name ≡ Ok c
    → ((w : Option ℕ) → call_within w p role.Target name.id ≡ Ok c → NamesWithin w q name.id d c.it) → Names q name d c.it
same_names_found p q same name c d found again_within = go (searched_file (project_names p) name.folder) refl found
  where
    go : (o : Result (Option ℕ) Refusal) → searched_file (project_names p) name.folder ≡ o → then_ok o (λ w. call_within w p role.Target name.id) ≡ Ok c → Names q name d c.it
    go (Ok w) is k =
        let n = again_within w k in
        record {
          it = n.it;
          is_call = ap (λ names. then_ok (searched_file names name.folder) (λ v. call_within v q role.Target name.id)) same ∙ ap (λ o. then_ok o (λ v. call_within v q role.Target name.id)) is ∙ n.is_call;
          function = n.function;
          first = n.first;
        }
    go (Err e) is k = absurd cc
