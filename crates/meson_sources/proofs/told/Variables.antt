-- What the parts of a project tell of variables, and where the value of a variable stands.
use Rattle.meson_calls.specs.Parts as part
use Rattle.meson_syntax.specs.Tree as tree
use Rattle.meson_calls.specs.Calls as calls
use Rattle.meson_calls.proofs.nodes.Sorts.{IsExpression, in_arguments, within_expression}
use Rattle.meson_steps.proofs.ToldAlike.{nodes_alike}
use Rattle.meson_calls.specs.Folders.{file_in}
use Rattle.meson_calls.specs.Subdirs.{enters_unknown, has_name, is_there, meant_file}
use Rattle.meson_steps.proofs.ErasedParts.{bare_call, bare_part, bare_placed, call_alike, first_alike, parts_erased}
use Rattle.meson_sources.proofs.Words.{cons_option, filter_map, list_any, bytes_eq, codes, if◌then◌else◌, is_none, not, option_and_then, option_map, ◌&&◌, ◌||◌}
use Rattle.meson_sources.proofs.Words.{[], ap, ap₂, Bool, false, List, map, None, Option, refl, Some, suc, sym, true, zero, ℕ, ◌++◌, ◌+◌, ◌∙◌, ◌∷◌, ◌≡◌}
use Rattle.meson_sources.proofs.Words.{filter_map-append, bytes_eq-Decides, File, a_block, a_statement, an_expression, Any, arguments_parts, nth, Arguments}
use Rattle.meson_sources.proofs.Words.{assign, erase, erase_names, erase_statement, Expression, iteration, Listing, listing, Name, Nowhere, Statement}
use Rattle.meson_sources.proofs.Words.{Assignment, child_nodes, all_chosen, Call, call_of, first_literal, is, part_call, named_trees, is_set, Part, parts}
use Rattle.meson_sources.proofs.Words.{parts_from, BuildFile, child, nth_file, Placed, placed, Project, one_of, target_functions, CallRef, any, parts_are}
use Rattle.meson_sources.proofs.Words.{parts_below, parts_of, has_names, is_files, all_known, Assigned, assignments, is_iterated, is_outermost}
use Rattle.meson_sources.proofs.Words.{is_set_otherwise, one_of_names, only_value, part_assigned, sets_unknown, sets_variable, single}

-- ==== What tells of variables in a project: assignments, loops, and calls that may set variables or enter folders.

pub data Told : Type 0 where
  -- a call in a file: its function, and its first argument if that is a literal
  a_call : ℕ → List ℕ → Option (List ℕ) → Told
  an_assignment : CallRef → List ℕ → Assignment → Told
  a_loop : List (List ℕ) → Told

abbrev pub matters : List ℕ → Bool
matters f = bytes_eq f (codes "set_variable") || bytes_eq f (codes "subdir")

abbrev pub tell_call : {S : Type 0} → ℕ → Option (Call S) → Option Told
tell_call file None = None
tell_call file (Some c) = if matters c.function then Some (a_call file c.function (first_literal c)) else None

abbrev pub name_texts : {S : Type 0} → List (Name S) → List (List ℕ)
name_texts xs = map (λ x. x.text) xs

abbrev pub tell_statement : {S : Type 0} → CallRef → Statement S → Option Told
tell_statement p (assign s x a e) = Some (an_assignment p x.text a)
tell_statement p (iteration s xs e b) = Some (a_loop (name_texts xs))
tell_statement p _ = None

abbrev pub tell : {S : Type 0} → Placed (Part S) → Option Told
tell q = elim q.it [ part.an_expression e ↦ tell_call q.place.file (call_of e) | part.a_statement s ↦ tell_statement q.place s ]

abbrev pub told : {S : Type 0} → List (Placed (Part S)) → List Told
told qs = filter_map tell qs

module _ {S : Type 0} where
  pub told_both : (xs ys : List (Placed (Part S))) → told (xs ++ ys) ≡ told xs ++ told ys
  told_both xs ys = filter_map-append tell xs ys

  -- ---- node by node

  abbrev pub of_any : CallRef → Any S → List Told
  of_any p x = told (parts_of p x)

  abbrev pub own : CallRef → Any S → Option Told
  own p (an_expression e) = tell_call p.file (call_of e)
  own p (a_statement s) = tell_statement p s
  own p (a_block b) = None

  -- of nodes that are children from the n-th on
  abbrev pub of_children : CallRef → ℕ → List (Any S) → List Told
  of_children p n [] = []
  of_children p n (x ∷ xs) = of_any (child p n) x ++ of_children p (n + 1) xs

  pub children_told : (p : CallRef) (n : ℕ) (xs : List (Any S)) → told (parts_below p n xs) ≡ of_children p n xs
  children_told p n [] = refl
  children_told p n (x ∷ xs) = told_both (parts_of (child p n) x) (parts_below p (n + 1) xs) ∙ ap (λ l. of_any (child p n) x ++ l) (children_told p (n + 1) xs)

  -- what is told of a node is its own and what is told of its children
  pub node_told : (p : CallRef) (x : Any S) → of_any p x ≡ cons_option (own p x) (of_children p 0 (child_nodes x))
  node_told p (an_expression e) = ap told (parts_are p (an_expression e)) ∙ ap (cons_option (own p (an_expression e))) (children_told p 0 (child_nodes (an_expression e)))
  node_told p (a_statement s) = ap told (parts_are p (a_statement s)) ∙ ap (cons_option (own p (a_statement s))) (children_told p 0 (child_nodes (a_statement s)))
  node_told p (a_block b) = ap told (parts_are p (a_block b)) ∙ children_told p 0 (child_nodes (a_block b))

  -- ---- of an expression the same is told wherever it stands in the file

  pub children_alike : (p : CallRef) (n m : ℕ) (list : Arguments S) → of_children p n (arguments_parts list) ≡ of_children p m (arguments_parts list)
  children_alike p n m list =
      sym (children_told p n (arguments_parts list))
      ∙ nodes_alike tell IsExpression within_expression (λ q r. q.file ≡ r.file) (λ q r i j same. same) tells_same p p n m (arguments_parts list) (in_arguments list) refl ∙ children_told p m (arguments_parts list)
    where
      tells_same : (q r : CallRef) (x : Part S) → IsExpression (any x) → q.file ≡ r.file → tell (placed q x) ≡ tell (placed r x)
      tells_same q r (part.an_expression e) is same = ap (λ k. tell_call k (call_of e)) same
      tells_same q r (part.a_statement s) is same = absurd is

-- ==== Where the value of a variable stands, by what the parts of a project tell.

-- ---- what may set any variable

abbrev there_by : List (List ℕ) → Option (List ℕ) → Bool
there_by names None = false
there_by names (Some name) = list_any (λ n. bytes_eq n name) names

abbrev meant_by : List (List ℕ) → ℕ → Option (List ℕ) → Option (List ℕ)
meant_by names file lit = option_and_then (λ name. option_and_then (file_in name) lit) (nth names file)

abbrev doubts : List (List ℕ) → Told → Bool
doubts names (a_call file f lit) = (bytes_eq f (codes "set_variable") && is_none lit) || (bytes_eq f (codes "subdir") && not (there_by names (meant_by names file lit)))
doubts names (an_assignment p x a) = false
doubts names (a_loop xs) = false

abbrev known_by : List (List ℕ) → List Told → Bool
known_by names ts = not (list_any (doubts names) ts)

-- ---- what sets one

abbrev loops : List ℕ → Told → Bool
loops x (a_call file f lit) = false
loops x (an_assignment p y a) = false
loops x (a_loop xs) = list_any (λ y. bytes_eq y x) xs

abbrev sets : List ℕ → Told → Bool
sets x (a_call file f lit) = bytes_eq f (codes "set_variable") && is x lit
sets x (an_assignment p y a) = false
sets x (a_loop xs) = false

abbrev set_by : List ℕ → List Told → Bool
set_by x ts = list_any (loops x) ts || list_any (sets x) ts

-- ---- the only value

abbrev assigned_by_told : List ℕ → List Told → List (CallRef × Bool)
assigned_by_told x [] = []
assigned_by_told x (a_call file f lit ∷ ts) = assigned_by_told x ts
assigned_by_told x (an_assignment p y a ∷ ts) = if bytes_eq y x then (p, is_set a) ∷ assigned_by_told x ts else assigned_by_told x ts
assigned_by_told x (a_loop xs ∷ ts) = assigned_by_told x ts

abbrev only_place : List (CallRef × Bool) → Option CallRef
only_place [] = None
only_place (a ∷ []) = if a.1 && is_outermost a.0.path.steps then Some (child a.0 0) else None
only_place (a ∷ b ∷ more) = None

abbrev pub value_place : List (List ℕ) → List Told → List ℕ → Option CallRef
value_place names ts x = if known_by names ts && not (set_by x ts) then only_place (assigned_by_told x ts) else None

abbrev pub file_names : {S : Type 0} → Project S → List (List ℕ)
file_names p = map (λ f. f.name) p

-- ---- they are the project's

any_option : (f : Told → Bool) (m : Bool) (t : Told) (ts : List Told) → list_any f (cons_option (if m then Some t else None) ts) ≡ (if m then f t else false) || list_any f ts
any_option f true t ts = refl
any_option f false t ts = refl

either_matters : (a b u v : Bool) → (if a || b then (a && u) || (b && v) else false) ≡ (a && u) || (b && v)
either_matters true b u v = refl
either_matters false true u v = refl
either_matters false false u v = refl

first_matters : (a b u : Bool) → (if a || b then a && u else false) ≡ a && u
first_matters true b u = refl
first_matters false true u = refl
first_matters false false u = refl

module _ {S : Type 0} where
  name_there : (p : Project S) (name : List ℕ) → has_name p name ≡ list_any (λ n. bytes_eq n name) (file_names p)
  name_there [] name = refl
  name_there (f ∷ p) name = ap (λ b. bytes_eq f.name name || b) (name_there p name)

  is_there_by : (p : Project S) (o : Option (List ℕ)) → is_there p o ≡ there_by (file_names p) o
  is_there_by p None = refl
  is_there_by p (Some name) = name_there p name

  meant_is : (p : Project S) (file : ℕ) (c : Call S) → option_and_then (λ (f : BuildFile S). meant_file f.name c) (nth_file p file) ≡ meant_by (file_names p) file (first_literal c)
  meant_is [] file c = refl
  meant_is (f ∷ p) zero c = refl
  meant_is (f ∷ p) (suc file) c = meant_is p file c

  module _ (p : Project S) where
    abbrev doubtful : Placed (Call S) → Bool
    doubtful c = sets_unknown c.it || enters_unknown p c

    call_doubts : (pl : CallRef) (c : Call S) → doubtful (placed pl c) ≡ doubts (file_names p) (a_call pl.file c.function (first_literal c))
    call_doubts pl c =
        ap (λ b. (bytes_eq c.function (codes "set_variable") && is_none (first_literal c)) || (bytes_eq c.function (codes "subdir") && not b))
        (ap (is_there p) (meant_is p pl.file c) ∙ is_there_by p (meant_by (file_names p) pl.file (first_literal c)))

    one_doubts : (pl : CallRef) (o : Option (Call S)) (cs : List (Placed (Call S))) (ts : List Told) → list_any doubtful cs ≡ list_any (doubts (file_names p)) ts
        → list_any doubtful (cons_option (option_map (placed pl) o) cs) ≡ list_any (doubts (file_names p)) (cons_option (tell_call pl.file o) ts)
    one_doubts pl None cs ts rest = rest
    one_doubts pl (Some c) cs ts rest =
        ap₂ (λ a b. a || b) (call_doubts pl c ∙ sym (either_matters (bytes_eq c.function (codes "set_variable")) (bytes_eq c.function (codes "subdir")) _ _)) rest
        ∙ sym (any_option (doubts (file_names p)) (matters c.function) (a_call pl.file c.function (first_literal c)) ts)

    part_doubts : (pl : CallRef) (x : Part S) (cs : List (Placed (Call S))) (qs : List (Placed (Part S))) → list_any doubtful cs ≡ list_any (doubts (file_names p)) (told qs)
        → list_any doubtful (cons_option (option_map (placed pl) (part_call x)) cs) ≡ list_any (doubts (file_names p)) (told (placed pl x ∷ qs))
    part_doubts pl (part.an_expression e) cs qs rest = one_doubts pl (call_of e) cs (told qs) rest
    part_doubts pl (part.a_statement (assign s y a e)) cs qs rest = rest
    part_doubts pl (part.a_statement (iteration s xs e b)) cs qs rest = rest
    part_doubts pl (part.a_statement _) cs qs rest = rest

    all_doubts : (qs : List (Placed (Part S))) → list_any doubtful (all_chosen part_call qs) ≡ list_any (doubts (file_names p)) (told qs)
    all_doubts [] = refl
    all_doubts (q ∷ qs) = part_doubts q.place q.it (all_chosen part_call qs) qs (all_doubts qs)

    known_is : all_known p ≡ known_by (file_names p) (told (parts p))
    known_is = ap not (all_doubts (parts p))

  module _ (x : List ℕ) where
    names_any : (xs : List (Name S)) → one_of_names xs x ≡ list_any (λ y. bytes_eq y x) (name_texts xs)
    names_any [] = refl
    names_any (y ∷ xs) = ap (λ b. bytes_eq y.text x || b) (names_any xs)

    call_loops : (file : ℕ) (o : Option (Call S)) (ts : List Told) → list_any (loops x) (cons_option (tell_call file o) ts) ≡ list_any (loops x) ts
    call_loops file None ts = refl
    call_loops file (Some c) ts = go (matters c.function)
      where
        go : (b : Bool) → list_any (loops x) (cons_option (if b then Some (a_call file c.function (first_literal c)) else None) ts) ≡ list_any (loops x) ts
        go true = refl
        go false = refl

    part_loops : (pl : CallRef) (y : Part S) (qs : List (Placed (Part S))) → list_any (λ q. is_iterated x q.it) qs ≡ list_any (loops x) (told qs)
        → is_iterated x y || list_any (λ q. is_iterated x q.it) qs ≡ list_any (loops x) (told (placed pl y ∷ qs))
    part_loops pl (part.an_expression e) qs rest = rest ∙ sym (call_loops pl.file (call_of e) (told qs))
    part_loops pl (part.a_statement (assign s y a e)) qs rest = rest
    part_loops pl (part.a_statement (iteration s xs e b)) qs rest = ap₂ (λ a b. a || b) (names_any xs) rest
    part_loops pl (part.a_statement _) qs rest = rest

    all_loops : (qs : List (Placed (Part S))) → list_any (λ q. is_iterated x q.it) qs ≡ list_any (loops x) (told qs)
    all_loops [] = refl
    all_loops (q ∷ qs) = part_loops q.place q.it qs (all_loops qs)

    one_sets : (pl : CallRef) (o : Option (Call S)) (cs : List (Placed (Call S))) (ts : List Told) → list_any (λ c. sets_variable x c.it) cs ≡ list_any (sets x) ts
        → list_any (λ c. sets_variable x c.it) (cons_option (option_map (placed pl) o) cs) ≡ list_any (sets x) (cons_option (tell_call pl.file o) ts)
    one_sets pl None cs ts rest = rest
    one_sets pl (Some c) cs ts rest =
        ap₂ (λ a b. a || b) (sym (first_matters (bytes_eq c.function (codes "set_variable")) (bytes_eq c.function (codes "subdir")) (is x (first_literal c)))) rest
        ∙ sym (any_option (sets x) (matters c.function) (a_call pl.file c.function (first_literal c)) ts)

    part_sets : (pl : CallRef) (y : Part S) (cs : List (Placed (Call S))) (qs : List (Placed (Part S))) → list_any (λ c. sets_variable x c.it) cs ≡ list_any (sets x) (told qs)
        → list_any (λ c. sets_variable x c.it) (cons_option (option_map (placed pl) (part_call y)) cs) ≡ list_any (sets x) (told (placed pl y ∷ qs))
    part_sets pl (part.an_expression e) cs qs rest = one_sets pl (call_of e) cs (told qs) rest
    part_sets pl (part.a_statement (assign s y a e)) cs qs rest = rest
    part_sets pl (part.a_statement (iteration s xs e b)) cs qs rest = rest
    part_sets pl (part.a_statement _) cs qs rest = rest

    all_sets : (qs : List (Placed (Part S))) → list_any (λ c. sets_variable x c.it) (all_chosen part_call qs) ≡ list_any (sets x) (told qs)
    all_sets [] = refl
    all_sets (q ∷ qs) = part_sets q.place q.it (all_chosen part_call qs) qs (all_sets qs)

    set_is : (p : Project S) → is_set_otherwise p x ≡ set_by x (told (parts p))
    set_is p = ap₂ (λ a b. a || b) (all_loops (parts p)) (all_sets (parts p))

    -- ---- assignments

    abbrev looked : List (Placed (Assigned S)) → List (CallRef × Bool)
    looked vs = map (λ v. (v.place, v.it.sets)) vs

    call_assigned : (file : ℕ) (o : Option (Call S)) (ts : List Told) → assigned_by_told x (cons_option (tell_call file o) ts) ≡ assigned_by_told x ts
    call_assigned file None ts = refl
    call_assigned file (Some c) ts = go (matters c.function)
      where
        go : (b : Bool) → assigned_by_told x (cons_option (if b then Some (a_call file c.function (first_literal c)) else None) ts) ≡ assigned_by_told x ts
        go true = refl
        go false = refl

    part_assigns : (pl : CallRef) (y : Part S) (vs : List (Placed (Assigned S))) (qs : List (Placed (Part S))) → looked vs ≡ assigned_by_told x (told qs)
        → looked (cons_option (option_map (placed pl) (part_assigned x y)) vs) ≡ assigned_by_told x (told (placed pl y ∷ qs))
    part_assigns pl (part.an_expression e) vs qs rest = rest ∙ sym (call_assigned pl.file (call_of e) (told qs))
    part_assigns pl (part.a_statement (assign s y a e)) vs qs rest = go (bytes_eq y.text x)
      where
        go : (b : Bool) → looked (cons_option (option_map (placed pl) (if b then Some (record { value = e; sets = is_set a }) else None)) vs) ≡ (if b then (pl, is_set a) ∷ assigned_by_told x (told qs) else assigned_by_told x (told qs))
        go true = ap (λ l. (pl, is_set a) ∷ l) rest
        go false = rest
    part_assigns pl (part.a_statement (iteration s xs e b)) vs qs rest = rest
    part_assigns pl (part.a_statement _) vs qs rest = rest

    all_assigned : (qs : List (Placed (Part S))) → looked (all_chosen (part_assigned x) qs) ≡ assigned_by_told x (told qs)
    all_assigned [] = refl
    all_assigned (q ∷ qs) = part_assigns q.place q.it (all_chosen (part_assigned x) qs) qs (all_assigned qs)

    only_is : (vs : List (Placed (Assigned S))) → option_map (λ (v : Placed (Expression S)). v.place) (only_value vs) ≡ only_place (looked vs)
    only_is [] = refl
    only_is (a ∷ []) = go (a.it.sets && is_outermost a.place.path.steps)
      where
        go : (b : Bool) → option_map (λ (v : Placed (Expression S)). v.place) (if b then Some (placed (child a.place 0) a.it.value) else None) ≡ (if b then Some (child a.place 0) else None)
        go true = refl
        go false = refl
    only_is (a ∷ b ∷ more) = refl

    either_place : (b : Bool) (o : Option (Placed (Expression S))) (l : Option CallRef) → option_map (λ (v : Placed (Expression S)). v.place) o ≡ l → option_map (λ (v : Placed (Expression S)). v.place) (if b then o else None) ≡ (if b then l else None)
    either_place true o l same = same
    either_place false o l same = refl

    pub value_place_is : (p : Project S) → option_map (λ (v : Placed (Expression S)). v.place) (single p x) ≡ value_place (file_names p) (told (parts p)) x
    value_place_is p =
        either_place (all_known p && not (is_set_otherwise p x)) (only_value (assignments p x)) (only_place (assigned_by_told x (told (parts p)))) (only_is (assignments p x) ∙ ap only_place (all_assigned (parts p)))
        ∙ ap₂ (λ a b. if a && not b then only_place (assigned_by_told x (told (parts p))) else None) (known_is p) (set_is p)

-- ==== What the parts of a project tell is the same without spans.

module _ {S : Type 0} where
  call_erased : (k : ℕ) (o : Option (Call S)) → tell_call k (option_map bare_call o) ≡ tell_call k o
  call_erased k None = refl
  call_erased k (Some c) = ap (λ lit. if matters c.function then Some (a_call k c.function lit) else None) (first_alike c)

  names_erased : (xs : List (Name S)) → name_texts (erase_names xs) ≡ name_texts xs
  names_erased [] = refl
  names_erased (x ∷ xs) = ap (λ l. x.text ∷ l) (names_erased xs)

  statement_erased : (p : CallRef) (s : Statement S) → tell_statement p (erase_statement s) ≡ tell_statement p s
  statement_erased p (iteration s xs e b) = ap (λ l. Some (a_loop l)) (names_erased xs)
  statement_erased p _ = refl

  part_erased : (p : CallRef) (x : Part S) → tell (record { place = p; it = bare_part x }) ≡ tell (record { place = p; it = x })
  part_erased p (part.an_expression e) = ap (tell_call p.file) (call_alike (part.an_expression e)) ∙ call_erased p.file (calls.call_of e)
  part_erased p (part.a_statement s) = statement_erased p s

  parts_told : (qs : List (Placed (Part S))) → told (map bare_placed qs) ≡ told qs
  parts_told [] = refl
  parts_told (q ∷ qs) = ap₂ cons_option (part_erased q.place q.it) (parts_told qs)

  pub told_erased : (n : ℕ) (files : List File) (trees : List (tree.File S)) → told (parts_from n (named_trees files (map erase trees))) ≡ told (parts_from n (named_trees files trees))
  told_erased n files trees = ap told (parts_erased n files trees) ∙ parts_told (parts_from n (named_trees files trees))

  pub file_names_erased : (files : List File) (trees : List (tree.File S)) → file_names (named_trees files (map erase trees)) ≡ file_names (named_trees files trees)
  file_names_erased [] trees = refl
  file_names_erased (f ∷ files) [] = refl
  file_names_erased (f ∷ files) (t ∷ trees) = ap (λ l. f.name ∷ l) (file_names_erased files trees)

-- ==== Functions that make targets, and `files`.

no_other : (f g : List ℕ) → one_of target_functions f ≡ true → one_of target_functions g ≡ false → bytes_eq f g ≡ false
no_other f g yea nay = go (bytes_eq f g) (bytes_eq-Decides f g).0
  where
    go : (b : Bool) → (b ≡ true → f ≡ g) → b ≡ false
    go false same = refl
    go true same = let both : true ≡ false = sym yea ∙ ap (one_of target_functions) (same refl) ∙ nay in absurd cc

pub target_no_files : {S : Type 0} (f : List ℕ) (l : Listing S) → one_of target_functions f ≡ true → is_files f l ≡ false
target_no_files f (listing r trailing list) yea = ap (λ b. b && not (has_names list)) (no_other f (codes "files") yea refl)

pub target_no_matter : (f : List ℕ) → one_of target_functions f ≡ true → matters f ≡ false
target_no_matter f yea = ap₂ (λ a b. a || b) (no_other f (codes "set_variable") yea refl) (no_other f (codes "subdir") yea refl)

pub files_no_target : (f : List ℕ) (l : Listing Nowhere) → is_files f l ≡ true → one_of target_functions f ≡ false
files_no_target f l files = go (one_of target_functions f) refl
  where
    go : (b : Bool) → one_of target_functions f ≡ b → b ≡ false
    go true yea = sym files ∙ target_no_files f l yea
    go false nay = refl

pub files_no_matter : (f : List ℕ) (l : Listing Nowhere) → is_files f l ≡ true → matters f ≡ false
files_no_matter f (listing r trailing list) yea = go (bytes_eq f (codes "files")) (bytes_eq-Decides f (codes "files")).0 yea
  where
    go : (b : Bool) → (b ≡ true → f ≡ codes "files") → (b && not (has_names list)) ≡ true → matters f ≡ false
    go true same is = ap matters (same refl)
    go false same is = absurd cc

pub files_names : (f : List ℕ) (r : Nowhere) (trailing : Bool) (list : Arguments Nowhere) → is_files f (listing r trailing list) ≡ true → has_names list ≡ false
files_names f r trailing list is = go (bytes_eq f (codes "files")) (has_names list) is
  where
    go : (a b : Bool) → (a && not b) ≡ true → b ≡ false
    go true false h = refl
    go true true h = absurd cc
    go false b h = absurd cc
