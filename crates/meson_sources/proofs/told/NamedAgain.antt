-- The id of a target names its call again where the trees tell the same of targets.
use Rattle.meson_syntax.specs.declared.operator.Assignment.TheVariants as assignment
use Rattle.meson_calls.specs.declared.call.Role.TheVariants as role
use Rattle.meson_sources.proofs.Words.{bytes_eq, if◌then◌else◌, nat_eq, Ok, option_map, ◌⊎◌, [], ap, ap₂, Bool, false, inl, inr, List, map, None, Option, refl}
use Rattle.meson_sources.proofs.Words.{Some, subst, suc, sym, true, ℕ, ◌++◌, ◌+◌, ◌∙◌, ◌∷◌, ◌≡◌, eq-eqb, eqb-true, filter_map-append, File, Span, a_block}
use Rattle.meson_sources.proofs.Words.{a_statement, an_expression, Any, block_of, nth, array, assign, erase, erase_expression, erase_name, Expression, file}
use Rattle.meson_sources.proofs.Words.{zero, nth_file, Name, Nowhere, Plain, view, Assignment, Parsed, node_at, some-injective, map-some, Call, call_of, first_literal}
use Rattle.meson_sources.proofs.Words.{the_call, Loaded, named_trees, project, views, parts, parts_from, parts_of_file, child, Placed, placed, has_role}
use Rattle.meson_sources.proofs.Words.{is_target_call, CallRef, role_found, erase_any, plain_trees, tree_there, FilesGrow, Reading}
use Rattle.meson_sources.proofs.met.Files.{FilesGrown}
use Rattle.meson_calls.specs.declared.call.CallName.{CallName}
use Rattle.meson_calls.specs.Searching.{project_names, within}
use Rattle.meson_calls.proofs.SearchedFiles.{parts_in, parts_searched}
use Rattle.meson_sources.proofs.told.FoundAgain.{Names, SetAt, again, same_names_found}
use Rattle.meson_sources.proofs.told.Staying.{Alike, alike_along}
use Rattle.meson_sources.proofs.told.Targets.{Naming, expression_erased, in_any, in_file, parts_file, tell, tell_call, told, SameNames, a_target, a_variable}
use Rattle.meson_sources.proofs.told.Targets.{own, names_itself}
use Rattle.meson_sources.proofs.trees.Calls.{span_tree}
use Rattle.meson_sources.proofs.trees.Elements.{root}
use Rattle.meson_sources.proofs.trees.Places.{expression_node, node_bare, node_with_spans, root_bare, below, below_itself, no_statement, node_between, under}
use Rattle.meson_sources.proofs.trees.Scenes.{NodeIn, bare_in, names_of, next_in, node_above, node_away}
use Rattle.meson_sources.proofs.trees.Shapes.{an_assignment, shape, Becomes, became_new, became_old}

-- ==== Where the trees tell the same of targets and the call of one stands at a place, without spans, the id that named it names that one alone.

-- ---- all files

abbrev in_files : List Plain → List Naming
in_files [] = []
in_files (t ∷ ts) = in_file t ++ in_files ts

files_tell : (n : ℕ) (files : List File) (parsed : List Parsed) → told (parts_from n (named_trees files (views files parsed))) ≡ in_files (map erase (views files parsed))
files_tell n [] parsed = refl
files_tell n (f ∷ files) [] = refl
files_tell n (f ∷ files) (t ∷ parsed) =
    filter_map-append tell (parts_of_file n (view f.bytes t)) (parts_from (n + 1) (named_trees files (views files parsed))) ∙ ap₂ (λ l m. l ++ m) (parts_file n (view f.bytes t)) (files_tell (n + 1) files parsed)

root_tells : (t : Plain) → in_file t ≡ in_any (root t)
root_tells (file s b) = refl

same_files : (ts us : List Plain) → ((i : ℕ) → SameNames (nth ts i) (nth us i)) → in_files us ≡ in_files ts
same_files [] [] same = refl
same_files [] (u ∷ us) same = absurd (same 0)
same_files (t ∷ ts) [] same = absurd (same 0)
same_files (t ∷ ts) (u ∷ us) same = ap₂ (λ l m. l ++ m) (root_tells u ∙ same 0 ∙ sym (root_tells t)) (same_files ts us (λ i. same (suc i)))

-- ---- one file

abbrev told_of : Option Plain → List Naming
told_of None = []
told_of (Some t) = in_any (root t)

nth_tells : (n i : ℕ) (files : List File) (parsed : List Parsed) → told (parts_in n (nth_file (named_trees files (views files parsed)) i)) ≡ told_of (nth (map erase (views files parsed)) i)
nth_tells n i [] parsed = refl
nth_tells n i (f ∷ files) [] = refl
nth_tells n zero (f ∷ files) (t ∷ parsed) = parts_file n (view f.bytes t) ∙ root_tells (erase (view f.bytes t))
nth_tells n (suc i) (f ∷ files) (t ∷ parsed) = nth_tells n i files parsed

same_told : (o m : Option Plain) → SameNames o m → told_of m ≡ told_of o
same_told None None same = refl
same_told (Some t) (Some u) same = same
same_told None (Some u) same = absurd same
same_told (Some t) None same = absurd same

-- ---- the names of the files

same_named : (fs : List File) (ps : List Parsed) (gs : List File) (qs : List Parsed) → names_of gs ≡ names_of fs → ((i : ℕ) → SameNames (nth (map erase (views fs ps)) i) (nth (map erase (views gs qs)) i))
    → project_names (named_trees gs (views gs qs)) ≡ project_names (named_trees fs (views fs ps))
same_named [] ps [] qs names same = refl
same_named [] ps (g ∷ gs) qs names same = absurd cc
same_named (f ∷ fs) ps [] qs names same = absurd cc
same_named (f ∷ fs) [] (g ∷ gs) [] names same = refl
same_named (f ∷ fs) [] (g ∷ gs) (q ∷ qs) names same = absurd (same 0)
same_named (f ∷ fs) (p ∷ ps) (g ∷ gs) [] names same = absurd (same 0)
same_named (f ∷ fs) (p ∷ ps) (g ∷ gs) (q ∷ qs) names same =
    let head : g.name ≡ f.name = cc in
    let tails : names_of gs ≡ names_of fs = cc in
    ap₂ (λ x l. x ∷ l) head (same_named fs ps gs qs tails (λ i. same (suc i)))

-- ---- assignments with and without spans

set_bare : (l : Loaded) (id : List ℕ) (at : CallRef) (s : SetAt (project l) id at) → NodeIn (plain_trees l) at (a_statement (assign tt (erase_name s.name) assignment.Set (erase_expression s.value)))
set_bare l id at s = record {
  tree = erase s.file.tree;
  is_tree = tree_there l.files l.parsed at.file s.file s.is_file;
  is_node = ap (λ x. node_at x at.path.steps) (root_bare s.file.tree) ∙ node_bare at.path.steps (a_block (block_of s.file.tree)) ∙ ap (option_map erase_any) s.is_node;
}

record Assigns (y : Any Span) (text : List ℕ) : Type 0 where
  s : Span
  name : Name Span
  value : Expression Span
  is : y ≡ a_statement (assign s name assignment.Set value)
  same : name.text ≡ text

assigns : (y : Any Span) (r : Nowhere) (x : Name Nowhere) (v : Expression Nowhere) → erase_any y ≡ a_statement (assign r x assignment.Set v) → Assigns y x.text
assigns (a_statement (assign s name assignment.Set value)) r x v is = record { s = s; name = name; value = value; is = refl; same = let same : erase_name name ≡ x = cc in ap (λ (z : Name Nowhere). z.text) same }
assigns (a_statement _) r x v is = absurd cc
assigns (an_expression e) r x v is = absurd cc
assigns (a_block b) r x v is = absurd cc

set_with_spans : (l : Loaded) (id : List ℕ) (at : CallRef) (r : Nowhere) (x : Name Nowhere) (v : Expression Nowhere) → bytes_eq x.text id ≡ true → NodeIn (plain_trees l) at (a_statement (assign r x assignment.Set v)) → SetAt (project l) id at
set_with_spans l id at r x v named n =
    let tree_at = span_tree l.files l.parsed at.file n.tree n.is_tree in
    let there : node_at (erase_any (a_block (block_of tree_at.0.tree))) at.path.steps ≡ Some (a_statement (assign r x assignment.Set v)) =
    sym (ap (λ z. node_at z at.path.steps) (root_bare tree_at.0.tree)) ∙ ap (λ u. node_at (root u) at.path.steps) tree_at.2 ∙ n.is_node in
    let y = map-some erase_any (node_at (a_block (block_of tree_at.0.tree)) at.path.steps) _ (sym (node_bare at.path.steps (a_block (block_of tree_at.0.tree))) ∙ there) in
    let a = assigns y.0 r x v y.2 in
    record { file = tree_at.0; is_file = tree_at.1; s = a.s; name = a.name; value = a.value; is_node = y.1 ∙ ap Some a.is; is_name = ap (λ t. bytes_eq t id) a.same ∙ named }

-- an assignment, by its shape
pub record AssignedAs (y : Any Nowhere) (text : List ℕ) (how : Assignment) : Type 0 where
  pub r : Nowhere
  pub name : Name Nowhere
  pub value : Expression Nowhere
  pub is : y ≡ a_statement (assign r name how value)
  pub same : name.text ≡ text

pub assigned_shape : (y : Any Nowhere) (text : List ℕ) (how : Assignment) → shape y ≡ an_assignment text how → AssignedAs y text how
assigned_shape (a_statement (assign r name a value)) text how is =
    let hows : a ≡ how = cc in
    record { r = r; name = name; value = value; is = ap (λ b. a_statement (assign r name b value)) hows; same = let same : name.text ≡ text = cc in same }
assigned_shape (a_statement _) text how is = absurd cc
assigned_shape (an_expression (array l)) text how is = absurd cc
assigned_shape (an_expression _) text how is = absurd cc
assigned_shape (a_block b) text how is = absurd cc

-- ---- the call

-- an assignment of the same name
pub record SetStays (trees : List Plain) (d : CallRef) (text : List ℕ) : Type 0 where
  pub at : CallRef
  pub is_place : d ≡ child at 0
  pub r : Nowhere
  pub name : Name Nowhere
  pub value : Expression Nowhere
  pub node : NodeIn trees at (a_statement (assign r name assignment.Set value))
  pub same : name.text ≡ text

module _ (old new : Loaded) (names : names_of new.files ≡ names_of old.files) (same : (i : ℕ) → SameNames (nth (plain_trees old) i) (nth (plain_trees new) i)) (name : CallName) (c : Placed (Call Span))
    (found : the_call (project old) role.Target name ≡ Ok c) (d : CallRef) (stays : d.file ≡ c.place.file) (e : Expression Nowhere) (node : NodeIn (plain_trees new) d (an_expression e)) (owns : tell_call (call_of e) ≡ tell_call (Some c.it))
    (sets : (at : CallRef) (x : Name Nowhere) (v : Expression Nowhere) → c.place ≡ child at 0 → NodeIn (plain_trees old) at (a_statement (assign tt x assignment.Set v)) → SetStays (plain_trees new) d x.text) where
  tells : (w : Option ℕ) → told (within w (parts (project new))) ≡ told (within w (parts (project old)))
  tells None = files_tell 0 new.files new.parsed ∙ same_files (plain_trees old) (plain_trees new) same ∙ sym (files_tell 0 old.files old.parsed)
  tells (Some n) =
      ap told (parts_searched n (project new)) ∙ nth_tells n n new.files new.parsed ∙ same_told (nth (plain_trees old) n) (nth (plain_trees new) n) (same n)
      ∙ sym (ap told (parts_searched n (project old)) ∙ nth_tells n n old.files old.parsed)

  abbrev sought : List ℕ
  sought = name.id

  set_again : (at : CallRef) → c.place ≡ child at 0 → SetAt (project old) sought at → (b : CallRef) × (d ≡ child b 0) × SetAt (project new) sought b
  set_again at is_place s =
      let w = sets at (erase_name s.name) (erase_expression s.value) is_place (set_bare old sought at s) in
      (w.at, w.is_place, set_with_spans new sought w.at w.r w.name w.value (ap (λ t. bytes_eq t sought) w.same ∙ s.is_name) w.node)

  pub named_again : Names (project new) name d c.it
  named_again =
      let role_at = role_found (project old) role.Target name c found in
      let tree_at = span_tree new.files new.parsed d.file node.tree node.is_tree in
      let spanned = node_with_spans tree_at.0.tree d.path.steps e (ap (λ u. node_at (root u) d.path.steps) tree_at.2 ∙ node.is_node) in
      same_names_found (project old) (project new) (same_named old.files old.parsed new.files new.parsed names same) name c d found
      (λ w within_it. again w (project old) (project new) (tells w) sought c within_it role_at.is_one d stays spanned.0 tree_at.0 tree_at.1 (expression_node Span tree_at.0.tree d.path.steps spanned.0 spanned.1)
      (sym (expression_erased spanned.0) ∙ ap (λ z. tell_call (call_of z)) spanned.2 ∙ owns) set_again)

-- ==== Where one node of a project has become another one of which the same is told, the sought of a target names its call at the old place.

-- each sought of the call names it, where it was
abbrev pub KeepsNames : Loaded → Loaded → Placed (Call Span) → Type 0
KeepsNames old new c = (name : CallName) → the_call (project old) role.Target name ≡ Ok c → Names (project new) name c.place c.it

pub files_grow : (read : Reading) (texts : List (List ℕ)) (old new : Loaded) (c : Placed (Call Span)) (id : CallName) → FilesGrown read texts c.place (project old) (project new) → Names (project new) id c.place c.it → FilesGrow read texts id c (project old) (project new)
files_grow read texts old new c id g n = record {
  named = record { call = placed c.place n.it; is_call = n.is_call; function = n.function; first = n.first };
  stays = refl;
  before = g.before;
  were = g.were;
  after = g.after;
  are = g.are;
  come = g.come;
  unknown = g.unknown;
}

-- what tells of a target's call is an expression
an_expression_tells : (z : Any Nowhere) (f : List ℕ) (literal : Option (List ℕ)) → own z ≡ Some (a_target f literal) → (e : Expression Nowhere) × (z ≡ an_expression e)
an_expression_tells (an_expression e) f literal is = (e, refl)
an_expression_tells (a_statement (assign s x assignment.Set e)) f literal is = absurd (no_variable (is_target_call (Some e)) is)
  where
    no_variable : (b : Bool) → (if b then Some (a_variable x.text) else None) ≡ Some (a_target f literal) → ⊥
    no_variable true same = cc
    no_variable false same = cc
an_expression_tells (a_statement _) f literal is = absurd cc
an_expression_tells (a_block b) f literal is = absurd cc

module _ (old new : Loaded) (names : names_of new.files ≡ names_of old.files) (h : CallRef) (tree now : Plain) (was : nth (plain_trees old) h.file ≡ Some tree) (is_now : nth (plain_trees new) h.file ≡ Some now)
    (others : (i : ℕ) → (h.file ≡ i → ⊥) → nth (plain_trees new) i ≡ nth (plain_trees old) i) (older newer : Expression Nowhere)
    (becomes : Becomes (an_expression older) (an_expression newer) h.path.steps (a_block (block_of tree)) (a_block (block_of now))) (alike : Alike (an_expression older) (an_expression newer)) where
  abbrev ts : List Plain
  ts = plain_trees old

  abbrev us : List Plain
  us = plain_trees new

  same_names : (i : ℕ) → SameNames (nth ts i) (nth us i)
  same_names i = go (nat_eq h.file i) refl
    where
      go : (b : Bool) → nat_eq h.file i ≡ b → SameNames (nth ts i) (nth us i)
      go true is =
          let same = eqb-true h.file i is in
          subst (λ o. SameNames o (nth us i)) (sym (ap (nth ts) (sym same) ∙ was))
          (subst (λ o. SameNames (Some tree) o) (sym (ap (nth us) (sym same) ∙ is_now)) (alike_along (an_expression older) (an_expression newer) alike h.path.steps (a_block (block_of tree)) (a_block (block_of now)) becomes).tells)
      go false is =
          subst (λ o. SameNames (nth ts i) o) (sym (others i (λ same. let both : true ≡ false = sym (eq-eqb h.file i same) ∙ is in cc))) (names_itself (nth ts i))

  -- what stood under the node
  stood_within : (p : CallRef) (m : ℕ) (rest : List ℕ) → p ≡ below h (m ∷ rest) → (y : Any Nowhere) → NodeIn ts p y → node_at (an_expression older) (m ∷ rest) ≡ Some y
  stood_within p m rest is y n =
      let same_tree : n.tree ≡ tree = some-injective _ _ (sym n.is_tree ∙ ap (λ (q : CallRef). nth ts q.file) is ∙ was) in
      sym (node_between h.path.steps (m ∷ rest) (a_block (block_of tree)) (an_expression older) (became_old (an_expression older) (an_expression newer) h.path.steps (a_block (block_of tree)) (a_block (block_of now)) becomes))
      ∙ ap (node_at (a_block (block_of tree))) (sym (ap (λ (q : CallRef). q.path.steps) is)) ∙ ap (λ t. node_at (a_block (block_of t)) p.path.steps) (sym same_tree) ∙ n.is_node

  still_within : (p : CallRef) (m : ℕ) (rest : List ℕ) → p ≡ below h (m ∷ rest) → (y : Any Nowhere) → node_at (an_expression newer) (m ∷ rest) ≡ Some y → NodeIn us p y
  still_within p m rest is y there = record {
    tree = now;
    is_tree = ap (λ (q : CallRef). nth us q.file) is ∙ is_now;
    is_node =
        ap (node_at (a_block (block_of now))) (ap (λ (q : CallRef). q.path.steps) is)
        ∙ node_between h.path.steps (m ∷ rest) (a_block (block_of now)) (an_expression newer) (became_new (an_expression older) (an_expression newer) h.path.steps (a_block (block_of tree)) (a_block (block_of now)) becomes) ∙ there;
  }

  -- an assignment stays
  set_stays : (d at : CallRef) (x : Name Nowhere) (v : Expression Nowhere) → d ≡ child at 0 → NodeIn ts at (a_statement (assign tt x assignment.Set v)) → SetStays us d x.text
  set_stays d at x v is_place n = go (under at h)
    where
      on_way : (rest : List ℕ) → h ≡ below at rest → SetStays us d x.text
      on_way [] leads = let on = (node_above old new names h tree now was is_now others older newer becomes at [] leads (a_statement (assign tt x assignment.Set v)) n).further in let none : a_statement (assign tt x assignment.Set v) ≡ an_expression older = on.0 in absurd cc
      on_way (m ∷ rest) leads =
          let on = node_above old new names h tree now was is_now others older newer becomes at (m ∷ rest) leads (a_statement (assign tt x assignment.Set v)) n in
          let a = assigned_shape on.next x.text assignment.Set on.further.2.shapes in
          record {
            at = at;
            is_place = is_place;
            r = a.r;
            name = a.name;
            value = a.value;
            node = subst (NodeIn us at) a.is (next_in old new names h tree now was is_now others older newer becomes at (m ∷ rest) leads (a_statement (assign tt x assignment.Set v)) n);
            same = a.same;
          }

      go : ((rest : List ℕ) × (h ≡ below at rest)) ⊎ ((rest : List ℕ) → h ≡ below at rest → ⊥) → SetStays us d x.text
      go (inl w) = on_way w.0 w.1
      go (inr not) = record {
        at = at;
        is_place = is_place;
        r = tt;
        name = x;
        value = v;
        node = node_away old new names h tree now was is_now others older newer becomes at not (λ m rest is. no_statement (m ∷ rest) older _ (stood_within at m rest is (a_statement (assign tt x assignment.Set v)) n)) (a_statement (assign tt x assignment.Set v)) n;
        same = refl;
      }

  module _ (id : CallName) (c : Placed (Call Span)) (found : the_call (project old) role.Target id ≡ Ok c)
      (stays_below : (m : ℕ) (rest : List ℕ) (y : Any Nowhere) → c.place ≡ below h (m ∷ rest) → node_at (an_expression older) (m ∷ rest) ≡ Some y → node_at (an_expression newer) (m ∷ rest) ≡ Some y) where
    pub named_stays : Names (project new) id c.place c.it
    named_stays =
        let role_at = role_found (project old) role.Target id c found in
        by role_at.is_one (erase_expression role_at.at.value) (bare_in old c.place role_at.at.value role_at.at.is_at) (expression_erased role_at.at.value ∙ ap tell_call role_at.at.is_call)
      where
        by : has_role role.Target c.it ≡ true → (e : Expression Nowhere) → NodeIn ts c.place (an_expression e) → tell_call (call_of e) ≡ tell_call (Some c.it) → Names (project new) id c.place c.it
        by is_one e n owns = go (under c.place h)
          where
            stands : (z : Any Nowhere) → own z ≡ tell_call (call_of e) → NodeIn us c.place z → Names (project new) id c.place c.it
            stands z same there =
                let tells : own z ≡ tell_call (Some c.it) = same ∙ owns in
                let w = an_expression_tells z c.it.function (first_literal c.it) (tells ∙ ap (λ b. if b then Some (a_target c.it.function (first_literal c.it)) else None) is_one) in
                named_again old new names same_names id c found c.place refl w.0 (subst (NodeIn us c.place) w.1 there) (sym (ap own w.1) ∙ tells) (set_stays c.place)

            below_it : (rest : List ℕ) → c.place ≡ below h rest → ((rest : List ℕ) → h ≡ below c.place rest → ⊥) → Names (project new) id c.place c.it
            below_it [] is not = absurd (not [] (sym (below_itself h) ∙ sym is ∙ sym (below_itself c.place)))
            below_it (m ∷ rest) is not = stands (an_expression e) refl (still_within c.place m rest is (an_expression e) (stays_below m rest (an_expression e) is (stood_within c.place m rest is (an_expression e) n)))

            aside : ((rest : List ℕ) × (c.place ≡ below h rest)) ⊎ ((rest : List ℕ) → c.place ≡ below h rest → ⊥) → ((rest : List ℕ) → h ≡ below c.place rest → ⊥) → Names (project new) id c.place c.it
            aside (inl w) not = below_it w.0 w.1 not
            aside (inr apart) not = stands (an_expression e) refl (node_away old new names h tree now was is_now others older newer becomes c.place not (λ m rest is. apart (m ∷ rest) is) (an_expression e) n)

            go : ((rest : List ℕ) × (h ≡ below c.place rest)) ⊎ ((rest : List ℕ) → h ≡ below c.place rest → ⊥) → Names (project new) id c.place c.it
            go (inl w) =
                let on = node_above old new names h tree now was is_now others older newer becomes c.place w.0 w.1 (an_expression e) n in
                stands on.next (alike_along (an_expression older) (an_expression newer) alike w.0 (an_expression e) on.next on.further).owns
                (next_in old new names h tree now was is_now others older newer becomes c.place w.0 w.1 (an_expression e) n)
            go (inr not) = aside (under h c.place) not

-- nothing has changed
pub same_trees_named : (old new : Loaded) → names_of new.files ≡ names_of old.files → (c : Placed (Call Span)) → plain_trees new ≡ plain_trees old → KeepsNames old new c
same_trees_named old new names c same id found =
    let role_at = role_found (project old) role.Target id c found in
    named_again old new names (λ i. subst (λ ts. SameNames (nth (plain_trees old) i) (nth ts i)) (sym same) (names_itself (nth (plain_trees old) i))) id c found c.place refl (erase_expression role_at.at.value)
    (subst (λ ts. NodeIn ts c.place (an_expression (erase_expression role_at.at.value))) (sym same) (bare_in old c.place role_at.at.value role_at.at.is_at)) (expression_erased role_at.at.value ∙ ap tell_call role_at.at.is_call)
    (λ at x v is_place n. record { at = at; is_place = is_place; r = tt; name = x; value = v; node = subst (λ ts. NodeIn ts at (a_statement (assign tt x assignment.Set v))) (sym same) n; same = refl })
