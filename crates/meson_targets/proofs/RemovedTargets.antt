-- A target that is removed is gone with its statement: no target has its name, and the other targets stay.
use Rattle.meson_targets.proofs.Words.{Stay}
use Rattle.meson_targets.proofs.Words.{◌≡◌, ℕ, zero, suc, true, false, List, [], ◌∷◌, ◌++◌, map, Option, Some, None, refl, sym, ap, ◌∙◌, subst, inl, inr, Bool}
use Rattle.meson_targets.proofs.Words.{◌⊎◌, if◌then◌else◌, ok_or, option_and_then, option_map, Ok, cons_option, then_ok, File, Span, Nowhere, Plain, Expression}
use Rattle.meson_targets.proofs.Words.{call, Statement, selection, iteration, Branches, Otherwise, Block, erase, erase_block, erase_expression, erase_listing}
use Rattle.meson_targets.proofs.Words.{erase_statement, some-injective, Every, and-then-some, map-some, BlockAt, block_at, statement_in, RemoveStatement}
use Rattle.meson_targets.proofs.Words.{blocks-erase, Call, all_chosen, call_of, first_literal, part_call, only_one, Loaded, named_trees, project, views}
use Rattle.meson_targets.proofs.Words.{or_else, with_name, Part, parts_of_expression, parts_of_listing, parts, parts_of_statement, BuildFile, Placed, Project}
use Rattle.meson_targets.proofs.Words.{nth_file, place, placed, with_role, CallRef, NotStatement, every_chosen, plain_trees, all_stepped, bare_call}
use Rattle.meson_targets.proofs.Words.{name_alike, named_alike, named_among, parts_erased, role_alike, tree_there, then_was, CallsGone, RemovedTargetsAreGone}
use Rattle.meson_targets.proofs.Words.{StatementGone, Held, Holder, StatementPlace, held_by, holder, not_in_use, statement_of, statement_removal}
use Rattle.meson_targets.proofs.Words.{statement_there, targets_among, role_calls_among, bare_placed, InProject, every_part, parts_of_file, append-nil, nth, ap₂, changed_at, edited}
use Rattle.meson_syntax.specs.Paths as paths
use Rattle.meson_syntax.specs.Tree as tree
use Rattle.meson_calls.specs.declared.call.Role.TheVariants as role
use Rattle.meson_calls.specs.Calls as calls
use Rattle.meson_calls.specs.Finding.{call_within}
use Rattle.meson_calls.specs.Searching.{project_names, searched_file, within}
use Rattle.meson_calls.specs.declared.call.CallName.{CallName}
use Rattle.meson_calls.specs.Parts.{a_statement}
use Rattle.meson_calls.proofs.CallsFound.{within_found}
use Rattle.meson_calls.proofs.Searched.{every_within, within_mapped}
use Rattle.meson_calls.proofs.SearchedFiles.{found_in_file, parts_in, parts_searched}
use Rattle.meson_targets.proofs.ChosenParts.{chosen_its, chosen_told, nothing_left, only_it, unmapped}
use Rattle.meson_targets.proofs.GoneStatements.{gone, made, only_step, removed}
use Rattle.meson_targets.proofs.SetTargets.{SetAt, all_set, set_targets, set_tells, set_told, tell_set, told_alike}
use Rattle.meson_targets.proofs.StatementTargets.{IsOf, alone, holds_it, line_of, set}
use Rattle.meson_targets.proofs.TargetsDoable.{some_there, statement_erased}
use Rattle.meson_targets.proofs.ToldParts.{Cut, project_cut, told}

-- ---- calls of the name

module _ (id : List ℕ) where
  abbrev named_target : Call Nowhere → Option (Call Nowhere)
  named_target c = option_and_then (with_name id) (with_role role.Target c)

  abbrev tell_named : Part Nowhere → Option (Call Nowhere)
  tell_named x = option_and_then named_target (part_call x)

  named_told : (qs : List (Placed (Part Nowhere))) → map (λ (c : Placed (Call Nowhere)). c.it) (named_among id qs) ≡ told tell_named qs
  named_told qs =
      chosen_its (with_name id) (all_chosen (with_role role.Target) (all_chosen part_call qs)) ∙ sym (chosen_told (with_role role.Target) (with_name id) (all_chosen part_call qs))
      ∙ sym (chosen_told part_call named_target qs)

  -- a statement of a call of the name tells of it
  record Tells (s : Statement Nowhere) : Type 0 where
    first : Call Nowhere
    more : List (Call Nowhere)
    is : told tell_named (parts_of_statement (place 0 []) s) ≡ first ∷ more

  tells_call : (q : CallRef) (e : Expression Span) (c : Call Span) → call_of e ≡ Some c → with_role role.Target c ≡ Some c → with_name id c ≡ Some c
      → (more : List (Call Nowhere)) × (told tell_named (parts_of_expression q (erase_expression e)) ≡ bare_call c ∷ more)
  tells_call q (call s f l) c is has named =
      let k : Call Span = record { function = f.text; arguments = l } in
      let more = told tell_named (parts_of_listing q 0 (erase_listing l)) in
      let first : named_target (bare_call k) ≡ Some (bare_call c) =
      ap (λ (d : Call Span). named_target (bare_call d)) (some-injective k c is) ∙ ap (option_and_then (with_name id)) (role_alike c ∙ ap (option_map bare_call) has) ∙ name_alike id c ∙ ap (option_map bare_call) named in
      (more, ap (λ o. cons_option o more) first)
  tells_call q _ c is has named = absurd cc

  tells_by : (e : Expression Span) (c : Call Span) → call_of e ≡ Some c → with_role role.Target c ≡ Some c → with_name id c ≡ Some c → (s : Statement Span) → IsOf e s → Tells (erase_statement s)
  tells_by e c is has named s alone = let t = tells_call (place 0 (0 ∷ [])) e c is has named in record { first = bare_call c; more = t.0; is = t.1 }
  tells_by e c is has named s (set t x) = let t = tells_call (place 0 (0 ∷ [])) e c is has named in record { first = bare_call c; more = t.0; is = t.1 }

  -- what a name chooses has it
  named_self : (c y : Call Span) → with_name id c ≡ Some y → with_name id y ≡ Some y
  named_self c y is = by (calls.is id (first_literal c)) refl is where
    by : (b : Bool) → calls.is id (first_literal c) ≡ b → (if b then Some c else None) ≡ Some y → with_name id y ≡ Some y
    by true name same = subst (λ d. with_name id d ≡ Some d) (some-injective c y same) (ap (λ b. if b then Some c else None) name)
    by false name same = absurd cc

  abbrev IsNamed : Placed (Call Span) → Type 0
  IsNamed q = with_name id q.it ≡ Some q.it

  all_named : (qs : List (Placed (Call Span))) → Every IsNamed (all_chosen (with_name id) qs)
  all_named qs = every_chosen (λ q. Unit {0}) IsNamed (with_name id) (λ q y any is. named_self q.it y is) qs (every qs) where
    every : (ps : List (Placed (Call Span))) → Every (λ q. Unit {0}) ps
    every [] = tt
    every (x ∷ ps) = (tt, every ps)

-- the one call of two lists is that of the first, or the first is empty
one_of_two : (xs ys : List (Placed (Call Span))) (c : Placed (Call Span)) → only_one (or_else xs ys) ≡ Ok c → (xs ≡ []) ⊎ (xs ≡ c ∷ [])
one_of_two [] ys c is = inl refl
one_of_two (x ∷ []) ys c is = let same : x ≡ c = cc in inr (ap (λ z. z ∷ []) same)
one_of_two (x ∷ y ∷ xs) ys c is = absurd cc

only_there : (ys : List (Placed (Call Span))) (c : Placed (Call Span)) → only_one ys ≡ Ok c → ys ≡ c ∷ []
only_there [] c is = absurd cc
only_there (y ∷ []) c is = let same : y ≡ c = cc in ap (λ z. z ∷ []) same
only_there (y ∷ z ∷ ys) c is = absurd cc

-- ---- the statement without its spans

plain_file : (files : List File) (trees : List (tree.File Span)) (i : ℕ) (f : BuildFile Span) → nth_file (named_trees files trees) i ≡ Some f
    → nth_file (named_trees files (map erase trees)) i ≡ Some (record { name = f.name; tree = erase f.tree })
plain_file [] trees i f is = absurd cc
plain_file (g ∷ files) [] i f is = absurd cc
plain_file (g ∷ files) (t ∷ trees) zero f is = ap (option_map (λ (h : BuildFile Span). record { name = h.name; tree = erase h.tree })) is
plain_file (g ∷ files) (t ∷ trees) (suc i) f is = plain_file files trees i f is

abbrev statement_at : {S : Type 0} → StatementPlace → tree.File S → Option (Statement S)
statement_at line t = option_and_then (λ b. statement_in b.inside line.number) (block_at t line.block.path.steps)

plain_statement : (line : StatementPlace) (f : tree.File Span) (s : Statement Span) → statement_at line f ≡ Some s → statement_at line (erase f) ≡ Some (erase_statement s)
plain_statement line f s is =
    let path = line.block.path.steps in
    let b = and-then-some (λ (c : BlockAt Span). statement_in c.inside line.number) (block_at f path) s is in
    let q = map-some (λ (c : BlockAt Nowhere). c.inside) (block_at (erase f) path) (erase_block b.0.inside) (blocks-erase f path ∙ ap (option_map (λ (c : BlockAt Span). erase_block c.inside)) b.1) in
    ap (option_and_then (λ (c : BlockAt Nowhere). statement_in c.inside line.number)) q.1 ∙ ap (λ c. statement_in c line.number) q.2 ∙ statement_erased b.0.inside line.number ∙ ap (option_map erase_statement) b.2

-- the same file of other trees
file_now : (files : List File) (ts us : List Plain) (i : ℕ) (f : BuildFile Nowhere) (u : Plain) → nth_file (named_trees files ts) i ≡ Some f → nth us i ≡ Some u
    → nth_file (named_trees files us) i ≡ Some (record { name = f.name; tree = u })
file_now [] ts us i f u was now = absurd cc
file_now (g ∷ files) [] us i f u was now = absurd cc
file_now (g ∷ files) (t ∷ ts) [] i f u was now = absurd cc
file_now (g ∷ files) (t ∷ ts) (v ∷ us) zero f u was now =
    ap₂ (λ (h : BuildFile Nowhere) (x : Plain). Some (record { name = h.name; tree = x })) (some-injective _ _ was) (some-injective v u now)
file_now (g ∷ files) (t ∷ ts) (v ∷ us) (suc i) f u was now = file_now files ts us i f u was now

-- the names of the files
plain_names : (files : List File) (trees : List (tree.File Span)) → project_names (named_trees files (map erase trees)) ≡ project_names (named_trees files trees)
plain_names [] trees = refl
plain_names (g ∷ files) [] = refl
plain_names (g ∷ files) (t ∷ trees) = ap (λ names. g.name ∷ names) (plain_names files trees)

names_now : (change : Plain → Option Plain) (files : List File) (i : ℕ) (ts us : List Plain) → changed_at i change ts ≡ Some us → project_names (named_trees files us) ≡ project_names (named_trees files ts)
names_now change [] i ts us made = refl
names_now change (g ∷ files) i [] us made = absurd cc
names_now change (g ∷ files) zero (t ∷ ts) us made =
    let o = map-some (λ u. u ∷ ts) (change t) us made in
    ap (λ vs. project_names (named_trees (g ∷ files) vs)) (sym o.2)
names_now change (g ∷ files) (suc i) (t ∷ ts) us made =
    let o = map-some (λ vs. t ∷ vs) (changed_at i change ts) us made in
    ap (λ vs. project_names (named_trees (g ∷ files) vs)) (sym o.2) ∙ ap (λ names. g.name ∷ names) (names_now change files i ts o.0 o.1)

-- ---- the command

module _ (old : Loaded) (w : Option ℕ) (name : CallName) (is_searched : searched_file (project_names (project old)) name.folder ≡ Ok w) (c : Placed (Call Span))
    (named : call_within w (project old) role.Target name.id ≡ Ok c) (after : List Plain) (line : StatementPlace) (is_line : statement_of c.place ≡ Some line)
    (s : Statement Span) (held : Held) (there : statement_there (project old) line ≡ Some s) (held_is : held_by s ≡ Some held) (done : all_stepped (statement_removal line) (plain_trees old) ≡ Some after) where
  abbrev p : Project Span
  p = project old

  abbrev before : Project Nowhere
  before = named_trees old.files (plain_trees old)

  abbrev now : Project Nowhere
  now = named_trees old.files after

  abbrev id : List ℕ
  id = name.id

  -- the parts that are searched, with and without spans, and those that are left
  abbrev ps : List (Placed (Part Span))
  ps = within w (parts p)

  abbrev bs : List (Placed (Part Nowhere))
  bs = within w (parts before)

  abbrev ns : List (Placed (Part Nowhere))
  ns = within w (parts now)

  in_file : (f : BuildFile Span) × (nth_file p line.block.file ≡ Some f) × (statement_at line f.tree ≡ Some s)
  in_file = and-then-some (λ (f : BuildFile Span). statement_at line f.tree) (nth_file p line.block.file) s there

  abbrev it : Statement Nowhere
  it = erase_statement s

  statement_gone : StatementGone line it (plain_trees old) after
  statement_gone =
      let r = removed line (plain_trees old) after done in
      let m = made line (plain_trees old) after done in
      let same_tree : m.old ≡ erase in_file.0.tree = some-injective _ _ (sym m.was ∙ tree_there old.files old.parsed line.block.file in_file.0 in_file.1) in
      let here : statement_at line m.old ≡ Some r.it = ap (option_and_then (λ (b : BlockAt Nowhere). statement_in b.inside line.number)) r.is_block ∙ r.is_it in
      let same : r.it ≡ it = some-injective _ _ (sym here ∙ ap (statement_at line) same_tree ∙ plain_statement line in_file.0.tree s in_file.2) in
      subst (λ x. StatementGone line x (plain_trees old) after) same (gone line (plain_trees old) after done)

  cut : {Y : Type 0} (tell : Part Nowhere → Option Y) → ((t : Nowhere) (bs : Branches Nowhere) (o : Otherwise Nowhere) → tell (a_statement (selection t bs o)) ≡ None)
      → ((t : Nowhere) (xs : List (tree.Name Nowhere)) (e : Expression Nowhere) (b : Block Nowhere) → tell (a_statement (iteration t xs e b)) ≡ None) → Cut tell (told tell (parts before)) (told tell (parts_of_statement (place 0 []) it)) (told tell (parts now))
  cut tell no_selection no_iteration =
      project_cut tell no_selection no_iteration line it old.files (plain_trees old) after 0 line.block.file (record { name = in_file.0.name; tree = erase in_file.0.tree })
      (plain_file old.files (views old.files old.parsed) line.block.file in_file.0 in_file.1) (plain_statement line in_file.0.tree s in_file.2)
      (only_step (record { file = line.block.file; edit = RemoveStatement Stay line.block.path.steps line.number }) (plain_trees old) after done)

  -- of the file of this number alone
  file_cut : {Y : Type 0} (tell : Part Nowhere → Option Y) → ((t : Nowhere) (bs : Branches Nowhere) (o : Otherwise Nowhere) → tell (a_statement (selection t bs o)) ≡ None)
      → ((t : Nowhere) (xs : List (tree.Name Nowhere)) (e : Expression Nowhere) (b : Block Nowhere) → tell (a_statement (iteration t xs e b)) ≡ None) → (n : ℕ) → line.block.file ≡ n
      → Cut tell (told tell (within (Some n) (parts before))) (told tell (parts_of_statement (place 0 []) it)) (told tell (within (Some n) (parts now)))
  file_cut tell no_selection no_iteration n in_it =
      let m = made line (plain_trees old) after done in
      let f = in_file.0 in
      let was = plain_file old.files (views old.files old.parsed) line.block.file f in_file.1 in
      let same_tree : m.old ≡ erase f.tree = some-injective _ _ (sym m.was ∙ tree_there old.files old.parsed line.block.file f in_file.1) in
      let here = ap (statement_at line) same_tree ∙ plain_statement line f.tree s in_file.2 in
      let alone : File = record { name = f.name; bytes = [] } in
      let k = project_cut tell no_selection no_iteration line it (alone ∷ []) (m.old ∷ []) (m.new ∷ []) n zero (record { name = f.name; tree = m.old }) refl here (ap (option_map (λ u. u ∷ [])) m.is) in
      let had : parts_of_file n m.old ++ [] ≡ within (Some n) (parts before) =
      append-nil (parts_of_file n m.old) ∙ ap (parts_of_file n) same_tree ∙ sym (parts_searched n before ∙ ap (λ i. parts_in n (nth_file before i)) (sym in_it) ∙ ap (parts_in n) was) in
      let has : parts_of_file n m.new ++ [] ≡ within (Some n) (parts now) =
      append-nil (parts_of_file n m.new)
      ∙ sym (parts_searched n now ∙ ap (λ i. parts_in n (nth_file now i)) (sym in_it) ∙ ap (parts_in n) (file_now old.files (plain_trees old) after line.block.file _ m.new was m.now)) in
      subst (λ xs. Cut tell (told tell xs) (told tell (parts_of_statement (place 0 []) it)) (told tell (within (Some n) (parts now)))) had
      (subst (λ xs. Cut tell (told tell (parts_of_file n m.old ++ [])) (told tell (parts_of_statement (place 0 []) it)) (told tell xs)) has k)

  searched_cut : {Y : Type 0} (tell : Part Nowhere → Option Y) → ((t : Nowhere) (bs : Branches Nowhere) (o : Otherwise Nowhere) → tell (a_statement (selection t bs o)) ≡ None)
      → ((t : Nowhere) (xs : List (tree.Name Nowhere)) (e : Expression Nowhere) (b : Block Nowhere) → tell (a_statement (iteration t xs e b)) ≡ None)
      → Cut tell (told tell bs) (told tell (parts_of_statement (place 0 []) it)) (told tell ns)
  searched_cut {Y} tell no_selection no_iteration = go w named
    where
      go : (v : Option ℕ) → call_within v (project old) role.Target name.id ≡ Ok c
          → Cut tell (told tell (within v (parts before))) (told tell (parts_of_statement (place 0 []) it)) (told tell (within v (parts now)))
      go None found = cut tell no_selection no_iteration
      go (Some n) found = file_cut tell no_selection no_iteration n (sym (line_of c.place line is_line).file ∙ found_in_file n (project old) role.Target name.id c found)

  searched_erased : bs ≡ map bare_placed ps
  searched_erased = ap (within w) (parts_erased 0 old.files (views old.files old.parsed)) ∙ within_mapped bare_placed (λ q. refl) w (parts p)

  searched_in : Every (InProject 0 p) ps
  searched_in = every_within (InProject 0 p) w (parts p) (every_part 0 p)

  -- ---- the name

  of_call : with_name id c.it ≡ Some c.it → Tells id it
  of_call has_name =
      let r = within_found w p role.Target id c named in
      let l = line_of c.place line is_line in
      let f = in_file.0 in
      let its_file : nth_file p c.place.file ≡ Some f = ap (nth_file p) l.file ∙ in_file.1 in
      let at_path : paths.expression_on_path f.tree (line.block.path.steps ++ line.number ∷ l.last ∷ []) ≡ Some r.at.value =
      ap (paths.expression_on_path f.tree) (sym l.path) ∙ sym (ap (option_and_then (λ (g : BuildFile Span). paths.expression_on_path g.tree c.place.path.steps)) its_file) ∙ r.at.is_at in
      tells_by id r.at.value c.it r.at.is_call (ap (λ b. if b then Some c.it else None) r.is_one) has_name s
      (holds_it f.tree line.block.path.steps line.number s in_file.2 held held_is l.last r.at.value at_path)

  of_before : told (tell_named id) bs ≡ map (λ (q : Placed (Call Nowhere)). q.it) (map (λ (q : Placed (Call Span)). placed q.place (bare_call q.it)) (targets_among ps id))
  of_before = sym (named_told id bs) ∙ ap (map (λ (q : Placed (Call Nowhere)). q.it)) (ap (named_among id) searched_erased ∙ named_alike id ps)

  none_named : targets_among ns id ≡ []
  none_named =
      let k = searched_cut (tell_named id) (λ t bs o. refl) (λ t xs e b. refl) in
      unmapped (λ (q : Placed (Call Nowhere)). q.it) (targets_among ns id) (named_told id ns ∙ k.has ∙ by k (one_of_two (targets_among ps id) (set_targets id ps) c named))
    where
      its : List (Placed (Call Span)) → List (Call Nowhere)
      its xs = map (λ (q : Placed (Call Nowhere)). q.it) (map (λ (q : Placed (Call Span)). placed q.place (bare_call q.it)) xs)

      by : (k : Cut (tell_named id) (told (tell_named id) bs) (told (tell_named id) (parts_of_statement (place 0 []) it)) (told (tell_named id) ns))
          → (targets_among ps id ≡ []) ⊎ (targets_among ps id ≡ c ∷ []) → k.front ++ k.behind ≡ []
      by k (inl none) = nothing_left k.front (told (tell_named id) (parts_of_statement (place 0 []) it)) k.behind (sym k.had ∙ of_before ∙ ap its none)
      by k (inr one) =
          let has_name = subst (Every (IsNamed id)) one (all_named id (role_calls_among ps role.Target)) in
          let t = of_call has_name.0 in
          only_it k.front (told (tell_named id) (parts_of_statement (place 0 []) it)) k.behind (bare_call c.it) t.first t.more t.is (sym k.had ∙ of_before ∙ ap its one)

  -- ---- its variable

  none_set : targets_among bs id ≡ [] → set_targets id ns ≡ []
  none_set none =
      let k = searched_cut (tell_set id) (λ t bs o. refl) (λ t xs e b. refl) in
      let no_name : targets_among ps id ≡ [] = unmapped (λ (q : Placed (Call Span)). placed q.place (bare_call q.it)) (targets_among ps id) (sym (ap (named_among id) searched_erased ∙ named_alike id ps) ∙ none) in
      let one : set_targets id ps ≡ c ∷ [] = only_there (set_targets id ps) c (ap (λ xs. only_one (or_else xs (set_targets id ps))) (sym no_name) ∙ named) in
      let had : told (tell_set id) bs ≡ bare_call c.it ∷ [] =
      ap (told (tell_set id)) searched_erased ∙ told_alike id ps ∙ ap (map bare_call) (sym (set_told id ps) ∙ ap (map (λ (q : Placed (Call Span)). q.it)) one) in
      let r = within_found w p role.Target id c named in
      let set_at = subst (Every (SetAt id p)) one (all_set id p ps searched_in) in
      let t = set_tells id p c set_at.0 (ap (λ b. if b then Some c.it else None) r.is_one) line (line_of c.place line is_line) in_file.0 in_file.1 s in_file.2 in
      unmapped (λ (q : Placed (Call Nowhere)). q.it) (set_targets id ns)
      (set_told id ns ∙ k.has ∙ only_it k.front (told (tell_set id) (parts_of_statement (place 0 []) it)) k.behind (bare_call c.it) t.first t.more t.is (sym k.had ∙ had))

  same_names : project_names now ≡ project_names p
  same_names =
      names_now (edited (RemoveStatement Stay line.block.path.steps line.number)) old.files line.block.file (plain_trees old) after
      (only_step (record { file = line.block.file; edit = RemoveStatement Stay line.block.path.steps line.number }) (plain_trees old) after done)
      ∙ plain_names old.files (views old.files old.parsed)

  calls_gone : CallsGone it name w before now
  calls_gone =
      let k = cut part_call (λ t bs o. refl) (λ t xs e b. refl) in
      record {
        front = k.front;
        back = k.behind;
        had = chosen_its part_call (parts before) ∙ k.had ∙ ap (λ l. k.front ++ (l ++ k.behind)) (sym (chosen_its part_call (parts_of_statement (place 0 []) it)));
        has = chosen_its part_call (parts now) ∙ k.has;
        named = none_named;
        by_variable = λ none.
            ap (λ names. then_ok (searched_file names name.folder) (λ v. call_within v now role.Target id)) same_names
            ∙ ap (λ o. then_ok o (λ v. call_within v now role.Target id)) is_searched
            ∙ ap (λ xs. only_one (or_else xs (set_targets id ns))) none_named ∙ ap only_one (none_set none);
      }

pub removed-targets-are-gone : RemovedTargetsAreGone
removed-targets-are-gone old is name c named steps after made done =
    let p = project old in
    let found = then_was (searched_file (project_names p) name.folder) (λ w. call_within w p role.Target name.id) c named in
    let a = then_was (ok_or (holder p c.place) NotStatement) (λ h. then_ok (not_in_use p h.statement h.held) (λ _. Ok (statement_removal h.statement))) steps made in
    let b = then_was (not_in_use p a.0.statement a.0.held) (λ _. Ok (statement_removal a.0.statement)) steps a.2 in
    let same : statement_removal a.0.statement ≡ steps = let g = b.2 in cc in
    let o = and-then-some (λ line. option_map (λ held. record { statement = line; held = held }) (option_and_then held_by (statement_there p line))) (statement_of c.place) a.0 (some_there (holder p c.place) a.0 a.1) in
    let m = map-some (λ held. record { statement = o.0; held = held }) (option_and_then held_by (statement_there p o.0)) a.0 o.2 in
    let s = and-then-some held_by (statement_there p o.0) m.0 m.1 in
    let stepped : all_stepped (statement_removal o.0) (plain_trees old) ≡ Some after = ap (λ (h : Holder). all_stepped (statement_removal h.statement) (plain_trees old)) m.2 ∙ ap (λ ss. all_stepped ss (plain_trees old)) same ∙ done in
    record {
      line = o.0;
      is_line = o.1;
      it = erase_statement s.0;
      searched = found.0;
      is_searched = found.1;
      statement = statement_gone old found.0 name found.1 c found.2 after o.0 o.1 s.0 m.0 s.1 s.2 stepped;
      calls = calls_gone old found.0 name found.1 c found.2 after o.0 o.1 s.0 m.0 s.1 s.2 stepped;
    }
