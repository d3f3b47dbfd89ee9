-- Which assignment nothing needs, and how it goes, depends on the trees of a project without their spans.
use Rattle.std.proofs.Common.{◌≡◌, ℕ, zero, suc, ◌+◌, List, [], ◌∷◌, ◌++◌, length, map, Option, Some, None, refl, sym, ap, ap₂, ◌∙◌, append-nil}
use Rattle.std.specs.Prelude.{Bool, not, ◌&&◌, ◌||◌, ◌==◌, bytes_eq, if◌then◌else◌, is_none, option_and_then, option_map}
use Rattle.std.specs.List.{cons_option, filter, list_any}
use Rattle.std.specs.Option.{option_map_or, option_or}
use Rattle.meson_lex.specs.declared.kinds.Span.{Span}
use Rattle.meson_splice.specs.declared.file_set.File.{File}
use Rattle.meson_layout.specs.declared.primitive.BlankLines.TheVariants.{Trim}
use Rattle.meson_syntax.specs.Tree as tree
use Rattle.meson_syntax.specs.Tree.{Block, Name, Nowhere, Plain, Statement, assign, block, breaks, call, continues, evaluate, identifier, iteration, selection, erase, erase_block, erase_expression, erase_name, erase_names, erase_statement}
use Rattle.meson_syntax.specs.declared.tree.Parsed.{Parsed}
use Rattle.meson_edit.specs.Blocks.{BlockAt, block_at, statement_in}
use Rattle.meson_edit.specs.Edits.{RemoveStatement}
use Rattle.meson_edit.proofs.paths.Erased.{blocks-erase}
use Rattle.meson_calls.specs.declared.call.CallRef.{CallRef}
use Rattle.meson_calls.specs.Calls.{is}
use Rattle.meson_calls.specs.Loading.{AreParsed, Loaded, named_trees, project, trees, views}
use Rattle.meson_calls.specs.Notes.{Note, a_call, a_loop, an_assignment, note_of, noted, notes}
use Rattle.meson_calls.specs.Parts.{Part, a_statement, an_expression, parts, parts_from, parts_of_file}
use Rattle.meson_calls.specs.Project.{BuildFile, Placed, Project, child, nth_file, placed}
use Rattle.meson_calls.specs.Roles.{one_of}
use Rattle.meson_calls.specs.Walks.{part_reads, read_in}
use Rattle.meson_calls.proofs.Loads.{as_many}
use Rattle.meson_variables.specs.Variables.{one_of_names}
use Rattle.meson_steps.specs.ResultLimits.{plain_trees}
use Rattle.meson_steps.proofs.ErasedParts.{bare_call, bare_part, bare_placed, first_alike, parts_erased}
use Rattle.meson_targets.specs.TargetEdits.{StatementPlace, is_in_statement, part_uses, statement_of, statement_there, variable_functions}
use Rattle.meson_places.specs.Uses.{call_names, is_formatted, is_named, literal_names, note_names}
use Rattle.meson_places.specs.Uses as uses
use Rattle.meson_code.specs.Anchors.{holds_value, if_holds_value, statement_with}
use Rattle.meson_code.specs.Removal.{place_after, removal_step}
use Rattle.meson_code.specs.Unused.{assigned_name, assigned_names, first_setting_among, if_unused, is_any_in, is_read_within, is_unused, names_read, next_unused, parts_in_file, project_of, sets_name, setting, unused_setting}
use Rattle.meson_code.proofs.InsertionsDoable.{in-erased}

-- ---- parts

part_reads_bare : (x : List ℕ) (y : Part Span) → part_reads x (bare_part y) ≡ part_reads x y
part_reads_bare x (an_expression (identifier s y)) = refl
part_reads_bare x (an_expression _) = refl
part_reads_bare x (a_statement s) = refl

pub reads_bare : (x : List ℕ) (ps : List (Placed (Part Span))) → read_in x (map bare_placed ps) ≡ read_in x ps
reads_bare x [] = refl
reads_bare x (q ∷ ps) = ap₂ (λ b cs. cons_option (if b then Some q.place else None) cs) (part_reads_bare x q.it) (reads_bare x ps)

names_bare : (xs : List (Name Span)) (x : List ℕ) → one_of_names (erase_names xs) x ≡ one_of_names xs x
names_bare [] x = refl
names_bare (y ∷ ys) x = ap (λ b. bytes_eq y.text x || b) (names_bare ys x)

part_uses_bare : (x : List ℕ) (y : Part Span) → part_uses x (bare_part y) ≡ part_uses x y
part_uses_bare x (an_expression (call s f l)) =
    ap (λ o. one_of variable_functions f.text && named_by o) (first_alike (record { function = f.text; arguments = l }))
  where
    named_by : Option (List ℕ) → Bool
    named_by o = is x o
part_uses_bare x (an_expression _) = refl
part_uses_bare x (a_statement (iteration s xs e b)) = names_bare xs x
part_uses_bare x (a_statement _) = refl

used_bare : (a : StatementPlace) (x : List ℕ) (ps : List (Placed (Part Span)))
    → list_any (λ (q : Placed (Part Nowhere)). not (is_in_statement a q.place) && part_uses x q.it) (map bare_placed ps)
    ≡ list_any (λ (q : Placed (Part Span)). not (is_in_statement a q.place) && part_uses x q.it) ps
used_bare a x [] = refl
used_bare a x (q ∷ ps) = ap₂ (λ b r. (not (is_in_statement a q.place) && b) || r) (part_uses_bare x q.it) (used_bare a x ps)

-- ---- notes

abbrev bare_note : Note Span → Note Nowhere
bare_note (a_call c) = a_call (bare_call c)
bare_note (an_assignment x sets e) = an_assignment x sets (erase_expression e)
bare_note (a_loop xs) = a_loop (erase_names xs)

abbrev bare_noted : Placed (Note Span) → Placed (Note Nowhere)
bare_noted n = placed n.place (bare_note n.it)

note_bare : (y : Part Span) → note_of (bare_part y) ≡ option_map bare_note (note_of y)
note_bare (an_expression (call s f l)) = refl
note_bare (an_expression _) = refl
note_bare (a_statement (evaluate e)) = refl
note_bare (a_statement (assign s x a e)) = refl
note_bare (a_statement (selection s bs o)) = refl
note_bare (a_statement (iteration s xs e b)) = refl
note_bare (a_statement (breaks s)) = refl
note_bare (a_statement (continues s)) = refl

placed_bare : (p : CallRef) (o : Option (Note Span)) (ns : List (Placed (Note Span)))
    → cons_option (option_map (placed p) (option_map bare_note o)) (map bare_noted ns) ≡ map bare_noted (cons_option (option_map (placed p) o) ns)
placed_bare p None ns = refl
placed_bare p (Some n) ns = refl

noted_bare : (ps : List (Placed (Part Span))) → noted (map bare_placed ps) ≡ map bare_noted (noted ps)
noted_bare [] = refl
noted_bare (q ∷ ps) = ap₂ (λ o ns. cons_option (option_map (placed q.place) o) ns) (note_bare q.it) (noted_bare ps) ∙ placed_bare q.place (note_of q.it) (noted ps)

note_names_bare : (x : List ℕ) (n : Note Span) → note_names x (bare_note n) ≡ note_names x n
note_names_bare x (a_call c) = ap (λ o. one_of uses.variable_functions c.function && literal_names x c.function o) (first_alike c)
note_names_bare x (an_assignment y sets e) = refl
note_names_bare x (a_loop xs) = refl

named_bare : (x : List ℕ) (ns : List (Placed (Note Span))) → is_named x (map bare_noted ns) ≡ is_named x ns
named_bare x [] = refl
named_bare x (n ∷ ns) = ap₂ (λ b r. b || r) (note_names_bare x n.it) (named_bare x ns)

assigned_bare : (n : Note Span) → assigned_name (bare_note n) ≡ assigned_name n
assigned_bare (a_call c) = refl
assigned_bare (an_assignment x sets e) = refl
assigned_bare (a_loop xs) = refl

all_assigned_bare : (ns : List (Placed (Note Span))) → assigned_names (map bare_noted ns) ≡ assigned_names ns
all_assigned_bare [] = refl
all_assigned_bare (n ∷ ns) = ap₂ cons_option (assigned_bare n.it) (all_assigned_bare ns)

sets_bare : (x : List ℕ) (n : Note Span) → sets_name x (bare_note n) ≡ sets_name x n
sets_bare x (a_call c) = refl
sets_bare x (an_assignment y sets e) = refl
sets_bare x (a_loop xs) = refl

-- ---- files and statements

nameless : (n : ℕ) (files : List File) (ts : List Plain) → length ts ≡ length files → parts_from n (project_of ts) ≡ parts_from n (named_trees files ts)
nameless n [] [] many = refl
nameless n [] (t ∷ ts) many = absurd (let no : ⊥ = cc in no)
nameless n (f ∷ files) [] many = absurd (let no : ⊥ = cc in no)
nameless n (f ∷ files) (t ∷ ts) many = ap (λ r. parts_of_file n t ++ r) (nameless (n + 1) files ts (let same : length ts ≡ length files = cc in same))

abbrev bare_file : BuildFile Span → BuildFile Nowhere
bare_file f = record { name = []; tree = erase f.tree }

file_bare : (files : List File) (parsed : List Parsed) (i : ℕ) → length parsed ≡ length files
    → nth_file (project_of (map erase (views files parsed))) i ≡ option_map bare_file (nth_file (named_trees files (views files parsed)) i)
file_bare [] [] i many = refl
file_bare [] (t ∷ parsed) i many = absurd (let no : ⊥ = cc in no)
file_bare (f ∷ files) [] i many = refl
file_bare (f ∷ files) (t ∷ parsed) zero many = refl
file_bare (f ∷ files) (t ∷ parsed) (suc i) many = file_bare files parsed i (let same : length parsed ≡ length files = cc in same)

one_file : (n : ℕ) (t : tree.File Span) → parts_of_file n (erase t) ≡ map bare_placed (parts_of_file n t)
one_file n t =
    let none : File = record { name = []; bytes = [] } in
    sym (append-nil (parts_of_file n (erase t))) ∙ parts_erased n (none ∷ []) (t ∷ []) ∙ ap (map bare_placed) (append-nil (parts_of_file n t))

in_block : (p : Option (BlockAt Nowhere)) (q : Option (BlockAt Span)) (n : ℕ) → option_map (λ b. b.inside) p ≡ option_map (λ b. erase_block b.inside) q
    → option_and_then (λ b. statement_in b.inside n) p ≡ option_map erase_statement (option_and_then (λ b. statement_in b.inside n) q)
in_block p q n same = left p ∙ ap (option_and_then (λ c. statement_in c n)) same ∙ right q
  where
    left : (o : Option (BlockAt Nowhere)) → option_and_then (λ b. statement_in b.inside n) o ≡ option_and_then (λ c. statement_in c n) (option_map (λ b. b.inside) o)
    left None = refl
    left (Some b) = refl

    right : (o : Option (BlockAt Span)) → option_and_then (λ c. statement_in c n) (option_map (λ b. erase_block b.inside) o) ≡ option_map erase_statement (option_and_then (λ b. statement_in b.inside n) o)
    right None = refl
    right (Some b) = in-erased b.inside n

module _ (l : Loaded) (are : AreParsed l.files l.parsed) where
  abbrev p : Project Span
  p = project l

  abbrev q : Project Nowhere
  q = project_of (plain_trees l)

  many : length l.parsed ≡ length l.files
  many = as_many l.files l.parsed are

  as_many_trees : (files : List File) (parsed : List Parsed) → length parsed ≡ length files → length (map erase (views files parsed)) ≡ length files
  as_many_trees [] [] same = refl
  as_many_trees [] (t ∷ parsed) same = absurd (let no : ⊥ = cc in no)
  as_many_trees (f ∷ files) [] same = absurd (let no : ⊥ = cc in no)
  as_many_trees (f ∷ files) (t ∷ parsed) same = ap suc (as_many_trees files parsed (let less : length parsed ≡ length files = cc in less))

  parts_bare : parts q ≡ map bare_placed (parts p)
  parts_bare = nameless 0 l.files (plain_trees l) (as_many_trees l.files l.parsed many) ∙ parts_erased 0 l.files (trees l)

  notes_bare : notes q ≡ map bare_noted (notes p)
  notes_bare = ap noted parts_bare ∙ noted_bare (parts p)

  there_bare : (a : StatementPlace) → statement_there q a ≡ option_map erase_statement (statement_there p a)
  there_bare a = ap (option_and_then at_q) (file_bare l.files l.parsed a.block.file many) ∙ on (nth_file p a.block.file)
    where
      at_q : BuildFile Nowhere → Option (Statement Nowhere)
      at_q f = option_and_then (λ b. statement_in b.inside a.number) (block_at f.tree a.block.path.steps)

      at_p : BuildFile Span → Option (Statement Span)
      at_p f = option_and_then (λ b. statement_in b.inside a.number) (block_at f.tree a.block.path.steps)

      on : (o : Option (BuildFile Span)) → option_and_then at_q (option_map bare_file o) ≡ option_map erase_statement (option_and_then at_p o)
      on None = refl
      on (Some f) = in_block (block_at (erase f.tree) a.block.path.steps) (block_at f.tree a.block.path.steps) a.number (blocks-erase f.tree a.block.path.steps)

  -- ---- the step

  pub step_bare_tree : (a : StatementPlace) → removal_step q a ≡ removal_step p a
  step_bare_tree a =
      ap (λ b. record { file = a.block.file; edit = RemoveStatement (Trim (a.number == 0) b) a.block.path.steps a.number }) (ap is_none (there_bare (place_after a)) ∙ none (statement_there p (place_after a)))
    where
      none : (o : Option (Statement Span)) → is_none (option_map erase_statement o) ≡ is_none o
      none None = refl
      none (Some s) = refl

  -- ---- the next one

  with_bare : (c : CallRef) → statement_with q c ≡ statement_with p c
  with_bare c = on (statement_of c)
    where
      holds : (s : Statement Span) → holds_value (erase_statement s) ≡ holds_value s
      holds (evaluate e) = refl
      holds (assign s x a e) = refl
      holds _ = refl

      held : (a : StatementPlace) (o : Option (Statement Span)) → if_holds_value a (option_map erase_statement o) ≡ if_holds_value a o
      held a None = refl
      held a (Some s) = ap (λ b. if b then Some a else None) (holds s)

      on : (o : Option StatementPlace) → option_and_then (λ a. if_holds_value a (statement_there q a)) o ≡ option_and_then (λ a. if_holds_value a (statement_there p a)) o
      on None = refl
      on (Some a) = ap (if_holds_value a) (there_bare a) ∙ held a (statement_there p a)

  module _ (x : List ℕ) where
    setting_bare : (n : Placed (Note Span)) → setting q x (bare_noted n) ≡ setting p x n
    setting_bare n = ap₂ (λ b o. if b then o else None) (sets_bare x n.it) (with_bare (child n.place 0))

    settings_bare : (ns : List (Placed (Note Span))) → first_setting_among q x (map bare_noted ns) ≡ first_setting_among p x ns
    settings_bare [] = refl
    settings_bare (n ∷ ns) = ap₂ option_or (setting_bare n) (settings_bare ns)

    first_bare : first_setting_among q x (notes q) ≡ first_setting_among p x (notes p)
    first_bare = ap (first_setting_among q x) notes_bare ∙ settings_bare (notes p)

    unused_bare : (files : List File) (a : StatementPlace) → is_unused files q x a ≡ is_unused files p x a
    unused_bare files a =
        ap₂ (λ u n. not u && (not n && not (is_formatted x files)))
        (ap (λ ps. list_any (λ r. not (is_in_statement a r.place) && part_uses x r.it) ps) parts_bare ∙ used_bare a x (parts p))
        (ap (is_named x) notes_bare ∙ named_bare x (notes p))

    unused_setting_bare : (files : List File) → unused_setting files q x ≡ unused_setting files p x
    unused_setting_bare files = ap (if_unused files q x) first_bare ∙ on (first_setting_among p x (notes p))
      where
        on : (o : Option StatementPlace) → if_unused files q x o ≡ if_unused files p x o
        on None = refl
        on (Some a) = ap (λ b. if b then Some a else None) (unused_bare files a)

  pub next_bare : (files : List File) (names : List (List ℕ)) → next_unused files q names ≡ next_unused files p names
  next_bare files [] = refl
  next_bare files (x ∷ names) = ap₂ option_or (unused_setting_bare x files) (next_bare files names)

  -- ---- what it reads

  parts_in_bare : (i : ℕ) → parts_in_file q i ≡ map bare_placed (parts_in_file p i)
  parts_in_bare i = ap (λ o. option_map_or (λ f. parts_of_file i f.tree) o []) (file_bare l.files l.parsed i many) ∙ on (nth_file p i)
    where
      on : (o : Option (BuildFile Span)) → option_map_or (λ f. parts_of_file i f.tree) (option_map bare_file o) [] ≡ map bare_placed (option_map_or (λ f. parts_of_file i f.tree) o [])
      on None = refl
      on (Some f) = one_file i f.tree

  read_bare : (a : StatementPlace) (x : List ℕ) → is_read_within q a x ≡ is_read_within p a x
  read_bare a x = ap (is_any_in a) (ap (read_in x) (parts_in_bare a.block.file) ∙ reads_bare x (parts_in_file p a.block.file))

  filtered : (f g : List ℕ → Bool) → ((x : List ℕ) → f x ≡ g x) → (xs : List (List ℕ)) → filter f xs ≡ filter g xs
  filtered f g same [] = refl
  filtered f g same (x ∷ xs) = ap₂ (λ b r. if b then x ∷ r else r) (same x) (filtered f g same xs)

  pub names_read_bare : (a : StatementPlace) → names_read q a ≡ names_read p a
  names_read_bare a =
      ap (λ ns. filter (is_read_within q a) (assigned_names ns)) notes_bare
      ∙ ap (filter (is_read_within q a)) (all_assigned_bare (notes p))
      ∙ filtered (is_read_within q a) (is_read_within p a) (read_bare a) (assigned_names (notes p))
