-- The list that gets sources has its elements in their order, and the new ones behind those without a name.
use Rattle.meson_sources.specs.SourceEdits as edits
use Rattle.std.proofs.Math.Seq.{drop-append_seam, take-append_seam}
use Rattle.meson_sources.proofs.Words.{filter, option_and_then, option_map, [], ap, append_assoc, ap₂, arith, Bool, false, length, length-append, List, refl}
use Rattle.meson_sources.proofs.Words.{Some, suc, sym, true, ℕ, ◌++◌, ◌∙◌, ◌∷◌, ◌≡◌, LevelArguments, LevelFile, holds_pairs, holds_values, list_at, ListAt, nth}
use Rattle.meson_sources.proofs.Words.{Argument, arguments_of, erase, named, Nowhere, pair, Plain, plain, Bracket, some-injective, and-then-some, list-fits}
use Rattle.meson_sources.proofs.Words.{map-some, After, Edit, edited, edited_elements, edited_list, element_added, elements, First, first_element}
use Rattle.meson_sources.proofs.Words.{with_elements, keyword, IsProject, Loaded, project, once, sources_key, CallRef, values_no_pairs, home, source_marks}
use Rattle.meson_sources.proofs.Words.{MayStandBetween, checked_names, plain_trees, all_stepped, step_in, stepped, elements_with, there_again, plain_place}
use Rattle.meson_sources.proofs.Words.{tree_is, once_was, then_was, all_nth, change_made, elements_found, ListGets, not_plain, SourcesAreAdded, strings}
use Rattle.meson_sources.proofs.Words.{elements_there, inserted_in, is_plain, new_names, plain_len, written_source}
use Rattle.meson_sources.proofs.added.Counts.{count_erased, elements_are, plain_count, plain_count_is}
use Rattle.meson_sources.proofs.added.Homes.{Home, all_stand, list_levels, sources_home}
use Rattle.meson_sources.proofs.added.Lists.{inserted_only, unchanged}
use Rattle.meson_sources.proofs.met.Standing.{targets_stand}
use Rattle.meson_sources.proofs.met.Targets.{files_stand}

-- ---- a step, by what it leaves

module _ (list : CallRef) (e : Edit) (of_list : (t : Plain) → edited e t ≡ edited_list e list.path.steps t) (trees between : List Plain) (made : stepped (step_in list e) trees ≡ Some between) (xs : List (Argument Nowhere))
    (had : elements_found list trees ≡ Some xs) where
  pub record Edited : Type 0 where
    pub ys : List (Argument Nowhere)
    pub are : edited_elements e xs ≡ Some ys
    pub has : elements_found list between ≡ Some ys

  pub one_edit : Edited
  one_edit =
      let path = list.path.steps in
      let c = change_made list.file (edited e) trees between made in
      let p = and-then-some (λ q. option_map (λ l. q.back (with_elements q.list l)) (edited_elements e (elements q.list))) (list_at c.old path) c.new (sym (of_list c.old) ∙ c.is) in
      let y = map-some (λ l. p.0.back (with_elements p.0.list l)) (edited_elements e (elements p.0.list)) c.new p.2 in
      let again = there_again c.old path p.0 p.1 y.0 in
      let same : elements p.0.list ≡ xs = some-injective _ _ (sym (ap (λ o. option_and_then (λ t. option_map (λ l. elements l.list) (list_at t path)) o) c.was ∙ ap (option_map (λ (l : ListAt Nowhere). elements l.list)) p.1) ∙ had) in
      record {
        ys = y.0;
        are = ap (edited_elements e) (sym same) ∙ y.1;
        has =
            ap (λ o. option_and_then (λ t. option_map (λ l. elements l.list) (list_at t path)) o) c.now
            ∙ ap (λ t. option_map (λ (l : ListAt Nowhere). elements l.list) (list_at t path)) (sym y.2)
            ∙ ap (option_map (λ (l : ListAt Nowhere). elements l.list)) again.is_there ∙ ap (λ l. Some (elements l)) again.list ∙ ap Some (elements_with p.0.list y.0);
      }

-- ---- strings one behind the other

nth_last : {A : Type 0} (x : A) (front back : List A) → (it : A) × (nth (x ∷ (front ++ back)) (length front) ≡ Some it)
nth_last x [] back = (x, refl)
nth_last x (y ∷ front) back = nth_last y front back

none_before : (a : Argument Nowhere) (xs ys : List (Argument Nowhere)) → first_element a xs ≡ Some ys → (xs ≡ []) × (a ∷ [] ≡ ys)
none_before a [] ys is = (refl, some-injective _ _ is)
none_before a (x ∷ xs) ys is = absurd cc

module _ (list : CallRef) where
  abbrev path : List ℕ
  path = list.path.steps

  puts : (names : List (List ℕ)) (front back : List (Argument Nowhere)) (trees after : List Plain) → elements_found list trees ≡ Some (front ++ back) → all_stepped (edits.insertion_steps list (length front) names) trees ≡ Some after
      → elements_found list after ≡ Some (front ++ (strings names ++ back))
  puts [] front back trees after had made = ap (elements_found list) (sym (some-injective _ _ made)) ∙ had
  puts (name ∷ more) [] back trees after had made =
      let new = written_source name in
      let s = and-then-some (all_stepped (edits.insertion_steps list 1 more)) (stepped (step_in list (First path new)) trees) after made in
      let e = one_edit list (First path new) (λ t. refl) trees s.0 s.1 back had in
      let f = none_before new.node back e.ys e.are in
      puts more (new.node ∷ []) [] s.0 after (e.has ∙ ap Some (sym f.1)) s.2
      ∙ ap (λ l. Some (new.node ∷ (strings more ++ l))) (sym f.0)
  puts (name ∷ more) (x ∷ front) back trees after had made =
      let new = written_source name in
      let n = length front in
      let s = and-then-some (all_stepped (edits.insertion_steps list (suc (suc n)) more)) (stepped (step_in list (After path n new)) trees) after made in
      let e = one_edit list (After path n new) (λ t. refl) trees s.0 s.1 (x ∷ (front ++ back)) had in
      let last = nth_last x front back in
      let put : element_added n new.node (x ∷ (front ++ back)) last.0 ≡ (x ∷ front ++ new.node ∷ []) ++ back =
      ap₂ (λ l m. x ∷ (l ++ new.node ∷ m)) (take-append_seam front back) (drop-append_seam front back) ∙ ap (λ l. x ∷ l) (sym (append_assoc front (new.node ∷ []) back)) in
      let are : e.ys ≡ (x ∷ front ++ new.node ∷ []) ++ back = some-injective _ _ (sym e.are ∙ ap (option_map (element_added n new.node (x ∷ (front ++ back)))) last.1) ∙ put in
      let longer : length (x ∷ front ++ new.node ∷ []) ≡ suc (suc n) = omega (arith, length-append front (new.node ∷ [])) in
      puts more (x ∷ front ++ new.node ∷ []) back s.0 after (e.has ∙ ap Some are) (ap (λ m. all_stepped (edits.insertion_steps list m more) s.0) longer ∙ s.2)
      ∙ ap (λ l. Some (x ∷ l)) (append_assoc front (new.node ∷ []) (strings more ++ back))

-- ---- those without a name stand first

module _ (b : Bracket) (none : holds_pairs b ≡ false) where
  all_named : (xs : List (Argument Nowhere)) → LevelArguments (arguments_of xs) b true → (filter is_plain xs ≡ []) × (filter not_plain xs ≡ xs)
  all_named [] level = (refl, refl)
  all_named (plain e ∷ xs) level = let both : true ≡ false = level.0.1 in absurd cc
  all_named (named s x e ∷ xs) level = let r = all_named xs level.1 in (r.0, ap (λ l. named s x e ∷ l) r.1)
  all_named (pair s e f ∷ xs) level = let both : true ≡ false = sym level.0.0 ∙ none in absurd cc

  pub in_order : (xs : List (Argument Nowhere)) (seen : Bool) → LevelArguments (arguments_of xs) b seen → xs ≡ filter is_plain xs ++ filter not_plain xs
  in_order [] seen level = refl
  in_order (plain e ∷ xs) seen level = ap (λ l. plain e ∷ l) (in_order xs false level.1)
  in_order (named s x e ∷ xs) seen level = let r = all_named xs level.1 in sym (ap₂ (λ l m. l ++ (named s x e ∷ m)) r.0 r.1)
  in_order (pair s e f ∷ xs) seen level = let both : true ≡ false = sym level.0.0 ∙ none in absurd cc

-- ---- the list where sources go

module _ (old : Loaded) (is : IsProject old) (c : CallRef) (h : Home (project old) c) where
  pub gets : (names : List (List ℕ)) (after : List Plain) → all_stepped (inserted_in (project old) c names) (plain_trees old) ≡ Some after → ListGets c names (plain_trees old) after
  gets names after made =
      let path = c.path.steps in
      let tree = erase h.there.file.tree in
      let q = plain_place h.there.file.tree path h.there.list h.there.is_list in
      let xs = elements q.place.list in
      let level : LevelFile tree = (all_nth MayStandBetween (plain_trees old) c.file tree (all_stand old is.parsed c) (tree_is old c h.there)).0 in
      let low = (list-fits Nowhere tree path q.place q.is_place).level level in
      let no_pairs = values_no_pairs q.place.bracket (ap holds_values q.bracket ∙ h.values) in
      let order = in_order q.place.bracket no_pairs xs false (list_levels q.place.list q.place.bracket low) in
      let had : elements_found c (plain_trees old) ≡ Some xs =
      ap (λ o. option_and_then (λ t. option_map (λ l. elements l.list) (list_at t path)) o) (tree_is old c h.there) ∙ ap (option_map (λ (l : ListAt Nowhere). elements l.list)) q.is_place in
      let count : plain_len (project old) c ≡ length (filter is_plain xs) =
      sym (plain_count_is (elements_there (project old) c)) ∙ ap plain_count (elements_are (project old) c h.there) ∙ sym (ap (λ l. plain_count (elements l)) q.list ∙ count_erased h.there.list.list) ∙ plain_count_is xs in
      record {
        elements = xs;
        had = had;
        has = puts c names (filter is_plain xs) (filter not_plain xs) (plain_trees old) after (had ∙ ap Some order) (ap (λ n. all_stepped (edits.insertion_steps c n names) (plain_trees old)) (sym count) ∙ made);
        only = inserted_only c names (plain_len (project old) c) (plain_trees old) (plain_trees old) after (unchanged c (plain_trees old) xs had) made;
      }

pub sources-are-added : SourcesAreAdded
sources-are-added old is id c found names steps after made done =
    let p = project old in
    let t = targets_stand p id c found in
    let ms = source_marks p c in
    let l = home c.place ms in
    let new = new_names ms names in
    let checked = then_was (checked_names names) (λ _. once sources_key (keyword sources_key c.it) (inserted_in p l new)) steps made in
    let same = once_was sources_key (keyword sources_key c.it) (inserted_in p l new) steps checked.2 in
    gets old is l (sources_home p c t ms (files_stand old is.parsed id c found).sources.stand) new after (ap (λ s. all_stepped s (plain_trees old)) same ∙ done)
