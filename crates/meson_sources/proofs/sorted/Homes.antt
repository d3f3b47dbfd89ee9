-- The list to which sources are added, each in its place: what of it counts, and that they may be put there.
use Rattle.meson_splice.specs.declared.file_set.File.{File}
use Rattle.meson_steps.specs.OrderedLists.{Added, Ordered, all_elements, all_put, comment_after, first_of, lone_token, lone_written, ordered, sort_keys}
use Rattle.meson_edit.specs.Standing.{expression_span}
use Rattle.meson_edit.specs.Places.{IsWritten}
use Rattle.meson_syntax.specs.Grammar.{expression_depth}
use Rattle.meson_syntax.specs.Paths as paths
use Rattle.meson_syntax.specs.Tree.{identifier}
use Rattle.meson_sources.proofs.LoneTokens.{lone_stands}
use Rattle.meson_steps.proofs.PlainTrees.{erased_elements}
use Rattle.meson_steps.proofs.StepsDoable.{text_written}
use Rattle.meson_sources.specs.Effects.{ListGetsAmong, SourcesAreSorted}
use Rattle.meson_sources.specs.Sorting.{added_text, first_sorted, is_call, sorted_in, sources_sorted}
use Rattle.meson_sources.proofs.Words.{All, All-head, All-tail, bytes_eq, bytes_eq-Decides, eqb-true, nat_eq, ◌&&◌, ◌⊎◌, inl, inr, filter, if◌then◌else◌, option_and_then, option_map, [], ap, ap₂, append_assoc, arith, Bool, drop}
use Rattle.meson_sources.proofs.Words.{false, Ok, IsUtf8, length, length-append, length-map, List, map, map-append, None, Option, refl, Some, subst, suc, sym, take, true, zero, ℕ, ◌++◌, ◌+◌, ◌<◌, ◌∙◌, ◌∷◌}
use Rattle.meson_sources.proofs.Words.{◌≡◌, ◌≤◌, bytes_at, Span, expression_words, holds_pairs, holds_values, LevelArguments, LevelExpression, LevelFile, list_at, ListAt, nth}
use Rattle.meson_sources.proofs.Words.{Argument, arguments_of, erase, erase_argument, erase_expression, Expression, named, Nowhere, pair, Plain, plain, string, Bracket}
use Rattle.meson_sources.proofs.Words.{some-injective, list-fits, elements, Written, Call, keyword, AreParsed, Loaded, project, once, sources_key, BuildFile}
use Rattle.meson_sources.proofs.Words.{child, expression_at, place, Placed, Project, CallRef, list_node, values_no_pairs, home, source_marks, AreDoable, MayStandBetween, checked_names}
use Rattle.meson_sources.proofs.Words.{plain_trees, all_stepped, Step, step_in, plain_place, tree_is, once_was, then_was, all_nth, elements_found, elements_there, is_plain}
use Rattle.meson_sources.proofs.Words.{new_names, plain_len}
use Rattle.meson_sources.proofs.added.Counts.{elements_are, plain_count, plain_count_is}
use Rattle.meson_sources.proofs.added.Homes.{Home, all_stand, list_levels, new_texts, some_first, sources_home}
use Rattle.meson_sources.proofs.met.Standing.{AllStand, TargetThere, targets_stand}
use Rattle.meson_sources.proofs.met.Targets.{files_stand}
use Rattle.meson_sources.proofs.sorted.Edits.{IsFlat, Stands, list_edited, may_be_done}
use Rattle.meson_sources.proofs.sorted.Puts.{AllFlat, FirstIsFlat, Fits, all_edits, all_of_list, edits_are, may_be_put, plains, put_among, put_elements}
use Rattle.meson_sources.proofs.trees.Elements.{parsed_level, value_stands}

-- ==== Elements without a name, and then those with one.

pub record Split (xs : List (Argument Span)) : Type 0 where
  pub values : List (Expression Span)
  pub others : List (Argument Span)
  pub are : xs ≡ map plain values ++ others
  pub no_keys : sort_keys others ≡ []
  pub no_first : (source : List ℕ) → first_of source others ≡ None
  pub count : length (filter is_plain xs) ≡ length values

module _ (b : Bracket) (none : holds_pairs b ≡ false) where
  all_named : (xs : List (Argument Span)) → LevelArguments (arguments_of (map erase_argument xs)) b true → length (filter is_plain xs) ≡ 0
  all_named [] level = refl
  all_named (plain e ∷ xs) level = let both : true ≡ false = level.0.1 in absurd (let no : ⊥ = cc in no)
  all_named (named s x e ∷ xs) level = all_named xs level.1
  all_named (pair s e f ∷ xs) level = let both : true ≡ false = sym level.0.0 ∙ none in absurd (let no : ⊥ = cc in no)

  split : (xs : List (Argument Span)) (seen : Bool) → LevelArguments (arguments_of (map erase_argument xs)) b seen → Split xs
  split [] seen level = record { values = []; others = []; are = refl; no_keys = refl; no_first = λ source. refl; count = refl }
  split (plain e ∷ xs) seen level =
      let r = split xs false level.1 in
      record { values = e ∷ r.values; others = r.others; are = ap (λ l. plain e ∷ l) r.are; no_keys = r.no_keys; no_first = r.no_first; count = ap suc r.count }
  split (named s x e ∷ xs) seen level =
      record { values = []; others = named s x e ∷ xs; are = refl; no_keys = refl; no_first = λ source. refl; count = all_named xs level.1 }
  split (pair s e f ∷ xs) seen level = let both : true ≡ false = sym level.0.0 ∙ none in absurd (let no : ⊥ = cc in no)

-- ---- the elements from a number on

dropped : (n : ℕ) (values : List (Expression Span)) (others : List (Argument Span)) → n ≤ length values → drop n (map plain values ++ others) ≡ map plain (drop n values) ++ others
dropped zero values others few = refl
dropped (suc n) [] others few = absurd (omega (arith, few))
dropped (suc n) (e ∷ values) others few = dropped n values others (omega (arith, few))

keys_of : (values : List (Expression Span)) (others : List (Argument Span)) → sort_keys others ≡ [] → length (sort_keys (map plain values ++ others)) ≡ length values
keys_of [] others none = ap length none
keys_of (e ∷ values) others none = ap suc (keys_of values others none)

taken : (n : ℕ) (values : List (Expression Span)) → n ≤ length values → length (take n values) ≡ n
taken zero values few = refl
taken (suc n) [] few = absurd (omega (arith, few))
taken (suc n) (e ∷ values) few = ap suc (taken n values (omega (arith, few)))

cut : (n : ℕ) (values : List (Expression Span)) → values ≡ take n values ++ drop n values
cut zero values = refl
cut (suc n) [] = refl
cut (suc n) (e ∷ values) = ap (λ l. e ∷ l) (cut n values)

erased_values : (values : List (Expression Span)) → map erase_argument (map plain values) ≡ plains (map erase_expression values)
erased_values [] = refl
erased_values (e ∷ values) = ap (λ l. plain (erase_expression e) ∷ l) (erased_values values)

-- ---- the first that counts

-- it is a literal or an identifier, as it is written
record FirstValue (values : List (Expression Span)) (w : Written (Expression Nowhere)) : Type 0 where
  value : Expression Span
  rest : List (Expression Span)
  are : values ≡ value ∷ rest
  token : List ℕ
  is_token : lone_token value ≡ Some token
  written : w ≡ record { bytes = token; node = erase_expression value }

first_value : (source : List ℕ) (values : List (Expression Span)) (others : List (Argument Span)) → first_of source others ≡ None → (w : Written (Expression Nowhere)) → first_of source (map plain values ++ others) ≡ Some w
    → FirstValue values w
first_value source [] others none w is = absurd (let no : ⊥ = cc in no)
first_value source (e ∷ values) others none w is = by_comment (comment_after source (expression_span e).to) is
  where
    by_token : (o : Option (List ℕ)) → lone_token e ≡ o → option_map (λ token. record { bytes = token; node = erase_expression e }) o ≡ Some w → FirstValue (e ∷ values) w
    by_token None no_token h = absurd (let no : ⊥ = cc in no)
    by_token (Some token) is_token h = record { value = e; rest = values; are = refl; token = token; is_token = is_token; written = sym (some-injective _ _ h) }

    by_comment : (b : Bool) → (if b then None else lone_written e) ≡ Some w → FirstValue (e ∷ values) w
    by_comment true h = absurd (let no : ⊥ = cc in no)
    by_comment false h = by_token (lone_token e) refl h

token_level : (e : Expression Span) (token : List ℕ) → lone_token e ≡ Some token → LevelExpression (erase_expression e) × (expression_depth (erase_expression e) ≡ 0)
token_level (identifier s x) token is = (tt, refl)
token_level (string s q x) token is = (tt, refl)
token_level _ token is = absurd (let no : ⊥ = cc in no)

-- ==== The list to which sources are added.

module _ (old : Loaded) (are : AreParsed old.files old.parsed) (list : CallRef) (h : Home (project old) list) (n : ℕ) (few : n ≤ plain_len (project old) list) where
  abbrev p : Project Span
  p = project old

  abbrev source : List ℕ
  source = bytes_at list.file old.files

  abbrev pub old_elements : List (Argument Span)
  old_elements = elements h.there.list.list

  abbrev pub xs : List (Argument Nowhere)
  xs = map erase_argument old_elements

  abbrev pub o : Ordered
  o = ordered source n (plain_len p list) (elements_there p list)

  tree : Plain
  tree = erase h.there.file.tree

  pub elements_same : elements_there p list ≡ old_elements
  elements_same = elements_are p list h.there

  pub list_stands : Stands (erase h.there.file.tree) list.path.steps xs
  list_stands =
      let q = plain_place h.there.file.tree list.path.steps h.there.list h.there.is_list in
      record { place = q.place; is_place = q.is_place; are = ap elements q.list ∙ erased_elements h.there.list.list; holds = ap holds_values q.bracket ∙ h.values }

  is_split : Split old_elements
  unfolding list_stands
  is_split =
      let q = plain_place h.there.file.tree list.path.steps h.there.list h.there.is_list in
      let level : LevelFile (erase h.there.file.tree) = (all_nth MayStandBetween (plain_trees old) list.file (erase h.there.file.tree) (all_stand old are list) (tree_is old list h.there)).0 in
      let low = (list-fits Nowhere (erase h.there.file.tree) list.path.steps q.place q.is_place).level level in
      let no_pairs = values_no_pairs q.place.bracket (ap holds_values q.bracket ∙ h.values) in
      split q.place.bracket no_pairs old_elements false
      (subst (λ l. LevelArguments (arguments_of l) q.place.bracket false) list_stands.are (list_levels q.place.list q.place.bracket low))

  many : plain_len p list ≡ length is_split.values
  many = ap (λ l. length (filter is_plain l)) elements_same ∙ is_split.count

  few_values : n ≤ length is_split.values
  few_values = let m = many in omega (arith, few, m)

  abbrev counted : List (Expression Span)
  counted = drop n is_split.values

  from_number : drop n (elements_there p list) ≡ map plain counted ++ is_split.others
  from_number = ap (drop n) (elements_same ∙ is_split.are) ∙ dropped n is_split.values is_split.others few_values

  pub fits : Fits o xs
  fits =
      let s = is_split in
      let start = taken n s.values few_values in
      let parts = cut n s.values in
      let both : length s.values ≡ length (take n s.values) + length counted = ap length parts ∙ length-append (take n s.values) counted in
      let before_count : length (map erase_expression (take n s.values)) ≡ length (take n s.values) = length-map (take n s.values) erase_expression in
      let counted_count : length (map erase_expression counted) ≡ length counted = length-map counted erase_expression in
      let m = many in
      record {
        before = map erase_expression (take n s.values);
        counted = map erase_expression counted;
        others = map erase_argument s.others;
        are =
            ap (map erase_argument) (s.are ∙ ap (λ l. map plain l ++ s.others) parts)
            ∙ map-append erase_argument (map plain (take n s.values ++ counted)) s.others
            ∙ ap (λ l. l ++ map erase_argument s.others) (erased_values (take n s.values ++ counted) ∙ ap plains (map-append erase_expression (take n s.values) counted) ∙ map-append plain (map erase_expression (take n s.values)) (map erase_expression counted))
            ∙ append_assoc (plains (map erase_expression (take n s.values))) (plains (map erase_expression counted)) (map erase_argument s.others);
        from = sym start ∙ sym before_count;
        end = omega (arith, m, both, before_count, counted_count);
        many = ap (λ l. length (sort_keys l)) from_number ∙ keys_of counted s.others s.no_keys ∙ sym counted_count;
        first = λ w is.
            let v = first_value source counted s.others (s.no_first source) w (ap (first_of source) (sym from_number) ∙ is) in
            (map erase_expression v.rest, ap (map erase_expression) v.are ∙ ap (λ (u : Written (Expression Nowhere)). u.node ∷ map erase_expression v.rest) (sym v.written));
        none = λ zero_left. nothing h.holds zero_left;
      }
    where
      nothing : (elements h.there.list.list ≡ []) ⊎ (0 < plain_count (elements h.there.list.list)) → plain_len p list ≡ 0 → map erase_argument is_split.others ≡ []
      nothing (inl empty) zero_left = no_others is_split.values (sym is_split.are ∙ empty)
        where
          no_others : (values : List (Expression Span)) → map plain values ++ is_split.others ≡ [] → map erase_argument is_split.others ≡ []
          no_others [] none = ap (map erase_argument) none
          no_others (e ∷ values) none = absurd (let no : ⊥ = cc in no)
      nothing (inr some) zero_left =
          let count : plain_count (elements h.there.list.list) ≡ 0 = plain_count_is old_elements ∙ ap (λ l. length (filter is_plain l)) (sym elements_same) ∙ zero_left in
          absurd (omega (arith, some, count))

  -- the node of the list
  value_there : (k : ℕ) (e : Expression Span) → nth old_elements k ≡ Some (plain e) → expression_at p (child list k) ≡ Some e
  value_there k e is =
      let at = list_node Span h.there.file.tree list.path.steps h.there.list h.there.is_list in
      let is_at : expression_at p list ≡ Some at.node = ap (option_and_then (λ (g : BuildFile Span). paths.expression_on_path g.tree list.path.steps)) h.there.is_file ∙ at.is_node in
      let no_pairs = values_no_pairs at.inner.bracket (ap holds_values at.bracket ∙ h.values) in
      value_stands p (parsed_level old.files old.parsed are) list at.node at.inner is_at at.is_inner no_pairs k (plain e) e (ap (λ l. nth (elements l) k) at.list ∙ is) refl

  seam : (front : List (Expression Span)) (e : Expression Span) (rest : List (Expression Span)) (others : List (Argument Span)) → nth (map plain (front ++ e ∷ rest) ++ others) (length front) ≡ Some (plain e)
  seam [] e rest others = refl
  seam (x ∷ front) e rest others = seam front e rest others

  pub first_flat : FirstIsFlat o
  first_flat w is =
      let s = is_split in
      let v = first_value source counted s.others (s.no_first source) w (ap (first_of source) (sym from_number) ∙ is) in
      let front = take n s.values in
      let there : nth old_elements (length front) ≡ Some (plain v.value) =
      ap (λ l. nth l (length front)) (s.are ∙ ap (λ l. map plain l ++ s.others) (cut n s.values ∙ ap (λ l. front ++ l) v.are)) ∙ seam front v.value v.rest s.others in
      let written : IsWritten v.token (expression_words (erase_expression v.value)) = lone_stands old are (child list (length front)) v.value (value_there (length front) v.value there) v.token v.is_token in
      let low = token_level v.value v.token v.is_token in
      subst IsFlat (sym v.written) (record { written = written; level = low.0; flat = low.1 })

  pub texts_flat : (names : List (List ℕ)) → All IsUtf8 names → AllFlat (map added_text names)
  texts_flat [] utf8 = tt
  texts_flat (name ∷ names) utf8 =
      (record { written = text_written name (All-head IsUtf8 name names utf8); level = tt; flat = refl }, texts_flat names (All-tail IsUtf8 name names utf8))

  pub sorted_doable : (names : List (List ℕ)) → All IsUtf8 names → AreDoable (all_put list o (map added_text names)) (plain_trees old)
  sorted_doable names utf8 =
      let added = map added_text names in
      let may = may_be_put list.path.steps added o xs fits (texts_flat names utf8) first_flat in
      subst (λ steps. AreDoable steps (plain_trees old)) (sym (edits_are list o added))
      (may_be_done list (all_edits list.path.steps o added) xs may (plain_trees old) (erase h.there.file.tree) (tree_is old list h.there) (all_stand old are list) list_stands)

  had : elements_found list (plain_trees old) ≡ Some xs
  had =
      ap (λ o. option_and_then (λ t. option_map (λ l. elements l.list) (list_at t list.path.steps)) o) (tree_is old list h.there)
      ∙ ap (option_map (λ (l : ListAt Nowhere). elements l.list)) list_stands.is_place ∙ ap Some list_stands.are

  -- its elements afterwards
  pub elements_after : (added : List Added) (after : List Plain) → all_stepped (all_put list o added) (plain_trees old) ≡ Some after → elements_found list after ≡ Some (all_elements o added xs)
  elements_after added after made =
      let es = all_edits list.path.steps o added in
      let made_by : all_stepped (map (step_in list) es) (plain_trees old) ≡ Some after = ap (λ steps. all_stepped steps (plain_trees old)) (sym (edits_are list o added)) ∙ made in
      let r = list_edited list es (all_of_list list.path.steps o added) xs (plain_trees old) after had made_by in
      r.has ∙ ap Some (put_elements list.path.steps added o xs r.ys fits r.are)

  pub gets_among : (names : List (List ℕ)) (after : List Plain) → all_stepped (all_put list o (map added_text names)) (plain_trees old) ≡ Some after → ListGetsAmong list names (plain_trees old) after
  gets_among names after made =
      let added = map added_text names in
      let es = all_edits list.path.steps o added in
      let made_by : all_stepped (map (step_in list) es) (plain_trees old) ≡ Some after = ap (λ steps. all_stepped steps (plain_trees old)) (sym (edits_are list o added)) ∙ made in
      let r = list_edited list es (all_of_list list.path.steps o added) xs (plain_trees old) after had made_by in
      record {
        elements = xs;
        had = had;
        now = r.ys;
        has = r.has;
        among = put_among list.path.steps added_text (λ name. refl) names o xs r.ys fits r.are;
        only = r.only;
      }

-- ==== The number of the first that counts: no more come before it than there are.

same_place : (c d : CallRef) → is_call c d ≡ true → d ≡ c
same_place c d is = by_file (nat_eq d.file c.file) refl is
  where
    by_path : (b : Bool) → bytes_eq d.path.steps c.path.steps ≡ b → d.file ≡ c.file → b ≡ true → d ≡ c
    by_path true path file h = ap₂ place file ((bytes_eq-Decides d.path.steps c.path.steps).0 path)
    by_path false path file h = absurd (let no : ⊥ = cc in no)

    by_file : (b : Bool) → nat_eq d.file c.file ≡ b → (b && bytes_eq d.path.steps c.path.steps) ≡ true → d ≡ c
    by_file true file h = by_path (bytes_eq d.path.steps c.path.steps) refl (eqb-true d.file c.file file) h
    by_file false file h = absurd (let no : ⊥ = cc in no)

module _ (old : Loaded) (c : Placed (Call Span)) (t : TargetThere (project old) c) where
  call_count : 0 < plain_len (project old) c.place
  call_count =
      let some = some_first c.it t.first t.is_first in
      let same : elements_there (project old) c.place ≡ elements c.it.arguments = elements_are (project old) c.place t.there ∙ ap elements t.is_list in
      let count : plain_len (project old) c.place ≡ plain_count (elements c.it.arguments) = ap (λ l. length (filter is_plain l)) same ∙ sym (plain_count_is (elements c.it.arguments)) in
      omega (arith, some, count)

  pub few_before : (list : CallRef) → first_sorted c.place list ≤ plain_len (project old) list
  few_before list = by_place (is_call c.place list) refl
    where
      by_place : (b : Bool) → is_call c.place list ≡ b → (if b then 1 else 0) ≤ plain_len (project old) list
      by_place true is = let some = call_count in let same = ap (plain_len (project old)) (same_place c.place list is) in omega (arith, some, same)
      by_place false is = omega arith

-- ==== Sources are added, each in its place.

pub sorted_was : (files : List File) (p : Project Span) (c : Placed (Call Span)) (names : List (List ℕ)) (steps : List Step) → sources_sorted files p c names ≡ Ok steps
    → sorted_in files p c.place (home c.place (source_marks p c)) (new_names (source_marks p c) names) ≡ steps
sorted_was files p c names steps is =
    let put = sorted_in files p c.place (home c.place (source_marks p c)) (new_names (source_marks p c) names) in
    let checked = then_was (checked_names names) (λ _. once sources_key (keyword sources_key c.it) put) steps is in
    once_was sources_key (keyword sources_key c.it) put steps checked.2

pub sources_may_be_sorted : (old : Loaded) → AreParsed old.files old.parsed → (c : Placed (Call Span)) → TargetThere (project old) c → AllStand (project old) (source_marks (project old) c) → (names : List (List ℕ)) → All IsUtf8 names → (steps : List Step)
    → sources_sorted old.files (project old) c names ≡ Ok steps → AreDoable steps (plain_trees old)
sources_may_be_sorted old are c t stand names utf8 steps is =
    let p = project old in
    let ms = source_marks p c in
    let list = home c.place ms in
    let new = new_names ms names in
    subst (λ s. AreDoable s (plain_trees old)) (sorted_was old.files p c names steps is)
    (sorted_doable old are list (sources_home p c t ms stand.stand) (first_sorted c.place list) (few_before old c t list) new (new_texts ms names utf8))

pub sources-are-sorted : SourcesAreSorted
sources-are-sorted old is id c found names steps after made done =
    let p = project old in
    let t = targets_stand p id c found in
    let ms = source_marks p c in
    let list = home c.place ms in
    let stand = (files_stand old is.parsed id c found).sources.stand in
    gets_among old is.parsed list (sources_home p c t ms stand) (first_sorted c.place list) (few_before old c t list) (new_names ms names) after
    (ap (λ s. all_stepped s (plain_trees old)) (sorted_was old.files p c names steps made) ∙ done)
