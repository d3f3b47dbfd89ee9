-- The law on all sources after an addition.
use Rattle.meson_calls.specs.declared.call.Role.TheVariants as role
use Rattle.meson_sources.proofs.Words.{filter_map, list_any, All, is_some, Ok, option_map, ◌||◌, ◌⊎◌, [], ap, Bool, false, inl, inr, IsUtf8, length, List, None}
use Rattle.meson_sources.proofs.Words.{Option, refl, Some, subst, sym, true, ℕ, ◌++◌, ◌+◌, ◌∙◌, ◌∷◌, ◌≡◌, ◌≤◌, Span, a_block, an_expression, block_of, Argument}
use Rattle.meson_sources.proofs.Words.{argument, Arguments, arguments_of, call, erase_arguments, Expression, Name, named, no_arguments, Nowhere, pair, plain}
use Rattle.meson_sources.proofs.Words.{Every, Call, first_argument, first_of, kept_number, keyword, Numbered, numbered, value_without_name, the_call, IsProject}
use Rattle.meson_sources.proofs.Words.{Loaded, project, once, sources_key, Placed, one_of, target_functions, CallRef, max_followed, first_empty, first_list}
use Rattle.meson_sources.proofs.Words.{home, or_call, or_option, source_marks, sources, checked_names, plain_trees, all_stepped, Step, then_was, strings}
use Rattle.meson_sources.proofs.Words.{inserted_in, is_plain, new_names, sources_added, AllSourcesGrow, file_names}
use Rattle.meson_sources.proofs.SourcesAdded.{sources-are-added}
use Rattle.meson_sources.proofs.added.Homes.{new_texts, sources_home, all_stand}
use Rattle.meson_sources.proofs.added.Turns.{ListTurns, Turn, an_array, a_call, a_dictionary, list_turns, new_list, old_list}
use Rattle.meson_sources.proofs.gone.Held.{same_there}
use Rattle.meson_sources.proofs.met.Arguments.{keyed, key_count, key_strings, few_once}
use Rattle.meson_sources.proofs.met.Arrivals.{outside, files_come}
use Rattle.meson_sources.proofs.met.Files.{met_in, of_sources, FilesGrown, answered_alike}
use Rattle.meson_sources.proofs.met.GrownLists.{Anywhere, Nothing, arguments_bring, every_of, name_met}
use Rattle.meson_sources.proofs.met.Marks.{expand_with, values_of}
use Rattle.meson_sources.proofs.met.Outcomes.{Grows, gist}
use Rattle.meson_sources.proofs.met.Standing.{targets_stand}
use Rattle.meson_sources.proofs.met.Targets.{files_stand}
use Rattle.meson_sources.proofs.met.Ways.{kin_c, always, same_c}
use Rattle.meson_sources.proofs.told.NamedAgain.{KeepsNames, files_grow, named_stays}
use Rattle.meson_sources.proofs.told.Staying.{calls_alike, first_grown, grown_tells, call_told, told_along}
use Rattle.meson_sources.proofs.told.Variables.{target_no_files, target_no_matter}
use Rattle.meson_sources.proofs.trees.Calls.{CallIn, bare_arguments, bare_form, called, stands_bare, target_at}
use Rattle.meson_sources.proofs.trees.Places.{below, below_itself, below_steps, under}
use Rattle.meson_sources.proofs.trees.Scenes.{NodeIn, same_places}
use Rattle.meson_sources.proofs.trees.Shapes.{Becomes, became_new, became_old}
use Rattle.meson_calls.specs.declared.call.CallName.{CallName}

same_or_not : (p q : CallRef) → (p ≡ q) ⊎ (p ≡ q → ⊥)
same_or_not p q = go (under p q)
  where
    go : ((rest : List ℕ) × (q ≡ below p rest)) ⊎ ((rest : List ℕ) → q ≡ below p rest → ⊥) → (p ≡ q) ⊎ (p ≡ q → ⊥)
    go (inr none) = inr (λ same. none [] (sym same ∙ sym (below_itself p)))
    go (inl w) = by w.0 w.1
      where
        by : (rest : List ℕ) → q ≡ below p rest → (p ≡ q) ⊎ (p ≡ q → ⊥)
        by [] is = inl (sym (below_itself p) ∙ sym is)
        by (m ∷ rest) is = inr (λ same. let steps : [] ≡ m ∷ rest = below_steps p _ _ (below_itself p ∙ same ∙ is) in cc)

no_first : (n : ℕ) (xs : Arguments Span) (back : List (Argument Nowhere)) → erase_arguments xs ≡ arguments_of back → Every (λ a. is_plain a ≡ false) back → is_some (option_map (λ (a : Numbered (Expression Span)). a.value) (first_of (filter_map (kept_number value_without_name) (numbered n xs)))) ≡ false
no_first n no_arguments back is none = refl
no_first n (argument (plain e) more) [] is none = absurd cc
no_first n (argument (plain e) more) (plain d ∷ back) is none = let yea = none.0 in absurd cc
no_first n (argument (plain e) more) (named s x d ∷ back) is none = absurd cc
no_first n (argument (plain e) more) (pair s d f ∷ back) is none = absurd cc
no_first n (argument (named s x e) more) [] is none = absurd cc
no_first n (argument (named s x e) more) (a ∷ back) is none = let tails : erase_arguments more ≡ arguments_of back = cc in no_first (n + 1) more back tails none.1
no_first n (argument (pair s e f) more) [] is none = absurd cc
no_first n (argument (pair s e f) more) (a ∷ back) is none = let tails : erase_arguments more ≡ arguments_of back = cc in no_first (n + 1) more back tails none.1

some_plain : (front : List (Argument Nowhere)) → Every (λ a. is_plain a ≡ true) front → (front ≡ [] → ⊥) → list_any is_plain front ≡ true
some_plain [] all some = absurd (some refl)
some_plain (a ∷ front) all some = ap (λ b. b || list_any is_plain front) all.0

-- where further sources go, if not into the call itself
met_home : (c h : CallRef) (o : Option CallRef) → or_call c o ≡ h → (c ≡ h → ⊥) → o ≡ Some h
met_home c h None is other = absurd (other is)
met_home c h (Some q) is other = ap Some is

module _ (old new : Loaded) (is : IsProject old) (same_names : file_names new ≡ file_names old) (new_t : List (List ℕ)) (utf8 : Every IsUtf8 new_t) (h : CallRef) (l : ListTurns old new h new_t) (c : CallRef) (t : CallIn (project old) c)
    (target : one_of target_functions t.name.text ≡ true) (has_first : is_some (first_argument (called t).it) ≡ true) (few : length (keyed sources_key 0 t.arguments) ≤ 1) (is_home : home c (source_marks (project old) (called t)) ≡ h) where
  abbrev Answer : Type 0
  Answer = FilesGrown sources new_t c (project old) (project new) × KeepsNames old new (called t)

  abbrev Turns : Expression Nowhere → Expression Nowhere → Type 0
  Turns older newer = Becomes (an_expression older) (an_expression newer) h.path.steps (a_block (block_of l.tree)) (a_block (block_of l.now))

  -- what stands there if the list is the call's own
  is_call_node : (older newer : Expression Nowhere) → Turns older newer → c ≡ h → an_expression (bare_form t) ≡ an_expression older
  is_call_node older newer w same =
      let there = became_old (an_expression older) (an_expression newer) h.path.steps (a_block (block_of l.tree)) (a_block (block_of l.now)) w in
      same_there (plain_trees old) h (an_expression older) (an_expression (bare_form t)) (record { tree = l.tree; is_tree = l.was; is_node = there })
      (subst (λ p. NodeIn (plain_trees old) p (an_expression (bare_form t))) same (stands_bare old c t))

  own_case : (q : Nowhere) (x : Name Nowhere) (z z2 : Bool) → Turns (call q x (old_list new_t l.front l.back z)) (call q x (new_list new_t l.front l.back z2)) → c ≡ h → Answer
  own_case q x z z2 w same =
      let before = old_list new_t l.front l.back z in
      let after = new_list new_t l.front l.back z2 in
      let older = call q x before in
      let newer = call q x after in
      let there = became_new (an_expression older) (an_expression newer) h.path.steps (a_block (block_of l.tree)) (a_block (block_of l.now)) w in
      let node = is_call_node older newer w same in
      let at_c : NodeIn (plain_trees old) c (an_expression older) = subst (NodeIn (plain_trees old) c) node (stands_bare old c t) in
      let at_c2 : NodeIn (plain_trees new) c (an_expression newer) = subst (λ p. NodeIn (plain_trees new) p (an_expression newer)) (sym same) (record { tree = l.now; is_tree = l.is_now; is_node = there }) in
      let form : bare_arguments t ≡ arguments_of (l.front ++ l.back) = cc in
      let name : t.name.text ≡ x.text = cc in
      let target2 : one_of target_functions x.text ≡ true = ap (one_of target_functions) (sym name) ∙ target in
      let no_files = target_no_files x.text before target2 in
      let no_files2 = target_no_files x.text after target2 in
      let places = same_places old new same_names h l.tree l.now l.was l.is_now l.others older newer w
      (λ p. told_along (an_expression older) (an_expression newer) refl (λ y. call_told y new_t l.front l.back q x tt tt z z2 (target_no_matter x.text target2)) h.path.steps (a_block (block_of l.tree)) (a_block (block_of l.now)) w p) in
      let kin = kin_c new_t old new same_names h l.tree l.now l.was l.is_now l.others older newer w (all_stand old is.parsed h) places Nothing Anywhere (λ p n a. tt) (λ p a z. z) (λ p far. tt) q q x x before after no_files no_files2 c
      (λ p n m path leads other. tt) (λ p n path leads z. z) at_c at_c2 [] (sym same ∙ sym (below_itself c)) (outside old c _ t.at) in
      let same_both = same_c new_t Nothing Anywhere (λ p n a. tt) (λ p a z. z) q q x x before after no_files no_files2 c (λ p n m path leads other. tt) (λ p n path leads z. z) (values_of (project old)) (values_of (project new)) kin in
      let brings = arguments_bring new_t always (an_expression older) (an_expression newer) c (expand_with (values_of (project old)) max_followed) (expand_with (values_of (project new)) max_followed) same_both
      (λ y u z g P p. name_met y u z g P p) c l.back l.none utf8 l.front l.all_plain (λ nil. some_front nil form) [] [] refl refl in
      let alike = calls_alike q x before after (grown_tells new_t l.front l.back) (inr (first_grown l.front (strings new_t ++ l.back) l.back (some_plain l.front l.all_plain (λ nil. some_front nil form)))) in
      let named : KeepsNames old new (called t) = λ id found. named_stays old new same_names h l.tree l.now l.was l.is_now l.others older newer w alike id (called t) found
      (λ m path y leads. let none : [] ≡ m ∷ path = below_steps h [] (m ∷ path) (below_itself h ∙ sym same ∙ leads) in absurd cc) in
      let grows = answered_alike of_sources new_t old new c t few (arguments_of (l.front ++ (strings new_t ++ l.back))) (record { name = x; trailing = z2; node = at_c2 })
      (λ key. key_strings key new_t l.front l.back ∙ ap (key_count key) (sym form))
      (subst (λ xs. Grows new_t (gist (met_in of_sources (project old) c xs).marks) (gist (met_in of_sources (project new) c (arguments_of (l.front ++ (strings new_t ++ l.back)))).marks)) (sym form) brings.grows) in
      (grows, named)
    where
      some_front : l.front ≡ [] → bare_arguments t ≡ arguments_of (l.front ++ l.back) → ⊥
      some_front nil form =
          let nothing = no_first 0 t.arguments l.back (form ∙ ap (λ xs. arguments_of (xs ++ l.back)) nil) l.none in
          let both : true ≡ false = sym has_first ∙ nothing in cc

  own_turns : c ≡ h → (older newer : Expression Nowhere) → Turn new_t l.front l.back older newer → Turns older newer → Answer
  own_turns same older newer (an_array z z2) w = let node = is_call_node older newer w same in absurd cc
  own_turns same older newer (a_dictionary m n) w = let node = is_call_node older newer w same in absurd cc
  own_turns same older newer (a_call q x z z2) w = own_case q x z z2 w same

  sources_come : Answer
  sources_come = go (same_or_not c h)
    where
      go : (c ≡ h) ⊎ (c ≡ h → ⊥) → Answer
      go (inl same) = own_turns same l.older l.newer l.turn l.becomes
      go (inr other) =
          let ms = source_marks (project old) (called t) in
          files_come of_sources old new is same_names new_t utf8 h l c t target few (met_home c h (or_option (first_list ms) (first_empty ms)) is_home other) other

-- ---- the law

abbrev Grown : Loaded → Loaded → List (List ℕ) → Placed (Call Span) → Type 0
Grown old new names c = FilesGrown sources (new_names (source_marks (project old) c) names) c.place (project old) (project new) × KeepsNames old new c

of_call : (old new : Loaded) → IsProject old → file_names new ≡ file_names old → (id : CallName) (names : List (List ℕ)) → All IsUtf8 names → (steps : List Step) → all_stepped steps (plain_trees old) ≡ Some (plain_trees new) → (c : CallRef) (t : CallIn (project old) c)
    → one_of target_functions t.name.text ≡ true → is_some (first_argument (called t).it) ≡ true → the_call (project old) role.Target id ≡ Ok (called t) → sources_added (project old) (called t) names ≡ Ok steps
    → Grown old new names (called t)
of_call old new is same_names id names utf8 steps done c t target has_first found made =
    let p = project old in
    let there = targets_stand p id (called t) found in
    let ms = source_marks p (called t) in
    let h = home c ms in
    let new_t = new_names ms names in
    let gets = sources-are-added old is id (called t) found names steps (plain_trees new) made done in
    let hm = sources_home p (called t) there ms (files_stand old is.parsed id (called t) found).sources.stand in
    let key = keyword sources_key (called t).it in
    let checked = then_was (checked_names names) (λ _. once sources_key key (inserted_in p h new_t)) steps made in
    sources_come old new is same_names new_t (every_of IsUtf8 new_t (new_texts ms names utf8)) h (list_turns old new is h hm new_t gets) c t target has_first (few_once sources_key key (inserted_in p h new_t) steps checked.2) refl

both : (old new : Loaded) → IsProject old → file_names new ≡ file_names old → (id : CallName) (c : Placed (Call Span)) → the_call (project old) role.Target id ≡ Ok c → (names : List (List ℕ)) → All IsUtf8 names → (steps : List Step)
    → sources_added (project old) c names ≡ Ok steps → all_stepped steps (plain_trees old) ≡ Some (plain_trees new) → Grown old new names c
both old new is same_names id c found names utf8 steps made done =
    let p = project old in
    let t = target_at p id c found in
    subst (λ (d : Placed (Call Span)). the_call p role.Target id ≡ Ok d → sources_added p d names ≡ Ok steps → Grown old new names d) t.is
    (of_call old new is same_names id names utf8 steps done c.place t.it t.is_target t.has_first) found made

pub all-sources-grow : AllSourcesGrow
all-sources-grow old new is same_names id c found names utf8 steps made done =
    let grown = both old new is same_names id c found names utf8 steps made done in files_grow sources (new_names (source_marks (project old) c) names) old new c id grown.0 (grown.1 id found)
