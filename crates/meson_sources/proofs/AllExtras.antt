-- The law on all extra files after an addition.
use Rattle.meson_calls.specs.declared.call.Role.TheVariants as role
use Rattle.meson_sources.specs.WholeExtras.{AllExtrasGrow}
use Rattle.meson_sources.proofs.Words.{filter, list_any, All, not, Ok, [], ap, append-nil, IsUtf8, length, List, None, Option, refl, Some, subst, sym, true, ℕ}
use Rattle.meson_sources.proofs.Words.{◌∙◌, ◌∷◌, ◌≡◌, ◌≤◌, Span, Expression, Every, Call, literal_of, Numbered, the_call, IsProject, Loaded, project, Placed}
use Rattle.meson_sources.proofs.Words.{one_of, target_functions, CallRef, Item, Mark, first_empty, first_list, items, or_option, distinct, plain_trees}
use Rattle.meson_sources.proofs.Words.{all_stepped, Step, trees_stand, once_was, then_was, AreSpotsOf, ArgumentHolds, ExtraComes, goes, has_one_of, is_at}
use Rattle.meson_sources.proofs.Words.{extra_files, behind_value, checked_extra, extra_added, extra_inserted, extra_key, extra_marks, new_names, without_home}
use Rattle.meson_sources.proofs.Words.{file_names, source_texts}
use Rattle.meson_sources.proofs.ExtraAdded.{extra-is-added}
use Rattle.meson_sources.proofs.ShrunkFiles.{extras_hold, extras_lost, stay}
use Rattle.meson_sources.proofs.added.Homes.{extra_once, Home, marked_home, new_texts}
use Rattle.meson_sources.proofs.added.Turns.{list_turns}
use Rattle.meson_sources.proofs.gone.Losses.{unmoved}
use Rattle.meson_sources.proofs.met.Arguments.{keyed, few_once}
use Rattle.meson_sources.proofs.met.Arrivals.{files_come, extras_elsewhere}
use Rattle.meson_sources.proofs.met.ExtraArguments.{grown_argument, new_argument}
use Rattle.meson_sources.proofs.met.Files.{of_extras, FilesGrown}
use Rattle.meson_sources.proofs.met.GrownLists.{every_of}
use Rattle.meson_sources.proofs.met.Targets.{files_stand}
use Rattle.meson_sources.proofs.told.NamedAgain.{KeepsNames, files_grow, same_trees_named}
use Rattle.meson_sources.proofs.trees.Calls.{CallIn, called, target_at}
use Rattle.meson_calls.specs.declared.call.CallName.{CallName}

-- ---- nothing is new

keeps_all : (xs : List (List ℕ)) → filter (λ text. not (one_of [] text)) xs ≡ xs
keeps_all [] = refl
keeps_all (x ∷ xs) = ap (λ l. x ∷ l) (keeps_all xs)

no_spots : (is : List (Item Span)) → AreSpotsOf is (distinct []) []
no_spots is = record { each = none is; only = tt }
  where
    none : (js : List (Item Span)) → Every (λ i. has_one_of (distinct []) i ≡ true → list_any (λ s. is_at s i.slot) [] ≡ true) js
    none [] = tt
    none (j ∷ js) = (λ named. absurd cc, none js)

-- ---- the law

-- a value behind which files may stand is a literal
literal_value : (c : CallRef) (n : ℕ) (o : Option (List ℕ)) (names : List (List ℕ)) (steps : List Step) → behind_value c n o names ≡ Ok steps → (text : List ℕ) × (o ≡ Some text)
literal_value c n None names steps is = absurd cc
literal_value c n (Some text) names steps is = (text, refl)

module _ (old new : Loaded) (is : IsProject old) (same_names : file_names new ≡ file_names old) (c : CallRef) (t : CallIn (project old) c) (target : one_of target_functions t.name.text ≡ true) (few : length (keyed extra_key 0 t.arguments) ≤ 1) where
  abbrev marks : List (Mark Span)
  marks = extra_marks (project old) (called t)

  abbrev Answer : List (List ℕ) → Type 0
  Answer new_t = FilesGrown extra_files new_t c (project old) (project new) × KeepsNames old new (called t)

  nothing_new : plain_trees new ≡ plain_trees old → FilesGrown extra_files [] c (project old) (project new)
  nothing_new same =
      let s = stay of_extras extras_hold extras_lost old (trees_stand old.files old.parsed is.parsed) c t target new same_names [] [] (no_spots (items marks)) tt tt (ap Some (sym same)) few in
      record {
        before = s.before;
        were = s.were;
        after = s.after;
        are = subst (λ d. extra_files (project new) d ≡ Some (Ok s.after)) (unmoved (goes []) (λ d n. refl) c) s.are;
        come = record { front = source_texts s.before; back = []; had = sym (append-nil (source_texts s.before)); has = s.left ∙ keeps_all (source_texts s.before) ∙ sym (append-nil (source_texts s.before)) };
        unknown = s.unknown_is;
      }

  without_list : (values : List (Numbered (Expression Span))) → keyed extra_key 0 t.arguments ≡ values → (name : List ℕ) (more : List (List ℕ)) → Every IsUtf8 (name ∷ more) → (steps : List Step)
      → without_home (project old) c values (name ∷ more) ≡ Ok steps → ArgumentHolds c values (name ∷ more) (plain_trees old) (plain_trees new) → Answer (name ∷ more)
  without_list [] there name more utf8 steps made holds = new_argument old new same_names c t few (name ∷ more) utf8 there holds
  without_list (v ∷ others) there name more utf8 steps made holds =
      let l = literal_value c v.number (literal_of v.value) (name ∷ more) steps made in
      grown_argument old new same_names c t few (name ∷ more) utf8 v others l.0 there l.1 holds

  extras_come : (list : Option CallRef) → or_option (first_list marks) (first_empty marks) ≡ list → ((h : CallRef) → list ≡ Some h → Home (project old) h) → (new_t : List (List ℕ)) → Every IsUtf8 new_t
      → (steps : List Step) → extra_inserted (project old) (called t) list new_t ≡ Ok steps → ExtraComes (called t) list new_t (plain_trees old) (plain_trees new) → Answer new_t
  extras_come list is_list homes [] utf8 steps made comes = (nothing_new comes, same_trees_named old new same_names (called t) comes)
  extras_come None is_list homes (name ∷ more) utf8 steps made comes = without_list (keyed extra_key 0 t.arguments) refl name more utf8 steps made comes
  extras_come (Some h) is_list homes (name ∷ more) utf8 steps made comes =
      let other = extras_elsewhere old (trees_stand old.files old.parsed is.parsed) c t target h is_list in
      files_come of_extras old new is same_names (name ∷ more) utf8 h (list_turns old new is h (homes h refl) (name ∷ more) comes) c t target few is_list other

abbrev Grown : Loaded → Loaded → List (List ℕ) → Placed (Call Span) → Type 0
Grown old new names c = FilesGrown extra_files (new_names (extra_marks (project old) c) names) c.place (project old) (project new) × KeepsNames old new c

of_call : (old new : Loaded) → IsProject old → file_names new ≡ file_names old → (id : CallName) (names : List (List ℕ)) → All IsUtf8 names → (steps : List Step) → all_stepped steps (plain_trees old) ≡ Some (plain_trees new)
    → (c : CallRef) (t : CallIn (project old) c) → one_of target_functions t.name.text ≡ true → the_call (project old) role.Target id ≡ Ok (called t) → extra_added (project old) (called t) names ≡ Ok steps
    → Grown old new names (called t)
of_call old new is same_names id names utf8 steps done c t target found made =
    let p = project old in
    let ms = extra_marks p (called t) in
    let key = keyed extra_key 0 t.arguments in
    let o = then_was (checked_extra p (called t) names) (λ us. extra_inserted p (called t) (or_option (first_list us) (first_empty us)) (new_names us names)) steps made in
    let once_is = extra_once p (called t) names o.0 o.1 in
    let same = once_was extra_key key ms o.0 once_is in
    let inserted : extra_inserted p (called t) (or_option (first_list ms) (first_empty ms)) (new_names ms names) ≡ Ok steps =
    ap (λ us. extra_inserted p (called t) (or_option (first_list us) (first_empty us)) (new_names us names)) same ∙ o.2 in
    extras_come old new is same_names c t target (few_once extra_key key ms o.0 once_is) (or_option (first_list ms) (first_empty ms)) refl
    (λ h home. marked_home p ms h (files_stand old is.parsed id (called t) found).extras.stand home)
    (new_names ms names) (every_of IsUtf8 (new_names ms names) (new_texts ms names utf8)) steps inserted (extra-is-added old is id (called t) found names steps (plain_trees new) made done)

both : (old new : Loaded) → IsProject old → file_names new ≡ file_names old → (id : CallName) (c : Placed (Call Span)) → the_call (project old) role.Target id ≡ Ok c → (names : List (List ℕ)) → All IsUtf8 names → (steps : List Step)
    → extra_added (project old) c names ≡ Ok steps → all_stepped steps (plain_trees old) ≡ Some (plain_trees new) → Grown old new names c
both old new is same_names id c found names utf8 steps made done =
    let p = project old in
    let t = target_at p id c found in
    subst (λ (d : Placed (Call Span)). the_call p role.Target id ≡ Ok d → extra_added p d names ≡ Ok steps → Grown old new names d) t.is
    (of_call old new is same_names id names utf8 steps done c.place t.it t.is_target) found made

pub all-extras-grow : AllExtrasGrow
all-extras-grow old new is same_names id c found names utf8 steps made done =
    let grown = both old new is same_names id c found names utf8 steps made done in files_grow extra_files (new_names (extra_marks (project old) c) names) old new c id grown.0 (grown.1 id found)
