-- The steps that add sources, by what the code finds.
use Rattle.std.proofs.Common.{◌≡◌, ℕ, ◌<◌, ◌≤◌, List, [], ◌∷◌, length, refl, sym, ap, ap₂, ◌∙◌}
use Rattle.std.specs.Prelude.{◌≢◌, Bool, if◌then◌else◌, Option, Some, None, Result, Ok, Err}
use Rattle.meson_lex.specs.declared.kinds.Span.{Span}
use Rattle.meson_splice.specs.Patch.{then_ok}
use Rattle.meson_syntax.specs.declared.tree.List as rust
use Rattle.meson_calls.specs.declared.call.CallRef.{CallRef}
use Rattle.meson_calls.specs.declared.refusal.Refusal.{Refusal}
use Rattle.meson_calls.specs.declared.refusal.Refusal.TheVariants.{DuplicateKeyword}
use Rattle.meson_calls.specs.Calls.{Call, keyword, value_with_name}
use Rattle.meson_calls.specs.ChosenNotes.{placed_call}
use Rattle.meson_calls.specs.NamedArguments.{kept_args, once, sources_key}
use Rattle.meson_calls.specs.Project.{Placed, Project}
use Rattle.meson_calls.proofs.AtMostOnce.{once_few, once_twice}
use Rattle.meson_calls.proofs.KeywordArguments.{keyword_is}
use Rattle.meson_variables.specs.TargetSources.{or_call, or_option}
use Rattle.meson_following.specs.Following.{Mark, follow_marks}
use Rattle.meson_sources.specs.SourceEdits.{inserted_in}
use Rattle.meson_steps.specs.Names.{checked_names}
use Rattle.meson_steps.specs.Steps.{Step}
use Rattle.meson_steps.specs.declared.source_change.SharedLists.{SharedLists}
use Rattle.meson_followed.specs.FollowedEdits.{followed_added, followed_removed, new_sources, removed_from}
use Rattle.meson_followed.specs.Homes.{Home, Homes, any_home, best_home, by_maker, first_home, home, home_by}
use Rattle.meson_followed.specs.Sources.{sources_of}

module _ (p : Project Span) (c : CallRef) (source : List ℕ) (l : rust.List) (function : List ℕ) (shared : SharedLists) (names : List (List ℕ)) where
  abbrev pub it : Placed (Call Span)
  it = placed_call c function source l

  abbrev pub args : ℕ
  args = length (kept_args source (value_with_name sources_key) 0 (rust.out-List l).items)

  few_are : {Y : Type 0} (y : Y) → args ≤ 1 → once sources_key (keyword sources_key it.it) y ≡ Ok y
  few_are y few =
      ap (λ xs. once sources_key xs y) (keyword_is source l function sources_key)
      ∙ once_few sources_key (kept_args source (value_with_name sources_key) 0 (rust.out-List l).items) y few

  many_are : {Y : Type 0} (y : Y) → 1 < args → once sources_key (keyword sources_key it.it) y ≡ Err (DuplicateKeyword sources_key)
  many_are y many =
      ap (λ xs. once sources_key xs y) (keyword_is source l function sources_key)
      ∙ once_twice sources_key (kept_args source (value_with_name sources_key) 0 (rust.out-List l).items) y many

  -- what is done to the marks, if the names are checked and no argument is there twice
  abbrev pub checked_then : (List (Mark Span) → Result (List Step) Refusal) → Result (List Step) Refusal
  checked_then more = then_ok (checked_names names) (λ _. then_ok (once sources_key (keyword sources_key it.it) (follow_marks p it)) more)

  pub checked_few : (more : List (Mark Span) → Result (List Step) Refusal) → checked_names names ≡ Ok tt → args ≤ 1 → checked_then more ≡ more (follow_marks p it)
  checked_few more checked few =
      ap (λ r. then_ok r (λ _. then_ok (once sources_key (keyword sources_key it.it) (follow_marks p it)) more)) checked
      ∙ ap (λ r. then_ok r more) (few_are (follow_marks p it) few)

  pub checked_many : (more : List (Mark Span) → Result (List Step) Refusal) → checked_names names ≡ Ok tt → 1 < args
      → checked_then more ≡ Err (DuplicateKeyword sources_key)
  checked_many more checked many =
      ap (λ r. then_ok r (λ _. then_ok (once sources_key (keyword sources_key it.it) (follow_marks p it)) more)) checked
      ∙ ap (λ r. then_ok r more) (many_are (follow_marks p it) many)

  abbrev added_to : List (Mark Span) → Result (List Step) Refusal
  added_to marks = Ok (inserted_in p (home p it shared marks) (new_sources p c.file (sources_of p c.file marks) names))

  same_steps : (list home : CallRef) (new : List (List ℕ)) → (new ≢ [] → list ≡ home) → inserted_in p list new ≡ inserted_in p home new
  same_steps list home [] is = refl
  same_steps list home (x ∷ xs) is = ap (λ q. inserted_in p q (x ∷ xs)) (is (λ none. absurd cc))

  pub added : checked_names names ≡ Ok tt → args ≤ 1 → (list : CallRef) (new : List (List ℕ)) → (new ≢ [] → list ≡ home p it shared (follow_marks p it))
      → new ≡ new_sources p c.file (sources_of p c.file (follow_marks p it)) names → followed_added p it shared names ≡ Ok (inserted_in p list new)
  added checked few list new is_list are_new =
      let there = home p it shared (follow_marks p it) in
      checked_few added_to checked few ∙ ap Ok (sym (same_steps list there new is_list ∙ ap (inserted_in p there) are_new))

  pub added_twice : checked_names names ≡ Ok tt → 1 < args → followed_added p it shared names ≡ Err (DuplicateKeyword sources_key)
  added_twice checked many = checked_many added_to checked many

  pub removed : checked_names names ≡ Ok tt → args ≤ 1 → followed_removed p it shared names ≡ removed_from p it shared (follow_marks p it) names
  removed checked few = checked_few (λ marks. removed_from p it shared marks names) checked few

  pub removed_twice : checked_names names ≡ Ok tt → 1 < args → followed_removed p it shared names ≡ Err (DuplicateKeyword sources_key)
  removed_twice checked many = checked_many (λ marks. removed_from p it shared marks names) checked many

-- ---- the list that gets them, by what is found of each kind

module _ (own unshared : CallRef → Bool) (shared : SharedLists) (c : CallRef) (hs : Homes) where
  pub home_found : (x y z : Option CallRef) → x ≡ best_home (λ h. by_maker own h.maker) hs → y ≡ best_home (λ h. by_maker unshared h.maker) hs
      → z ≡ any_home shared hs → or_call c (or_option x (or_option y z)) ≡ home_by own unshared shared c hs
  home_found x y z is_own is_unshared is_any = ap₂ (λ v w. or_call c (or_option v w)) is_own (ap₂ or_option is_unshared is_any)

-- ---- tests that tell the same

by_alike : (f g : CallRef → Bool) → ((m : CallRef) → f m ≡ g m) → (m : Option CallRef) → by_maker f m ≡ by_maker g m
by_alike f g alike None = refl
by_alike f g alike (Some m) = alike m

first_alike : (f g : Home → Bool) → ((h : Home) → f h ≡ g h) → (hs : List Home) → first_home f hs ≡ first_home g hs
first_alike f g alike [] = refl
first_alike f g alike (h ∷ hs) =
    ap (λ b. if b then Some h.list else first_home f hs) (alike h) ∙ ap (λ o. if g h then Some h.list else o) (first_alike f g alike hs)

best_alike : (f g : CallRef → Bool) → ((m : CallRef) → f m ≡ g m) → (hs : Homes) → best_home (λ h. by_maker f h.maker) hs ≡ best_home (λ h. by_maker g h.maker) hs
best_alike f g alike hs =
    let same : (h : Home) → by_maker f h.maker ≡ by_maker g h.maker = λ h. by_alike f g alike h.maker in
    ap₂ or_option (first_alike (λ h. by_maker f h.maker) (λ h. by_maker g h.maker) same hs.holding)
    (first_alike (λ h. by_maker f h.maker) (λ h. by_maker g h.maker) same hs.empties)

pub home_alike : (f g own unshared : CallRef → Bool) (shared : SharedLists) (c : CallRef) (hs : Homes) → ((m : CallRef) → f m ≡ own m) → ((m : CallRef) → g m ≡ unshared m)
    → home_by f g shared c hs ≡ home_by own unshared shared c hs
home_alike f g own unshared shared c hs alike also =
    ap₂ (λ x y. or_call c (or_option x (or_option y (any_home shared hs)))) (best_alike f own alike hs) (best_alike g unshared also hs)
