-- Results that are not refused for certain reasons: those that pass a test.
use Rattle.std.proofs.Common.{◌≡◌, ◌≢◌, ℕ, true, false, List, [], ◌∷◌, Option, Some, None, refl, ap, ◌∙◌}
use Rattle.std.specs.Prelude.{Bool, Result, Ok, Err, if◌then◌else◌, ok_or, option_and_then}
use Rattle.std.specs.List.{filter_map}
use Rattle.meson_splice.specs.Patch.{then_ok}
use Rattle.meson_edit.specs.Edits.{elements}
use Rattle.meson_calls.specs.Calls.{Call, keyword}
use Rattle.meson_calls.specs.Finding.{any_project, call_within, only_one, the_call}
use Rattle.meson_calls.specs.Keys.{is_key}
use Rattle.meson_calls.specs.NamedArguments.{not_hidden, once, sources_key}
use Rattle.meson_calls.specs.Naming.{found_among}
use Rattle.meson_calls.specs.Searching.{file_of_folder as file_searched, numbered_file, position_of_name, project_names, searched_file, within}
use Rattle.meson_calls.specs.Parts.{parts}
use Rattle.meson_calls.specs.Project.{Placed, Project}
use Rattle.meson_calls.specs.Roles.{role_calls}
use Rattle.meson_calls.specs.declared.call.Role.{Role}
use Rattle.meson_calls.specs.declared.call.Role.TheVariants as role
use Rattle.meson_calls.specs.declared.refusal.Refusal.{Refusal}
use Rattle.meson_calls.specs.declared.refusal.Refusal.TheVariants as refusal
use Rattle.meson_details.specs.Once.{call_told, key_told, keys_told, name_in, only_once}
use Rattle.meson_plan.specs.Planning.{call_asked, target_told}
use Rattle.meson_sources.specs.SourceEdits.{extra_key}
use Rattle.meson_steps.specs.Steps.{Step}
use Rattle.meson_targets.specs.TargetEdits.{Held, StatementPlace, alone, append_steps, checked_kind, file_number, file_of_folder, holder, is_target_kind, is_used_outside, kind_key, not_in_use, not_taken, number_in, set_to, statement_removal, target_removed, targets_named}
use Rattle.meson_calls.specs.declared.call.CallName.{CallName}
use Rattle.meson_explaining.specs.Followed.{is_gone}

abbrev pub Free : {X : Type 0} → (Refusal → Bool) → Result X Refusal → Type 0
Free q (Ok x) = Unit {0}
Free q (Err e) = q e ≡ false

pub after : {A B : Type 0} (q : Refusal → Bool) (r : Result A Refusal) (f : A → Result B Refusal) → Free q r → ((x : A) → Free q (f x)) → Free q (then_ok r f)
after q (Ok x) f free each = each x
after q (Err e) f free each = free

pub after_ok : {A B : Type 0} (q : Refusal → Bool) (r : Result A Refusal) (f : A → Result B Refusal) → Free q r → ((x : A) → r ≡ Ok x → Free q (f x)) → Free q (then_ok r f)
after_ok q (Ok x) f free each = each x refl
after_ok q (Err e) f free each = free

pub or_free : {X : Type 0} (q : Refusal → Bool) (o : Option X) (e : Refusal) → q e ≡ false → Free q (ok_or o e)
or_free q None e free = free
or_free q (Some x) e free = tt

pub not_refused : {X : Type 0} (q : Refusal → Bool) (r : Result X Refusal) (why : Refusal) → Free q r → q why ≡ true → r ≢ Err why
not_refused q (Ok x) why free is = λ same. let no : ⊥ = cc in no
not_refused q (Err e) why free is = λ same. let this : e ≡ why = cc in let yes : q e ≡ true = ap q this ∙ is in let no : ⊥ = cc in no

-- what is refused for such a reason after a result that is not
pub record Reached {A B : Type 0} (r : Result A Refusal) (f : A → Result B Refusal) (why : Refusal) : Type 0 where
  pub value : A
  pub is : r ≡ Ok value
  pub rest : f value ≡ Err why

pub reached : {A B : Type 0} (q : Refusal → Bool) (r : Result A Refusal) (f : A → Result B Refusal) (why : Refusal) → Free q r → q why ≡ true → then_ok r f ≡ Err why → Reached r f why
reached q (Ok x) f why free is e = record { value = x; is = refl; rest = e }
reached q (Err e) f why free is same = absurd (let this : e ≡ why = cc in let yes : q e ≡ true = ap q this ∙ is in let no : ⊥ = cc in no)

-- The reasons are about names alone: a name that is not valid, or a source that is not found.
pub record OfNames (q : Refusal → Bool) : Type 0 where
  pub no_project : q refusal.NoProject ≡ false
  pub not_found : q refusal.NotFound ≡ false
  pub ambiguous : q refusal.Ambiguous ≡ false
  pub unknown_key : (key : List ℕ) → q (refusal.UnknownKey key) ≡ false
  pub wrong_kind : (key : List ℕ) → q (refusal.WrongKind key) ≡ false
  pub hidden : q refusal.HiddenKeywords ≡ false
  pub duplicate : (key : List ℕ) → q (refusal.DuplicateKeyword key) ≡ false
  pub not_literal : (key : List ℕ) → q (refusal.NotLiteral key) ≡ false
  pub not_removable : q refusal.NotRemovable ≡ false
  pub taken : q refusal.NameTaken ≡ false
  pub no_file : q refusal.NoFile ≡ false
  pub not_statement : q refusal.NotStatement ≡ false
  pub in_use : (name : List ℕ) → q (refusal.InUse name) ≡ false
  pub shared : (name : List ℕ) → q (refusal.Shared name) ≡ false

abbrev pub is_bad : Refusal → Bool
is_bad refusal.BadName = true
is_bad _ = false

pub bad_of_names : OfNames is_bad
bad_of_names = record {
  no_project = refl;
  not_found = refl;
  ambiguous = refl;
  unknown_key = λ k. refl;
  wrong_kind = λ k. refl;
  hidden = refl;
  duplicate = λ k. refl;
  not_literal = λ k. refl;
  not_removable = refl;
  taken = refl;
  no_file = refl;
  not_statement = refl;
  in_use = λ x. refl;
  shared = λ x. refl;
}

pub gone_of_names : OfNames is_gone
gone_of_names = record {
  no_project = refl;
  not_found = refl;
  ambiguous = refl;
  unknown_key = λ k. refl;
  wrong_kind = λ k. refl;
  hidden = refl;
  duplicate = λ k. refl;
  not_literal = λ k. refl;
  not_removable = refl;
  taken = refl;
  no_file = refl;
  not_statement = refl;
  in_use = λ x. refl;
  shared = λ x. refl;
}

module _ (q : Refusal → Bool) (apart : OfNames q) where
  one_free : {X : Type 0} (xs : List X) → Free q (only_one xs)
  one_free [] = apart.not_found
  one_free (x ∷ []) = tt
  one_free (x ∷ y ∷ more) = apart.ambiguous

  project_free : {S : Type 0} (xs : List (Placed (Call S))) → Free q (any_project xs)
  project_free [] = apart.no_project
  project_free (x ∷ xs) = tt

  searched_free : (names : List (List ℕ)) (folder : Option (List ℕ)) → Free q (searched_file names folder)
  searched_free names None = tt
  searched_free names (Some folder) = after q (numbered_file names (file_searched folder)) (λ n. Ok (Some n)) (or_free q (position_of_name (file_searched folder) names) refusal.NoFile apart.no_file) (λ n. tt)

  within_free : {S : Type 0} (w : Option ℕ) (p : Project S) (r : Role) (id : List ℕ) → Free q (call_within w p r id)
  within_free w p role.Target id = one_free (found_among (within w (parts p)) role.Target id)
  within_free w p role.Dependency id = one_free (found_among (within w (parts p)) role.Dependency id)
  within_free w p role.Project id =
      after q (any_project (role_calls p role.Project)) (λ _. only_one (found_among (within w (parts p)) role.Project id)) (project_free (role_calls p role.Project))
      (λ u. one_free (found_among (within w (parts p)) role.Project id))

  pub call_free : {S : Type 0} (p : Project S) (r : Role) (name : CallName) → Free q (the_call p r name)
  call_free p r name = after q (searched_file (project_names p) name.folder) (λ w. call_within w p r name.id) (searched_free (project_names p) name.folder) (λ w. within_free w p r name.id)

  pub once_free : {X Y : Type 0} (key : List ℕ) (xs : List X) (y : Y) → Free q (once key xs y)
  once_free key [] y = tt
  once_free key (x ∷ []) y = tt
  once_free key (x ∷ z ∷ more) y = apart.duplicate key

  pub shown_free : {X : Type 0} (xs : List X) → Free q (not_hidden xs)
  shown_free [] = tt
  shown_free (x ∷ more) = apart.hidden

  -- ---- commands that change nothing, and those that remove a target

  key_free : {S : Type 0} (c : Call S) (key : List ℕ) (b : Bool) → Free q (if b then only_once key c else Ok tt)
  key_free c key true = once_free key (keyword key c) tt
  key_free c key false = tt

  keys_free : {S : Type 0} (r : Role) (c : Call S) (keys : List (List ℕ)) → Free q (keys_told r c keys)
  keys_free r c [] = tt
  keys_free r c (key ∷ more) = after q (key_told r c key) (λ _. keys_told r c more) (key_free c key (is_key r key)) (λ u. keys_free r c more)

  pub kwargs_free : {S : Type 0} (r : Role) (c : Call S) → Free q (call_asked r c)
  kwargs_free r c = after {B = List Step} q (call_told r c) (λ _. Ok []) (keys_free r c (filter_map name_in (elements c.arguments))) (λ u. tt)

  pub target_free : {S : Type 0} (c : Call S) → Free q (target_told c)
  target_free c =
      after {B = List Step} q (only_once sources_key c) (λ _. then_ok (only_once extra_key c) (λ _. Ok [])) (once_free sources_key (keyword sources_key c) tt)
      (λ u. after {B = List Step} q (only_once extra_key c) (λ _. Ok []) (once_free extra_key (keyword extra_key c) tt) (λ v. tt))

  used_by : (x : List ℕ) (b : Bool) → Free {X = Unit {0}} q (if b then Err (refusal.InUse x) else Ok tt)
  used_by x true = apart.in_use x
  used_by x false = tt

  held_free : {S : Type 0} (p : Project S) (statement : StatementPlace) (held : Held) → Free q (not_in_use p statement held)
  held_free p statement alone = tt
  held_free p statement (set_to x) = used_by x (is_used_outside p statement x)

  pub removed_free : {S : Type 0} (p : Project S) (c : Placed (Call S)) → Free q (target_removed p c)
  removed_free p c =
      after q (ok_or (holder p c.place) refusal.NotStatement) _ (or_free q (holder p c.place) refusal.NotStatement apart.not_statement)
      (λ h. after q (not_in_use p h.statement h.held) (λ _. Ok (statement_removal h.statement)) (held_free p h.statement h.held) (λ u. tt))

  -- ---- a target that is added, but for its names

  kind_free : (b : Bool) → Free {X = Unit {0}} q (if b then Ok tt else Err (refusal.WrongKind kind_key))
  kind_free true = tt
  kind_free false = apart.wrong_kind kind_key

  pub checked_kind_free : (kind : List ℕ) → Free q (checked_kind kind)
  checked_kind_free kind = kind_free (is_target_kind kind)

  taken_free : {X : Type 0} (xs : List X) → Free q (not_taken xs)
  taken_free [] = tt
  taken_free (x ∷ more) = apart.taken

  pub placed_free : {S : Type 0} (p : Project S) (target kind folder : List ℕ) (texts : List (List ℕ))
      → Free q (then_ok (not_taken (targets_named p target)) (λ _. then_ok (number_in p folder) (λ file. Ok (append_steps kind texts file))))
  placed_free p target kind folder texts =
      after q (not_taken (targets_named p target)) _ (taken_free (targets_named p target))
      (λ u. after q (number_in p folder) (λ file. Ok (append_steps kind texts file))
      (or_free q (option_and_then (file_number p) (file_of_folder folder)) refusal.NoFile apart.no_file) (λ file. tt))
