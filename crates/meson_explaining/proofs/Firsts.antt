-- The first of some names with which alone a command is refused.
use Rattle.std.proofs.Common.{◌≡◌, ◌≢◌, ℕ, true, false, List, [], ◌∷◌, map, Option, Some, None, refl, sym, ap, ◌∙◌, subst}
use Rattle.std.specs.Prelude.{Bool, Result, Ok, Err, cond, find, option_map}
use Rattle.std.specs.List.{AllByRecursion}
use Rattle.std.proofs.lemmas.List.Elements.{All-cons, All-nil}
use Rattle.meson_lex.specs.declared.kinds.Span.{Span}
use Rattle.meson_splice.specs.Patch.{then_ok}
use Rattle.meson_calls.specs.Calls.{Call}
use Rattle.meson_calls.specs.Finding.{the_call}
use Rattle.meson_calls.specs.Loading.{Loaded, project}
use Rattle.meson_calls.specs.Project.{Placed}
use Rattle.meson_calls.specs.declared.call.Role.{Role}
use Rattle.meson_calls.specs.declared.refusal.Refusal.{Refusal}
use Rattle.meson_plan.specs.Planning.{planned}
use Rattle.meson_steps.specs.Steps.{Step}
use Rattle.meson_steps.specs.declared.command.Command.{Command}
use Rattle.meson_explaining.specs.NameLaws.{HasMeantName, IsFirstRefused, NotRefused, alone}
use Rattle.meson_explaining.specs.Names.{meant_name}
use Rattle.meson_explaining.proofs.NameReasons.{Free, OfNames, after_ok, call_free, not_refused, reached}
use Rattle.meson_calls.specs.declared.call.CallName.{CallName}

pub none_of_one : {X : Type 0} (test : X → Bool) (x : X) → test x ≡ false → find test (x ∷ []) ≡ None
none_of_one test x is = ap (λ b. cond b (Some x) None) is

pub all_of : {X : Type 0} (P : X → Type 0) → ((x : X) → P x) → (xs : List X) → AllByRecursion P xs
all_of P f [] = tt
all_of P f (x ∷ xs) = (f x, all_of P f xs)

pub all_to : {X : Type 0} (P Q : X → Type 0) → ((x : X) → P x → Q x) → (xs : List X) → AllByRecursion P xs → AllByRecursion Q xs
all_to P Q f [] all = tt
all_to P Q f (x ∷ xs) all = (f x all.0, all_to P Q f xs all.1)

module _ {X : Type 0} (l : Loaded) (why : Refusal) (test : X → Bool) (key : X → List ℕ) (one : X → Command) (other : (x : X) → test x ≡ false → planned (project l) (one x) ≢ Err why) where
  -- the command with a name alone is refused if the name passes the test
  abbrev pub Refused : X → Type 0
  Refused x = test x ≡ true → planned (project l) (one x) ≡ Err why

  pub first_refused : (xs : List X) (x : X) → AllByRecursion Refused xs → find test xs ≡ Some x → IsFirstRefused l why (map (λ y. (key y, one y)) xs) (key x)
  first_refused [] x all is = absurd (let no : ⊥ = cc in no)
  first_refused (y ∷ ys) x all is = go (test y) refl is (first_refused ys x all.1)
    where
      go : (b : Bool) → test y ≡ b → cond b (Some y) (find test ys) ≡ Some x → (find test ys ≡ Some x → IsFirstRefused l why (map (λ z. (key z, one z)) ys) (key x))
          → IsFirstRefused l why (map (λ z. (key z, one z)) (y ∷ ys)) (key x)
      go true t e later =
          let same : y ≡ x = cc in
          subst (λ z. IsFirstRefused l why (map (λ w. (key w, one w)) (y ∷ ys)) (key z)) same
          (record { before = []; lone = one y; behind = map (λ w. (key w, one w)) ys; are = refl; refused = all.0 t; others = All-nil (NotRefused l why) })
      go false t e later =
          let more = later e in
          record {
            before = (key y, one y) ∷ more.before;
            lone = more.lone;
            behind = more.behind;
            are = ap (λ zs. (key y, one y) ∷ zs) more.are;
            refused = more.refused;
            others = All-cons (NotRefused l why) (key y, one y) more.before (other y t) more.others;
          }

  pub meant : (c : Command) (xs : List X) → alone c ≡ map (λ y. (key y, one y)) xs → meant_name l c why ≡ option_map key (find test xs) → AllByRecursion Refused xs → (find test xs ≡ None → ⊥)
      → HasMeantName l c why
  meant c xs are name all some = go (find test xs) refl
    where
      go : (o : Option X) → find test xs ≡ o → HasMeantName l c why
      go None is = absurd (some is)
      go (Some x) is = record {
        name = key x;
        is_meant = name ∙ ap (option_map key) is;
        is_first = subst (λ zs. IsFirstRefused l why zs (key x)) (sym are) (first_refused xs x all is);
      }

-- A command about a call, by its names.
module _ {X : Type 0} (l : Loaded) (q : Refusal → Bool) (apart : OfNames q) (why : Refusal) (sought : q why ≡ true) (r : Role) (id : CallName) (test : X → Bool) (key : X → List ℕ)
    (named : List X → Command) (body : List X → Placed (Call Span) → Result (List Step) Refusal)
    (is : (xs : List X) → planned (project l) (named xs) ≡ then_ok (the_call (project l) r id) (body xs))
    (free : (xs : List X) → find test xs ≡ None → (c : Placed (Call Span)) → the_call (project l) r id ≡ Ok c → Free q (body xs c)) where
  whole : (xs : List X) → find test xs ≡ None → Free q (planned (project l) (named xs))
  whole xs none = subst (Free q) (sym (is xs)) (after_ok q (the_call (project l) r id) (body xs) (call_free q apart (project l) r id) (free xs none))

  pub meant_of_call : (xs : List X) → alone (named xs) ≡ map (λ y. (key y, named (y ∷ []))) xs → meant_name l (named xs) why ≡ option_map key (find test xs)
      → ((c : Placed (Call Span)) → the_call (project l) r id ≡ Ok c → body xs c ≡ Err why → AllByRecursion (λ x. test x ≡ true → body (x ∷ []) c ≡ Err why) xs)
      → planned (project l) (named xs) ≡ Err why → HasMeantName l (named xs) why
  meant_of_call xs are name refused e =
      let found = reached q (the_call (project l) r id) (body xs) why (call_free q apart (project l) r id) sought (sym (is xs) ∙ e) in
      let here : (x : X) → (test x ≡ true → body (x ∷ []) found.value ≡ Err why) → test x ≡ true → planned (project l) (named (x ∷ [])) ≡ Err why =
      λ x lone t. is (x ∷ []) ∙ ap (λ c. then_ok c (body (x ∷ []))) found.is ∙ lone t in
      meant l why test key (λ x. named (x ∷ [])) (λ x t. not_refused q (planned (project l) (named (x ∷ []))) why (whole (x ∷ []) (none_of_one test x t)) sought) (named xs) xs are name
      (all_to _ _ here xs (refused found.value found.is found.rest)) (λ none. not_refused q (planned (project l) (named xs)) why (whole xs none) sought e)
